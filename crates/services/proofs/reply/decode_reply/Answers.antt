use Rattle.services.proofs.FieldLaws.{false_is_not_true}
use Rattle.services.proofs.OneAnswer.{no_reply_of_other}
use Rattle.services.proofs.reply.decode_reply.Goals as goal

pub returns-then-not-is_answer_to-clause-none : goal.returns-then-not-is_answer_to-clause-none
returns-then-not-is_answer_to-clause-none g c =
    no_reply_of_other c.args.request.now c.args.answer.now c.in-Ok.reply c.in-Ok.ensures.read (λ a. false_is_not_true (c.if-not-is_answer_to.ensures.1 a))
