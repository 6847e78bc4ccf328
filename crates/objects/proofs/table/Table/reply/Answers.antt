use Rattle.objects.proofs.RequestLaws.{reply_sound, reply_answers}
use Rattle.objects.proofs.table.Table.reply.Goals as goal

pub returns-clause-sound : goal.returns-clause-sound
returns-clause-sound g c = λ sound. rw (c.in_ok-answer.ensures)
    (reply_sound c.args.self.now c.args.request.now (rw (← c.self.view_is) c.self.invariant.1) sound)

pub returns-clause-answers : goal.returns-clause-answers
returns-clause-answers g c = rw (c.in_ok-answer.ensures) (reply_answers c.args.self.now c.args.request.now)
