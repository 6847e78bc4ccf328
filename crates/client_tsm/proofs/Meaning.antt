-- What an answer spells is what its contents mean.
use Rattle.primitives.specs.declared.plain_data.Reply.{Reply}
use Rattle.primitives.specs.declared.plain_data.Request.{Request}
use Rattle.services.proofs.Contents.{reply_of_contents}
use Rattle.services.specs.Contents.{answer_contents, MeansReply}
use Rattle.services.specs.Reply.{SpellsReply, NoReply}
use Rattle.answers.specs.declared.answer.Answer.{Answer}
use Rattle.client_tsm.specs.Steps.{MeansNothing}

pub spelled_is_meant : {A : Type 0} (request : Request A) (answer : Answer) (x : Reply A) → SpellsReply request answer x →
    MeansReply request (answer_contents answer) x
spelled_is_meant {A} request answer x spelled = (reply_of_contents {A = A}).means request answer x spelled

pub none_is_meant : {A : Type 0} (request : Request A) (answer : Answer) → NoReply request answer → MeansNothing request (answer_contents answer)
none_is_meant {A} request answer nothing = record { none = λ x means. nothing.none x ((reply_of_contents {A = A}).spells request answer x means) }

pub ruleset meaning_rules = (spelled_is_meant, none_is_meant)
