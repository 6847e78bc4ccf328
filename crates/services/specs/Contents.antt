-- The contents of answers as plain data, and the replies that they mean (15, 20.1.4, 20.1.5, 20.1.7).
use Rattle.std.specs.Prelude.{◌≡◌, ℕ, List, Option, None}
use Rattle.primitives.specs.Answers.{IsAnswerTo}
use Rattle.primitives.specs.Sound.{IsSoundReply, IsSoundRequest}
use Rattle.primitives.specs.declared.error.ErrorClass.{ErrorClass}
use Rattle.primitives.specs.declared.error.ErrorCode.{ErrorCode}
use Rattle.primitives.specs.declared.plain_data.Request.{Request}
use Rattle.primitives.specs.declared.plain_data.Reply.{Reply}
use Rattle.primitives.specs.declared.plain_data.Reply.TheVariants.{Done, Error, ErrorAt}
use Rattle.apdu.specs.declared.service_error.ObjectPropertyReference.{ObjectPropertyReference}
use Rattle.answers.specs.declared.answer.Answer.{Answer}
use Rattle.answers.specs.declared.answer.Answer.TheVariants as answer
use Rattle.services.specs.CanonicalReply.{canonical_reply}
use Rattle.services.specs.Reply.{SpellsAck, SpellsReply}
use Rattle.answers.specs.Answer.{SpellsFailure, GoesIn, failed_at}

-- what an answer says: nothing but that all is done, service data, or why it failed and which write was the first to
-- fail (20.1.4, 20.1.5, 20.1.7)
pub data PlainAnswer : Type 0 where
  simple : PlainAnswer
  complex : List ℕ → PlainAnswer
  failed : ErrorClass → ErrorCode → Option ObjectPropertyReference → PlainAnswer

-- the contents of an answer
abbrev pub answer_contents : Answer → PlainAnswer
answer_contents answer.Simple = simple
answer_contents (answer.Complex octets) = complex octets.now
answer_contents (answer.Error e) = failed e.class e.code e.first_failed

-- the contents of the answer in which a reply to a request goes (15, 20.1)
abbrev pub reply_contents : {A : Type 0} → Request A → Reply A → PlainAnswer
reply_contents request Done = simple
reply_contents request (Error class code) = failed class code None
reply_contents request (ErrorAt class code object property index) =
    failed class code (failed_at object property index)
reply_contents request reply = complex (canonical_reply request reply)

-- contents spell a reply as an answer with them does
abbrev pub SpellsContents : {A : Type 0} → Request A → PlainAnswer → Reply A → Type 0
SpellsContents request simple reply = reply ≡ Done
SpellsContents request (complex octets) reply = SpellsAck request octets reply
SpellsContents request (failed class code first) reply =
    SpellsFailure (record { class = class; code = code; first_failed = first }) reply

-- contents mean a reply to the request: they spell it, and it is one to this request (15, 20.1)
pub record MeansReply {A : Type 0} (request : Request A) (contents : PlainAnswer) (reply : Reply A) : Type 0 where
  pub spelled : SpellsContents request contents reply
  pub answers : IsAnswerTo request reply

-- an answer spells exactly the replies that its contents mean
pub record ReplyOfContents (A : Type 0) : Type 0 where
  pub means : (request : Request A) (answer : Answer) (x : Reply A) → SpellsReply request answer x →
      MeansReply request (answer_contents answer) x
  pub spells : (request : Request A) (answer : Answer) (x : Reply A) →
      MeansReply request (answer_contents answer) x → SpellsReply request answer x

-- answers with equal contents spell the same replies
abbrev pub EqualContents : Type 0 → Type 0
EqualContents A = (request : Request A) (a b : Answer) (x : Reply A) → answer_contents a ≡ answer_contents b →
    SpellsReply request a x → SpellsReply request b x

-- contents mean one reply to a request
abbrev pub OneMeaning : Type 0 → Type 0
OneMeaning A = (request : Request A) (contents : PlainAnswer) (x y : Reply A) → MeansReply request contents x →
    MeansReply request contents y → x ≡ y

-- the contents in which a sound reply goes mean it
abbrev pub ReplyIsMeant : Type 0 → Type 0
ReplyIsMeant A = (request : Request A) (x : Reply A) → IsSoundRequest request → IsSoundReply x →
    IsAnswerTo request x → MeansReply request (reply_contents request x) x

-- the contents in which a sound reply goes are read as that reply
abbrev pub MeaningReadsBack : Type 0 → Type 0
MeaningReadsBack A = (request : Request A) (x y : Reply A) → IsSoundRequest request → IsSoundReply x →
    IsAnswerTo request x → MeansReply request (reply_contents request x) y → y ≡ x

-- the answer in which a reply goes, with its canonical octets, has these contents
abbrev pub GoesInContents : Type 0 → Type 0
GoesInContents A = (request : Request A) (x : Reply A) (answer : Answer) → IsAnswerTo request x →
    GoesIn x (canonical_reply request x) answer → answer_contents answer ≡ reply_contents request x
