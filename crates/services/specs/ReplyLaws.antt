-- What holds of every spelling of a reply (15, 20.1).
use Rattle.std.specs.Prelude.{◌≡◌, ◌≤◌, ℕ, List, length}
use Rattle.tags.specs.Number.{AreOctets}
use Rattle.primitives.specs.Answers.{IsAnswerTo}
use Rattle.primitives.specs.Sound.{IsSoundReply, IsSoundRequest}
use Rattle.primitives.specs.declared.plain_data.Reply.{Reply}
use Rattle.primitives.specs.declared.plain_data.Request.{Request}
use Rattle.answers.specs.declared.answer.Answer.{Answer}
use Rattle.services.specs.CanonicalReply.{canonical_reply}
use Rattle.services.specs.Reply.{SpellsAck, SpellsReply}
use Rattle.answers.specs.Answer.{GoesIn}

-- an answer spells one reply to a request
abbrev pub OneReply : Type 0 → Type 0
OneReply A = (request : Request A) (answer : Answer) (x y : Reply A) → SpellsReply request answer x →
    SpellsReply request answer y → x ≡ y

-- the answer in which a sound reply goes, with its canonical octets, spells it
abbrev pub ReplyIsSpelled : Type 0 → Type 0
ReplyIsSpelled A = (request : Request A) (x : Reply A) (answer : Answer) → IsSoundRequest request → IsSoundReply x →
    IsAnswerTo request x → GoesIn x (canonical_reply request x) answer → SpellsReply request answer x

-- what is written of a sound reply is read as that reply
abbrev pub ReplyReadsBack : Type 0 → Type 0
ReplyReadsBack A = (request : Request A) (x y : Reply A) (answer : Answer) → IsSoundRequest request → IsSoundReply x →
    IsAnswerTo request x → GoesIn x (canonical_reply request x) answer → SpellsReply request answer y → y ≡ x

-- no service data that spell a reply to a request are fewer than its canonical ones
abbrev pub ReplyIsShortest : Type 0 → Type 0
ReplyIsShortest A = (request : Request A) (octets : List ℕ) (x : Reply A) → AreOctets octets →
    SpellsAck request octets x → length (canonical_reply request x) ≤ length octets
