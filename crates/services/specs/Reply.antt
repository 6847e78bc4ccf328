-- The replies of the confirmed services, and the answers that spell them (15.5, 15.7, 15.9, 15.10, 20.1).
use Rattle.std.specs.Prelude.{◌≡◌, ◌<◌, ◌^◌, ℕ, List, [], length, Option, Some, None, Result, Ok, Err}
use Rattle.tags.specs.declared.value.Value.{Value}
use Rattle.primitives.specs.Answers.{IsAnswerTo}
use Rattle.primitives.specs.Errors.{class_number, code_number, IsNamedClass, IsNamedCode}
use Rattle.primitives.specs.Sound.{IsSoundError, IsSoundId, IsSoundIndex}
use Rattle.primitives.specs.declared.error.ErrorClass.{ErrorClass}
use Rattle.primitives.specs.declared.error.ErrorCode.{ErrorCode}
use Rattle.primitives.specs.declared.plain_data.Request.{Request}
use Rattle.primitives.specs.declared.plain_data.Request.TheVariants.{Read, ReadMany}
use Rattle.primitives.specs.declared.plain_data.Reply.{Reply}
use Rattle.primitives.specs.declared.plain_data.Reply.TheVariants.{Values, Many, Done}
use Rattle.primitives.specs.declared.plain_data.ObjectResults.{ObjectResults}
use Rattle.primitives.specs.declared.plain_data.PropertyResult.{PropertyResult}
use Rattle.answers.specs.Answer.{SpellsFailure}
use Rattle.answers.specs.declared.answer.Answer.{Answer}
use Rattle.answers.specs.declared.answer.Answer.TheVariants as answer
use Rattle.apdu.specs.declared.service_error.ObjectPropertyReference.{ObjectPropertyReference}
use Rattle.services.specs.Fields.{TakesNumber, TakesOption, TakesOpening, TakesClosing, TakesEach, TakesInside}
use Rattle.services.specs.Multiple.{OpensList}
use Rattle.services.specs.Requests.{TakesWrite}
use Rattle.apdu.specs.ServiceError.{TakesClassAndCode}

-- class and code, each under its name, up to the closing tag 5, and what follows (15.7.3.2, 18)
pub record TakesErrorInside (octets : List ℕ) (class : ErrorClass) (code : ErrorCode) (rest : List ℕ) : Type 0 where
  pub at : List ℕ
  pub taken : TakesClassAndCode octets (class_number class) (code_number code) at
  pub closed : TakesClosing at 5 rest
  pub class_named : IsNamedClass class
  pub code_named : IsNamedCode code

-- the tags between which it stands: 4 for values, 5 for an error (15.7.3.2)
abbrev pub reading_tag : {A : Type 0} → Result (List (Value A)) (ErrorClass × ErrorCode) → ℕ
reading_tag (Ok values) = 4
reading_tag (Err e) = 5

-- what was read, up to its closing tag, and what follows (15.7.3.2)
abbrev pub TakesReadingInside : {A : Type 0} → List ℕ → Result (List (Value A)) (ErrorClass × ErrorCode) → List ℕ →
    Type 0
TakesReadingInside octets (Ok values) rest = TakesInside octets 4 values rest
TakesReadingInside octets (Err e) rest = TakesErrorInside octets e.0 e.1 rest

-- what was read between its tags, and what follows (15.7.3.2)
pub record TakesReading {A : Type 0} (octets : List ℕ) (reading : Result (List (Value A)) (ErrorClass × ErrorCode))
    (rest : List ℕ) : Type 0 where
  pub inside : List ℕ
  pub opened : TakesOpening octets (reading_tag reading) inside
  pub inside_taken : TakesReadingInside inside reading rest

-- an array index under context tag 3 or none, what was read, and what follows (15.7.3.2)
pub record TakesIndexed {A : Type 0} (octets : List ℕ) (index : Option ℕ)
    (reading : Result (List (Value A)) (ErrorClass × ErrorCode)) (rest : List ℕ) : Type 0 where
  pub at : List ℕ
  pub index_taken : TakesOption octets 3 index at
  pub reading_taken : TakesReading at reading rest

-- a property under context tag 2, its index, what was read of it, and what follows (15.7.3.2)
pub record TakesResult {A : Type 0} (octets : List ℕ) (r : PropertyResult A) (rest : List ℕ) : Type 0 where
  pub behind_property : List ℕ
  pub property_taken : TakesNumber octets 2 r.property behind_property
  pub reading_taken : TakesIndexed behind_property r.index r.result rest

-- what was read of properties, up to the closing tag 1, and what follows (15.7.3.2)
pub record TakesResultList {A : Type 0} (octets : List ℕ) (rs : List (PropertyResult A)) (rest : List ℕ) : Type 0 where
  pub at : List ℕ
  pub taken : TakesEach TakesResult octets rs at
  pub closed : TakesClosing at 1 rest

-- an object, what was read of its properties, and what follows (15.7.3.2, ReadAccessResult)
pub record TakesResults {A : Type 0} (octets : List ℕ) (r : ObjectResults A) (rest : List ℕ) : Type 0 where
  pub inside : List ℕ
  pub opened : OpensList octets r.object inside
  pub results_taken : TakesResultList inside r.results rest

-- the service data of a ComplexACK: ReadProperty's has the object, the property and the index that were asked, and
-- values between the tags 3; ReadPropertyMultiple's what was read of each object (15.5.1, 15.7.3.2)
abbrev pub SpellsAck : {A : Type 0} → Request A → List ℕ → Reply A → Type 0
SpellsAck (Read object property index) octets (Values values) = TakesWrite octets object property index values []
SpellsAck (ReadMany asked) octets (Many results) = TakesEach TakesResults octets results []
SpellsAck request octets reply = ⊥

-- a SimpleACK says that all is done (20.1.4)
abbrev pub SpellsAnswer : {A : Type 0} → Request A → Answer → Reply A → Type 0
SpellsAnswer request answer.Simple reply = reply ≡ Done
SpellsAnswer request (answer.Complex octets) reply = SpellsAck request octets.now reply
SpellsAnswer request (answer.Error e) reply = SpellsFailure e reply

-- the answer spells the reply, and the reply is one to this request (15, 20.1)
pub record SpellsReply {A : Type 0} (request : Request A) (answer : Answer) (reply : Reply A) : Type 0 where
  pub spelled : SpellsAnswer request answer reply
  pub answers : IsAnswerTo request reply

-- the answer spells no other reply to the request
pub record OnlyReply {A : Type 0} (request : Request A) (answer : Answer) (reply : Reply A) : Type 0 where
  pub only : (other : Reply A) → SpellsReply request answer other → reply ≡ other

-- the answer spells no reply to the request
pub record NoReply {A : Type 0} (request : Request A) (answer : Answer) : Type 0 where
  pub none : (reply : Reply A) → SpellsReply request answer reply → ⊥

-- the write that failed has a spelling
abbrev pub IsSoundFailure : Option ObjectPropertyReference → Type 0
IsSoundFailure None = Unit {0}
IsSoundFailure (Some r) = IsSoundId r.object × (r.property < 2 ^ 32) × IsSoundIndex r.index

-- a SimpleACK; a ComplexACK of under 2^31 octets of service data; an Error whose class and code have 32 bits and stand
-- under their names, and whose first failed write has a spelling (20.1.4, 20.1.5, 20.1.7)
abbrev pub IsSoundAnswer : Answer → Type 0
IsSoundAnswer answer.Simple = Unit {0}
IsSoundAnswer (answer.Complex octets) = length octets.now < 2 ^ 31
IsSoundAnswer (answer.Error e) = IsSoundError e.class e.code × IsSoundFailure e.first_failed

-- the answer is a ComplexACK (20.1.5)
abbrev pub HasServiceData : Answer → Type 0
HasServiceData (answer.Complex octets) = Unit {0}
HasServiceData answer = ⊥
