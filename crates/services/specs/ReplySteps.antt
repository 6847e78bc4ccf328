-- What the private readers say of the parts of a ComplexACK. The public calls cite Reply.
use Rattle.std.specs.Prelude.{◌≡◌, ℕ, List, [], Option, Some, None, Result}
use Rattle.tags.specs.declared.object_id.ObjectId.{ObjectId}
use Rattle.tags.specs.declared.value.Value.{Value}
use Rattle.tags.specs.Element.{context}
use Rattle.tags.specs.Tag.{PlainTag, opening}
use Rattle.primitives.specs.declared.error.ErrorClass.{ErrorClass}
use Rattle.primitives.specs.declared.error.ErrorCode.{ErrorCode}
use Rattle.primitives.specs.declared.plain_data.Request.{Request}
use Rattle.primitives.specs.declared.plain_data.Reply.{Reply}
use Rattle.primitives.specs.declared.plain_data.ObjectResults.{ObjectResults}
use Rattle.primitives.specs.declared.plain_data.PropertyResult.{PropertyResult}
use Rattle.services.specs.Fields.{TakesNumber, TakesClosing, TakesEach}
use Rattle.services.specs.Reply.{TakesErrorInside, reading_tag, TakesReadingInside, TakesIndexed, TakesResult}
use Rattle.services.specs.Reply.{TakesResultList, TakesResults, SpellsAck, SpellsAnswer}
use Rattle.answers.specs.declared.answer.Answer.{Answer}
use Rattle.services.specs.Requests.{TakesWrite}

-- no ReadProperty-ACK of this object, property and index
pub record NoReadAck (A : Type 0) (octets : List ℕ) (object : ObjectId) (property : ℕ) (index : Option ℕ) : Type 0 where
  pub none : (values : List (Value A)) → TakesWrite octets object property index values [] → ⊥

-- no class and code up to the closing tag 5
pub record NoErrorInside (octets : List ℕ) : Type 0 where
  pub none : (class : ErrorClass) (code : ErrorCode) (rest : List ℕ) → TakesErrorInside octets class code rest → ⊥

-- the tag opens what was read, which stands behind it
pub record ReadingUnder {A : Type 0} (t : PlainTag) (octets : List ℕ)
    (reading : Result (List (Value A)) (ErrorClass × ErrorCode)) (rest : List ℕ) : Type 0 where
  pub opens : t ≡ context (reading_tag reading) opening
  pub taken : TakesReadingInside octets reading rest

-- the tag opens nothing of the kind, or nothing of the kind stands behind it
pub record NoReadingUnder (A : Type 0) (t : PlainTag) (octets : List ℕ) : Type 0 where
  pub none : (reading : Result (List (Value A)) (ErrorClass × ErrorCode)) (rest : List ℕ) →
      ReadingUnder t octets reading rest → ⊥

-- no index and nothing that was read
pub record NoIndexed (A : Type 0) (octets : List ℕ) : Type 0 where
  pub none : (index : Option ℕ) (reading : Result (List (Value A)) (ErrorClass × ErrorCode)) (rest : List ℕ) →
      TakesIndexed octets index reading rest → ⊥

-- a further property, or none where the list ends
abbrev pub TakesNextResult : List ℕ → Option ℕ → List ℕ → Type 0
TakesNextResult octets None rest = TakesClosing octets 1 rest
TakesNextResult octets (Some p) rest = TakesNumber octets 2 p rest

-- neither
pub record NoNextResult (octets : List ℕ) : Type 0 where
  pub none : (next : Option ℕ) (rest : List ℕ) → TakesNextResult octets next rest → ⊥

-- neither a result nor the end of the list
pub record NoResult (A : Type 0) (octets : List ℕ) : Type 0 where
  pub none : (r : PropertyResult A) (rest : List ℕ) → TakesResult octets r rest → ⊥
  pub unclosed : (rest : List ℕ) → TakesClosing octets 1 rest → ⊥

-- no list of results
pub record NoResultList (A : Type 0) (octets : List ℕ) : Type 0 where
  pub none : (rs : List (PropertyResult A)) (rest : List ℕ) → TakesResultList octets rs rest → ⊥

-- no object with results
pub record NoResults (A : Type 0) (octets : List ℕ) : Type 0 where
  pub none : (r : ObjectResults A) (rest : List ℕ) → TakesResults octets r rest → ⊥

-- no ReadPropertyMultiple-ACK
pub record NoManyAck (A : Type 0) (octets : List ℕ) : Type 0 where
  pub none : (rs : List (ObjectResults A)) → TakesEach TakesResults octets rs [] → ⊥

-- the octets are no service data of a ComplexACK to this request
pub record NoAck {A : Type 0} (request : Request A) (octets : List ℕ) : Type 0 where
  pub none : (reply : Reply A) → SpellsAck request octets reply → ⊥

-- the answer spells nothing
pub record NoAnswer {A : Type 0} (request : Request A) (answer : Answer) : Type 0 where
  pub none : (reply : Reply A) → SpellsAnswer request answer reply → ⊥
