-- What words don't say.
use Rattle.std.specs.Prelude.{ℕ, ℤ, Bool, List}
use Rattle.primitives.specs.declared.plain_data.PropertyReference.{PropertyReference}
use Rattle.tags.specs.declared.object_id.ObjectId.{ObjectId}
use Rattle.tags.specs.declared.value.Value.{Value}
use Rattle.tags.specs.Value.{IsSound}
use Rattle.words.specs.Says.{SaysUnsigned, SaysSigned, SaysBool, SaysEnumerated, SaysNamedObject, SaysObject}
use Rattle.words.specs.Says.{SaysPropertyNumber, SaysReference, SaysNumbered, SaysSet, SaysState, SaysValue}

-- the word says no number of so many bits
pub record NoUnsigned (bits : ℕ) (word : List ℕ) : Type 0 where
  pub none : (n : ℕ) → SaysUnsigned bits word n → ⊥

-- the word says no signed number
pub record NoSigned (word : List ℕ) : Type 0 where
  pub none : (z : ℤ) → SaysSigned word z → ⊥

-- the word is neither `true` nor `false`
pub record NoBool (word : List ℕ) : Type 0 where
  pub none : (b : Bool) → SaysBool word b → ⊥

-- the word says no object by the name of its type
pub record NoNamedObject (word : List ℕ) : Type 0 where
  pub none : (o : ObjectId) → SaysNamedObject word o → ⊥

-- the word says no object
pub record NoObject (word : List ℕ) : Type 0 where
  pub none : (o : ObjectId) → SaysObject word o → ⊥

-- the word is neither a property's number nor its name
pub record NoPropertyNumber (word : List ℕ) : Type 0 where
  pub none : (n : ℕ) → SaysPropertyNumber word n → ⊥

-- the word names no state of a binary value
pub record NoState (word : List ℕ) : Type 0 where
  pub none : (n : ℕ) → SaysState word n → ⊥

-- the word is neither the number of an Enumerated nor such a state
pub record NoEnumerated (word : List ℕ) : Type 0 where
  pub none : (n : ℕ) → SaysEnumerated word n → ⊥

-- the word says no property
pub record NoReference (word : List ℕ) : Type 0 where
  pub none : (r : PropertyReference) → SaysReference word r → ⊥

-- the words say no number and octets
pub record NoNumbered (words : List ℕ) : Type 0 where
  pub none : (n : ℕ) (octets : List ℕ) → SaysNumbered words n octets → ⊥

-- the kind is none of a text
pub record NoSet (kind : List ℕ) : Type 0 where
  pub none : (set : ℕ) → SaysSet kind set → ⊥

-- the words say no value
pub record NoValue (A : Type 0) (words : List ℕ) : Type 0 where
  pub none : (v : Value A) → SaysValue words v → ⊥

-- the words say a value that has no spelling
pub record SaysUnsound (A : Type 0) (words : List ℕ) : Type 0 where
  pub value : Value A
  pub said : SaysValue words value
  pub unsound : IsSound value → ⊥
