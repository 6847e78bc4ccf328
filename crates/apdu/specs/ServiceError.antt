-- The contents of an Error PDU (20.1.7, 21).
use Rattle.std.specs.Prelude.{◌≡◌, ◌≢◌, ℕ, List, [], Option, Some, None}
use Rattle.primitives.specs.Errors.{IsNamedClass, IsNamedCode}
use Rattle.tags.specs.declared.tag.Class.TheVariants.{Context}
use Rattle.tags.specs.Number.{SpellsUnsigned}
use Rattle.tags.specs.Tag.{TakesTag}
use Rattle.apdu.specs.Numbers.{service_number}
use Rattle.apdu.specs.declared.numbers.ConfirmedService.TheVariants.{WritePropertyMultiple}
use Rattle.apdu.specs.Parameter.{opening_tag, closing_tag, IsObject, Takes}
pub use Rattle.apdu_fields.specs.ClassAndCode.{TakesClassAndCode, OnlyClassAndCode, NoClassAndCode}
use Rattle.apdu.specs.declared.service_error.ObjectPropertyReference.{ObjectPropertyReference}
use Rattle.apdu.specs.declared.service_error.ServiceError.{ServiceError}

-- index [2], then closing tag 1 and the end
pub record EndsWithIndex (octets : List ℕ) (index : ℕ) : Type 0 where
  pub at_closing : List ℕ
  pub index_taken : Takes SpellsUnsigned Context 2 octets index at_closing
  pub closing : TakesTag at_closing (closing_tag 1) []

-- the same where the index may be absent
abbrev pub EndsReference : List ℕ → Option ℕ → Type 0
EndsReference octets None = TakesTag octets (closing_tag 1) []
EndsReference octets (Some index) = EndsWithIndex octets index

-- object [0], property [1] and index [2] up to closing tag 1 (21, BACnetObjectPropertyReference)
pub record TakesReference (octets : List ℕ) (r : ObjectPropertyReference) : Type 0 where
  pub at_property : List ℕ
  pub at_index : List ℕ
  pub object : Takes IsObject Context 0 octets r.object at_property
  pub property : Takes SpellsUnsigned Context 1 at_property r.property at_index
  pub index : EndsReference at_index r.index

-- class and code between tags 0, the first write that failed between tags 1 (21, WritePropertyMultiple-Error)
pub record SpellsWriteError (octets : List ℕ) (class code : ℕ) (r : ObjectPropertyReference) : Type 0 where
  pub at_error : List ℕ
  pub at_closing : List ℕ
  pub at_first : List ℕ
  pub at_reference : List ℕ
  pub opening : TakesTag octets (opening_tag 0) at_error
  pub error : TakesClassAndCode at_error class code at_closing
  pub closing : TakesTag at_closing (closing_tag 0) at_first
  pub first : TakesTag at_first (opening_tag 1) at_reference
  pub reference : TakesReference at_reference r

-- the same where a write may be named or none: where none is, nothing spells it
abbrev pub SpellsFailedWrite : List ℕ → ℕ → ℕ → Option ObjectPropertyReference → Type 0
SpellsFailedWrite octets class code None = ⊥
SpellsFailedWrite octets class code (Some r) = SpellsWriteError octets class code r

-- the contents of an Error of this service: WritePropertyMultiple alone names the write that failed (15.10.1.3,
-- 20.1.7)
abbrev pub SpellsError : ℕ → List ℕ → ℕ → ℕ → Option ObjectPropertyReference → Type 0
SpellsError service octets class code None = (service ≢ service_number WritePropertyMultiple) ×
    TakesClassAndCode octets class code []
SpellsError service octets class code (Some r) = (service ≡ service_number WritePropertyMultiple) ×
    SpellsWriteError octets class code r

-- class and code go by their names (18)
abbrev pub HasNames : ServiceError → Type 0
HasNames e = IsNamedClass e.class × IsNamedCode e.code

-- the octets spell this error and no other
pub record OnlyError (service : ℕ) (octets : List ℕ) (class code : ℕ)
    (first_failed : Option ObjectPropertyReference) : Type 0 where
  pub only : (c d : ℕ) (o : Option ObjectPropertyReference) → SpellsError service octets c d o →
      (class ≡ c) × (code ≡ d) × (first_failed ≡ o)

-- no error of this service is spelled
pub record NoError (service : ℕ) (octets : List ℕ) : Type 0 where
  pub none : (class code : ℕ) (o : Option ObjectPropertyReference) → SpellsError service octets class code o → ⊥

-- the octets end a reference with no other index, or want of one (21, BACnetObjectPropertyReference)
pub record OnlyEnd (octets : List ℕ) (index : Option ℕ) : Type 0 where
  pub only : (o : Option ℕ) → EndsReference octets o → index ≡ o

-- the octets end no reference, with an index or without (21, BACnetObjectPropertyReference)
pub record NoEnd (octets : List ℕ) : Type 0 where
  pub none : (o : Option ℕ) → EndsReference octets o → ⊥

-- the octets spell no other reference (21, BACnetObjectPropertyReference)
pub record OnlyReference (octets : List ℕ) (r : ObjectPropertyReference) : Type 0 where
  pub only : (s : ObjectPropertyReference) → TakesReference octets s → r ≡ s

-- no reference is spelled (21, BACnetObjectPropertyReference)
pub record NoReference (octets : List ℕ) : Type 0 where
  pub none : (r : ObjectPropertyReference) → TakesReference octets r → ⊥

-- the octets spell no other error with a failed write (21, WritePropertyMultiple-Error)
pub record OnlyFailedWrite (octets : List ℕ) (class code : ℕ)
    (first_failed : Option ObjectPropertyReference) : Type 0 where
  pub only : (c d : ℕ) (o : Option ObjectPropertyReference) → SpellsFailedWrite octets c d o →
      (class ≡ c) × (code ≡ d) × (first_failed ≡ o)

-- no error with a failed write is spelled (21, WritePropertyMultiple-Error)
pub record NoFailedWrite (octets : List ℕ) : Type 0 where
  pub none : (class code : ℕ) (o : Option ObjectPropertyReference) → SpellsFailedWrite octets class code o → ⊥
