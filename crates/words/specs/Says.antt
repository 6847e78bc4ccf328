-- What words say: numbers, objects, properties and values, in forms that a person reads (the types of 20.2).
use Rattle.std.specs.Prelude.{◌≡◌, ◌≢◌, slice_index, ◌<◌, ◌^◌, ◌==◌, ◌⊎◌, FitsSigned, ℕ, ℤ, List, [], length, Option}
use Rattle.std.specs.Prelude.{Some}
use Rattle.std.specs.Prelude.{None, Bool, true, false}
use Rattle.std.specs.Prelude.{codes}
use Rattle.std.specs.Int.{w32}
use Rattle.std.specs.List.{position_or_len, before_first, after_first}
use Rattle.std.specs.Str.Parse.{IsNumeral, digits_value, signed_digits_value, without_leading_sign}
use Rattle.names.specs.Names.{number_in}
use Rattle.names.specs.Tables.{binary_values, object_types, properties}
use Rattle.primitives.specs.declared.plain_data.PropertyReference.{PropertyReference}
use Rattle.tags.specs.declared.object_id.ObjectId.{ObjectId}
use Rattle.tags.specs.declared.value.Value.{Value}
use Rattle.tags.specs.declared.value.Value.TheVariants as value
use Rattle.words.specs.Digits.{SaysOctets}

-- the words have such a character
abbrev pub Has : ℕ → List ℕ → Type 0
Has c words = position_or_len (λ b. b == c) words < length words

-- they have none
abbrev pub HasNo : ℕ → List ℕ → Type 0
HasNo c words = position_or_len (λ b. b == c) words ≡ length words

-- what stands before the first such character
abbrev pub before : ℕ → List ℕ → List ℕ
before c words = before_first (λ b. b == c) words

-- what stands behind it
abbrev pub behind : ℕ → List ℕ → List ℕ
behind c words = after_first (λ b. b == c) words

-- a colon
abbrev pub colon : ℕ
colon = 58

-- a slash
abbrev pub slash : ℕ
slash = 47

-- a space
abbrev pub space : ℕ
space = 32

-- a comma
abbrev pub comma : ℕ
comma = 44

-- an opening bracket
abbrev pub opening : ℕ
opening = 91

-- a closing bracket
abbrev pub closing : ℕ
closing = 93

-- decimal digits alone, of a number of so many bits (20.2.4)
pub record SaysUnsigned (bits : ℕ) (word : List ℕ) (n : ℕ) : Type 0 where
  pub digits : IsNumeral 10 word
  pub number : n ≡ digits_value 10 word
  pub fits : n < 2 ^ bits

-- decimal digits behind a minus or none, of a number of 32 bits (20.2.5)
pub record SaysSigned (word : List ℕ) (z : ℤ) : Type 0 where
  pub no_plus : slice_index word 0 ≢ 43
  pub digits : IsNumeral 10 (without_leading_sign word)
  pub number : z ≡ signed_digits_value 10 word
  pub fits : FitsSigned w32 z

-- the type of an object by its number, a colon, and its instance, as `5:1` (20.2.14)
pub record SaysNumberedObject (word : List ℕ) (o : ObjectId) : Type 0 where
  pub parted : Has colon word
  pub type_said : SaysUnsigned 16 (before colon word) o.object_type
  pub instance_said : SaysUnsigned 32 (behind colon word) o.instance

-- the type of an object by its name, a comma, and its instance, as `binary-value,1` (21, BACnetObjectType)
pub record SaysNamedObject (word : List ℕ) (o : ObjectId) : Type 0 where
  pub parted : Has comma word
  pub type_named : number_in object_types (before comma word) ≡ Some o.object_type
  pub fits : o.object_type < 2 ^ 16
  pub instance_said : SaysUnsigned 32 (behind comma word) o.instance

-- an object in one of these forms
pub record SaysObject (word : List ℕ) (o : ObjectId) : Type 0 where
  pub form : SaysNumberedObject word o ⊎ (HasNo colon word × SaysNamedObject word o)

-- a property by its number or its name (21, BACnetPropertyIdentifier)
pub record SaysPropertyNumber (word : List ℕ) (property : ℕ) : Type 0 where
  pub form : SaysUnsigned 32 word property ⊎ (number_in properties word ≡ Some property)

-- a property, a slash and an index, as `87/17` or `priority-array/17`
pub record SaysSlashed (word : List ℕ) (property index : ℕ) : Type 0 where
  pub parted : Has slash word
  pub property_said : SaysPropertyNumber (before slash word) property
  pub index_said : SaysUnsigned 32 (behind slash word) index

-- a property and an index in brackets, as `priority-array[17]`
pub record SaysBracketed (word : List ℕ) (property index : ℕ) : Type 0 where
  pub no_slash : HasNo slash word
  pub opened : Has opening word
  pub closed : Has closing (behind opening word)
  pub ended : behind closing (behind opening word) ≡ []
  pub property_said : SaysPropertyNumber (before opening word) property
  pub index_said : SaysUnsigned 32 (before closing (behind opening word)) index

-- an element of a property in one of these forms
pub record SaysElement (word : List ℕ) (property index : ℕ) : Type 0 where
  pub form : SaysSlashed word property index ⊎ SaysBracketed word property index

-- a property without an index
pub record SaysWhole (word : List ℕ) (property : ℕ) : Type 0 where
  pub no_slash : HasNo slash word
  pub no_bracket : HasNo opening word
  pub property_said : SaysPropertyNumber word property

-- a property, as `85` or `present-value`, or an element of one (21, BACnetPropertyReference)
abbrev pub SaysProperty : List ℕ → ℕ → Option ℕ → Type 0
SaysProperty word property None = SaysWhole word property
SaysProperty word property (Some index) = SaysElement word property index

-- a reference to a property (21, BACnetPropertyReference)
abbrev pub SaysReference : List ℕ → PropertyReference → Type 0
SaysReference word r = SaysProperty word r.property r.index

-- the words are a kind, a space, and more behind it
pub record IsOfKind (words kind : List ℕ) : Type 0 where
  pub parted : Has space words
  pub kind_is : before space words ≡ kind

-- a number of 8 bits, a space, and octets
pub record SaysNumbered (words : List ℕ) (n : ℕ) (octets : List ℕ) : Type 0 where
  pub parted : Has space words
  pub number_said : SaysUnsigned 8 (before space words) n
  pub octets_said : SaysOctets (behind space words) octets

-- the kind of a text of set 0, or of the set behind a slash (20.2.9)
abbrev pub SaysSet : List ℕ → ℕ → Type 0
SaysSet kind set = ((kind ≡ codes "text") × (set ≡ 0)) ⊎
    (Has slash kind × (before slash kind ≡ codes "text") × SaysUnsigned 8 (behind slash kind) set)

-- `true` or `false` (20.2.3)
abbrev pub SaysBool : List ℕ → Bool → Type 0
SaysBool word true = word ≡ codes "true"
SaysBool word false = word ≡ codes "false"

-- a state of a binary value by its name, as `active` (21, BACnetBinaryPV)
abbrev pub SaysState : List ℕ → ℕ → Type 0
SaysState word n = number_in binary_values word ≡ Some n

-- the number of an Enumerated, or such a state (20.2.11)
pub record SaysEnumerated (word : List ℕ) (n : ℕ) : Type 0 where
  pub form : SaysUnsigned 32 word n ⊎ SaysState word n

-- an Enumerated behind `enum`, or a state alone
pub record SaysEnum (words : List ℕ) (n : ℕ) : Type 0 where
  pub form : (IsOfKind words (codes "enum") × SaysEnumerated (behind space words) n) ⊎
      (HasNo space words × SaysState words n)

-- the words say the value (20.2)
abbrev pub SaysValue : {A : Type 0} → List ℕ → Value A → Type 0
SaysValue words value.Null = words ≡ codes "null"
SaysValue words (value.Bool b) = IsOfKind words (codes "bool") × SaysBool (behind space words) b
SaysValue words (value.Unsigned n) = IsOfKind words (codes "unsigned") × SaysUnsigned 32 (behind space words) n
SaysValue words (value.Signed z) = IsOfKind words (codes "signed") × SaysSigned (behind space words) z
SaysValue words (value.Enum n) = SaysEnum words n
SaysValue words (value.Object o) = IsOfKind words (codes "object") × SaysObject (behind space words) o
SaysValue words (value.Text set octets) = Has space words × SaysSet (before space words) set ×
    SaysOctets (behind space words) octets
SaysValue words (value.Bits unused octets) = IsOfKind words (codes "bits") ×
    SaysNumbered (behind space words) unused octets
SaysValue words (value.Other tag octets) = IsOfKind words (codes "other") ×
    SaysNumbered (behind space words) tag octets
SaysValue words (value.Built octets) = IsOfKind words (codes "built") × SaysOctets (behind space words) octets
