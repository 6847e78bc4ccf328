-- What a property is expected to read, in words.
use Rattle.std.specs.Prelude.{◌≡◌, ◌≢◌, FitsSigned, slice_index, ℕ, ℤ, List, [], Option, Some, None, codes}
use Rattle.std.specs.Int.{w64}
use Rattle.std.specs.Str.Parse.{IsNumeral, signed_digits_value, without_leading_sign}
use Rattle.expectations.specs.declared.expectation.ExpectedValue.{ExpectedValue}
use Rattle.expectations.specs.declared.expectation.ExpectedValue.TheVariants as value
use Rattle.network_faults.specs.Says.{SaysStation}
use Rattle.primitives.specs.declared.plain_data.PropertyReference.{PropertyReference}
use Rattle.tags.specs.declared.object_id.ObjectId.{ObjectId}
use Rattle.words.specs.Marks.{first_part, other_parts}
use Rattle.words.specs.Requests.{SaysPlace, SaysValues}
use Rattle.words.specs.Says.{Has, before, behind, space}

-- decimal digits behind a minus or none, of a number of 64 bits
pub record SaysWhole (word : List ℕ) (z : ℤ) : Type 0 where
  pub no_plus : slice_index word 0 ≢ 43
  pub digits : IsNumeral 10 (without_leading_sign word)
  pub number : z ≡ signed_digits_value 10 word
  pub fits : FitsSigned w64 z

-- a number by itself, or values
abbrev pub SaysValueForm : {A : Type 0} → List ℕ → ExpectedValue A → Type 0
SaysValueForm words (value.Number z) = SaysWhole words z
SaysValueForm words (value.Values values) = SaysValues words values

-- a number by itself, as `21`, or values, as `enum active`, one at least (20.2)
pub record SaysExpectedValue {A : Type 0} (words : List ℕ) (v : ExpectedValue A) : Type 0 where
  pub some : words ≢ []
  pub form : SaysValueForm words v

-- there are words, and they say it
abbrev pub SaysValueIn : {A : Type 0} → Option (List ℕ) → ExpectedValue A → Type 0
SaysValueIn None v = ⊥
SaysValueIn (Some words) v = SaysExpectedValue words v

-- the name of a device, a property of an object of it, and behind ` = ` what that reads (15.5)
pub record SaysReads {A : Type 0} (words station : List ℕ) (object : ObjectId) (property : PropertyReference)
    (v : ExpectedValue A) : Type 0 where
  pub parted : Has space (first_part (codes " = ") words)
  pub station_said : SaysStation (before space (first_part (codes " = ") words)) station
  pub place_said :
      SaysPlace (behind space (first_part (codes " = ") words)) object property.property property.index
  pub value_said : SaysValueIn (other_parts (codes " = ") words) v

-- the word is no whole number
pub record NoWhole (word : List ℕ) : Type 0 where
  pub none : (z : ℤ) → SaysWhole word z → ⊥

-- the words are neither a number nor values
pub record NoExpectedValue (A : Type 0) (words : List ℕ) : Type 0 where
  pub none : (v : ExpectedValue A) → SaysExpectedValue words v → ⊥

-- the words don't say what a property reads
pub record NoReads (A : Type 0) (words : List ℕ) : Type 0 where
  pub none : (station : List ℕ) (object : ObjectId) (property : PropertyReference) (v : ExpectedValue A) →
      SaysReads words station object property v → ⊥
