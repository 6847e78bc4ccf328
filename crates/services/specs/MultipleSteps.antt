-- What the private readers say of the parts of a list of properties. The public calls cite Multiple.
use Rattle.std.specs.Prelude.{◌≡◌, ◌≢◌, ℕ, List, [], Option, Some, None}
use Rattle.tags.specs.Tag.{PlainTag, contents, closing}
use Rattle.tags.specs.Element.{context}
use Rattle.tags.specs.Number.{SpellsUnsigned}
use Rattle.tags.specs.Refusal.{IsBadNumber}
use Rattle.tags.specs.declared.value.Value.{Value}
use Rattle.primitives.specs.Sound.{IsSoundPriority}
use Rattle.primitives.specs.declared.plain_data.PropertyReference.{PropertyReference}
use Rattle.primitives.specs.declared.plain_data.PropertyWrite.{PropertyWrite}
use Rattle.apdu.specs.declared.numbers.RejectReason.{RejectReason}
use Rattle.apdu.specs.declared.numbers.RejectReason.TheVariants.{InvalidParameterDataType, InvalidTag}
use Rattle.services.specs.Fields.{TakesNumber, TakesOption, TakesClosing, TakesEach, TakesInside, OpensBehind}
use Rattle.services.specs.Fields.{IsOtherTag, RejectsOption, RejectsBehind, RejectsInside, RejectsRange}
use Rattle.services.specs.Multiple.{RejectsNext, TakesReference, TakesPropertyWrite}

-- a further property, or none where the list ends
abbrev pub TakesNext : List ℕ → Option ℕ → List ℕ → Type 0
TakesNext octets None rest = TakesClosing octets 1 rest
TakesNext octets (Some p) rest = TakesNumber octets 0 p rest

-- the tag is that of a further property, or ends the list
abbrev pub IsNext : PlainTag → Option ℕ → Type 0
IsNext t None = t ≡ context 1 closing
IsNext t (Some p) = (inner : List ℕ) × (t ≡ context 0 (contents inner)) × SpellsUnsigned inner p

-- the tag is neither, or its contents are no number
abbrev pub RejectsNextTag : RejectReason → PlainTag → Type 0
RejectsNextTag InvalidTag t = (t ≢ context 1 closing) × IsOtherTag t 0
RejectsNextTag InvalidParameterDataType t = (inner : List ℕ) × (t ≡ context 0 (contents inner)) × IsBadNumber inner
RejectsNextTag reason t = ⊥

-- an optional number under this context tag, and what goes on behind it
pub record GoesOn (octets : List ℕ) (number : ℕ) (option next : Option ℕ) (rest : List ℕ) : Type 0 where
  pub at : List ℕ
  pub option_taken : TakesOption octets number option at
  pub next_taken : TakesNext at next rest

-- why they are rejected
pub data RejectsGoing (reason : RejectReason) (octets : List ℕ) (number : ℕ) : Type 0 where
  in_option : RejectsOption reason octets number → RejectsGoing reason octets number
  in_next : (n : Option ℕ) (at : List ℕ) → TakesOption octets number n at → RejectsNext reason at →
      RejectsGoing reason octets number

-- references up to the closing tag 1, one at least
pub record References (octets : List ℕ) (rs : List PropertyReference) (rest : List ℕ) : Type 0 where
  pub at : List ℕ
  pub taken : TakesEach TakesReference octets rs at
  pub closed : TakesClosing at 1 rest
  pub some : rs ≢ []

-- writes up to the closing tag 1, one at least
pub record PropertyWrites {A : Type 0} (octets : List ℕ) (ws : List (PropertyWrite A)) (rest : List ℕ) : Type 0 where
  pub at : List ℕ
  pub taken : TakesEach TakesPropertyWrite octets ws at
  pub closed : TakesClosing at 1 rest
  pub some : ws ≢ []

-- an array index or none, and values between the opening and the closing tag 2
pub record TakesValuesBehind {A : Type 0} (octets : List ℕ) (index : Option ℕ) (values : List (Value A))
    (rest : List ℕ) : Type 0 where
  pub inside : List ℕ
  pub opened : OpensBehind octets 1 index 2 inside
  pub values_taken : TakesInside inside 2 values rest

-- why they are rejected
pub data RejectsValuesBehind (A : Type 0) (reason : RejectReason) (octets : List ℕ) : Type 0 where
  in_opening : RejectsBehind reason octets 1 2 → RejectsValuesBehind A reason octets
  in_values : (i : Option ℕ) (inside : List ℕ) → OpensBehind octets 1 i 2 inside → RejectsInside A reason inside 2 →
      RejectsValuesBehind A reason octets

-- why an optional priority and what goes on behind it are rejected
pub data RejectsPriority (reason : RejectReason) (octets : List ℕ) : Type 0 where
  in_priority : RejectsOption reason octets 3 → RejectsPriority reason octets
  in_range : (n : Option ℕ) (at : List ℕ) → TakesOption octets 3 n at → RejectsRange reason n →
      RejectsPriority reason octets
  in_next : (n : Option ℕ) (at : List ℕ) → TakesOption octets 3 n at → IsSoundPriority n → RejectsNext reason at →
      RejectsPriority reason octets
