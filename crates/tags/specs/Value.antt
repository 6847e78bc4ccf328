-- Values, and the octets that spell them (20.2).
use Rattle.std.specs.Prelude.{◌≡◌, ℕ, ◌<◌, ◌^◌, ◌⊎◌, FitsSigned, List, [], ◌∷◌, ◌++◌, length}
use Rattle.std.specs.Int.{w32}
use Rattle.tags.specs.declared.tag.Class.{Class}
use Rattle.tags.specs.declared.tag.Class.TheVariants.{Application}
use Rattle.tags.specs.declared.value.Value.{Value}
use Rattle.tags.specs.declared.value.Value.TheVariants as value
use Rattle.tags.specs.Element.{IsElement}
use Rattle.tags.specs.Number.{SpellsUnsigned, SpellsSigned, SpellsObject, IsSoundObject}
use Rattle.tags.specs.Tag.{PlainTag, PlainContent, null, boolean, contents, opening, closing, SpellsTag}

-- at most seven unused bits, and none where there is no octet (20.2.10)
pub record IsUnused (octets : List ℕ) (unused : ℕ) : Type 0 where
  pub few : unused < 8
  pub none : octets ≡ [] → unused ≡ 0

-- the application tags whose contents are carried and not looked into (20.2.6 to 20.2.8, 20.2.12, 20.2.13, reserved
-- ones)
abbrev pub IsOther : ℕ → Type 0
IsOther number = ((3 < number) × (number < 7)) ⊎ ((9 < number) × (number < 12)) ⊎ ((12 < number) × (number < 255))

-- a value that octets spell and that fits any buffer
abbrev pub IsSound : {A : Type 0} → Value A → Type 0
IsSound value.Null = Unit {0}
IsSound (value.Bool b) = Unit {0}
IsSound (value.Unsigned n) = n < 2 ^ 32
IsSound (value.Signed z) = FitsSigned w32 z
IsSound (value.Text set octets) = length octets < 2 ^ 31
IsSound (value.Bits unused octets) = (length octets < 2 ^ 31) × IsUnused octets unused
IsSound (value.Enum n) = n < 2 ^ 32
IsSound (value.Object object) = IsSoundObject object.object_type object.instance
IsSound (value.Other tag octets) = (length octets < 2 ^ 31) × IsOther tag
IsSound (value.Built octets) = (length octets < 2 ^ 31) × IsElement octets

-- the contents say the value under this number of an application tag (20.2.4 to 20.2.14)
abbrev pub Says : {A : Type 0} → ℕ → List ℕ → Value A → Type 0
Says number octets value.Null = ⊥
Says number octets (value.Bool b) = ⊥
Says number octets (value.Unsigned n) = (number ≡ 2) × SpellsUnsigned octets n
Says number octets (value.Signed z) = (number ≡ 3) × SpellsSigned octets z
Says number octets (value.Text set rest) = (number ≡ 7) × (octets ≡ set ∷ rest)
Says number octets (value.Bits unused rest) = (number ≡ 8) × (octets ≡ unused ∷ rest) × IsUnused rest unused
Says number octets (value.Enum n) = (number ≡ 9) × SpellsUnsigned octets n
Says number octets (value.Object object) = (number ≡ 12) × SpellsObject octets object.object_type object.instance
Says number octets (value.Other tag rest) = IsOther number × (number ≡ tag) × (octets ≡ rest)
Says number octets (value.Built rest) = ⊥

-- the tag carries the value, by what it has (20.2.2 to 20.2.14)
abbrev pub Carries : {A : Type 0} → Class → ℕ → PlainContent → Value A → Type 0
Carries class number null v = v ≡ value.Null
Carries class number (boolean b) v = v ≡ value.Bool b
Carries class number (contents octets) v = (class ≡ Application) × Says number octets v
Carries class number opening v = ⊥
Carries class number closing v = ⊥

-- one application tag that carries the value
pub record SpellsByTag {A : Type 0} (octets : List ℕ) (v : Value A) : Type 0 where
  pub tag : PlainTag
  pub spelled : SpellsTag octets tag
  pub carried : Carries tag.class tag.number tag.content v

-- the octets spell the value: one application tag carries it, or it is a context-tagged element
abbrev pub SpellsValue : {A : Type 0} → List ℕ → Value A → Type 0
SpellsValue octets v = SpellsByTag octets v ⊎ ((v ≡ value.Built octets) × IsElement octets)

-- the octets spell these values one after another
abbrev pub SpellsValues : {A : Type 0} → List ℕ → List (Value A) → Type 0
SpellsValues octets [] = octets ≡ []
SpellsValues octets (v ∷ vs) = (front : List ℕ) × (rest : List ℕ) × SpellsValue front v × SpellsValues rest vs ×
    (octets ≡ front ++ rest)

-- the front of the octets spells the value, and rest is what follows
pub record TakesValue {A : Type 0} (octets : List ℕ) (v : Value A) (rest : List ℕ) : Type 0 where
  pub front : List ℕ
  pub spelled : SpellsValue front v
  pub parts : octets ≡ front ++ rest

-- no front of the octets spells a value
pub record NoValue (A : Type 0) (octets : List ℕ) : Type 0 where
  pub none : (front rest : List ℕ) (v : Value A) → SpellsValue front v → octets ≡ front ++ rest → ⊥
