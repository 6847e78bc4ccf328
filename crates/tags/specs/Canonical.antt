-- The shortest octets of a tag and of a value (20.2).
use Rattle.std.specs.Prelude.{◌≡◌, ℕ, ◌<◌, ◌^◌, true, false, List, [], ◌∷◌, ◌++◌, length, nat_lt, if◌then◌else◌}
use Rattle.tags.specs.declared.tag.Class.{Class}
use Rattle.tags.specs.declared.tag.Class.TheVariants.{Application, Context}
use Rattle.tags.specs.declared.value.Value.{Value}
use Rattle.tags.specs.declared.value.Value.TheVariants as value
use Rattle.tags.specs.Number.{unsigned_octets, signed_octets, object_octets}
use Rattle.tags.specs.Tag.{PlainContent, null, boolean, contents, opening, closing, initial_octets, LengthForm}
use Rattle.tags.specs.Tag.{in_initial, in_octet, in_two, in_four, length_bits, length_octets, HasContents}

-- the shortest form that says a length (20.2.1.3.1)
unfoldable pub shortest : ℕ → LengthForm
shortest n = if nat_lt n 5 then in_initial else (if nat_lt n 254 then in_octet
    else (if nat_lt n 65536 then in_two else in_four))

-- the initial octets and the length of a tag with this many contents octets
abbrev pub tag_front : Class → ℕ → ℕ → List ℕ
tag_front class number len = initial_octets class number (length_bits (shortest len) len) ++
    length_octets (shortest len) len

-- a tag with these contents, in the shortest form
abbrev pub tagged : Class → ℕ → List ℕ → List ℕ
tagged class number octets = tag_front class number (length octets) ++ octets

-- the shortest octets of a tag (20.2.1)
abbrev pub canonical_tag : Class → ℕ → PlainContent → List ℕ
canonical_tag class number null = 0 ∷ []
canonical_tag class number (boolean false) = 16 ∷ []
canonical_tag class number (boolean true) = 17 ∷ []
canonical_tag class number (contents octets) = tagged class number octets
canonical_tag class number opening = initial_octets Context number 6
canonical_tag class number closing = initial_octets Context number 7

-- a tag that octets spell
abbrev pub IsSoundTag : Class → ℕ → PlainContent → Type 0
IsSoundTag class number null = (class ≡ Application) × (number ≡ 0)
IsSoundTag class number (boolean b) = (class ≡ Application) × (number ≡ 1)
IsSoundTag class number (contents octets) = HasContents class number × (number < 255) × (length octets < 2 ^ 32)
IsSoundTag class number opening = (class ≡ Context) × (number < 255)
IsSoundTag class number closing = (class ≡ Context) × (number < 255)

-- the shortest octets of a value (20.2.2 to 20.2.14)
abbrev pub canonical : {A : Type 0} → Value A → List ℕ
canonical value.Null = 0 ∷ []
canonical (value.Bool false) = 16 ∷ []
canonical (value.Bool true) = 17 ∷ []
canonical (value.Unsigned n) = tagged Application 2 (unsigned_octets n)
canonical (value.Signed z) = tagged Application 3 (signed_octets z)
canonical (value.Text set octets) = tagged Application 7 (set ∷ octets)
canonical (value.Bits unused octets) = tagged Application 8 (unused ∷ octets)
canonical (value.Enum n) = tagged Application 9 (unsigned_octets n)
canonical (value.Object object) = tagged Application 12 (object_octets object.object_type object.instance)
canonical (value.Other tag octets) = tagged Application tag octets
canonical (value.Built octets) = octets

-- the shortest octets of values one after another
abbrev pub canonicals : {A : Type 0} → List (Value A) → List ℕ
canonicals [] = []
canonicals (v ∷ vs) = canonical v ++ canonicals vs

-- new is old with more behind it
pub record Extends (old new : List ℕ) : Type 0 where
  pub more : List ℕ
  pub parts : new ≡ old ++ more
