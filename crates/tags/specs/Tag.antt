-- Tags, and the octets that spell one (20.2.1).
use Rattle.std.specs.Prelude.{◌≡◌, ℕ, ◌+◌, ◌*◌, ◌<◌, ◌≤◌, ◌^◌, Bool, true, false, List, [], ◌∷◌, ◌++◌, length, nat_lt}
use Rattle.std.specs.Prelude.{if◌then◌else◌, ◌/◌, ◌%◌, ◌⊎◌}
use Rattle.byteorder.specs.Endian.{big_bytes}
use Rattle.tags.specs.declared.tag.Class.{Class}
use Rattle.tags.specs.declared.tag.Class.TheVariants.{Application, Context}
use Rattle.tags.specs.declared.tag.Content.{Content}
use Rattle.tags.specs.declared.tag.Content.TheVariants.{Null, Boolean, Octets, Opening, Closing}
use Rattle.tags.specs.declared.tag.Tag.{Tag}
use Rattle.tags.specs.declared.fault.Fault.{Fault}
use Rattle.tags.specs.declared.fault.Fault.TheVariants.{Short, BadTag, BadLength}

-- what a tag carries, without where its contents lie in memory (20.2.1.3)
pub data PlainContent : Type 0 where
  null : PlainContent
  boolean : Bool → PlainContent
  contents : List ℕ → PlainContent
  opening : PlainContent
  closing : PlainContent

-- a tag: its class, its number and what it carries (20.2.1)
pub record PlainTag : Type 0 where
  pub class : Class
  pub number : ℕ
  pub content : PlainContent

-- what the code's content carries
abbrev pub plain_content : Content → PlainContent
plain_content Null = null
plain_content (Boolean b) = boolean b
plain_content (Octets octets) = contents octets.now
plain_content Opening = opening
plain_content Closing = closing

-- the code's tag, without where its contents lie
abbrev pub plain_tag : Tag → PlainTag
plain_tag t = record { class = t.class; number = t.number; content = plain_content t.content }

-- bits 7 to 4 of the initial octet: the number, or 15 where it stands in the next octet (20.2.1.2)
abbrev pub number_bits : ℕ → ℕ
number_bits number = if nat_lt number 15 then number else 15

-- the octet behind the initial one, for a number from 15 on (20.2.1.2)
abbrev pub number_octets : ℕ → List ℕ
number_octets number = if nat_lt number 15 then [] else number ∷ []

-- bit 3 of the initial octet (20.2.1.1)
abbrev pub class_bit : Class → ℕ
class_bit Application = 0
class_bit Context = 8

-- the initial octet with these low bits, and that of an extended number (20.2.1.2)
abbrev pub initial_octets : Class → ℕ → ℕ → List ℕ
initial_octets class number low = (16 * number_bits number + class_bit class + low) ∷ number_octets number

-- where the length of the contents stands (20.2.1.3.1)
pub data LengthForm : Type 0 where
  in_initial : LengthForm
  in_octet : LengthForm
  in_two : LengthForm
  in_four : LengthForm

-- bits 2 to 0 of the initial octet: a length below 5, or 5 for a longer form
abbrev pub length_bits : LengthForm → ℕ → ℕ
length_bits in_initial n = n
length_bits in_octet n = 5
length_bits in_two n = 5
length_bits in_four n = 5

-- the octets of a length behind the initial octets (20.2.1.3.1)
abbrev pub length_octets : LengthForm → ℕ → List ℕ
length_octets in_initial n = []
length_octets in_octet n = n ∷ []
length_octets in_two n = 254 ∷ big_bytes 2 n
length_octets in_four n = 255 ∷ big_bytes 4 n

-- the lengths that a form can say; a longer form may say a length that a shorter one says too
abbrev pub IsLength : LengthForm → ℕ → Type 0
IsLength in_initial n = n < 5
IsLength in_octet n = n < 254
IsLength in_two n = n < 2 ^ 16
IsLength in_four n = n < 2 ^ 32

-- which tags have contents: of the application class those but Null and Boolean
abbrev pub HasContents : Class → ℕ → Type 0
HasContents Application number = 1 < number
HasContents Context number = Unit {0}

-- the initial octets, a length in any of its forms, and the contents (20.2.1.3.1)
pub record SpellsContents (octets : List ℕ) (class : Class) (number : ℕ) (inner : List ℕ) : Type 0 where
  pub may : HasContents class number
  pub number_fits : number < 255
  pub form : LengthForm
  pub length_fits : IsLength form (length inner)
  pub parts : octets ≡ initial_octets class number (length_bits form (length inner)) ++
      (length_octets form (length inner) ++ inner)

-- the octets spell the tag of this class and number, by what it carries (20.2.1.3, 20.2.2, 20.2.3)
abbrev pub SpellsContent : List ℕ → Class → ℕ → PlainContent → Type 0
SpellsContent octets class number null = (class ≡ Application) × (number ≡ 0) × (octets ≡ 0 ∷ [])
SpellsContent octets class number (boolean false) = (class ≡ Application) × (number ≡ 1) × (octets ≡ 16 ∷ [])
SpellsContent octets class number (boolean true) = (class ≡ Application) × (number ≡ 1) × (octets ≡ 17 ∷ [])
SpellsContent octets class number (contents inner) = SpellsContents octets class number inner
SpellsContent octets class number opening = (class ≡ Context) × (number < 255) ×
    (octets ≡ initial_octets Context number 6)
SpellsContent octets class number closing = (class ≡ Context) × (number < 255) ×
    (octets ≡ initial_octets Context number 7)

-- the octets spell the tag (20.2.1)
abbrev pub SpellsTag : List ℕ → PlainTag → Type 0
SpellsTag octets t = SpellsContent octets t.class t.number t.content

-- the front of the octets spells the tag, and rest is what follows
abbrev pub TakesTag : List ℕ → PlainTag → List ℕ → Type 0
TakesTag octets t rest = (front : List ℕ) × SpellsTag front t × (octets ≡ front ++ rest)

-- the front of the octets spells this tag, with this rest, and no other
pub record OnlyTag (octets : List ℕ) (t : PlainTag) (rest : List ℕ) : Type 0 where
  pub only : (u : PlainTag) (after : List ℕ) → TakesTag octets u after → (t ≡ u) × (rest ≡ after)

-- no front of the octets spells a tag
pub record NoTag (octets : List ℕ) : Type 0 where
  pub none : (front rest : List ℕ) (t : PlainTag) → SpellsTag front t → octets ≡ front ++ rest → ⊥

-- with more octets behind them, one at least, they spell a tag
pub record IsCutTag (octets : List ℕ) : Type 0 where
  pub more : List ℕ
  pub lacks : 0 < length more
  pub tag : PlainTag
  pub spelled : SpellsTag (octets ++ more) tag

-- an extended number below 15, or 255 (20.2.1.2)
abbrev pub IsReservedNumber : List ℕ → Type 0
IsReservedNumber [] = ⊥
IsReservedNumber (number ∷ rest) = (number < 15) ⊎ (255 ≤ number)

-- 6 or 7 in the low bits of an application tag, or a reserved extended number (20.2.1.2, 20.2.1.3.1)
abbrev pub IsReservedTag : List ℕ → Type 0
IsReservedTag [] = ⊥
IsReservedTag (first ∷ rest) = ((first / 8 % 2 ≡ 0) × (5 < first % 8)) ⊎ ((240 ≤ first) × IsReservedNumber rest)

-- a Null with a length, or a Boolean other than false and true (20.2.2, 20.2.3)
abbrev pub IsBadTagLength : List ℕ → Type 0
IsBadTagLength [] = ⊥
IsBadTagLength (first ∷ rest) = ((0 < first) × (first < 6)) ⊎ ((17 < first) × (first < 22))

-- when each refusal comes
abbrev pub RefusesTag : Fault → List ℕ → Type 0
RefusesTag Short octets = IsCutTag octets
RefusesTag BadTag octets = IsReservedTag octets
RefusesTag BadLength octets = IsBadTagLength octets
RefusesTag _ octets = ⊥
