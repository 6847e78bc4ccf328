-- When reading a value is refused, and why (20.2).
use Rattle.std.specs.Prelude.{◌≡◌, ℕ, ◌<◌, ◌⊎◌, List, [], ◌∷◌, length}
use Rattle.tags.specs.declared.fault.Fault.{Fault}
use Rattle.tags.specs.declared.fault.Fault.TheVariants.{Short, BadTag, BadLength}
use Rattle.tags.specs.declared.tag.Class.TheVariants.{Application}
use Rattle.tags.specs.Element.{OpenBefore, context}
use Rattle.tags.specs.Tag.{PlainTag, PlainContent, contents, opening, closing, TakesTag, RefusesTag}

-- behind an opening tag, where some opening tag still waits, no tag stands
pub record RefusesInside (fault : Fault) (octets : List ℕ) : Type 0 where
  pub rest : List ℕ
  pub reached : OpenBefore octets rest
  pub refused : RefusesTag fault rest

-- an opening tag, behind which no tag stands where some opening tag still waits
pub record RefusesOpened (fault : Fault) (octets : List ℕ) : Type 0 where
  pub number : ℕ
  pub inside : List ℕ
  pub opened : TakesTag octets (context number opening) inside
  pub refused : RefusesInside fault inside

-- the tag at the front is refused, or one within the element that it opens
abbrev pub RefusesSomeTag : Fault → List ℕ → Type 0
RefusesSomeTag fault octets = RefusesTag fault octets ⊎ RefusesOpened fault octets

-- a tag that begins no element: of the application class, or a closing tag
pub record BeginsNoElement (octets : List ℕ) : Type 0 where
  pub tag : PlainTag
  pub rest : List ℕ
  pub taken : TakesTag octets tag rest
  pub other : (tag.class ≡ Application) ⊎ (tag.content ≡ closing)

-- when each refusal of an element comes
abbrev pub RefusesElement : Fault → List ℕ → Type 0
RefusesElement fault octets = RefusesSomeTag fault octets ⊎ ((fault ≡ BadTag) × BeginsNoElement octets)

-- a closing tag, which closes nothing
pub record BeginsWithClosing (octets : List ℕ) : Type 0 where
  pub number : ℕ
  pub rest : List ℕ
  pub taken : TakesTag octets (context number closing) rest

-- no octet, or more than four: no number (20.2.4, 20.2.5, 20.2.11)
abbrev pub IsBadNumber : List ℕ → Type 0
IsBadNumber octets = (octets ≡ []) ⊎ (4 < length octets)

-- no first octet, more than seven unused bits, or some without an octet (20.2.10)
abbrev pub IsBadBits : List ℕ → Type 0
IsBadBits [] = Unit {0}
IsBadBits (unused ∷ octets) = (7 < unused) ⊎ ((octets ≡ []) × (0 < unused))

-- contents that are no Unsigned, Signed, Enumerated, Text, Bit String or Object Identifier
abbrev pub IsBadContents : ℕ → List ℕ → Type 0
IsBadContents number octets =
    (((number ≡ 2) ⊎ (number ≡ 3) ⊎ (number ≡ 9)) × IsBadNumber octets)
    ⊎ ((number ≡ 7) × (octets ≡ []))
    ⊎ ((number ≡ 8) × IsBadBits octets)
    ⊎ ((number ≡ 12) × (length octets ≡ 4 → ⊥))

-- a tag of the application class
abbrev pub application : ℕ → PlainContent → PlainTag
application number content = record { class = Application; number = number; content = content }

-- an application tag whose contents say no value
pub record HasBadContents (octets : List ℕ) : Type 0 where
  pub number : ℕ
  pub inner : List ℕ
  pub rest : List ℕ
  pub taken : TakesTag octets (application number (contents inner)) rest
  pub bad : IsBadContents number inner

-- when each refusal of a value comes
abbrev pub RefusesValue : Fault → List ℕ → Type 0
RefusesValue Short octets = RefusesSomeTag Short octets
RefusesValue BadTag octets = RefusesSomeTag BadTag octets ⊎ BeginsWithClosing octets
RefusesValue BadLength octets = RefusesSomeTag BadLength octets ⊎ HasBadContents octets
RefusesValue _ octets = ⊥
