-- When an APDU is refused, and for what.
use Rattle.std.specs.Prelude.{◌≡◌, ℕ, ◌+◌, ◌/◌, ◌<◌, ◌⊎◌, List, [], ◌∷◌, length}
use Rattle.tags.specs.declared.fault.Fault.{Fault}
use Rattle.tags.specs.declared.fault.Fault.TheVariants.{Short, BadTag, BadLength}
use Rattle.apdu.specs.PduType.{type_number, header_length, IsWholeHeader}
use Rattle.apdu.specs.ServiceError.{NoError}
use Rattle.apdu.specs.declared.pdu_type.PduType.{PduType}
use Rattle.apdu.specs.declared.pdu_type.PduType.TheVariants as kind

-- behind an Error's header stands no error of its service (20.1.7)
pub record HasNoError (k : PduType) (rest : List ℕ) : Type 0 where
  pub is : k ≡ kind.Error
  pub invoke : ℕ
  pub service : ℕ
  pub contents : List ℕ
  pub parts : rest ≡ invoke ∷ (service ∷ contents)
  pub none : NoError service contents

-- what each refusal stands for, behind the first octet: a header that is cut, an Error without its error, octets left
-- over
abbrev pub RefusesBehind : Fault → PduType → ℕ → List ℕ → Type 0
RefusesBehind Short k first rest = 1 + length rest < header_length k first
RefusesBehind BadTag k first rest = HasNoError k rest
RefusesBehind BadLength k first rest = IsWholeHeader k × (header_length k first < 1 + length rest)
RefusesBehind _ k first rest = ⊥

-- the first octet has a type, and what stands behind it is refused
pub record IsRefused (fault : Fault) (octets : List ℕ) : Type 0 where
  pub kind : PduType
  pub first : ℕ
  pub rest : List ℕ
  pub front : octets ≡ first ∷ rest
  pub type_is : first / 16 ≡ type_number kind
  pub cause : RefusesBehind fault kind first rest

-- no APDU has this type (20.1)
pub record IsUnknown (octets : List ℕ) : Type 0 where
  pub first : ℕ
  pub rest : List ℕ
  pub front : octets ≡ first ∷ rest
  pub unknown : 7 < first / 16

-- what each refusal stands for
abbrev pub Refuses : Fault → List ℕ → Type 0
Refuses Short octets = (octets ≡ []) ⊎ IsRefused Short octets
Refuses BadTag octets = IsUnknown octets ⊎ IsRefused BadTag octets
Refuses BadLength octets = IsRefused BadLength octets
Refuses _ octets = ⊥
