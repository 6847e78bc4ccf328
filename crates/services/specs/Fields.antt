-- Fields of a service body, and why one is rejected (15, 18.9, 20.2.15).
use Rattle.std.specs.Prelude.{◌≡◌, ℕ, ◌<◌, ◌⊎◌, List, [], ◌∷◌, length, Option, Some, None}
use Rattle.tags.specs.declared.object_id.ObjectId.{ObjectId}
use Rattle.tags.specs.declared.tag.Class.TheVariants.{Context}
use Rattle.tags.specs.declared.value.Value.{Value}
use Rattle.tags.specs.declared.fault.Fault.TheVariants.{Short, BadTag, BadLength}
use Rattle.tags.specs.Tag.{PlainTag, contents, opening, closing, TakesTag, NoTag}
use Rattle.tags.specs.Element.{context}
use Rattle.tags.specs.Number.{SpellsUnsigned}
use Rattle.tags.specs.Refusal.{IsBadNumber, RefusesValue}
use Rattle.tags.specs.Value.{TakesValue}
use Rattle.primitives.specs.Sound.{IsSoundPriority}
use Rattle.apdu.specs.Parameter.{IsObject, Takes}
use Rattle.apdu.specs.Parameter as parameter
use Rattle.apdu.specs.declared.numbers.RejectReason.{RejectReason}
use Rattle.apdu.specs.declared.numbers.RejectReason.TheVariants.{InvalidParameterDataType, InvalidTag}
use Rattle.apdu.specs.declared.numbers.RejectReason.TheVariants.{MissingRequiredParameter, ParameterOutOfRange}
use Rattle.apdu.specs.declared.numbers.RejectReason.TheVariants.{TooManyArguments}

-- an object identifier under the context tag of this number, and what follows (20.2.14, 20.2.15)
abbrev pub TakesObject : List ℕ → ℕ → ObjectId → List ℕ → Type 0
TakesObject octets number object rest = Takes IsObject Context number octets object rest

-- a number under the context tag of this number, and what follows (20.2.4, 20.2.11, 20.2.15)
abbrev pub TakesNumber : List ℕ → ℕ → ℕ → List ℕ → Type 0
TakesNumber octets number n rest = Takes SpellsUnsigned Context number octets n rest

-- the opening tag of this number, and what follows (20.2.1.3.2)
abbrev pub TakesOpening : List ℕ → ℕ → List ℕ → Type 0
TakesOpening octets number rest = TakesTag octets (context number opening) rest

-- the closing tag of this number, and what follows (20.2.1.3.2)
abbrev pub TakesClosing : List ℕ → ℕ → List ℕ → Type 0
TakesClosing octets number rest = TakesTag octets (context number closing) rest

-- no context tag of this number with contents stands at the front
abbrev pub NoContents : List ℕ → ℕ → Type 0
NoContents octets number = parameter.NoContents Context number octets

-- no opening tag of this number stands at the front
pub record NoOpening (octets : List ℕ) (number : ℕ) : Type 0 where
  pub none : (rest : List ℕ) → TakesOpening octets number rest → ⊥

-- no closing tag of this number stands at the front
pub record NoClosing (octets : List ℕ) (number : ℕ) : Type 0 where
  pub none : (rest : List ℕ) → TakesClosing octets number rest → ⊥

-- an optional number: where another tag stands, it is absent (20.2.15)
abbrev pub TakesOption : List ℕ → ℕ → Option ℕ → List ℕ → Type 0
TakesOption octets number None rest = NoContents octets number × (rest ≡ octets)
TakesOption octets number (Some n) rest = TakesNumber octets number n rest

-- an optional number that may stand last: where the body ends, it is absent (20.2.15)
abbrev pub TakesLast : List ℕ → ℕ → Option ℕ → List ℕ → Type 0
TakesLast octets number None rest = (octets ≡ []) × (rest ≡ [])
TakesLast octets number (Some n) rest = TakesNumber octets number n rest

-- an optional number, the opening tag of a list behind it, and what follows (20.2.15)
pub record OpensBehind (octets : List ℕ) (number : ℕ) (option : Option ℕ) (list : ℕ) (rest : List ℕ) : Type 0 where
  pub at : List ℕ
  pub option_taken : TakesOption octets number option at
  pub opened : TakesOpening at list rest

-- things of a kind one after another, and what follows
abbrev pub TakesEach : {X : Type 0} → (List ℕ → X → List ℕ → Type 0) → List ℕ → List X → List ℕ → Type 0
TakesEach Takes octets [] rest = octets ≡ rest
TakesEach Takes octets (x ∷ xs) rest = (next : List ℕ) × Takes octets x next × TakesEach Takes next xs rest

-- values up to the closing tag of this number, and what follows it (20.2.1.3.2)
pub record TakesInside {A : Type 0} (octets : List ℕ) (number : ℕ) (vs : List (Value A)) (rest : List ℕ) : Type 0 where
  pub at : List ℕ
  pub taken : TakesEach TakesValue octets vs at
  pub closed : TakesClosing at number rest

-- contents under this tag that are no object identifier (20.2.14)
pub record HasBadObject (octets : List ℕ) (number : ℕ) : Type 0 where
  pub inner : List ℕ
  pub rest : List ℕ
  pub taken : TakesTag octets (context number (contents inner)) rest
  pub bad : length inner ≡ 4 → ⊥

-- contents under this tag that are no number of one to four octets (20.2.4)
pub record HasBadNumber (octets : List ℕ) (number : ℕ) : Type 0 where
  pub inner : List ℕ
  pub rest : List ℕ
  pub taken : TakesTag octets (context number (contents inner)) rest
  pub bad : IsBadNumber inner

-- a tag other than the context tag of this number with contents
abbrev pub IsOtherTag : PlainTag → ℕ → Type 0
IsOtherTag t number = parameter.CarriesOther Context number t

-- a tag stands at the front, and it is another one
pub record HasOtherTag (octets : List ℕ) (number : ℕ) : Type 0 where
  pub tag : PlainTag
  pub rest : List ℕ
  pub taken : TakesTag octets tag rest
  pub other : IsOtherTag tag number

-- why there is no tag where one must stand: the body ends, or the tag is cut or reserved (18.9)
abbrev pub RejectsTag : RejectReason → List ℕ → Type 0
RejectsTag MissingRequiredParameter octets = octets ≡ []
RejectsTag InvalidTag octets = (0 < length octets) × NoTag octets
RejectsTag reason octets = ⊥

-- why there are no contents where they must stand: the body ends, or no tag or another one stands there (18.9)
abbrev pub RejectsContents : RejectReason → List ℕ → ℕ → Type 0
RejectsContents MissingRequiredParameter octets number = octets ≡ []
RejectsContents InvalidTag octets number = (0 < length octets) × NoContents octets number
RejectsContents reason octets number = ⊥

-- why a required object identifier is rejected: the same, or for its contents (18.9)
abbrev pub RejectsObject : RejectReason → List ℕ → ℕ → Type 0
RejectsObject InvalidParameterDataType octets number = HasBadObject octets number
RejectsObject reason octets number = RejectsContents reason octets number

-- why a required number is rejected (18.9)
abbrev pub RejectsNumber : RejectReason → List ℕ → ℕ → Type 0
RejectsNumber InvalidParameterDataType octets number = HasBadNumber octets number
RejectsNumber reason octets number = RejectsContents reason octets number

-- why an optional number is rejected: for its contents alone (18.9)
abbrev pub RejectsOption : RejectReason → List ℕ → ℕ → Type 0
RejectsOption InvalidParameterDataType octets number = HasBadNumber octets number
RejectsOption reason octets number = ⊥

-- why an optional number that may stand last is rejected: another whole tag is one argument too many (18.9)
abbrev pub RejectsLast : RejectReason → List ℕ → ℕ → Type 0
RejectsLast InvalidParameterDataType octets number = HasBadNumber octets number
RejectsLast InvalidTag octets number = (0 < length octets) × NoTag octets
RejectsLast TooManyArguments octets number = HasOtherTag octets number
RejectsLast reason octets number = ⊥

-- why the end of a body is rejected: octets stand there (18.9)
abbrev pub RejectsEnd : RejectReason → List ℕ → Type 0
RejectsEnd TooManyArguments octets = 0 < length octets
RejectsEnd reason octets = ⊥

-- why there is no opening tag where it must stand (18.9)
abbrev pub RejectsOpening : RejectReason → List ℕ → ℕ → Type 0
RejectsOpening MissingRequiredParameter octets number = octets ≡ []
RejectsOpening InvalidTag octets number = (0 < length octets) × NoOpening octets number
RejectsOpening reason octets number = ⊥

-- why an optional number and the opening tag of a list behind it are rejected (18.9)
pub data RejectsBehind (reason : RejectReason) (octets : List ℕ) (number list : ℕ) : Type 0 where
  option : RejectsOption reason octets number → RejectsBehind reason octets number list
  opening_tag : (n : Option ℕ) (at : List ℕ) → TakesOption octets number n at → RejectsOpening reason at list →
      RejectsBehind reason octets number list

-- why neither a value nor the closing tag of their list stands there (18.9): a tag is cut, by the
-- body's end too, or reserved, or closes another list; or the contents are no value of their tag
abbrev pub RejectsValue : RejectReason → List ℕ → ℕ → Type 0
RejectsValue InvalidTag octets number = (RefusesValue Short octets ⊎ RefusesValue BadTag octets) ×
    NoClosing octets number
RejectsValue InvalidParameterDataType octets number = RefusesValue BadLength octets
RejectsValue reason octets number = ⊥

-- why values behind an opening tag are rejected: behind some of them, one is (18.9)
pub record RejectsInside (A : Type 0) (reason : RejectReason) (octets : List ℕ) (number : ℕ) : Type 0 where
  pub values : List (Value A)
  pub at : List ℕ
  pub taken : TakesEach TakesValue octets values at
  pub rejected : RejectsValue reason at number

-- a priority out of its range (15.9.1.1.5, 18.9)
pub record RejectsRange (reason : RejectReason) (priority : Option ℕ) : Type 0 where
  pub is : reason ≡ ParameterOutOfRange
  pub bad : IsSoundPriority priority → ⊥
