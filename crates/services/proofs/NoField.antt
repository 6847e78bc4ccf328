-- Where a field is rejected, none stands.
use Rattle.std.proofs.Common.{◌≡◌, ℕ, List, [], ◌∷◌, length, Option, Some, None, sym, ap, subst, ◌∙◌, inl, inr, arith}
use Rattle.tags.specs.declared.object_id.ObjectId.{ObjectId}
use Rattle.tags.specs.declared.value.Value.{Value}
use Rattle.tags.specs.declared.fault.Fault.TheVariants.{Short, BadTag, BadLength}
use Rattle.tags.specs.Tag.{contents, opening}
use Rattle.tags.specs.Element.{context}
use Rattle.tags.specs.Value.{TakesValue}
use Rattle.tags.proofs.RefusalLaws.{refused_is_no_value, one_refusal}
use Rattle.tags.specs.Refusal.{RefusesValue}
use Rattle.apdu.specs.declared.numbers.RejectReason.{RejectReason}
use Rattle.apdu.specs.declared.numbers.RejectReason.TheVariants.{InvalidParameterDataType, InvalidTag, MissingRequiredParameter, TooManyArguments}
use Rattle.services.specs.Fields.{
  TakesObject,
  TakesNumber,
  TakesOption,
  TakesLast,
  TakesOpening,
  TakesClosing,
  TakesEach,
  TakesInside,
  OpensBehind,
  HasBadNumber,
  RejectsObject,
  RejectsNumber,
  RejectsOption,
  RejectsLast,
  RejectsEnd,
  RejectsOpening,
  RejectsBehind,
  option,
  opening_tag,
  RejectsValue,
  RejectsInside,
}
use Rattle.services.proofs.OneField.{one_contents, one_option, one_front_value, value_no_closing, no_tag_here}
use Rattle.tags.proofs.OneTag.{one_front_tag}

pub bad_number_not_taken : (octets : List ℕ) (k n : ℕ) (a : List ℕ) → HasBadNumber octets k → TakesNumber octets k n a → ⊥
bad_number_not_taken octets k n a h t =
    let one = one_contents octets k h.inner t.inner h.rest a h.taken t.tag in
    let same : length h.inner ≡ length t.inner = ap length one.0 in
    elim h.bad [
      | inl e ↦ let none : length h.inner ≡ 0 = ap length e in omega (arith, same, none, t.said.some)
      | inr lt ↦ omega (arith, same, lt, t.said.few)
    ]

pub object_not_taken : (reason : RejectReason) (octets : List ℕ) (k : ℕ) (o : ObjectId) (a : List ℕ) → RejectsObject reason octets k →
    TakesObject octets k o a → ⊥
object_not_taken InvalidParameterDataType octets k o a h t = let one = one_contents octets k h.inner t.inner h.rest a h.taken t.tag in
    h.bad (ap length one.0 ∙ t.said.four)
object_not_taken InvalidTag octets k o a h t = h.1.none t.inner a t.tag
object_not_taken MissingRequiredParameter octets k o a h t = no_tag_here octets (context k (contents t.inner)) a h t.tag
object_not_taken reason octets k o a h t = absurd h

pub number_not_taken : (reason : RejectReason) (octets : List ℕ) (k n : ℕ) (a : List ℕ) → RejectsNumber reason octets k → TakesNumber octets k n a → ⊥
number_not_taken InvalidParameterDataType octets k n a h t = bad_number_not_taken octets k n a h t
number_not_taken InvalidTag octets k n a h t = h.1.none t.inner a t.tag
number_not_taken MissingRequiredParameter octets k n a h t = no_tag_here octets (context k (contents t.inner)) a h t.tag
number_not_taken reason octets k n a h t = absurd h

pub bad_option : (octets : List ℕ) (k : ℕ) (n : Option ℕ) (a : List ℕ) → HasBadNumber octets k → TakesOption octets k n a → ⊥
bad_option octets k None a h t = t.0.none h.inner h.rest h.taken
bad_option octets k (Some n) a h t = bad_number_not_taken octets k n a h t

pub option_not_taken : (reason : RejectReason) (octets : List ℕ) (k : ℕ) (n : Option ℕ) (a : List ℕ) → RejectsOption reason octets k →
    TakesOption octets k n a → ⊥
option_not_taken InvalidParameterDataType octets k n a h t = bad_option octets k n a h t
option_not_taken reason octets k n a h t = absurd h

pub last_not_taken : (reason : RejectReason) (octets : List ℕ) (k : ℕ) (n : Option ℕ) (a : List ℕ) → RejectsLast reason octets k → TakesLast octets k n a → ⊥
last_not_taken InvalidParameterDataType octets k None a h t = no_tag_here octets (context k (contents h.inner)) h.rest t.0 h.taken
last_not_taken InvalidParameterDataType octets k (Some n) a h t = bad_number_not_taken octets k n a h t
last_not_taken InvalidTag octets k None a h t = let none : length octets ≡ 0 = ap length t.0 in omega (arith, none, h.0)
last_not_taken InvalidTag octets k (Some n) a h t = h.1.none t.tag.0 a (context k (contents t.inner)) t.tag.1 t.tag.2
last_not_taken TooManyArguments octets k None a h t = no_tag_here octets h.tag h.rest t.0 h.taken
last_not_taken TooManyArguments octets k (Some n) a h t =
    h.other.other t.inner (one_front_tag octets h.tag (context k (contents t.inner)) h.rest a h.taken t.tag).tag
last_not_taken reason octets k n a h t = absurd h

pub end_not_taken : (reason : RejectReason) (octets : List ℕ) → RejectsEnd reason octets → octets ≡ [] → ⊥
end_not_taken TooManyArguments octets h e = let none : length octets ≡ 0 = ap length e in omega (arith, none, h)
end_not_taken reason octets h e = absurd h

pub opening_not_taken : (reason : RejectReason) (octets : List ℕ) (k : ℕ) (a : List ℕ) → RejectsOpening reason octets k → TakesOpening octets k a → ⊥
opening_not_taken InvalidTag octets k a h t = h.1.none a t
opening_not_taken MissingRequiredParameter octets k a h t = no_tag_here octets (context k opening) a h t
opening_not_taken reason octets k a h t = absurd h

pub behind_not_taken : (reason : RejectReason) (octets : List ℕ) (k : ℕ) (n : Option ℕ) (l : ℕ) (a : List ℕ) → RejectsBehind reason octets k l →
    OpensBehind octets k n l a → ⊥
behind_not_taken reason octets k n l a (option h) t = option_not_taken reason octets k n t.at h t.option_taken
behind_not_taken reason octets k n l a (opening_tag m at u h) t =
    let one = one_option octets k m n at t.at u t.option_taken in
    opening_not_taken reason at l a h (subst (λ (z : List ℕ). TakesOpening z l a) (sym one.1) t.opened)

-- a list that is read up to where neither one more nor the end stands has no end
pub list_stuck : {X : Type 0} (Takes : List ℕ → X → List ℕ → Type 0) (Ends : List ℕ → List ℕ → Type 0)
    → ((o : List ℕ) (x y : X) (a b : List ℕ) → Takes o x a → Takes o y b → (x ≡ y) × (a ≡ b))
    → ((o : List ℕ) (x : X) (a b : List ℕ) → Takes o x a → Ends o b → ⊥)
    → (octets : List ℕ) (xs ys : List X) (at bt b : List ℕ)
    → ((x : X) (a : List ℕ) → Takes at x a → ⊥)
    → ((a : List ℕ) → Ends at a → ⊥)
    → TakesEach Takes octets xs at → TakesEach Takes octets ys bt → Ends bt b → ⊥
list_stuck Takes Ends one apart octets [] [] at bt b more ends s t f = ends b (subst (λ (z : List ℕ). Ends z b) (sym t ∙ s) f)
list_stuck Takes Ends one apart octets [] (y ∷ ys) at bt b more ends s t f = more y t.0 (subst (λ (z : List ℕ). Takes z y t.0) s t.1)
list_stuck Takes Ends one apart octets (x ∷ xs) [] at bt b more ends s t f = apart octets x s.0 b s.1 (subst (λ (z : List ℕ). Ends z b) (sym t) f)
list_stuck Takes Ends one apart octets (x ∷ xs) (y ∷ ys) at bt b more ends s t f =
    let h = one octets x y s.0 t.0 s.1 t.1 in
    list_stuck Takes Ends one apart s.0 xs ys at bt b more ends s.2 (subst (λ (z : List ℕ). TakesEach Takes z ys bt) (sym h.1) t.2) f

pub value_not_taken : {A : Type 0} (reason : RejectReason) (octets : List ℕ) (k : ℕ) (v : Value A) (a : List ℕ) → RejectsValue reason octets k →
    TakesValue octets v a → ⊥
value_not_taken {A} InvalidTag octets k v a h t =
    elim h.0 [
      | inl r ↦ (refused_is_no_value A Short octets r).none t.front a v t.spelled t.parts
      | inr r ↦ (refused_is_no_value A BadTag octets r).none
          t.front a v t.spelled t.parts
    ]
value_not_taken {A} InvalidParameterDataType octets k v a h t = (refused_is_no_value A BadLength octets h).none t.front a v t.spelled t.parts
value_not_taken reason octets k v a h t = absurd h

-- a closing tag is refused as a value for its tag, not for its length
pub closing_is_well_formed : (octets : List ℕ) (k : ℕ) (a : List ℕ) → RefusesValue BadLength octets → TakesClosing octets k a → ⊥
closing_is_well_formed octets k a h t = length_or_tag (one_refusal BadLength BadTag octets h (inr record { number = k; rest = a; taken = t }))
  where
    length_or_tag : BadLength ≡ BadTag → ⊥
    length_or_tag e = cc

pub closing_not_taken : (reason : RejectReason) (octets : List ℕ) (k : ℕ) (a : List ℕ) → RejectsValue reason octets k → TakesClosing octets k a → ⊥
closing_not_taken InvalidTag octets k a h t = h.1.none a t
closing_not_taken InvalidParameterDataType octets k a h t = closing_is_well_formed octets k a h t
closing_not_taken reason octets k a h t = absurd h

pub inside_not_taken : {A : Type 0} (reason : RejectReason) (octets : List ℕ) (k : ℕ) (vs : List (Value A)) (a : List ℕ) → RejectsInside A reason octets k →
    TakesInside octets k vs a → ⊥
inside_not_taken reason octets k vs a h t =
    list_stuck TakesValue (λ (o : List ℕ) (c : List ℕ). TakesClosing o k c) one_front_value (λ o v c d x y. value_no_closing o v k c d x y)
    octets h.values vs h.at t.at a
    (λ v c u. value_not_taken reason h.at k v c h.rejected u) (λ c u. closing_not_taken reason h.at k c h.rejected u)
    h.taken t.taken t.closed
