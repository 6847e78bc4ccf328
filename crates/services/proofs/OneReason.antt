-- A body is rejected for one reason.
use Rattle.std.proofs.Common.{◌≡◌, ◌≢◌, ◌⊎◌, ℕ, ◌<◌, List, [], ◌∷◌, length, Option, refl, sym, ap, subst, ◌∙◌, inl, inr, arith}
use Rattle.tags.specs.declared.value.Value.{Value}
use Rattle.tags.specs.declared.fault.Fault.TheVariants.{Short, BadTag, BadLength}
use Rattle.tags.specs.Tag.{contents, TakesTag}
use Rattle.tags.specs.Element.{context}
use Rattle.tags.specs.Refusal.{RefusesValue}
use Rattle.tags.specs.Value.{TakesValue}
use Rattle.tags.proofs.RefusalLaws.{one_refusal}
use Rattle.tags.proofs.OneTag.{one_front_tag}
use Rattle.primitives.specs.declared.plain_data.ObjectRefs.{ObjectRefs}
use Rattle.primitives.specs.declared.plain_data.PropertyReference.{PropertyReference}
use Rattle.primitives.specs.declared.plain_data.ObjectWrites.{ObjectWrites}
use Rattle.primitives.specs.declared.plain_data.PropertyWrite.{PropertyWrite}
use Rattle.primitives.specs.Sound.{IsSoundPriority}
use Rattle.apdu.specs.declared.numbers.RejectReason.{RejectReason}
use Rattle.apdu.specs.declared.numbers.RejectReason.TheVariants.{InvalidParameterDataType, InvalidTag, MissingRequiredParameter, TooManyArguments}
use Rattle.apdu.specs.declared.numbers.ConfirmedService.TheVariants.{ReadProperty, ReadPropertyMultiple, WriteProperty, WritePropertyMultiple}
use Rattle.services.specs.Fields.{TakesNumber, TakesOption, TakesLast, TakesEach, TakesInside, OpensBehind, HasBadNumber, RejectsObject, RejectsNumber}
use Rattle.services.specs.Fields.{RejectsOption, RejectsLast, RejectsEnd, RejectsOpening, RejectsBehind, option, opening_tag, RejectsValue, RejectsInside}
use Rattle.services.specs.Requests.{RejectsProperty, at_object, at_property, RejectsReadProperty, at_index, at_end, RejectsWrite, at_values, RejectsTail}
use Rattle.services.specs.Requests.{at_priority, at_range, RejectsWriteProperty, at_write, at_tail}
use Rattle.services.specs.Multiple as m
use Rattle.services.specs.Multiple.{
  HasClosing,
  OpensList,
  RejectsList,
  RejectsFirst,
  RejectsNext,
  TakesReference,
  RejectsReferences,
  TakesRefs,
  RejectsRefs,
  RejectsReadMultiple,
  TakesPropertyWrite,
  RejectsBehindProperty,
  RejectsWriteList,
  TakesWrites,
  RejectsWrites,
  RejectsWriteMultiple,
}
use Rattle.services.specs.Request.{RejectsRequest, unknown, read, read_many, write, write_many}
use Rattle.services.proofs.OneField.{one_object, one_number, one_option, one_last, one_behind, one_property, one_inside, one_front_value, contents_no_closing}
use Rattle.services.proofs.OneField.{no_tag_here}
use Rattle.services.proofs.NoField.{object_not_taken, option_not_taken, last_not_taken, behind_not_taken, inside_not_taken, value_not_taken}
use Rattle.services.proofs.NoRequest.{property_not_taken, write_not_taken, list_not_opened, first_not_taken, next_not_taken, refs_not_taken}
use Rattle.services.proofs.NoRequest.{behind_property_not_taken, writes_not_taken}
use Rattle.services.proofs.OneRequest.{one_write, one_opened, one_reference, one_refs, one_property_write, one_writes}

-- ---- fields

nothing_here : (octets : List ℕ) → octets ≡ [] → 0 < length octets → ⊥
nothing_here octets e lt = let none : length octets ≡ 0 = ap length e in omega (arith, none, lt)

bad_here : (octets : List ℕ) (k : ℕ) (inner rest : List ℕ) → octets ≡ [] → TakesTag octets (context k (contents inner)) rest → ⊥
bad_here octets k inner rest e t = no_tag_here octets (context k (contents inner)) rest e t

object_reason : (r q : RejectReason) (octets : List ℕ) (k : ℕ) → RejectsObject r octets k → RejectsObject q octets k → r ≡ q
object_reason InvalidParameterDataType InvalidParameterDataType octets k h g = refl
object_reason InvalidParameterDataType InvalidTag octets k h g = absurd (g.1.none h.inner h.rest h.taken)
object_reason InvalidParameterDataType MissingRequiredParameter octets k h g = absurd (bad_here octets k h.inner h.rest g h.taken)
object_reason InvalidTag InvalidParameterDataType octets k h g = absurd (h.1.none g.inner g.rest g.taken)
object_reason InvalidTag InvalidTag octets k h g = refl
object_reason InvalidTag MissingRequiredParameter octets k h g = absurd (nothing_here octets g h.0)
object_reason MissingRequiredParameter InvalidParameterDataType octets k h g = absurd (bad_here octets k g.inner g.rest h g.taken)
object_reason MissingRequiredParameter InvalidTag octets k h g = absurd (nothing_here octets h g.0)
object_reason MissingRequiredParameter MissingRequiredParameter octets k h g = refl
object_reason InvalidParameterDataType q octets k h g = absurd g
object_reason InvalidTag q octets k h g = absurd g
object_reason MissingRequiredParameter q octets k h g = absurd g
object_reason r q octets k h g = absurd h

number_reason : (r q : RejectReason) (octets : List ℕ) (k : ℕ) → RejectsNumber r octets k → RejectsNumber q octets k → r ≡ q
number_reason InvalidParameterDataType InvalidParameterDataType octets k h g = refl
number_reason InvalidParameterDataType InvalidTag octets k h g = absurd (g.1.none h.inner h.rest h.taken)
number_reason InvalidParameterDataType MissingRequiredParameter octets k h g = absurd (bad_here octets k h.inner h.rest g h.taken)
number_reason InvalidTag InvalidParameterDataType octets k h g = absurd (h.1.none g.inner g.rest g.taken)
number_reason InvalidTag InvalidTag octets k h g = refl
number_reason InvalidTag MissingRequiredParameter octets k h g = absurd (nothing_here octets g h.0)
number_reason MissingRequiredParameter InvalidParameterDataType octets k h g = absurd (bad_here octets k g.inner g.rest h g.taken)
number_reason MissingRequiredParameter InvalidTag octets k h g = absurd (nothing_here octets h g.0)
number_reason MissingRequiredParameter MissingRequiredParameter octets k h g = refl
number_reason InvalidParameterDataType q octets k h g = absurd g
number_reason InvalidTag q octets k h g = absurd g
number_reason MissingRequiredParameter q octets k h g = absurd g
number_reason r q octets k h g = absurd h

option_reason : (r q : RejectReason) (a b : List ℕ) (k : ℕ) → RejectsOption r a k → RejectsOption q b k → r ≡ q
option_reason InvalidParameterDataType InvalidParameterDataType a b k h g = refl
option_reason InvalidParameterDataType q a b k h g = absurd g
option_reason r q a b k h g = absurd h

end_reason : (r q : RejectReason) (a b : List ℕ) → RejectsEnd r a → RejectsEnd q b → r ≡ q
end_reason TooManyArguments TooManyArguments a b h g = refl
end_reason TooManyArguments q a b h g = absurd g
end_reason r q a b h g = absurd h

last_reason : (r q : RejectReason) (octets : List ℕ) (k : ℕ) → RejectsLast r octets k → RejectsLast q octets k → r ≡ q
last_reason InvalidParameterDataType InvalidParameterDataType octets k h g = refl
last_reason InvalidParameterDataType InvalidTag octets k h g = absurd (g.1.none h.taken.0 h.rest (context k (contents h.inner)) h.taken.1 h.taken.2)
last_reason InvalidParameterDataType TooManyArguments octets k h g =
    absurd (g.other.other h.inner (one_front_tag octets g.tag (context k (contents h.inner)) g.rest h.rest g.taken h.taken).tag)
last_reason InvalidTag InvalidParameterDataType octets k h g = absurd (h.1.none g.taken.0 g.rest (context k (contents g.inner)) g.taken.1 g.taken.2)
last_reason InvalidTag InvalidTag octets k h g = refl
last_reason InvalidTag TooManyArguments octets k h g = absurd (h.1.none g.taken.0 g.rest g.tag g.taken.1 g.taken.2)
last_reason TooManyArguments InvalidParameterDataType octets k h g =
    absurd (h.other.other g.inner (one_front_tag octets h.tag (context k (contents g.inner)) h.rest g.rest h.taken g.taken).tag)
last_reason TooManyArguments InvalidTag octets k h g = absurd (g.1.none h.taken.0 h.rest h.tag h.taken.1 h.taken.2)
last_reason TooManyArguments TooManyArguments octets k h g = refl
last_reason InvalidParameterDataType q octets k h g = absurd g
last_reason InvalidTag q octets k h g = absurd g
last_reason TooManyArguments q octets k h g = absurd g
last_reason r q octets k h g = absurd h

opening_reason : (r q : RejectReason) (octets : List ℕ) (k : ℕ) → RejectsOpening r octets k → RejectsOpening q octets k → r ≡ q
opening_reason InvalidTag InvalidTag octets k h g = refl
opening_reason InvalidTag MissingRequiredParameter octets k h g = absurd (nothing_here octets g h.0)
opening_reason MissingRequiredParameter InvalidTag octets k h g = absurd (nothing_here octets h g.0)
opening_reason MissingRequiredParameter MissingRequiredParameter octets k h g = refl
opening_reason InvalidTag q octets k h g = absurd g
opening_reason MissingRequiredParameter q octets k h g = absurd g
opening_reason r q octets k h g = absurd h

behind_reason : (r q : RejectReason) (octets : List ℕ) (k l : ℕ) → RejectsBehind r octets k l → RejectsBehind q octets k l → r ≡ q
behind_reason r q octets k l (option h) (option g) = option_reason r q octets octets k h g
behind_reason r q octets k l (option h) (opening_tag n at u g) = absurd (option_not_taken r octets k n at h u)
behind_reason r q octets k l (opening_tag n at u h) (option g) = absurd (option_not_taken q octets k n at g u)
behind_reason r q octets k l (opening_tag n at u h) (opening_tag o bt v g) =
    let one = one_option octets k n o at bt u v in
    opening_reason r q at l h (subst (λ (z : List ℕ). RejectsOpening q z l) (sym one.1) g)

length_or_short : BadLength ≡ Short → ⊥
length_or_short e = cc

length_or_tag : BadLength ≡ BadTag → ⊥
length_or_tag e = cc

not_both : (octets : List ℕ) → RefusesValue BadLength octets → RefusesValue Short octets ⊎ RefusesValue BadTag octets → ⊥
not_both octets h (inl g) = length_or_short (one_refusal BadLength Short octets h g)
not_both octets h (inr g) = length_or_tag (one_refusal BadLength BadTag octets h g)

value_reason : (r q : RejectReason) (octets : List ℕ) (k : ℕ) → RejectsValue r octets k → RejectsValue q octets k → r ≡ q
value_reason InvalidTag InvalidTag octets k h g = refl
value_reason InvalidTag InvalidParameterDataType octets k h g = absurd (not_both octets g h.0)
value_reason InvalidParameterDataType InvalidTag octets k h g = absurd (not_both octets h g.0)
value_reason InvalidParameterDataType InvalidParameterDataType octets k h g = refl
value_reason InvalidTag q octets k h g = absurd g
value_reason InvalidParameterDataType q octets k h g = absurd g
value_reason r q octets k h g = absurd h

-- a list is read up to one place where no more stands
one_place : {X : Type 0} (Takes : List ℕ → X → List ℕ → Type 0)
    → ((o : List ℕ) (x y : X) (a b : List ℕ) → Takes o x a → Takes o y b → (x ≡ y) × (a ≡ b))
    → (octets : List ℕ) (xs ys : List X) (at bt : List ℕ)
    → ((x : X) (a : List ℕ) → Takes at x a → ⊥) → ((x : X) (a : List ℕ) → Takes bt x a → ⊥)
    → TakesEach Takes octets xs at → TakesEach Takes octets ys bt → at ≡ bt
one_place Takes one octets [] [] at bt p q s t = sym s ∙ t
one_place Takes one octets [] (y ∷ ys) at bt p q s t = absurd (p y t.0 (subst (λ (z : List ℕ). Takes z y t.0) s t.1))
one_place Takes one octets (x ∷ xs) [] at bt p q s t = absurd (q x s.0 (subst (λ (z : List ℕ). Takes z x s.0) t s.1))
one_place Takes one octets (x ∷ xs) (y ∷ ys) at bt p q s t =
    let h = one octets x y s.0 t.0 s.1 t.1 in
    one_place Takes one s.0 xs ys at bt p q s.2 (subst (λ (z : List ℕ). TakesEach Takes z ys bt) (sym h.1) t.2)

inside_reason : {A : Type 0} (r q : RejectReason) (octets : List ℕ) (k : ℕ) → RejectsInside A r octets k → RejectsInside A q octets k → r ≡ q
inside_reason {A} r q octets k h g =
    let e = one_place (λ (o : List ℕ) (v : Value A) (a : List ℕ). TakesValue o v a) one_front_value octets h.values g.values h.at g.at
    (λ v a u. value_not_taken r h.at k v a h.rejected u) (λ v a u. value_not_taken q g.at k v a g.rejected u) h.taken g.taken in
    value_reason r q h.at k h.rejected (subst (λ (z : List ℕ). RejectsValue q z k) (sym e) g.rejected)

-- ---- ReadProperty and WriteProperty

property_reason : (r q : RejectReason) (octets : List ℕ) → RejectsProperty r octets → RejectsProperty q octets → r ≡ q
property_reason r q octets (at_object h) (at_object g) = object_reason r q octets 0 h g
property_reason r q octets (at_object h) (at_property o at u g) = absurd (object_not_taken r octets 0 o at h u)
property_reason r q octets (at_property o at u h) (at_object g) = absurd (object_not_taken q octets 0 o at g u)
property_reason r q octets (at_property o at u h) (at_property p bt v g) =
    number_reason r q at 1 h (subst (λ (z : List ℕ). RejectsNumber q z 1) (sym (one_object octets 0 o p at bt u v).1) g)

read_reason : (r q : RejectReason) (body : List ℕ) → RejectsReadProperty r body → RejectsReadProperty q body → r ≡ q
read_reason r q body (at_property h) (at_property g) = property_reason r q body h g
read_reason r q body (at_property h) (at_index o p at u g) = absurd (property_not_taken r body o p at h u)
read_reason r q body (at_property h) (at_end o p i at rest u l g) = absurd (property_not_taken r body o p at h u)
read_reason r q body (at_index o p at u h) (at_property g) = absurd (property_not_taken q body o p at g u)
read_reason r q body (at_end o p i at rest u l h) (at_property g) = absurd (property_not_taken q body o p at g u)
read_reason r q body (at_index o p at u h) (at_index n k bt v g) =
    last_reason r q at 2 h (subst (λ (z : List ℕ). RejectsLast q z 2) (sym (one_property body o n p k at bt u v).2) g)
read_reason r q body (at_index o p at u h) (at_end n k i bt rest v l g) =
    absurd (last_not_taken r at 2 i rest h (subst (λ (z : List ℕ). TakesLast z 2 i rest) (sym (one_property body o n p k at bt u v).2) l))
read_reason r q body (at_end n k i bt rest v l h) (at_index o p at u g) =
    absurd (last_not_taken q at 2 i rest g (subst (λ (z : List ℕ). TakesLast z 2 i rest) (sym (one_property body o n p k at bt u v).2) l))
read_reason r q body (at_end o p i at rest u l h) (at_end n k j bt more v w g) = end_reason r q rest more h g

write_reason : {A : Type 0} (r q : RejectReason) (octets : List ℕ) → RejectsWrite A r octets → RejectsWrite A q octets → r ≡ q
write_reason r q octets (at_property h) (at_property g) = property_reason r q octets h g
write_reason r q octets (at_property h) (at_index o p at u g) = absurd (property_not_taken r octets o p at h u)
write_reason r q octets (at_property h) (at_values o p i at inside u l g) = absurd (property_not_taken r octets o p at h u)
write_reason r q octets (at_index o p at u h) (at_property g) = absurd (property_not_taken q octets o p at g u)
write_reason r q octets (at_values o p i at inside u l h) (at_property g) = absurd (property_not_taken q octets o p at g u)
write_reason r q octets (at_index o p at u h) (at_index n k bt v g) =
    behind_reason r q at 2 3 h (subst (λ (z : List ℕ). RejectsBehind q z 2 3) (sym (one_property octets o n p k at bt u v).2) g)
write_reason r q octets (at_index o p at u h) (at_values n k i bt inside v l g) =
    absurd (behind_not_taken r at 2 i 3 inside h (subst (λ (z : List ℕ). OpensBehind z 2 i 3 inside) (sym (one_property octets o n p k at bt u v).2) l))
write_reason r q octets (at_values n k i bt inside v l h) (at_index o p at u g) =
    absurd (behind_not_taken q at 2 i 3 inside g (subst (λ (z : List ℕ). OpensBehind z 2 i 3 inside) (sym (one_property octets o n p k at bt u v).2) l))
write_reason {A} r q octets (at_values o p i at inside u l h) (at_values n k j bt other v w g) =
    let one = one_property octets o n p k at bt u v in
    let two = one_behind at 2 i j 3 inside other l (subst (λ (z : List ℕ). OpensBehind z 2 j 3 other) (sym one.2) w) in
    inside_reason r q inside 3 h (subst (λ (z : List ℕ). RejectsInside A q z 3) (sym two.1) g)

tail_reason : (r q : RejectReason) (octets : List ℕ) → RejectsTail r octets → RejectsTail q octets → r ≡ q
tail_reason r q octets (at_priority h) (at_priority g) = last_reason r q octets 4 h g
tail_reason r q octets (at_priority h) (at_range n rest l g) = absurd (last_not_taken r octets 4 n rest h l)
tail_reason r q octets (at_priority h) (at_end n rest l s g) = absurd (last_not_taken r octets 4 n rest h l)
tail_reason r q octets (at_range n rest l h) (at_priority g) = absurd (last_not_taken q octets 4 n rest g l)
tail_reason r q octets (at_end n rest l s h) (at_priority g) = absurd (last_not_taken q octets 4 n rest g l)
tail_reason r q octets (at_range n rest l h) (at_range k more w g) = h.is ∙ sym g.is
tail_reason r q octets (at_range n rest l h) (at_end k more w s g) =
    absurd (h.bad (subst (λ (z : Option ℕ). IsSoundPriority z) (sym (one_last octets 4 n k rest more l w).0) s))
tail_reason r q octets (at_end k more w s h) (at_range n rest l g) =
    absurd (g.bad (subst (λ (z : Option ℕ). IsSoundPriority z) (sym (one_last octets 4 n k rest more l w).0) s))
tail_reason r q octets (at_end n rest l s h) (at_end k more w t g) = end_reason r q rest more h g

write_property_reason : {A : Type 0} (r q : RejectReason) (body : List ℕ) → RejectsWriteProperty A r body → RejectsWriteProperty A q body → r ≡ q
write_property_reason r q body (at_write h) (at_write g) = write_reason r q body h g
write_property_reason r q body (at_write h) (at_tail o p i vs at u g) = absurd (write_not_taken r body o p i vs at h u)
write_property_reason r q body (at_tail o p i vs at u h) (at_write g) = absurd (write_not_taken q body o p i vs at g u)
write_property_reason r q body (at_tail o p i vs at u h) (at_tail n k j ws bt v g) =
    tail_reason r q at h (subst (λ (z : List ℕ). RejectsTail q z) (sym (one_write body o n p k i j vs ws at bt u v).rest) g)

-- ---- lists of properties

list_reason : (r q : RejectReason) (octets : List ℕ) → RejectsList r octets → RejectsList q octets → r ≡ q
list_reason r q octets (m.at_object h) (m.at_object g) = object_reason r q octets 0 h g
list_reason r q octets (m.at_object h) (m.at_opening o at u g) = absurd (object_not_taken r octets 0 o at h u)
list_reason r q octets (m.at_opening o at u h) (m.at_object g) = absurd (object_not_taken q octets 0 o at g u)
list_reason r q octets (m.at_opening o at u h) (m.at_opening p bt v g) =
    opening_reason r q at 1 h (subst (λ (z : List ℕ). RejectsOpening q z 1) (sym (one_object octets 0 o p at bt u v).1) g)

ends_no_tag : (octets : List ℕ) → (octets ≡ []) ⊎ HasClosing octets → RejectsFirst InvalidTag octets → ⊥
ends_no_tag octets (inl e) g = nothing_here octets e g.0
ends_no_tag octets (inr c) g = g.1.none c.rest c.taken

ends_no_number : (octets : List ℕ) → (octets ≡ []) ⊎ HasClosing octets → HasBadNumber octets 0 → ⊥
ends_no_number octets (inl e) g = bad_here octets 0 g.inner g.rest e g.taken
ends_no_number octets (inr c) g = contents_no_closing octets 0 1 g.inner g.rest c.rest g.taken c.taken

first_reason : (r q : RejectReason) (octets : List ℕ) → RejectsFirst r octets → RejectsFirst q octets → r ≡ q
first_reason MissingRequiredParameter MissingRequiredParameter octets h g = refl
first_reason MissingRequiredParameter InvalidTag octets h g = absurd (ends_no_tag octets h g)
first_reason MissingRequiredParameter InvalidParameterDataType octets h g = absurd (ends_no_number octets h g)
first_reason InvalidTag MissingRequiredParameter octets h g = absurd (ends_no_tag octets g h)
first_reason InvalidTag InvalidTag octets h g = refl
first_reason InvalidTag InvalidParameterDataType octets h g = absurd (h.2.none g.inner g.rest g.taken)
first_reason InvalidParameterDataType MissingRequiredParameter octets h g = absurd (ends_no_number octets g h)
first_reason InvalidParameterDataType InvalidTag octets h g = absurd (g.2.none h.inner h.rest h.taken)
first_reason InvalidParameterDataType InvalidParameterDataType octets h g = refl
first_reason MissingRequiredParameter q octets h g = absurd g
first_reason InvalidTag q octets h g = absurd g
first_reason InvalidParameterDataType q octets h g = absurd g
first_reason r q octets h g = absurd h

next_reason : (r q : RejectReason) (octets : List ℕ) → RejectsNext r octets → RejectsNext q octets → r ≡ q
next_reason InvalidTag InvalidTag octets h g = refl
next_reason InvalidTag InvalidParameterDataType octets h g = absurd (h.1.none g.inner g.rest g.taken)
next_reason InvalidParameterDataType InvalidTag octets h g = absurd (g.1.none h.inner h.rest h.taken)
next_reason InvalidParameterDataType InvalidParameterDataType octets h g = refl
next_reason InvalidTag q octets h g = absurd g
next_reason InvalidParameterDataType q octets h g = absurd g
next_reason r q octets h g = absurd h

first_before : (r : RejectReason) (inside : List ℕ) (rs : List PropertyReference) (at : List ℕ) → RejectsFirst r inside → rs ≢ [] →
    TakesEach TakesReference inside rs at → ⊥
first_before r inside [] at h some s = some refl
first_before r inside (x ∷ rs) at h some s = first_not_taken r inside x.property s.1.behind_property h s.1.property_taken

first_no_property : (r : RejectReason) (inside : List ℕ) (rs : List PropertyReference) (at : List ℕ) (p : ℕ) (behind : List ℕ) → RejectsFirst r inside →
    TakesEach TakesReference inside rs at → TakesNumber at 0 p behind → ⊥
first_no_property r inside [] at p behind h s u = first_not_taken r inside p behind h (subst (λ (z : List ℕ). TakesNumber z 0 p behind) (sym s) u)
first_no_property r inside (x ∷ rs) at p behind h s u = first_not_taken r inside x.property s.1.behind_property h s.1.property_taken

no_next : (r : RejectReason) (at : List ℕ) → RejectsNext r at → (x : PropertyReference) (a : List ℕ) → TakesReference at x a → ⊥
no_next r at h x a u = next_not_taken r at x.property u.behind_property h u.property_taken

no_reference : (r : RejectReason) (at : List ℕ) (p : ℕ) (behind : List ℕ) → TakesNumber at 0 p behind → RejectsOption r behind 1 →
    (x : PropertyReference) (a : List ℕ) → TakesReference at x a → ⊥
no_reference r at p behind u h x a v =
    option_not_taken r behind 1 x.index a h (subst (λ (z : List ℕ). TakesOption z 1 x.index a)
    (sym (one_number at 0 p x.property behind v.behind_property u v.property_taken).1) v.index_taken)

first_before_write : {A : Type 0} (r : RejectReason) (inside : List ℕ) (ws : List (PropertyWrite A)) (at : List ℕ) → RejectsFirst r inside → ws ≢ [] →
    TakesEach TakesPropertyWrite inside ws at → ⊥
first_before_write r inside [] at h some s = some refl
first_before_write r inside (x ∷ ws) at h some s = first_not_taken r inside x.property s.1.behind_property h s.1.property_taken

first_no_write : {A : Type 0} (r : RejectReason) (inside : List ℕ) (ws : List (PropertyWrite A)) (at : List ℕ) (p : ℕ) (behind : List ℕ) →
    RejectsFirst r inside → TakesEach TakesPropertyWrite inside ws at → TakesNumber at 0 p behind → ⊥
first_no_write r inside [] at p behind h s u = first_not_taken r inside p behind h (subst (λ (z : List ℕ). TakesNumber z 0 p behind) (sym s) u)
first_no_write r inside (x ∷ ws) at p behind h s u = first_not_taken r inside x.property s.1.behind_property h s.1.property_taken

no_next_write : {A : Type 0} (r : RejectReason) (at : List ℕ) → RejectsNext r at → (x : PropertyWrite A) (a : List ℕ) → TakesPropertyWrite at x a → ⊥
no_next_write r at h x a u = next_not_taken r at x.property u.behind_property h u.property_taken

no_write : {A : Type 0} (r : RejectReason) (at : List ℕ) (p : ℕ) (behind : List ℕ) → TakesNumber at 0 p behind → RejectsBehindProperty A r behind →
    (x : PropertyWrite A) (a : List ℕ) → TakesPropertyWrite at x a → ⊥
no_write r at p behind u h x a v =
    let one = one_number at 0 p x.property behind v.behind_property u v.property_taken in
    behind_property_not_taken r behind x v.inside v.behind_values a h (subst (λ (z : List ℕ). OpensBehind z 1 x.index 2 v.inside) (sym one.1) v.opened)
    v.values_taken v.priority_taken v.in_range

same_values : {A : Type 0} (behind : List ℕ) (i j : Option ℕ) (c d : List ℕ) (vs ws : List (Value A)) (at bt : List ℕ) → OpensBehind behind 1 i 2 c →
    OpensBehind behind 1 j 2 d → TakesInside c 2 vs at → TakesInside d 2 ws bt → at ≡ bt
same_values behind i j c d vs ws at bt l w u v =
    (one_inside c 2 vs ws at bt u (subst (λ (z : List ℕ). TakesInside z 2 ws bt) (sym (one_behind behind 1 i j 2 c d l w).1) v)).1

values_before : {A : Type 0} (r : RejectReason) (behind : List ℕ) (i j : Option ℕ) (c d : List ℕ) (vs : List (Value A)) (at : List ℕ) →
    OpensBehind behind 1 i 2 c → OpensBehind behind 1 j 2 d → RejectsInside A r c 2 → TakesInside d 2 vs at → ⊥
values_before r behind i j c d vs at l w h u =
    inside_not_taken r c 2 vs at h (subst (λ (z : List ℕ). TakesInside z 2 vs at) (sym (one_behind behind 1 i j 2 c d l w).1) u)

references_reason : (r q : RejectReason) (inside : List ℕ) → RejectsReferences r inside → RejectsReferences q inside → r ≡ q
references_reason r q inside (m.at_first h) (m.at_first g) = first_reason r q inside h g
references_reason r q inside (m.at_first h) (m.at_next rs at some s g) = absurd (first_before r inside rs at h some s)
references_reason r q inside (m.at_first h) (m.at_index rs at p behind s u g) = absurd (first_no_property r inside rs at p behind h s u)
references_reason r q inside (m.at_next rs at some s h) (m.at_first g) = absurd (first_before q inside rs at g some s)
references_reason r q inside (m.at_index rs at p behind s u h) (m.at_first g) = absurd (first_no_property q inside rs at p behind g s u)
references_reason r q inside (m.at_next rs at some s h) (m.at_next qs bt more t g) =
    let e = one_place TakesReference one_reference inside rs qs at bt (no_next r at h) (no_next q bt g) s t in
    next_reason r q at h (subst (λ (z : List ℕ). RejectsNext q z) (sym e) g)
references_reason r q inside (m.at_next rs at some s h) (m.at_index qs bt p behind t u g) =
    let e = one_place TakesReference one_reference inside rs qs at bt (no_next r at h) (no_reference q bt p behind u g) s t in
    absurd (next_not_taken r at p behind h (subst (λ (z : List ℕ). TakesNumber z 0 p behind) (sym e) u))
references_reason r q inside (m.at_index qs bt p behind t u h) (m.at_next rs at some s g) =
    let e = one_place TakesReference one_reference inside rs qs at bt (no_next q at g) (no_reference r bt p behind u h) s t in
    absurd (next_not_taken q at p behind g (subst (λ (z : List ℕ). TakesNumber z 0 p behind) (sym e) u))
references_reason r q inside (m.at_index rs at p behind s u h) (m.at_index qs bt n after t v g) = option_reason r q behind after 1 h g

refs_reason : (r q : RejectReason) (octets : List ℕ) → RejectsRefs r octets → RejectsRefs q octets → r ≡ q
refs_reason r q octets (m.at_list h) (m.at_list g) = list_reason r q octets h g
refs_reason r q octets (m.at_list h) (m.at_references o inside u g) = absurd (list_not_opened r octets o inside h u)
refs_reason r q octets (m.at_references o inside u h) (m.at_list g) = absurd (list_not_opened q octets o inside g u)
refs_reason r q octets (m.at_references o inside u h) (m.at_references p other v g) =
    references_reason r q inside h (subst (λ (z : List ℕ). RejectsReferences q z) (sym (one_opened octets o p inside other u v).1) g)

read_many_reason : {A : Type 0} (r q : RejectReason) (body : List ℕ) → RejectsReadMultiple A r body → RejectsReadMultiple A q body → r ≡ q
read_many_reason {A} r q body h g =
    let e = one_place (λ (o : List ℕ) (x : ObjectRefs A) (a : List ℕ). TakesRefs o x a) one_refs body h.before g.before h.at g.at
    (λ x a u. refs_not_taken r h.at x a h.rejected u) (λ x a u. refs_not_taken q g.at x a g.rejected u) h.taken g.taken in
    refs_reason r q h.at h.rejected (subst (λ (z : List ℕ). RejectsRefs q z) (sym e) g.rejected)

-- ---- WritePropertyMultiple

late_reason : {A : Type 0} (r q : RejectReason) (behind : List ℕ) → RejectsBehindProperty A r behind → RejectsBehindProperty A q behind → r ≡ q
late_reason r q behind (m.at_opening h) (m.at_opening g) = behind_reason r q behind 1 2 h g
late_reason r q behind (m.at_opening h) (m.at_values i c l g) = absurd (behind_not_taken r behind 1 i 2 c h l)
late_reason r q behind (m.at_opening h) (m.at_priority i c vs at l u g) = absurd (behind_not_taken r behind 1 i 2 c h l)
late_reason r q behind (m.at_opening h) (m.at_range i c vs at n rest l u p g) = absurd (behind_not_taken r behind 1 i 2 c h l)
late_reason r q behind (m.at_values i c l h) (m.at_opening g) = absurd (behind_not_taken q behind 1 i 2 c g l)
late_reason r q behind (m.at_priority i c vs at l u h) (m.at_opening g) = absurd (behind_not_taken q behind 1 i 2 c g l)
late_reason r q behind (m.at_range i c vs at n rest l u p h) (m.at_opening g) = absurd (behind_not_taken q behind 1 i 2 c g l)
late_reason {A} r q behind (m.at_values i c l h) (m.at_values j d w g) =
    inside_reason r q c 2 h (subst (λ (z : List ℕ). RejectsInside A q z 2) (sym (one_behind behind 1 i j 2 c d l w).1) g)
late_reason {A} r q behind (m.at_values i c l h) (m.at_priority j d vs at w u g) = absurd (values_before r behind i j c d vs at l w h u)
late_reason {A} r q behind (m.at_values i c l h) (m.at_range j d vs at n rest w u p g) = absurd (values_before r behind i j c d vs at l w h u)
late_reason {A} r q behind (m.at_priority j d vs at w u h) (m.at_values i c l g) = absurd (values_before q behind i j c d vs at l w g u)
late_reason {A} r q behind (m.at_range j d vs at n rest w u p h) (m.at_values i c l g) = absurd (values_before q behind i j c d vs at l w g u)
late_reason r q behind (m.at_priority i c vs at l u h) (m.at_priority j d ws bt w v g) = option_reason r q at bt 3 h g
late_reason r q behind (m.at_priority i c vs at l u h) (m.at_range j d ws bt n rest w v p g) =
    absurd (option_not_taken r at 3 n rest h (subst (λ (z : List ℕ). TakesOption z 3 n rest) (sym (same_values behind i j c d vs ws at bt l w u v)) p))
late_reason r q behind (m.at_range j d ws bt n rest w v p h) (m.at_priority i c vs at l u g) =
    absurd (option_not_taken q at 3 n rest g (subst (λ (z : List ℕ). TakesOption z 3 n rest) (sym (same_values behind i j c d vs ws at bt l w u v)) p))
late_reason r q behind (m.at_range i c vs at n rest l u p h) (m.at_range j d ws bt k more w v o g) = h.is ∙ sym g.is

write_list_reason : {A : Type 0} (r q : RejectReason) (inside : List ℕ) → RejectsWriteList A r inside → RejectsWriteList A q inside → r ≡ q
write_list_reason r q inside (m.at_first h) (m.at_first g) = first_reason r q inside h g
write_list_reason r q inside (m.at_first h) (m.at_next ws at some s g) = absurd (first_before_write r inside ws at h some s)
write_list_reason r q inside (m.at_first h) (m.at_write ws at p behind s u g) = absurd (first_no_write r inside ws at p behind h s u)
write_list_reason r q inside (m.at_next ws at some s h) (m.at_first g) = absurd (first_before_write q inside ws at g some s)
write_list_reason r q inside (m.at_write ws at p behind s u h) (m.at_first g) = absurd (first_no_write q inside ws at p behind g s u)
write_list_reason {A} r q inside (m.at_next ws at some s h) (m.at_next us bt more t g) =
    let e = one_place (λ (o : List ℕ) (w : PropertyWrite A) (a : List ℕ). TakesPropertyWrite o w a) one_property_write inside ws us at bt
    (no_next_write r at h) (no_next_write q bt g) s t in
    next_reason r q at h (subst (λ (z : List ℕ). RejectsNext q z) (sym e) g)
write_list_reason {A} r q inside (m.at_next ws at some s h) (m.at_write us bt p behind t u g) =
    let e = one_place (λ (o : List ℕ) (w : PropertyWrite A) (a : List ℕ). TakesPropertyWrite o w a) one_property_write inside ws us at bt
    (no_next_write r at h) (no_write q bt p behind u g) s t in
    absurd (next_not_taken r at p behind h (subst (λ (z : List ℕ). TakesNumber z 0 p behind) (sym e) u))
write_list_reason {A} r q inside (m.at_write us bt p behind t u h) (m.at_next ws at some s g) =
    let e = one_place (λ (o : List ℕ) (w : PropertyWrite A) (a : List ℕ). TakesPropertyWrite o w a) one_property_write inside ws us at bt
    (no_next_write q at g) (no_write r bt p behind u h) s t in
    absurd (next_not_taken q at p behind g (subst (λ (z : List ℕ). TakesNumber z 0 p behind) (sym e) u))
write_list_reason {A} r q inside (m.at_write ws at p behind s u h) (m.at_write us bt n after t v g) =
    let e = one_place (λ (o : List ℕ) (w : PropertyWrite A) (a : List ℕ). TakesPropertyWrite o w a) one_property_write inside ws us at bt
    (no_write r at p behind u h) (no_write q bt n after v g) s t in
    let one = one_number at 0 p n behind after u (subst (λ (z : List ℕ). TakesNumber z 0 n after) (sym e) v) in
    late_reason r q behind h (subst (λ (z : List ℕ). RejectsBehindProperty A q z) (sym one.1) g)

writes_reason : {A : Type 0} (r q : RejectReason) (octets : List ℕ) → RejectsWrites A r octets → RejectsWrites A q octets → r ≡ q
writes_reason r q octets (m.at_list h) (m.at_list g) = list_reason r q octets h g
writes_reason r q octets (m.at_list h) (m.at_writes o inside u g) = absurd (list_not_opened r octets o inside h u)
writes_reason r q octets (m.at_writes o inside u h) (m.at_list g) = absurd (list_not_opened q octets o inside g u)
writes_reason {A} r q octets (m.at_writes o inside u h) (m.at_writes p other v g) =
    write_list_reason r q inside h (subst (λ (z : List ℕ). RejectsWriteList A q z) (sym (one_opened octets o p inside other u v).1) g)

write_many_reason : {A : Type 0} (r q : RejectReason) (body : List ℕ) → RejectsWriteMultiple A r body → RejectsWriteMultiple A q body → r ≡ q
write_many_reason {A} r q body h g =
    let e = one_place (λ (o : List ℕ) (x : ObjectWrites A) (a : List ℕ). TakesWrites o x a) one_writes body h.before g.before h.at g.at
    (λ x a u. writes_not_taken r h.at x a h.rejected u) (λ x a u. writes_not_taken q g.at x a g.rejected u) h.taken g.taken in
    writes_reason r q h.at h.rejected (subst (λ (z : List ℕ). RejectsWrites A q z) (sym e) g.rejected)

-- ---- a request

pub one_reason : {A : Type 0} (r q : RejectReason) (service : ℕ) (body : List ℕ) → RejectsRequest A r service body → RejectsRequest A q service body → r ≡ q
one_reason r q service body (unknown none h) (unknown nor g) = h ∙ sym g
one_reason r q service body (unknown none h) (read is g) = absurd (none ReadProperty (sym is))
one_reason r q service body (unknown none h) (read_many is g) = absurd (none ReadPropertyMultiple (sym is))
one_reason r q service body (unknown none h) (write is g) = absurd (none WriteProperty (sym is))
one_reason r q service body (unknown none h) (write_many is g) = absurd (none WritePropertyMultiple (sym is))
one_reason r q service body (read is h) (unknown none g) = absurd (none ReadProperty (sym is))
one_reason r q service body (read_many is h) (unknown none g) = absurd (none ReadPropertyMultiple (sym is))
one_reason r q service body (write is h) (unknown none g) = absurd (none WriteProperty (sym is))
one_reason r q service body (write_many is h) (unknown none g) = absurd (none WritePropertyMultiple (sym is))
one_reason r q service body (read is h) (read too g) = read_reason r q body h g
one_reason r q service body (read_many is h) (read_many too g) = read_many_reason r q body h g
one_reason r q service body (write is h) (write too g) = write_property_reason r q body h g
one_reason r q service body (write_many is h) (write_many too g) = write_many_reason r q body h g
one_reason r q service body (read is h) (read_many too g) = absurd (omega (arith, is, too))
one_reason r q service body (read is h) (write too g) = absurd (omega (arith, is, too))
one_reason r q service body (read is h) (write_many too g) = absurd (omega (arith, is, too))
one_reason r q service body (read_many is h) (read too g) = absurd (omega (arith, is, too))
one_reason r q service body (read_many is h) (write too g) = absurd (omega (arith, is, too))
one_reason r q service body (read_many is h) (write_many too g) = absurd (omega (arith, is, too))
one_reason r q service body (write is h) (read too g) = absurd (omega (arith, is, too))
one_reason r q service body (write is h) (read_many too g) = absurd (omega (arith, is, too))
one_reason r q service body (write is h) (write_many too g) = absurd (omega (arith, is, too))
one_reason r q service body (write_many is h) (read too g) = absurd (omega (arith, is, too))
one_reason r q service body (write_many is h) (read_many too g) = absurd (omega (arith, is, too))
one_reason r q service body (write_many is h) (write too g) = absurd (omega (arith, is, too))
