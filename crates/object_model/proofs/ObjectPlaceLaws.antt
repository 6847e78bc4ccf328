-- An object stands in the table at the place of its identifier.
use Rattle.std.proofs.Common.{refl, sym, ap, ◌∙◌, ◌≡◌, ◌<◌, ℕ, suc, Bool, true, false, List, [], ◌∷◌, Option, Some, None, length, arith}
use Rattle.std.specs.Prelude.{cond, map, option_map, slice_get, slice_set}
use Rattle.primitives.specs.tags.declared.object_id.ObjectId.{ObjectId}
use Rattle.object_model.specs.declared.object.Object.{Object}
use Rattle.object_model.specs.Identifiers.{same_id}
use Rattle.object_model.specs.Objects.{PlainTable, identifier}
use Rattle.object_model.specs.Places.{place_of}
use Rattle.object_model.specs.Reading.{is_named, object_at}
use Rattle.object_model.specs.Writing.{with_object}
use Rattle.object_model.proofs.SoundLaws.{some_none, some_same}

-- what stands at a place, if there is one
abbrev pub stands_at : {A : Type 0} → PlainTable A → Option ℕ → Option (Object A)
stands_at t None = None
stands_at t (Some place) = slice_get t place

stands_behind : {A : Type 0} (o : Object A) (os : List (Object A)) (place : Option ℕ) → stands_at (o ∷ os) (option_map suc place) ≡ stands_at os place
stands_behind o os None = refl
stands_behind o os (Some place) = refl

object_at_place_if : {A : Type 0} (test : Bool) (o : Object A) (os : List (Object A)) (place : Option ℕ) (found : Option (Object A)) →
    found ≡ stands_at os place → cond test (Some o) found ≡ stands_at (o ∷ os) (cond test (Some 0) (option_map suc place))
object_at_place_if true o os place found e = refl
object_at_place_if false o os place found e = e ∙ sym (stands_behind o os place)

-- the object of an identifier is the one at the identifier's place
pub object_at-place : {A : Type 0} (t : PlainTable A) (id : ObjectId) → object_at t id ≡ stands_at t (place_of (map identifier t) id)
object_at-place [] id = refl
object_at-place (o ∷ os) id = object_at_place_if (is_named id o) o os (place_of (map identifier os) id) (object_at os id) (object_at-place os id)

-- a table with the object at a place changed
abbrev pub changed_at : {A : Type 0} → PlainTable A → Option ℕ → Option (Object A) → (Object A → Object A) → PlainTable A
changed_at t (Some place) (Some o) change = slice_set t place (change o)
changed_at t place found change = t

changed_behind : {A : Type 0} (o : Object A) (os : List (Object A)) (place : Option ℕ) (found : Option (Object A)) (change : Object A → Object A) →
    o ∷ changed_at os place found change ≡ changed_at (o ∷ os) (option_map suc place) found change
changed_behind o os None found change = refl
changed_behind o os (Some place) None change = refl
changed_behind o os (Some place) (Some q) change = refl

with_object_place_if : {A : Type 0} (test : Bool) (o : Object A) (os os' : List (Object A)) (place : Option ℕ) (found : Option (Object A))
    (change : Object A → Object A) → os' ≡ changed_at os place found change →
    cond test (change o ∷ os) (o ∷ os') ≡ changed_at (o ∷ os) (cond test (Some 0) (option_map suc place)) (cond test (Some o) found) change
with_object_place_if true o os os' place found change e = refl
with_object_place_if false o os os' place found change e = ap (λ (xs : List (Object _)). o ∷ xs) e ∙ changed_behind o os place found change

with_object_at : {A : Type 0} (t : PlainTable A) (id : ObjectId) (change : Object A → Object A) →
    with_object t id change ≡ changed_at t (place_of (map identifier t) id) (object_at t id) change
with_object_at [] id change = refl
with_object_at (o ∷ os) id change =
    with_object_place_if (is_named id o) o os (with_object os id change) (place_of (map identifier os) id) (object_at os id) change
    (with_object_at os id change)

-- to change the object of an identifier is to set what stands at its place
pub with_object-place : {A : Type 0} (t : PlainTable A) (id : ObjectId) (place : ℕ) (o : Object A) (change : Object A → Object A) →
    place_of (map identifier t) id ≡ Some place → slice_get t place ≡ Some o → with_object t id change ≡ slice_set t place (change o)
with_object-place t id place o change at here =
    with_object_at t id change
    ∙ ap (λ (at : Option ℕ). changed_at t at (object_at t id) change) at
    ∙ ap (λ (found : Option (Object _)). changed_at t (Some place) found change) (object_at-place t id ∙ ap (stands_at t) at ∙ here)

place_within_if : (test : Bool) (found : Option ℕ) (ids : List ObjectId) (p : ObjectId) (place : ℕ) → cond test (Some 0) (option_map suc found) ≡ Some place →
    ((behind : ℕ) → found ≡ Some behind → behind < length ids) → place < length (p ∷ ids)
place_within_if true found ids p place e within = let zero_is = some_same 0 place e in omega (arith, zero_is)
place_within_if false None ids p place e within = absurd (some_none place (sym e))
place_within_if false (Some behind) ids p place e within =
    let next = some_same (suc behind) place e in
    let low = within behind refl in
    omega (arith, next, low)

-- a place is one of the list
pub place_of-within : (ids : List ObjectId) (id : ObjectId) (place : ℕ) → place_of ids id ≡ Some place → place < length ids
place_of-within [] id place e = absurd (some_none place (sym e))
place_of-within (p ∷ ids) id place e = place_within_if (same_id p id) (place_of ids id) ids p place e (λ behind found. place_of-within ids id behind found)
