-- A write is refused for the reason that its place gives.
use Rattle.std.proofs.Common.{◌∙◌, ◌≡◌, ◌+◌, ◌<◌, refl, ap, ℕ, Bool, true, false, List, [], ◌∷◌, ◌++◌}
use Rattle.std.specs.Prelude.{Option, Some, None, Result, Ok, Err, length, drop, get_or}
use Rattle.object_model.specs.tags.declared.object_id.ObjectId.{ObjectId}
use Rattle.primitives.specs.declared.plain_data.ObjectWrites.{ObjectWrites}
use Rattle.primitives.specs.declared.plain_data.PropertyWrite.{PropertyWrite}
use Rattle.primitives.specs.declared.plain_data.Reply.{Reply}
use Rattle.primitives.specs.declared.plain_data.Reply.TheVariants.{Done}
use Rattle.objects.specs.Failure.{failure_or, first_failure}
use Rattle.objects.specs.Machine.{write_outcome, written_reply}
use Rattle.object_model.specs.Objects.{PlainTable}
use Rattle.object_model.specs.Reading.{Refusal, Place, locate}
use Rattle.object_model.specs.Writing.{ObjectWrite, failed_at, place_refusal, put, level_of, with_object, unless, write_place, write, writes_to, in_order}
use Rattle.objects.proofs.OpeningLaws.{drop_item}
use Rattle.objects.proofs.ShapeLaws.{first_failure-behind}

unless_outcome : {A : Type 0} (t changed : PlainTable A) (e : Option Refusal) → (write_outcome t (unless e changed)).reply ≡ written_reply e
unless_outcome t changed None = refl
unless_outcome t changed (Some e) = refl

-- the reply to a write says why its place refuses it
pub place_reply : {A : Type 0} (t : PlainTable A) (id : ObjectId) (w : PropertyWrite A) (r : Result (Place A) Refusal) →
    (write_outcome t (write_place t id w r)).reply ≡ written_reply (place_refusal r w.values w.priority)
place_reply t id w (Err e) = refl
place_reply t id w (Ok at) = unless_outcome t (with_object t id (put at.property (level_of w.priority) w.values)) _

unless_failure : {A : Type 0} (x : ObjectWrite A) (changed : PlainTable A) (e d : Option Refusal) (later : Reply A) → e ≡ None →
    failure_or x (unless e changed) later ≡ later
unless_failure x changed None d later is = refl
unless_failure x changed (Some e) d later is = absurd (cc is)

unless_fails : {A : Type 0} (x : ObjectWrite A) (changed : PlainTable A) (e : Option Refusal) (d : Refusal) (later : Reply A) → e ≡ Some d →
    failure_or x (unless e changed) later ≡ failed_at x d
unless_fails x changed None d later is = absurd (cc is)
unless_fails x changed (Some e) d later is = ap (λ (r : Refusal). failed_at x r) (cc is)

passes_place : {A : Type 0} (t : PlainTable A) (x : ObjectWrite A) (r : Result (Place A) Refusal) (later : Reply A) →
    place_refusal r x.write.values x.write.priority ≡ None → failure_or x (write_place t x.object x.write r) later ≡ later
passes_place t x (Err e) later is = absurd (cc is)
passes_place t x (Ok at) later is = unless_failure x _ _ None later is

fails_place : {A : Type 0} (t : PlainTable A) (x : ObjectWrite A) (r : Result (Place A) Refusal) (d : Refusal) (later : Reply A) →
    place_refusal r x.write.values x.write.priority ≡ Some d → failure_or x (write_place t x.object x.write r) later ≡ failed_at x d
fails_place t x (Err e) d later is = ap (λ (r : Refusal). failed_at x r) (cc is)
fails_place t x (Ok at) d later is = unless_fails x _ _ d later is

-- a write that its place takes passes on to the later ones
pub passes : {A : Type 0} (t : PlainTable A) (x : ObjectWrite A) (later : Reply A) →
    place_refusal (locate t x.object x.write.property x.write.index) x.write.values x.write.priority ≡ None →
    failure_or x (write t x.object x.write) later ≡ later
passes t x later is = passes_place t x (locate t x.object x.write.property x.write.index) later is

-- a write that its place refuses is the failure
pub fails : {A : Type 0} (t : PlainTable A) (x : ObjectWrite A) (d : Refusal) (later : Reply A) →
    place_refusal (locate t x.object x.write.property x.write.index) x.write.values x.write.priority ≡ Some d →
    failure_or x (write t x.object x.write) later ≡ failed_at x d
fails t x d later is = fails_place t x (locate t x.object x.write.property x.write.index) d later is

failure_before : {A : Type 0} (x : ObjectWrite A) (r : Result (PlainTable A) Refusal) (some all : Reply A) → (failure_or x r some ≡ Done → ⊥) →
    ((some ≡ Done → ⊥) → all ≡ some) → failure_or x r all ≡ failure_or x r some
failure_before x (Err e) some all failed later = refl
failure_before x (Ok written) some all failed later = later failed

-- writes behind a failure don't matter
pub first_failure-before : {A : Type 0} (t : PlainTable A) (vs ws : List (ObjectWrite A)) → (first_failure t vs ≡ Done → ⊥) →
    first_failure t (vs ++ ws) ≡ first_failure t vs
first_failure-before t [] ws failed = absurd (failed refl)
first_failure-before t (v ∷ vs) ws failed =
    failure_before v (write t v.object v.write) (first_failure t vs) (first_failure t (vs ++ ws)) failed (λ f. first_failure-before t vs ws f)

-- of the writes from a place on, the first is the failure where it is refused
pub fails_at : {A : Type 0} (t : PlainTable A) (id : ObjectId) (ws : List (PropertyWrite A)) (i : ℕ) (w : PropertyWrite A) (d : Refusal) → i < length ws →
    w ≡ get_or ws i w →
    place_refusal (locate t id w.property w.index) w.values w.priority ≡ Some d →
    first_failure t (writes_to id (drop i ws)) ≡ failed_at (record { object = id; write = w }) d
fails_at t id ws i w d below is refused =
    ap (λ (vs : List (PropertyWrite _)). first_failure t (writes_to id vs)) (drop_item ws i w below is)
    ∙ fails t (record { object = id; write = w }) d _ refused

-- and where it is taken, they fail as those behind it
pub passes_at : {A : Type 0} (t : PlainTable A) (id : ObjectId) (ws : List (PropertyWrite A)) (i : ℕ) (w : PropertyWrite A) → i < length ws →
    w ≡ get_or ws i w →
    place_refusal (locate t id w.property w.index) w.values w.priority ≡ None →
    first_failure t (writes_to id (drop i ws)) ≡ first_failure t (writes_to id (drop (i + 1) ws))
passes_at t id ws i w below is taken =
    ap (λ (vs : List (PropertyWrite _)). first_failure t (writes_to id vs)) (drop_item ws i w below is)
    ∙ passes t (record { object = id; write = w }) _ taken

-- of the groups from a place on, the first that fails is the failure
pub group_fails : {A : Type 0} (t : PlainTable A) (gs : List (ObjectWrites A)) (i : ℕ) (g : ObjectWrites A) → i < length gs → g ≡ get_or gs i g →
    (first_failure t (writes_to g.object g.writes) ≡ Done → ⊥) → first_failure t (in_order (drop i gs)) ≡ first_failure t (writes_to g.object g.writes)
group_fails t gs i g below is failed =
    ap (λ (hs : List (ObjectWrites _)). first_failure t (in_order hs)) (drop_item gs i g below is)
    ∙ first_failure-before t (writes_to g.object g.writes) _ failed

-- and where its writes are all taken, they fail as those behind it
pub group_passes : {A : Type 0} (t : PlainTable A) (gs : List (ObjectWrites A)) (i : ℕ) (g : ObjectWrites A) → i < length gs → g ≡ get_or gs i g →
    first_failure t (writes_to g.object g.writes) ≡ Done → first_failure t (in_order (drop i gs)) ≡ first_failure t (in_order (drop (i + 1) gs))
group_passes t gs i g below is done =
    ap (λ (hs : List (ObjectWrites _)). first_failure t (in_order hs)) (drop_item gs i g below is)
    ∙ first_failure-behind t (writes_to g.object g.writes) _ done

-- a reply that passed for not done is not
pub not_done : {A : Type 0} (found same : Reply A) (is_done : Bool) → found ≡ same → (found ≡ Done → is_done ≡ true) → is_done ≡ false → same ≡ Done → ⊥
not_done found same true is test no_test e = cc no_test
not_done found same false is test no_test e = cc (test (is ∙ e))
