-- A write that no rule refuses changes the object at the place of its identifier.
use Rattle.std.proofs.Common.{◌∙◌, ◌≡◌, ◌<◌, refl, sym, ap, subst, ℕ, List, [], ◌∷◌, ◌++◌}
use Rattle.std.specs.Prelude.{Option, Some, None, Result, Ok, Err, length, map, slice_get, slice_set}
use Rattle.std.proofs.lemmas.List.{length-map}
use Rattle.object_model.specs.tags.declared.object_id.ObjectId.{ObjectId}
use Rattle.object_model.specs.declared.object.Object.{Object}
use Rattle.primitives.specs.declared.plain_data.ObjectWrites.{ObjectWrites}
use Rattle.primitives.specs.declared.plain_data.PropertyWrite.{PropertyWrite}
use Rattle.primitives.specs.declared.plain_data.Reply.{Reply}
use Rattle.primitives.specs.declared.plain_data.Reply.TheVariants.{Done}
use Rattle.primitives.specs.declared.property.Property.{Property}
use Rattle.object_model.specs.Objects.{PlainTable, identifier}
use Rattle.object_model.specs.Places.{place_of}
use Rattle.object_model.specs.Reading.{Refusal, Place, property_at, locate}
use Rattle.object_model.specs.Writing.{access, write_refusal, place_refusal, level_of, put, unless, write_place, write, ObjectWrite, Outcome, failed_at, go_on}
use Rattle.object_model.specs.Writing.{write_all, writes_to, in_order}
use Rattle.objects.proofs.ChangeLaws.{write_all-append}
use Rattle.object_model.proofs.LocateLaws.{IsLocated, located, does, is_done}
use Rattle.object_model.proofs.ObjectPlaceLaws.{object_at-place, with_object-place, stands_at, place_of-within}
use Rattle.object_model.proofs.SoundLaws.{identifiers-with_object}

-- a write that no rule refuses
pub record IsTaken {A : Type 0} (t : PlainTable A) (id : ObjectId) (w : PropertyWrite A) : Type 0 where
  pub at : Place A
  pub located : IsLocated t id w.property w.index at
  pub taken : write_refusal (access at.object at.property) (level_of w.priority) w.values ≡ None

taken_by : {A : Type 0} (t : PlainTable A) (id : ObjectId) (w : PropertyWrite A) (r : Result (Place A) Refusal) → locate t id w.property w.index ≡ r →
    place_refusal r w.values w.priority ≡ None → IsTaken t id w
taken_by t id w (Err e) is none = absurd (cc none)
taken_by t id w (Ok at) is none = record { at = at; located = located t id w.property w.index at is; taken = none }

pub is_taken : {A : Type 0} (t : PlainTable A) (id : ObjectId) (w : PropertyWrite A) →
    place_refusal (locate t id w.property w.index) w.values w.priority ≡ None → IsTaken t id w
is_taken t id w none = taken_by t id w _ refl none

unless_refused : {A : Type 0} (e d : Refusal) (r : Option Refusal) (t : PlainTable A) → r ≡ Some d → unless r t ≡ Err d
unless_refused e d None t is = absurd (cc is)
unless_refused e d (Some r) t is = cc is

refused_by : {A : Type 0} (t : PlainTable A) (id : ObjectId) (w : PropertyWrite A) (r : Result (Place A) Refusal) (d : Refusal) →
    place_refusal r w.values w.priority ≡ Some d → write_place t id w r ≡ Err d
refused_by t id w (Err e) d is = cc is
refused_by t id w (Ok at) d is = unless_refused d d _ _ is

-- a write that its place refuses is refused
pub is_refused : {A : Type 0} (t : PlainTable A) (id : ObjectId) (w : PropertyWrite A) (d : Refusal) →
    place_refusal (locate t id w.property w.index) w.values w.priority ≡ Some d → write t id w ≡ Err d
is_refused t id w d is = refused_by t id w (locate t id w.property w.index) d is

-- a write that no rule refuses, done at the place of its object
pub is_written : {A : Type 0} (t : PlainTable A) (id : ObjectId) (w : PropertyWrite A) (place : ℕ) (written : PlainTable A) →
    place_of (map identifier t) id ≡ Some place →
    place_refusal (locate t id w.property w.index) w.values w.priority ≡ None →
    ((o : Object A) (p : Property) → slice_get t place ≡ Some o → property_at o w.property ≡ Some p →
    written ≡ slice_set t place (put p (level_of w.priority) w.values o)) →
    write t id w ≡ Ok written
is_written t id w place written at none f =
    let k = is_taken t id w none in
    let here : slice_get t place ≡ Some k.at.object = sym (object_at-place t id ∙ ap (stands_at t) at) ∙ k.located.object in
    does t id w written (record {
      at = k.at;
      located = k.located;
      taken = k.taken;
      table = with_object-place t id place k.at.object (put k.at.property (level_of w.priority) w.values) at here
          ∙ sym (f k.at.object k.at.property here k.located.property);
    })

none_some : {X : Type 0} {x : X} → None ≡ Some x → ⊥
none_some e = cc e

-- a write of an object that has no place is refused
pub has_place : {A : Type 0} (t : PlainTable A) (id : ObjectId) (w : PropertyWrite A) → place_of (map identifier t) id ≡ None →
    place_refusal (locate t id w.property w.index) w.values w.priority ≡ None → ⊥
has_place t id w at none =
    let k = is_taken t id w none in
    none_some (sym (object_at-place t id ∙ ap (stands_at t) at) ∙ k.located.object)

-- a write leaves the identifiers
pub identifiers_write : {A : Type 0} (t : PlainTable A) (id : ObjectId) (w : PropertyWrite A) (written : PlainTable A) → write t id w ≡ Ok written →
    map identifier t ≡ map identifier written
identifiers_write t id w written e =
    let d = is_done t id w written e in
    sym (identifiers-with_object t id d.at.property (level_of w.priority) w.values) ∙ ap (λ (x : PlainTable _). map identifier x) d.table

-- a place of the list is one of the table
pub place_within : {A : Type 0} (t : PlainTable A) (id : ObjectId) (place : ℕ) → place_of (map identifier t) id ≡ Some place → place < length t
place_within t id place at = subst (λ (n : ℕ). place < n) (length-map t identifier) (place_of-within (map identifier t) id place at)

-- a write that is refused ends the writes
pub stops : {A : Type 0} (t u : PlainTable A) (id : ObjectId) (w : PropertyWrite A) (ws : List (PropertyWrite A)) (e : Refusal) → write t id w ≡ Err e → u ≡ t →
    write_all t (writes_to id (w ∷ ws)) ≡ record { table = u; reply = failed_at (record { object = id; write = w }) e }
stops t u id w ws e refused same =
    ap (λ (r : Result (PlainTable _) Refusal). go_on t (record { object = id; write = w }) r (λ written. write_all written (writes_to id ws))) refused
    ∙ ap (λ (x : PlainTable _). record { table = x; reply = failed_at (record { object = id; write = w }) e }) (sym same)

-- and one that is done leaves the others to its table
pub goes : {A : Type 0} (t u : PlainTable A) (id : ObjectId) (w : PropertyWrite A) (ws : List (PropertyWrite A)) → write t id w ≡ Ok u →
    write_all t (writes_to id (w ∷ ws)) ≡ write_all u (writes_to id ws)
goes t u id w ws done = ap (λ (r : Result (PlainTable _) Refusal). go_on t (record { object = id; write = w }) r
    (λ written. write_all written (writes_to id ws))) done

-- a group that is done leaves the others to its table
pub group_goes : {A : Type 0} (t u : PlainTable A) (g : ObjectWrites A) (gs : List (ObjectWrites A)) →
    write_all t (writes_to g.object g.writes) ≡ record { table = u; reply = Done } →
    write_all t (in_order (g ∷ gs)) ≡ write_all u (in_order gs)
group_goes t u g gs done =
    write_all-append t (writes_to g.object g.writes) (in_order gs) (ap (λ (o : Outcome _). o.reply) done)
    ∙ ap (λ (o : Outcome _). write_all o.table (in_order gs)) done

stops_at : {A : Type 0} (t : PlainTable A) (x : ObjectWrite A) (r : Result (PlainTable A) Refusal) (some all : PlainTable A → Outcome A) →
    ((go_on t x r some).reply ≡ Done → ⊥) →
    ((u : PlainTable A) → ((some u).reply ≡ Done → ⊥) → all u ≡ some u) → go_on t x r all ≡ go_on t x r some
stops_at t x (Err e) some all failed later = refl
stops_at t x (Ok u) some all failed later = later u failed

-- writes behind a failure are not done
pub write_all-before : {A : Type 0} (t : PlainTable A) (vs ws : List (ObjectWrite A)) → ((write_all t vs).reply ≡ Done → ⊥) →
    write_all t (vs ++ ws) ≡ write_all t vs
write_all-before t [] ws failed = absurd (failed refl)
write_all-before t (v ∷ vs) ws failed =
    stops_at t v (write t v.object v.write) (λ u. write_all u vs) (λ u. write_all u (vs ++ ws)) failed (λ u f. write_all-before u vs ws f)

-- a group that fails ends the writes
pub group_stops : {A : Type 0} (t u : PlainTable A) (r : Reply A) (g : ObjectWrites A) (gs : List (ObjectWrites A)) →
    write_all t (writes_to g.object g.writes) ≡ record { table = u; reply = r } →
    (r ≡ Done → ⊥) → write_all t (in_order (g ∷ gs)) ≡ record { table = u; reply = r }
group_stops t u r g gs is failed =
    write_all-before t (writes_to g.object g.writes) (in_order gs) (λ e. failed (sym (ap (λ (o : Outcome _). o.reply) is) ∙ e)) ∙ is

-- an outcome with its reply given its name
pub reply_done : {A : Type 0} (o : Outcome A) (u : PlainTable A) (r : Reply A) → o ≡ record { table = u; reply = r } → r ≡ Done →
    o ≡ record { table = u; reply = Done }
reply_done o u r is done = is ∙ ap (λ (s : Reply _). record { table = u; reply = s }) done
