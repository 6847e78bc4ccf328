-- What a read or a write that isn't refused has found, and what it then leaves.
use Rattle.std.proofs.Common.{refl, ap, subst, ◌∙◌, ◌≡◌, ℕ, Option, Some, None, Result, Ok, Err, length}
use Rattle.primitives.specs.tags.declared.object_id.ObjectId.{ObjectId}
use Rattle.object_model.specs.declared.object.Object.{Object}
use Rattle.primitives.specs.declared.plain_data.PropertyWrite.{PropertyWrite}
use Rattle.primitives.specs.declared.property.Property.{Property}
use Rattle.object_model.specs.Objects.{PlainTable, held}
use Rattle.primitives.specs.Properties.{is_array}
use Rattle.object_model.specs.Reading.{Refusal, Place, object_at, property_at, index_refusal, place_or, locate_element, locate_property, locate}
use Rattle.primitives.specs.Sound.{AreSound}
use Rattle.object_model.specs.Site.{IsSoundTable}
use Rattle.object_model.specs.Writing.{access, level_of, write_refusal, put, with_object, unless, write_place, write}
use Rattle.object_model.proofs.SoundLaws.{IsSoundTable-put}

pub err_ok : {X : Type 0} (e : Refusal) (x : X) → Err e ≡ Ok x → ⊥
err_ok e x p = cc

abbrev done : {X : Type 0} → X → Result X Refusal
done x = Ok x

abbrev pub refusing : (X : Type 0) → Refusal → Result X Refusal
refusing X e = Err e

pub ok_same : {X : Type 0} (x y : X) → done x ≡ done y → x ≡ y
ok_same x y p = cc

-- a property of an object of the table, with an element of that index
pub record IsLocated {A : Type 0} (t : PlainTable A) (id : ObjectId) (number : ℕ) (index : Option ℕ) (at : Place A) : Type 0 where
  pub object : object_at t id ≡ Some at.object
  pub property : property_at at.object number ≡ Some at.property
  pub element : index_refusal (is_array at.property) (length (held t at.object at.property)) index ≡ None

located_element : {A : Type 0} (t : PlainTable A) (id : ObjectId) (number : ℕ) (index : Option ℕ) (at : Place A) (o : Object A) (p : Property)
    (refused : Option Refusal) → object_at t id ≡ Some o → property_at o number ≡ Some p → index_refusal (is_array p) (length (held t o p)) index ≡ refused →
    place_or refused (record { object = o; property = p }) ≡ Ok at → IsLocated t id number index at
located_element t id number index at o p None found named fits e =
    subst (λ (at : Place _). IsLocated t id number index at) (ok_same _ _ e) (record { object = found; property = named; element = fits })
located_element t id number index at o p (Some r) found named fits e = absurd (err_ok _ _ e)

located_property : {A : Type 0} (t : PlainTable A) (id : ObjectId) (number : ℕ) (index : Option ℕ) (at : Place A) (o : Object A) (named : Option Property) →
    object_at t id ≡ Some o → property_at o number ≡ named → locate_element t o named index ≡ Ok at → IsLocated t id number index at
located_property t id number index at o None found named e = absurd (err_ok _ _ e)
located_property t id number index at o (Some p) found named e = located_element t id number index at o p _ found named refl e

located_object : {A : Type 0} (t : PlainTable A) (id : ObjectId) (number : ℕ) (index : Option ℕ) (at : Place A) (found : Option (Object A)) →
    object_at t id ≡ found → locate_property t found number index ≡ Ok at → IsLocated t id number index at
located_object t id number index at None found e = absurd (err_ok _ _ e)
located_object t id number index at (Some o) found e = located_property t id number index at o _ found refl e

-- a place is that of an object and property that are there
pub located : {A : Type 0} (t : PlainTable A) (id : ObjectId) (number : ℕ) (index : Option ℕ) (at : Place A) → locate t id number index ≡ Ok at →
    IsLocated t id number index at
located t id number index at e = located_object t id number index at _ refl e

-- and the other way round
pub locates : {A : Type 0} (t : PlainTable A) (id : ObjectId) (number : ℕ) (index : Option ℕ) (at : Place A) → IsLocated t id number index at →
    locate t id number index ≡ Ok at
locates t id number index at l =
    ap (λ (found : Option (Object _)). locate_property t found number index) l.object
    ∙ ap (λ (named : Option Property). locate_element t at.object named index) l.property
    ∙ ap (λ (refused : Option Refusal). place_or refused at) l.element

-- a write that is done: where, and what it leaves
pub record IsDone {A : Type 0} (t : PlainTable A) (id : ObjectId) (w : PropertyWrite A) (written : PlainTable A) : Type 0 where
  pub at : Place A
  pub located : IsLocated t id w.property w.index at
  pub taken : write_refusal (access at.object at.property) (level_of w.priority) w.values ≡ None
  pub table : with_object t id (put at.property (level_of w.priority) w.values) ≡ written

written_unless : {A : Type 0} (t : PlainTable A) (id : ObjectId) (w : PropertyWrite A) (written : PlainTable A) (at : Place A) (refused : Option Refusal) →
    IsLocated t id w.property w.index at → write_refusal (access at.object at.property) (level_of w.priority) w.values ≡ refused →
    unless refused (with_object t id (put at.property (level_of w.priority) w.values)) ≡ Ok written → IsDone t id w written
written_unless t id w written at None l taken e = record { at = at; located = l; taken = taken; table = ok_same _ _ e }
written_unless t id w written at (Some r) l taken e = absurd (err_ok _ _ e)

written_place : {A : Type 0} (t : PlainTable A) (id : ObjectId) (w : PropertyWrite A) (written : PlainTable A) (place : Result (Place A) Refusal) →
    locate t id w.property w.index ≡ place → write_place t id w place ≡ Ok written → IsDone t id w written
written_place t id w written (Err r) l e = absurd (err_ok _ _ e)
written_place t id w written (Ok at) l e = written_unless t id w written at _ (located t id w.property w.index at l) refl e

-- a write that is done has found its place
pub is_done : {A : Type 0} (t : PlainTable A) (id : ObjectId) (w : PropertyWrite A) (written : PlainTable A) → write t id w ≡ Ok written → IsDone t id w written
is_done t id w written e = written_place t id w written _ refl e

-- and the other way round
pub does : {A : Type 0} (t : PlainTable A) (id : ObjectId) (w : PropertyWrite A) (written : PlainTable A) → IsDone t id w written → write t id w ≡ Ok written
does t id w written d =
    ap (write_place t id w) (locates t id w.property w.index d.at d.located)
    ∙ ap (λ (refused : Option Refusal). unless refused (with_object t id (put d.at.property (level_of w.priority) w.values))) d.taken
    ∙ ap (λ (x : PlainTable _). done x) d.table

-- a sound table stays sound under a write of sound values
pub IsSoundTable-write : {A : Type 0} (t : PlainTable A) (id : ObjectId) (w : PropertyWrite A) (written : PlainTable A) → IsSoundTable t → AreSound w.values →
    write t id w ≡ Ok written → IsSoundTable written
IsSoundTable-write t id w written s sound e =
    let d = is_done t id w written e in
    subst (λ (x : PlainTable _). IsSoundTable x) d.table
    (IsSoundTable-put t id d.at.object d.at.property (level_of w.priority) w.values s d.located.object d.taken sound)
