-- The machine by rows and the one by properties are one.
use Rattle.std.proofs.Common.{refl, sym, ap, ◌∙◌, ◌≡◌, ℕ, Bool, true, false, List, [], ◌∷◌, ◌++◌, Option, Some, None, Result, Ok, Err, arith}
use Rattle.std.specs.Prelude.{◌==◌, cond, if◌then◌else◌, map, filter, find, flat_map, option_map, length}
use Rattle.object_machine.specs.Machine as new
use Rattle.object_machine.specs.Rows.{Row, own_rows, rows, value_rows}
use Rattle.object_model.specs.Objects.{PlainTable, first_properties, held, last_properties, own_properties, properties_of, states_of, units_of}
use Rattle.object_model.specs.Reading as old
use Rattle.object_model.specs.Reading.{Place, Refusal, index_refusal, is_named, is_selected, is_special, object_at, property_at}
use Rattle.object_model.specs.Writing as old_writing
use Rattle.object_model.specs.Writing.{ObjectWrite, Outcome, access, access_denied, go_on, in_order, level_of, unless, with_object, write_refusal}
use Rattle.object_model.proofs.LocateLaws.{IsLocated, located}
use Rattle.object_model.specs.declared.object.Access.{Access}
use Rattle.object_model.specs.declared.object.Access.TheVariants.{ReadOnly, Writable, Commandable}
use Rattle.object_model.specs.declared.object.Object.{Object}
use Rattle.object_model.specs.declared.object.Object.TheVariants as object
use Rattle.object_model.specs.declared.object.ValueKind.{ValueKind}
use Rattle.object_model.specs.declared.object.ValueKind.TheVariants as kind
use Rattle.object_model.specs.declared.object.ValueObject.{ValueObject}
use Rattle.objects.proofs.OneThingLaws.{property_at-number}
use Rattle.objects.specs.Machine.{reading_reply, write_outcome}
use Rattle.primitives.specs.Numbers.{property_number}
use Rattle.primitives.specs.Properties.{is_array, is_required}
use Rattle.primitives.specs.declared.plain_data.ObjectRefs.{ObjectRefs}
use Rattle.primitives.specs.declared.plain_data.ObjectResults.{ObjectResults}
use Rattle.primitives.specs.declared.plain_data.PropertyReference.{PropertyReference}
use Rattle.primitives.specs.declared.plain_data.PropertyResult.{PropertyResult}
use Rattle.primitives.specs.declared.plain_data.PropertyWrite.{PropertyWrite}
use Rattle.primitives.specs.declared.plain_data.Reply.TheVariants.{Many}
use Rattle.primitives.specs.declared.plain_data.Request.{Request}
use Rattle.primitives.specs.declared.plain_data.Request.TheVariants.{Read, ReadMany, Write, WriteMany}
use Rattle.primitives.specs.declared.property.Property.{Property}
use Rattle.primitives.specs.declared.property.Property.TheVariants as property
use Rattle.tags.specs.declared.object_id.ObjectId.{ObjectId}
use Rattle.tags.specs.declared.value.Value.{Value}
use Rattle.tags.specs.declared.value.Value.TheVariants as value
use Rattle.object_machine.specs.Laws.{IsByRows}

-- the row of a property
abbrev row_of : {A : Type 0} → PlainTable A → Object A → Property → Row A
row_of t o p = record {
  number = property_number p;
  required = is_required p;
  array = is_array p;
  access = access o p;
  values = held t o p;
}

-- lists of rows that are those of properties
map_append : {X Y : Type 0} (f : X → Y) (xs ys : List X) → map f (xs ++ ys) ≡ map f xs ++ map f ys
map_append f [] ys = refl
map_append f (x ∷ xs) ys = ap (λ (zs : List _). f x ∷ zs) (map_append f xs ys)

found_if : {X Y : Type 0} (f : X → Y) (b : Bool) (x : X) (rest : Option Y) (found : Option X) → rest ≡ option_map f found →
    cond b (Some (f x)) rest ≡ option_map f (cond b (Some x) found)
found_if f true x rest found e = refl
found_if f false x rest found e = e

find_map : {X Y : Type 0} (test : Y → Bool) (f : X → Y) (xs : List X) → find test (map f xs) ≡ option_map f (find (λ x. test (f x)) xs)
find_map test f [] = refl
find_map test f (x ∷ xs) = found_if f (test (f x)) x (find test (map f xs)) (find (λ x. test (f x)) xs) (find_map test f xs)

chosen_if : {X Y Z : Type 0} (f : X → Y) (g : Y → Z) (b : Bool) (x : X) (xs : List X) (ys : List Y) → map (λ x. g (f x)) xs ≡ map g ys →
    map (λ x. g (f x)) (cond b (x ∷ xs) xs) ≡ map g (cond b (f x ∷ ys) ys)
chosen_if f g true x xs ys e = ap (λ (zs : List _). g (f x) ∷ zs) e
chosen_if f g false x xs ys e = e

selected_map : {X Y Z : Type 0} (test : Y → Bool) (f : X → Y) (g : Y → Z) (xs : List X) →
    map (λ x. g (f x)) (filter (λ x. test (f x)) xs) ≡ map g (filter test (map f xs))
selected_map test f g [] = refl
selected_map test f g (x ∷ xs) =
    chosen_if f g (test (f x)) x (filter (λ x. test (f x)) xs) (filter test (map f xs)) (selected_map test f g xs)

map_same : {X Y : Type 0} (f g : X → Y) → ((x : X) → f x ≡ g x) → (xs : List X) → map f xs ≡ map g xs
map_same f g same [] = refl
map_same {X} {Y} f g same (x ∷ xs) =
    ap (λ (y : Y). y ∷ map f xs) (same x) ∙ ap (λ (ys : List Y). g x ∷ ys) (map_same f g same xs)

flat_same : {X Y : Type 0} (f g : X → List Y) → ((x : X) → f x ≡ g x) → (xs : List X) → flat_map f xs ≡ flat_map g xs
flat_same f g same [] = refl
flat_same {X} {Y} f g same (x ∷ xs) =
    ap (λ (ys : List Y). ys ++ flat_map f xs) (same x) ∙ ap (λ (ys : List Y). g x ++ ys) (flat_same f g same xs)

module _ {A : Type 0} (t : PlainTable A) where
  own_is : (o : ValueObject A) (k : ValueKind) → o.kind ≡ k → map (row_of t (object.Value o)) (own_properties k) ≡ own_rows k
  own_is o kind.Binary e = refl
  own_is o kind.CharacterString e = refl
  own_is o (kind.MultiState states) e = ap (λ (k : ValueKind). record {
    number = 74;
    required = true;
    array = false;
    access = ReadOnly;
    values = states_of k;
  } ∷ []) e
  own_is o (kind.Integer units) e = ap (λ (k : ValueKind). record {
    number = 117;
    required = true;
    array = false;
    access = ReadOnly;
    values = units_of k;
  } ∷ []) e

  -- the rows are those of the properties, in their order
  rows_are : (o : Object A) → rows t o ≡ map (row_of t o) (properties_of o)
  rows_are (object.Device d) = refl
  rows_are (object.Value o) =
      let f = row_of t (object.Value o) in
      let own = own_is o o.kind refl in
      sym (map_append f first_properties (own_properties o.kind ++ last_properties)
      ∙ ap (λ (rs : List (Row A)). map f first_properties ++ rs)
      (map_append f (own_properties o.kind) last_properties
      ∙ ap (λ (rs : List (Row A)). rs ++ map f last_properties) own))

  -- what is found
  abbrev row_at : Place A → Row A
  row_at p = row_of t p.object p.property

  abbrev rows_at : Result (Place A) Refusal → Result (Row A) Refusal
  rows_at (Ok p) = Ok (row_at p)
  rows_at (Err e) = Err e

  or_is : (e : Option Refusal) (p : Place A) → new.row_or e (row_at p) ≡ rows_at (old.place_or e p)
  or_is None p = refl
  or_is (Some e) p = refl

  element_is : (o : Object A) (p : Option Property) (index : Option ℕ) →
      new.element (option_map (row_of t o) p) index ≡ rows_at (old.locate_element t o p index)
  element_is o None index = refl
  element_is o (Some p) index = or_is (index_refusal (is_array p) (length (held t o p)) index) (record { object = o; property = p })

  property_is : (o : Option (Object A)) (number : ℕ) (index : Option ℕ) →
      new.property t o number index ≡ rows_at (old.locate_property t o number index)
  property_is None number index = refl
  property_is (Some o) number index =
      ap (λ (rs : List (Row A)). new.element (find (λ r. number == r.number) rs) index) (rows_are o)
      ∙ ap (λ (r : Option (Row A)). new.element r index) (find_map (λ r. number == r.number) (row_of t o) (properties_of o))
      ∙ element_is o (property_at o number) index

  located_is : (id : ObjectId) (number : ℕ) (index : Option ℕ) → new.located t id number index ≡ rows_at (old.locate t id number index)
  located_is id number index = property_is (object_at t id) number index

  -- what is read
  values_are : (p : Result (Place A) Refusal) (index : Option ℕ) → new.values_at (rows_at p) index ≡ old.read_place t p index
  values_are (Ok p) index = refl
  values_are (Err e) index = refl

  read_is : (id : ObjectId) (number : ℕ) (index : Option ℕ) → new.read t id number index ≡ old.read t id number index
  read_is id number index =
      ap (λ (r : Result (Row A) Refusal). new.values_at r index) (located_is id number index)
      ∙ values_are (old.locate t id number index) index

  entry_is : (id : ObjectId) (number : ℕ) (index : Option ℕ) → new.entry t id number index ≡ old.entry t id number index
  entry_is id number index = ap (λ (r : Result (List (Value A)) Refusal). record { property = number; index = index; result = r }) (read_is id number index)

  special_are : (id : ObjectId) (o : Object A) (number : ℕ) (index : Option ℕ) →
      new.special_entries t id o number index ≡ old.selected_entries t id o number index
  special_are id o number (Some i) = refl
  special_are id o number None =
      ap (λ (rs : List (Row A)). map (λ r. new.entry t id r.number None) (filter (new.stands_for number) rs)) (rows_are o)
      ∙ sym (selected_map (new.stands_for number) (row_of t o) (λ r. new.entry t id r.number None) (properties_of o))
      ∙ map_same (λ (p : Property). new.entry t id (property_number p) None) (λ p. old.entry t id (property_number p) None)
      (λ p. entry_is id (property_number p) None) (filter (is_selected number) (properties_of o))

  entries_if : (b : Bool) (id : ObjectId) (o : Object A) (r : PropertyReference) →
      cond b (new.special_entries t id o r.property r.index) (new.entry t id r.property r.index ∷ [])
      ≡ cond b (old.selected_entries t id o r.property r.index) (old.entry t id r.property r.index ∷ [])
  entries_if true id o r = special_are id o r.property r.index
  entries_if false id o r = ap (λ (e : PropertyResult A). e ∷ []) (entry_is id r.property r.index)

  entries_are : (id : ObjectId) (o : Option (Object A)) (r : PropertyReference) → new.entries t id o r ≡ old.entries_in t id o r
  entries_are id None r = ap (λ (e : PropertyResult A). e ∷ []) (entry_is id r.property r.index)
  entries_are id (Some o) r = entries_if (is_special r.property) id o r

  results_are : (q : ObjectRefs A) → new.results t q ≡ old.results_of t q
  results_are q = ap (λ (rs : List (PropertyResult A)). record { object = q.object; results = rs })
      (flat_same (new.entries t q.object (object_at t q.object)) (old.entries_in t q.object (object_at t q.object))
      (λ r. entries_are q.object (object_at t q.object) r) q.refs)

-- what is put: only these four are written
put_is : {A : Type 0} (p : Property) (level : ℕ) (v : Value A) (o : Object A) → (access o p ≡ ReadOnly → ⊥) →
    new.put (property_number p) level (v ∷ []) o ≡ old_writing.put p level (v ∷ []) o
put_is property.Description level (value.Text set octets) (object.Device d) w = refl
put_is property.Description level v (object.Device d) w = grind arith
put_is p level v (object.Device d) w = absurd (w (grind arith))
put_is property.PresentValue level v (object.Value o) w = refl
put_is property.OutOfService level (value.Bool b) (object.Value o) w = refl
put_is property.OutOfService level v (object.Value o) w = grind arith
put_is property.RelinquishDefault level v (object.Value o) w = refl
put_is property.Description level (value.Text set octets) (object.Value o) w = refl
put_is property.Description level v (object.Value o) w = grind arith
put_is p level v (object.Value o) w = absurd (w (grind arith))

put_same : {A : Type 0} (p : Property) (level : ℕ) (values : List (Value A)) (o : Object A) → (access o p ≡ ReadOnly → ⊥) →
    new.put (property_number p) level values o ≡ old_writing.put p level values o
put_same p level [] o w = refl
put_same p level (v ∷ []) o w = put_is p level v o w
put_same p level (v ∷ u ∷ vs) o w = refl

abbrev ok : {X : Type 0} → X → Result X Refusal
ok x = Ok x

some_same : {X : Type 0} (x y : X) → Some x ≡ Some y → x ≡ y
some_same x y e = cc e

-- two changes that are one for the object which is named leave one table
changed_if : {A : Type 0} (b : Bool) (x o : Object A) (xs : PlainTable A) (f g : Object A → Object A) (found : Option (Object A))
    (ys zs : PlainTable A) → cond b (Some x) found ≡ Some o → f o ≡ g o → (found ≡ Some o → ys ≡ zs) →
    cond b (f x ∷ xs) (x ∷ ys) ≡ cond b (g x ∷ xs) (x ∷ zs)
changed_if true x o xs f g found ys zs is same rest =
    let here = some_same x o is in
    ap (λ (z : Object _). z ∷ xs) (ap f here ∙ same ∙ sym (ap g here))
changed_if false x o xs f g found ys zs is same rest = ap (λ (us : List (Object _)). x ∷ us) (rest is)

changed_same : {A : Type 0} (t : PlainTable A) (id : ObjectId) (o : Object A) (f g : Object A → Object A) → object_at t id ≡ Some o → f o ≡ g o →
    with_object t id f ≡ with_object t id g
changed_same [] id o f g is same = refl
changed_same (x ∷ xs) id o f g is same =
    changed_if (is_named id x) x o xs f g (object_at xs id) (with_object xs id f) (with_object xs id g) is same
    (λ there. changed_same xs id o f g there same)

denied : {A : Type 0} (level : ℕ) (values : List (Value A)) (a : Access) → write_refusal a level values ≡ None → a ≡ ReadOnly → ⊥
denied level values ReadOnly e is = cc e
denied level values (Writable d) e is = cc is
denied level values (Commandable d) e is = cc is

module _ {A : Type 0} (t : PlainTable A) (id : ObjectId) (w : PropertyWrite A) where
  -- what is written
  written_if : (p : Place A) (e : Option Refusal) → IsLocated t id w.property w.index p →
      write_refusal (access p.object p.property) (level_of w.priority) w.values ≡ e →
      unless e (with_object t id (new.put w.property (level_of w.priority) w.values))
      ≡ unless e (with_object t id (old_writing.put p.property (level_of w.priority) w.values))
  written_if p (Some e) l is = refl
  written_if p None l is =
      ap (λ (u : PlainTable A). ok u)
      (changed_same t id p.object (new.put w.property (level_of w.priority) w.values)
      (old_writing.put p.property (level_of w.priority) w.values) l.object
      (ap (λ (n : ℕ). new.put n (level_of w.priority) w.values p.object) (sym (property_at-number p.object w.property p.property l.property))
      ∙ put_same p.property (level_of w.priority) w.values p.object
      (denied (level_of w.priority) w.values (access p.object p.property) is)))

  write_place_is : (place : Result (Place A) Refusal) → old.locate t id w.property w.index ≡ place →
      new.write_row t id w (rows_at t place) ≡ old_writing.write_place t id w place
  write_place_is (Err e) is = refl
  write_place_is (Ok p) is = written_if p _ (located t id w.property w.index p is) refl

  write_is : new.write t id w ≡ old_writing.write t id w
  write_is =
      ap (new.write_row t id w) (located_is t id w.property w.index)
      ∙ write_place_is (old.locate t id w.property w.index) refl

goes_on_same : {A : Type 0} (t : PlainTable A) (w : ObjectWrite A) (r : Result (PlainTable A) Refusal) (f g : PlainTable A → Outcome A) →
    ((u : PlainTable A) → f u ≡ g u) → go_on t w r f ≡ go_on t w r g
goes_on_same t w (Ok u) f g same = same u
goes_on_same t w (Err e) f g same = refl

write_all_is : {A : Type 0} (t : PlainTable A) (ws : List (ObjectWrite A)) → new.write_all t ws ≡ old_writing.write_all t ws
write_all_is t [] = refl
write_all_is {A} t (w ∷ ws) =
    ap (λ (r : Result (PlainTable A) Refusal). go_on t w r (λ u. new.write_all u ws)) (write_is t w.object w.write)
    ∙ goes_on_same t w (old_writing.write t w.object w.write) (λ u. new.write_all u ws) (λ u. old_writing.write_all u ws)
    (λ u. write_all_is u ws)

pub is_by_rows : {A : Type 0} → IsByRows A
is_by_rows {A} t (Read id number index) =
    sym (ap (λ (r : Result (List (Value A)) Refusal). record { table = t; reply = reading_reply r }) (read_is t id number index))
is_by_rows {A} t (ReadMany asked) =
    sym (ap (λ (rs : List (ObjectResults A)). record { table = t; reply = Many rs })
    (map_same (new.results t) (old.results_of t) (results_are t) asked))
is_by_rows {A} t (Write id number index values priority) =
    sym (ap (λ (r : Result (PlainTable A) Refusal). write_outcome t r) (write_is t id (record {
      property = number;
      index = index;
      values = values;
      priority = priority;
    })))
is_by_rows t (WriteMany asked) = sym (write_all_is t (in_order asked))
