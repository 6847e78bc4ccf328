-- What is read of a property or a slot that was written, and the value in force.
use Rattle.std.proofs.Common.{refl, sym, ap, subst, ◌∙◌, ◌≡◌, ◌≢◌, ◌<◌, ◌≤◌, ◌-◌, ℕ, zero, suc, Bool, true, false, List, [], ◌∷◌, ◌++◌, Option, Some, None}
use Rattle.std.proofs.Common.{Result, Ok, length, arith, inl, inr}
use Rattle.std.proofs.lemmas.Bool.{eqb-true, eqb-false, and_parts, cases_eq, ltb-true, ne_eqb, le-ltb}
use Rattle.std.proofs.lemmas.List.{length-map}
use Rattle.std.proofs.lemmas.Option.{slice_get-map}
use Rattle.std.specs.Prelude.{cond, map, find, ◌==◌, ◌&&◌, ◌↔◌, nat_lt, option_map, option_to_list, slice_get, slice_set, unwrap_or}
use Rattle.std.specs.Str.{is_utf8}
use Rattle.priority.specs.Laws.{NoneHigher}
use Rattle.priority.specs.Slots.{put_slot, first_filled}
use Rattle.priority.proofs.SlotLaws.{put_first, first_in_force, in_force_first, no_first_none_filled, none_filled_no_first}
use Rattle.object_model.specs.tags.declared.object_id.ObjectId.{ObjectId}
use Rattle.object_model.specs.tags.declared.value.Value.{Value}
use Rattle.object_model.specs.tags.declared.value.Value.TheVariants as value
use Rattle.object_model.specs.declared.object.Datatype.{Datatype}
use Rattle.object_model.specs.declared.object.DeviceObject.{DeviceObject}
use Rattle.object_model.specs.declared.object.Object.{Object}
use Rattle.object_model.specs.declared.object.Object.TheVariants as object
use Rattle.object_model.specs.declared.object.ValueKind.{ValueKind}
use Rattle.object_model.specs.declared.object.ValueKind.TheVariants as kind
use Rattle.object_model.specs.declared.object.ValueObject.{ValueObject}
use Rattle.primitives.specs.declared.plain_data.PropertyWrite.{PropertyWrite}
use Rattle.primitives.specs.declared.property.Property.{Property}
use Rattle.primitives.specs.declared.property.Property.TheVariants as property
use Rattle.objects.specs.Laws.{IsValueInForce, NoneHigherAt}
use Rattle.primitives.specs.Numbers.{property_number}
use Rattle.object_model.specs.Objects.{PlainTable, first_properties, last_properties, own_properties, present_value, text, slot_value, held}
use Rattle.primitives.specs.Properties.{is_array}
use Rattle.object_model.specs.Reading.{Refusal, Place, is_named, object_at, property_at, index_refusal, at_index, locate_property, read, read_place}
use Rattle.object_model.specs.Reading.{invalid_index}
use Rattle.object_model.specs.Site.{IsSoundObjectOf, IsSoundTable}
use Rattle.primitives.specs.Sound.{IsSoundPriority}
use Rattle.object_model.specs.Levels.{put_level}
use Rattle.object_model.specs.Writing.{access, access_denied, no_space, in_range, invalid_type, other_character_set, text_refusal, command_refusal, datatype_of}
use Rattle.object_model.specs.Writing.{level_of, write_refusal, commanded, put, with_object, write}
use Rattle.object_model.proofs.SoundLaws.{some_none, true_false, passes_unless, length-put_level}
use Rattle.object_model.proofs.LocateLaws.{is_done}
use Rattle.object_model.proofs.LevelLaws.{put_level_is}
use Rattle.object_model.proofs.SoundReplyLaws.{find_all}
use Rattle.objects.proofs.OneThingLaws.{one_property, property_at-number, reading, read_is, unless_refused, read_written, write_own, put_properties}

-- ---- the value in force

in_force_from : {A : Type 0} (o : ValueObject A) (v : Value A) (first : Option (Value A)) → first_filled o.slots ≡ first → unwrap_or first o.default ≡ v →
    IsValueInForce o v
in_force_from o v None first e = inr (no_first_none_filled o.slots first, sym e)
in_force_from o v (Some w) first e = inl (first_in_force o.slots v (first ∙ ap (λ (x : Value _). Some x) e))

in_force_to : {A : Type 0} (o : ValueObject A) (v : Value A) → IsValueInForce o v → present_value o ≡ v
in_force_to o v (inl force) = ap (λ (first : Option (Value _)). unwrap_or first o.default) (in_force_first o.slots v force)
in_force_to o v (inr none) = ap (λ (first : Option (Value _)). unwrap_or first o.default) (none_filled_no_first o.slots none.0) ∙ sym none.1

-- what is read of Present_Value where the object is there
present_is_read : {A : Type 0} (t : PlainTable A) (id : ObjectId) (o : ValueObject A) → object_at t id ≡ Some (object.Value o) →
    read t id (property_number property.PresentValue) None ≡ Ok (present_value o ∷ [])
present_is_read t id o is = ap (λ (found : Option (Object _)). read_place t (locate_property t found (property_number property.PresentValue) None) None) is

-- the one value that was read, or another where none was
abbrev value_read : {A : Type 0} → Value A → Result (List (Value A)) Refusal → Value A
value_read other (Ok (v ∷ values)) = v
value_read other r = other

-- Present_Value reads the value in force, and no other
pub present_is_in_force : {A : Type 0} (t : PlainTable A) (id : ObjectId) (o : ValueObject A) (v : Value A) → object_at t id ≡ Some (object.Value o) →
    (read t id (property_number property.PresentValue) None ≡ Ok (v ∷ [])) ↔ IsValueInForce o v
present_is_in_force t id o v is = (
  λ read_v. in_force_from o v (first_filled o.slots) refl (ap (value_read v) (sym (present_is_read t id o is) ∙ read_v)),
  λ force. present_is_read t id o is ∙ ap (λ (w : Value _). Ok (w ∷ [])) (in_force_to o v force),
)

-- ---- slots and levels

level_counts : (priority : Option ℕ) → IsSoundPriority priority → (1 ≤ level_of priority) × (level_of priority ≤ 16)
level_counts None s = (omega arith, omega arith)
level_counts (Some n) s = (omega (arith, s.0), omega (arith, s.1))

-- a value other than Null stays what it is
commanded_is : {A : Type 0} (v : Value A) → v ≢ value.Null → commanded v ≡ Some v
commanded_is value.Null apart = absurd (apart refl)
commanded_is v apart = refl

slot_value-commanded : {A : Type 0} (v : Value A) → slot_value (commanded v) ≡ v
slot_value-commanded value.Null = refl
slot_value-commanded v = refl

slice_get-set_same : {X : Type 0} (xs : List X) (i : ℕ) (x : X) → i < length xs → slice_get (slice_set xs i x) i ≡ Some x
slice_get-set_same [] i x within = absurd (omega (arith, within))
slice_get-set_same (y ∷ ys) zero x within = refl
slice_get-set_same (y ∷ ys) (suc i) x within = slice_get-set_same ys i x (omega (arith, within))

slice_get-set_other : {X : Type 0} (xs : List X) (i j : ℕ) (x : X) → j ≢ i → slice_get (slice_set xs i x) j ≡ slice_get xs j
slice_get-set_other [] i j x apart = refl
slice_get-set_other (y ∷ ys) zero zero x apart = absurd (apart refl)
slice_get-set_other (y ∷ ys) zero (suc j) x apart = refl
slice_get-set_other (y ∷ ys) (suc i) zero x apart = refl
slice_get-set_other (y ∷ ys) (suc i) (suc j) x apart = slice_get-set_other ys i j x (λ e. apart (ap suc e))

-- ---- reading an element

abbrev counting : (A : Type 0) → ℕ → List (Value A)
counting A k = value.Unsigned k ∷ []

elements_same_if : {A : Type 0} (first : Bool) (n : ℕ) (vs ws : List (Value A)) → (n == 0) ≡ first → length vs ≡ length ws →
    (n ≢ 0 → slice_get vs (n - 1) ≡ slice_get ws (n - 1)) → cond first (value.Unsigned (length vs) ∷ []) (option_to_list (slice_get vs (n - 1)))
    ≡ cond first (value.Unsigned (length ws) ∷ []) (option_to_list (slice_get ws (n - 1)))
elements_same_if true n vs ws is long same = ap (λ (k : ℕ). counting _ k) long
elements_same_if false n vs ws is long same = ap (λ (v : Option (Value _)). option_to_list v) (same (eqb-false n 0 is))

-- as many values, with the same at an index, read the same there
reading_same : {A : Type 0} (array : Bool) (n : ℕ) (vs ws : List (Value A)) → length vs ≡ length ws → (n ≢ 0 → slice_get vs (n - 1) ≡ slice_get ws (n - 1)) →
    reading array vs (Some n) ≡ reading array ws (Some n)
reading_same array n vs ws long same =
    ap (λ (k : ℕ). unless_refused (index_refusal array k (Some n)) (at_index vs (Some n))) long
    ∙ ap (unless_refused (index_refusal array (length ws) (Some n))) (elements_same_if (n == 0) n vs ws refl long same)

abbrev taken_values : (A : Type 0) → List (Value A) → Result (List (Value A)) Refusal
taken_values A values = Ok values

reading_at_if : {A : Type 0} (first beyond : Bool) (n : ℕ) (vs : List (Value A)) (v : Value A) → first ≡ false → beyond ≡ false →
    slice_get vs (n - 1) ≡ Some v → unless_refused (cond beyond (Some invalid_index) None)
    (cond first (value.Unsigned (length vs) ∷ []) (option_to_list (slice_get vs (n - 1)))) ≡ Ok (v ∷ [])
reading_at_if true beyond n vs v f b e = absurd (true_false f)
reading_at_if false true n vs v f b e = absurd (true_false b)
reading_at_if false false n vs v f b e = ap (λ (x : Option (Value _)). taken_values _ (option_to_list x)) e

reading_at : {A : Type 0} (n : ℕ) (vs : List (Value A)) (v : Value A) → 1 ≤ n → n ≤ length vs → slice_get vs (n - 1) ≡ Some v →
    reading true vs (Some n) ≡ Ok (v ∷ [])
reading_at n vs v low high e = reading_at_if (n == 0) (nat_lt (length vs) n) n vs v (ne_eqb n 0 (λ z. omega (arith, low, z))) (le-ltb (length vs) n high) e

-- ---- commands

one_less : (n level : ℕ) → 1 ≤ level → n ≢ 0 → n - 1 ≡ level - 1 → n ≡ level
one_less n level low some e = elim (cases_eq n 0) [ inl zero_is ↦ absurd (some zero_is) | inr ne ↦ omega (arith, low, ne, e) ]

above_zero : (level : ℕ) → (nat_lt 0 level && nat_lt level 17) ≡ true → 1 ≤ level
above_zero level e = let low = ltb-true 0 level (and_parts (nat_lt 0 level) (nat_lt level 17) e).0 in omega (arith, low)

slots_others_if : {A : Type 0} (counts : Bool) (slots : List (Option (Value A))) (level n : ℕ) (v : Option (Value A)) → (counts ≡ true → 1 ≤ level) →
    n ≢ level → n ≢ 0 → slice_get (map slot_value (cond counts (put_slot slots level v) slots)) (n - 1) ≡ slice_get (map slot_value slots) (n - 1)
slots_others_if false slots level n v low apart some = refl
slots_others_if true slots level n v low apart some =
    let one = low refl in
    slice_get-map slot_value (slice_set slots (level - 1) v) (n - 1)
    ∙ ap (option_map slot_value) (slice_get-set_other slots (level - 1) (n - 1) v (λ e. apart (one_less n level one some e)))
    ∙ sym (slice_get-map slot_value slots (n - 1))

slots_others : {A : Type 0} (slots : List (Option (Value A))) (level n : ℕ) (v : Option (Value A)) → n ≢ level → n ≢ 0 →
    slice_get (map slot_value (put_level slots level v)) (n - 1) ≡ slice_get (map slot_value slots) (n - 1)
slots_others slots level n v apart some =
    slots_others_if (nat_lt 0 level && nat_lt level 17) slots level n v (λ e. above_zero level e) apart some

-- where a command is taken, the slots of other levels read as before
command_others : {A : Type 0} (t u : PlainTable A) (o : Object A) (p : Property) (level n : ℕ) (values : List (Value A)) →
    write_refusal (access o property.PresentValue) level values ≡ None → n ≢ level → property_number p ≡ property_number property.PriorityArray →
    reading (is_array p) (held u (put property.PresentValue level values o) p) (Some n) ≡ reading (is_array p) (held t o p) (Some n)
command_others t u (object.Device d) p level n values e apart is = absurd (some_none access_denied e)
command_others t u (object.Value o) p level n [] e apart is = refl
command_others t u (object.Value o) p level n (v ∷ w ∷ values) e apart is = refl
command_others t u (object.Value o) p level n (v ∷ []) e apart is =
    subst (λ (p : Property). reading (is_array p) (held u (put property.PresentValue level (v ∷ []) (object.Value o)) p) (Some n)
    ≡ reading (is_array p) (held t (object.Value o) p) (Some n)) (sym (one_property p property.PriorityArray is))
    (reading_same true n (map slot_value (put_level o.slots level (commanded v))) (map slot_value o.slots)
    (length-map (put_level o.slots level (commanded v)) slot_value ∙ length-put_level o.slots level (commanded v) ∙ sym (length-map o.slots slot_value))
    (slots_others o.slots level n (commanded v) apart))

-- a command leaves what is read of every slot of another level
pub command_leaves_others : {A : Type 0} (t u : PlainTable A) (id : ObjectId) (w : PropertyWrite A) (level : ℕ) → write t id w ≡ Ok u →
    w.property ≡ property_number property.PresentValue → level ≢ level_of w.priority →
    read u id (property_number property.PriorityArray) (Some level) ≡ read t id (property_number property.PriorityArray) (Some level)
command_leaves_others t u id w level e is apart =
    let d = is_done t id w u e in
    let same : property.PresentValue ≡ d.at.property =
    one_property property.PresentValue d.at.property (sym is ∙ sym (property_at-number d.at.object w.property d.at.property d.located.property)) in
    let taken : write_refusal (access d.at.object property.PresentValue) (level_of w.priority) w.values ≡ None =
    ap (λ (p : Property). write_refusal (access d.at.object p) (level_of w.priority) w.values) same ∙ d.taken in
    read_written t u id w d.at (property_number property.PriorityArray) (Some level) d.located.object d.table (λ p named.
    subst (λ (q : Property). reading (is_array p) (held u (put q (level_of w.priority) w.values d.at.object) p) (Some level)
    ≡ reading (is_array p) (held t d.at.object p) (Some level)) same
    (command_others t u d.at.object p (level_of w.priority) level w.values taken apart
    (property_at-number d.at.object (property_number property.PriorityArray) p named)))

-- ---- reading back what was written

set_known : (test : Bool) (r : Option Refusal) (e : Refusal) → cond test r (Some e) ≡ None → test ≡ true
set_known true r e p = refl
set_known false r e p = absurd (some_none e p)

abbrev in_set : (A : Type 0) → ℕ → List ℕ → Value A
in_set A set octets = value.Text set octets

text_back : {A : Type 0} (set : ℕ) (octets : List ℕ) → text_refusal set octets ≡ None → text {A = A} octets ≡ value.Text set octets
text_back {A} set octets e =
    ap (λ (n : ℕ). in_set A n octets) (sym (eqb-true set 0
    (set_known (set == 0) (cond (nat_lt 128 (length octets)) (Some no_space) (in_range (is_utf8 octets))) other_character_set e)))

value_back : {A : Type 0} (o : ValueObject A) (p : Property) (level : ℕ) (values : List (Value A)) →
    write_refusal (access (object.Value o) p) level values ≡ None → property_number p ≢ property_number property.PresentValue → (u : PlainTable A) →
    held u (put p level values (object.Value o)) p ≡ values
value_back o property.PresentValue level values e apart u = absurd (apart refl)
value_back o property.OutOfService level [] e apart u = absurd (some_none invalid_type e)
value_back o property.OutOfService level (v ∷ w ∷ values) e apart u = absurd (some_none invalid_type e)
value_back o property.OutOfService level (value.Bool b ∷ []) e apart u = refl
value_back o property.OutOfService level (v ∷ []) e apart u = absurd (some_none invalid_type e)
value_back o property.RelinquishDefault level [] e apart u = absurd (some_none invalid_type e)
value_back o property.RelinquishDefault level (v ∷ w ∷ values) e apart u = absurd (some_none invalid_type e)
value_back o property.RelinquishDefault level (v ∷ []) e apart u = refl
value_back o property.Description level [] e apart u = absurd (some_none invalid_type e)
value_back o property.Description level (v ∷ w ∷ values) e apart u = absurd (some_none invalid_type e)
value_back o property.Description level (value.Text set octets ∷ []) e apart u = ap (λ (v : Value _). v ∷ []) (text_back set octets e)
value_back o property.Description level (v ∷ []) e apart u = absurd (some_none invalid_type e)
value_back o p level values e apart u = absurd (some_none access_denied e)

device_back : {A : Type 0} (d : DeviceObject A) (p : Property) (level : ℕ) (values : List (Value A)) →
    write_refusal (access (object.Device d) p) level values ≡ None → (u : PlainTable A) → held u (put p level values (object.Device d)) p ≡ values
device_back d property.Description level [] e u = absurd (some_none invalid_type e)
device_back d property.Description level (v ∷ w ∷ values) e u = absurd (some_none invalid_type e)
device_back d property.Description level (value.Text set octets ∷ []) e u = ap (λ (v : Value _). v ∷ []) (text_back set octets e)
device_back d property.Description level (v ∷ []) e u = absurd (some_none invalid_type e)
device_back d p level values e u = absurd (some_none access_denied e)

put_back : {A : Type 0} (o : Object A) (p : Property) (level : ℕ) (values : List (Value A)) (u : PlainTable A) →
    write_refusal (access o p) level values ≡ None → property_number p ≢ property_number property.PresentValue → held u (put p level values o) p ≡ values
put_back (object.Device d) p level values u e apart = device_back d p level values e u
put_back (object.Value o) p level values u e apart = value_back o p level values e apart u

-- what is read of the property that was written
read_put : {A : Type 0} (t u : PlainTable A) (id : ObjectId) (w : PropertyWrite A) (at : Place A) (number : ℕ) (p : Property) (index : Option ℕ) →
    object_at t id ≡ Some at.object → with_object t id (put at.property (level_of w.priority) w.values) ≡ u → property_at at.object number ≡ Some p →
    read u id number index ≡ reading (is_array p) (held u (put at.property (level_of w.priority) w.values at.object) p) index
read_put t u id w at number p index found table named =
    read_is u id (put at.property (level_of w.priority) w.values at.object) number p index (write_own t u id w at found table)
    (ap (λ (ps : List Property). find (λ p. number == property_number p) ps) (put_properties at.property (level_of w.priority) w.values at.object) ∙ named)

-- every property but Present_Value reads back what was written
pub reads_back : {A : Type 0} (t u : PlainTable A) (id : ObjectId) (w : PropertyWrite A) → write t id w ≡ Ok u →
    w.property ≢ property_number property.PresentValue → read u id w.property None ≡ Ok w.values
reads_back t u id w e apart =
    let d = is_done t id w u e in
    read_put t u id w d.at w.property d.at.property None d.located.object d.table d.located.property
    ∙ ap (taken_values _) (put_back d.at.object d.at.property (level_of w.priority) w.values u d.taken
    (λ same. apart (sym (property_at-number d.at.object w.property d.at.property d.located.property) ∙ same)))

-- ---- reading back a command

many_refused : {A : Type 0} (d : Datatype) (v w : Value A) (values : List (Value A)) → command_refusal d (v ∷ w ∷ values) ≡ Some invalid_type
many_refused d value.Null w values = refl
many_refused d v w values = refl

array_named : (k : ValueKind) → find (λ p. property_number property.PriorityArray == property_number p)
    (first_properties ++ own_properties k ++ last_properties) ≡ Some property.PriorityArray
array_named kind.Binary = refl
array_named (kind.MultiState states) = refl
array_named kind.CharacterString = refl
array_named (kind.Integer units) = refl

-- the object of a command that is taken is a value object, and has a Priority_Array
array_there : {A : Type 0} (o : Object A) (level : ℕ) (values : List (Value A)) → write_refusal (access o property.PresentValue) level values ≡ None →
    property_at o (property_number property.PriorityArray) ≡ Some property.PriorityArray
array_there (object.Device d) level values e = absurd (some_none access_denied e)
array_there (object.Value o) level values e = array_named o.kind

slot_there : {A : Type 0} (slots : List (Option (Value A))) (level : ℕ) (v : Value A) → length slots ≡ 16 → 1 ≤ level → level ≤ 16 →
    slice_get (map slot_value (put_level slots level (commanded v))) (level - 1) ≡ Some v
slot_there slots level v sixteen low high =
    ap (λ (xs : List (Option (Value _))). slice_get (map slot_value xs) (level - 1)) (put_level_is slots level (commanded v) low high)
    ∙ slice_get-map slot_value (slice_set slots (level - 1) (commanded v)) (level - 1)
    ∙ ap (option_map slot_value) (slice_get-set_same slots (level - 1) (commanded v) (omega (arith, sixteen, low, high)))
    ∙ ap (λ (x : Value _). Some x) (slot_value-commanded v)

slot_back : {A : Type 0} (u : PlainTable A) (o : Object A) (level : ℕ) (values : List (Value A)) → IsSoundObjectOf o →
    write_refusal (access o property.PresentValue) level values ≡ None → 1 ≤ level → level ≤ 16 →
    reading true (held u (put property.PresentValue level values o) property.PriorityArray) (Some level) ≡ Ok values
slot_back u (object.Device d) level values s e low high = absurd (some_none access_denied e)
slot_back {A} u (object.Value o) level [] s e low high =
    absurd (some_none invalid_type (passes_unless (level == 6) access_denied (command_refusal {A = A} (datatype_of o.kind) []) e))
slot_back u (object.Value o) level (v ∷ w ∷ values) s e low high =
    absurd (some_none invalid_type (sym (many_refused (datatype_of o.kind) v w values)
    ∙ passes_unless (level == 6) access_denied (command_refusal (datatype_of o.kind) (v ∷ w ∷ values)) e))
slot_back u (object.Value o) level (v ∷ []) s e low high =
    let long : length (map slot_value (put_level o.slots level (commanded v))) ≡ 16 =
    length-map (put_level o.slots level (commanded v)) slot_value ∙ length-put_level o.slots level (commanded v) ∙ s.sixteen in
    reading_at level (map slot_value (put_level o.slots level (commanded v))) v low (omega (arith, long, high)) (slot_there o.slots level v s.sixteen low high)

commanded_at : {A : Type 0} (t : PlainTable A) (id : ObjectId) (w : PropertyWrite A) (o : Object A) (p : Property) →
    w.property ≡ property_number property.PresentValue → property_at o w.property ≡ Some p → property.PresentValue ≡ p
commanded_at t id w o p is named = one_property property.PresentValue p (sym is ∙ sym (property_at-number o w.property p named))

-- the slot of its level reads back what was commanded, Null too
pub command_reads_back : {A : Type 0} (t u : PlainTable A) (id : ObjectId) (w : PropertyWrite A) → IsSoundTable t → IsSoundPriority w.priority →
    write t id w ≡ Ok u → w.property ≡ property_number property.PresentValue → read u id (property_number property.PriorityArray) (Some (level_of w.priority))
    ≡ Ok w.values
command_reads_back t u id w s counts e is =
    let d = is_done t id w u e in
    let same = commanded_at t id w d.at.object d.at.property is d.located.property in
    let taken : write_refusal (access d.at.object property.PresentValue) (level_of w.priority) w.values ≡ None =
    ap (λ (p : Property). write_refusal (access d.at.object p) (level_of w.priority) w.values) same ∙ d.taken in
    let level = level_counts w.priority counts in
    read_put t u id w (record { object = d.at.object; property = property.PresentValue }) (property_number property.PriorityArray) property.PriorityArray
    (Some (level_of w.priority)) d.located.object
    (subst (λ (q : Property). with_object t id (put q (level_of w.priority) w.values) ≡ u) (sym same) d.table)
    (array_there d.at.object (level_of w.priority) w.values taken)
    ∙ slot_back u d.at.object (level_of w.priority) w.values (find_all IsSoundObjectOf (is_named id) t d.at.object s.objects d.located.object) taken level.0
    level.1

present_back : {A : Type 0} (u : PlainTable A) (o : Object A) (level : ℕ) (values : List (Value A)) → IsSoundObjectOf o →
    write_refusal (access o property.PresentValue) level values ≡ None → 1 ≤ level → level ≤ 16 → values ≢ value.Null ∷ [] →
    ((q : ValueObject A) → o ≡ object.Value q → NoneHigher q.slots level) → held u (put property.PresentValue level values o) property.PresentValue ≡ values
present_back u (object.Device d) level values s e low high some none = absurd (some_none access_denied e)
present_back {A} u (object.Value o) level [] s e low high some none =
    absurd (some_none invalid_type (passes_unless (level == 6) access_denied (command_refusal {A = A} (datatype_of o.kind) []) e))
present_back u (object.Value o) level (v ∷ w ∷ values) s e low high some none =
    absurd (some_none invalid_type (sym (many_refused (datatype_of o.kind) v w values)
    ∙ passes_unless (level == 6) access_denied (command_refusal (datatype_of o.kind) (v ∷ w ∷ values)) e))
present_back u (object.Value o) level (v ∷ []) s e low high some none =
    let sixteen = s.sixteen in
    let kept : put_level o.slots level (commanded v) ≡ put_slot o.slots level (Some v) =
    ap (put_level o.slots level) (commanded_is v (λ is. some (ap (λ (v : Value _). v ∷ []) is))) ∙ put_level_is o.slots level (Some v) low high in
    ap (λ (first : Option (Value _)). unwrap_or first o.default ∷ [])
    (ap first_filled kept ∙ put_first o.slots level v low (omega (arith, sixteen, high)) (none o refl))

-- Present_Value reads back what was commanded where the slots of all higher priorities are empty
pub command_shows : {A : Type 0} (t u : PlainTable A) (id : ObjectId) (w : PropertyWrite A) → IsSoundTable t → IsSoundPriority w.priority →
    write t id w ≡ Ok u → w.property ≡ property_number property.PresentValue → w.values ≢ value.Null ∷ [] → NoneHigherAt t id (level_of w.priority) →
    read u id w.property None ≡ Ok w.values
command_shows t u id w s counts e is some none =
    let d = is_done t id w u e in
    let same = commanded_at t id w d.at.object d.at.property is d.located.property in
    let taken : write_refusal (access d.at.object property.PresentValue) (level_of w.priority) w.values ≡ None =
    ap (λ (p : Property). write_refusal (access d.at.object p) (level_of w.priority) w.values) same ∙ d.taken in
    let level = level_counts w.priority counts in
    read_put t u id w (record { object = d.at.object; property = property.PresentValue }) w.property property.PresentValue None d.located.object
    (subst (λ (q : Property). with_object t id (put q (level_of w.priority) w.values) ≡ u) (sym same) d.table)
    (d.located.property ∙ ap (λ (p : Property). Some p) (sym same))
    ∙ ap (taken_values _) (present_back u d.at.object (level_of w.priority) w.values
    (find_all IsSoundObjectOf (is_named id) t d.at.object s.objects d.located.object) taken level.0 level.1 some
    (λ q is_value. none.none q (d.located.object ∙ ap (λ (o : Object _). Some o) is_value)))
