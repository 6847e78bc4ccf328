-- What is read of a sound table is sound, and so is every refusal.
use Rattle.std.proofs.Common.{refl, sym, subst, ◌≡◌, ◌<◌, ◌≤◌, ◌^◌, ℕ, zero, suc, Bool, true, false, List, [], ◌∷◌, Option, Some, None, Result, Ok, Err, length}
use Rattle.std.proofs.Common.{arith}
use Rattle.std.proofs.lemmas.Bool.{ltb-false}
use Rattle.std.proofs.lemmas.List.{length-map}
use Rattle.std.specs.Prelude.{cond, map, find, ◌-◌, ◌==◌, nat_lt, ◌&&◌, ◌+◌, slice_get, option_to_list, unwrap_or}
use Rattle.std.specs.Str.{is_utf8}
use Rattle.std.specs.List.{AllByRecursion}
use Rattle.priority.specs.Slots.{first_filled}
use Rattle.primitives.specs.tags.declared.object_id.ObjectId.{ObjectId}
use Rattle.primitives.specs.tags.declared.value.Value.{Value}
use Rattle.primitives.specs.tags.declared.value.Value.TheVariants as value
use Rattle.primitives.specs.tags.Value.{IsSound}
use Rattle.object_model.specs.declared.object.Access.{Access}
use Rattle.object_model.specs.declared.object.Access.TheVariants.{ReadOnly, Writable, Commandable}
use Rattle.object_model.specs.declared.object.Datatype.{Datatype}
use Rattle.object_model.specs.declared.object.Datatype.TheVariants as datatype
use Rattle.object_model.specs.declared.object.DeviceObject.{DeviceObject}
use Rattle.object_model.specs.declared.object.Object.{Object}
use Rattle.object_model.specs.declared.object.Object.TheVariants as object
use Rattle.object_model.specs.declared.object.ValueKind.{ValueKind}
use Rattle.object_model.specs.declared.object.ValueKind.TheVariants as kind
use Rattle.object_model.specs.declared.object.ValueObject.{ValueObject}
use Rattle.primitives.specs.declared.plain_data.PropertyWrite.{PropertyWrite}
use Rattle.primitives.specs.declared.property.Property.{Property}
use Rattle.primitives.specs.declared.property.Property.TheVariants as property
use Rattle.profile.specs.LinkKind.{max_apdu}
use Rattle.profile.specs.declared.link_kind.LinkKind.{LinkKind}
use Rattle.profile.specs.declared.link_kind.LinkKind.TheVariants.{BacnetIp, MsTp}
use Rattle.primitives.specs.Numbers.{type_number}
use Rattle.object_model.specs.Objects.{PlainTable, type_of, present_value, status_flags, slot_value, states_of, units_of, held_by_value, held_by_device, held}
use Rattle.object_model.specs.Objects.{object_list}
use Rattle.primitives.specs.Properties.{is_array}
use Rattle.object_model.specs.Reading.{Refusal, Place, not_an_array, invalid_index, is_named, object_at, property_at, index_refusal, place_or, locate_element}
use Rattle.object_model.specs.Reading.{locate_property, locate, at_index, read_place, read}
use Rattle.primitives.specs.Sound.{AreSound, IsSoundError, IsSoundReading}
use Rattle.object_model.specs.Site.{IsText, IsSoundKind, IsValueOf, IsSlotOf, IsSoundValueObject, IsSoundDevice, IsSoundObjectOf, IsSoundTable}
use Rattle.object_model.specs.Writing.{level_of, in_range, no_space, other_character_set, access_denied, text_refusal, value_refusal, values_refusal}
use Rattle.object_model.specs.Writing.{command_refusal, write_refusal, access, put, with_object, unless, write_place, write}
use Rattle.object_model.proofs.SoundLaws.{listed, some_none, some_same}
use Rattle.object_model.proofs.LocateLaws.{located}

-- ---- refusals

-- an error that is sound, if there is one
abbrev pub IsSoundRefusal : Option Refusal → Type 0
IsSoundRefusal None = Unit {0}
IsSoundRefusal (Some e) = IsSoundError e.0 e.1

-- a result whose error is sound
abbrev pub IsSoundIfErr : {X : Type 0} → Result X Refusal → Type 0
IsSoundIfErr (Ok x) = Unit {0}
IsSoundIfErr (Err e) = IsSoundError e.0 e.1

in_range_sound : (fits : Bool) → IsSoundRefusal (in_range fits)
in_range_sound true = tt
in_range_sound false = (omega arith, tt, omega arith, tt)

space_sound : (long : Bool) (r : Option Refusal) → IsSoundRefusal r → IsSoundRefusal (cond long (Some no_space) r)
space_sound true r s = (omega arith, tt, omega arith, tt)
space_sound false r s = s

set_sound : (known : Bool) (r : Option Refusal) → IsSoundRefusal r → IsSoundRefusal (cond known r (Some other_character_set))
set_sound true r s = s
set_sound false r s = (omega arith, tt, omega arith, tt)

text_refusal_sound : (set : ℕ) (octets : List ℕ) → IsSoundRefusal (text_refusal set octets)
text_refusal_sound set octets =
    set_sound (set == 0) (cond (nat_lt 128 (length octets)) (Some no_space) (in_range (is_utf8 octets)))
    (space_sound (nat_lt 128 (length octets)) (in_range (is_utf8 octets)) (in_range_sound (is_utf8 octets)))

value_refusal_sound : {A : Type 0} (d : Datatype) (v : Value A) → IsSoundRefusal (value_refusal d v)
value_refusal_sound datatype.Boolean (value.Bool b) = tt
value_refusal_sound datatype.Binary (value.Enum n) = in_range_sound (nat_lt n 2)
value_refusal_sound (datatype.MultiState states) (value.Unsigned n) = in_range_sound (nat_lt 0 n && nat_lt n (1 + states))
value_refusal_sound datatype.CharacterString (value.Text set octets) = text_refusal_sound set octets
value_refusal_sound datatype.Integer (value.Signed z) = tt
value_refusal_sound d v = (omega arith, tt, omega arith, tt)

values_refusal_sound : {A : Type 0} (d : Datatype) (values : List (Value A)) → IsSoundRefusal (values_refusal d values)
values_refusal_sound d [] = (omega arith, tt, omega arith, tt)
values_refusal_sound d (v ∷ []) = value_refusal_sound d v
values_refusal_sound d (v ∷ w ∷ values) = (omega arith, tt, omega arith, tt)

command_refusal_sound : {A : Type 0} (d : Datatype) (values : List (Value A)) → IsSoundRefusal (command_refusal d values)
command_refusal_sound d (value.Null ∷ []) = tt
command_refusal_sound d values = values_refusal_sound d values

denied_sound : (test : Bool) (r : Option Refusal) → IsSoundRefusal r → IsSoundRefusal (cond test (Some access_denied) r)
denied_sound true r s = (omega arith, tt, omega arith, tt)
denied_sound false r s = s

pub write_refusal_sound : {A : Type 0} (a : Access) (level : ℕ) (values : List (Value A)) → IsSoundRefusal (write_refusal a level values)
write_refusal_sound ReadOnly level values = (omega arith, tt, omega arith, tt)
write_refusal_sound (Writable d) level values = values_refusal_sound d values
write_refusal_sound (Commandable d) level values = denied_sound (level == 6) (command_refusal d values) (command_refusal_sound d values)

beyond_sound : (beyond : Bool) → IsSoundRefusal (cond beyond (Some invalid_index) None)
beyond_sound true = (omega arith, tt, omega arith, tt)
beyond_sound false = tt

array_sound : (array : Bool) (r : Option Refusal) → IsSoundRefusal r → IsSoundRefusal (cond array r (Some not_an_array))
array_sound true r s = s
array_sound false r s = (omega arith, tt, omega arith, tt)

index_refusal_sound : (array : Bool) (elements : ℕ) (index : Option ℕ) → IsSoundRefusal (index_refusal array elements index)
index_refusal_sound array elements None = tt
index_refusal_sound array elements (Some i) = array_sound array (cond (nat_lt elements i) (Some invalid_index) None) (beyond_sound (nat_lt elements i))

place_or_sound : {A : Type 0} (r : Option Refusal) (p : Place A) → IsSoundRefusal r → IsSoundIfErr (place_or r p)
place_or_sound None p s = tt
place_or_sound (Some e) p s = s

locate_element_sound : {A : Type 0} (t : PlainTable A) (o : Object A) (named : Option Property) (index : Option ℕ) →
    IsSoundIfErr (locate_element t o named index)
locate_element_sound t o None index = (omega arith, tt, omega arith, tt)
locate_element_sound t o (Some p) index =
    place_or_sound (index_refusal (is_array p) (length (held t o p)) index) (record { object = o; property = p })
    (index_refusal_sound (is_array p) (length (held t o p)) index)

locate_property_sound : {A : Type 0} (t : PlainTable A) (found : Option (Object A)) (number : ℕ) (index : Option ℕ) →
    IsSoundIfErr (locate_property t found number index)
locate_property_sound t None number index = (omega arith, tt, omega arith, tt)
locate_property_sound t (Some o) number index = locate_element_sound t o (property_at o number) index

pub locate_sound : {A : Type 0} (t : PlainTable A) (id : ObjectId) (number : ℕ) (index : Option ℕ) → IsSoundIfErr (locate t id number index)
locate_sound t id number index = locate_property_sound t (object_at t id) number index

unless_sound : {A : Type 0} (r : Option Refusal) (t : PlainTable A) → IsSoundRefusal r → IsSoundIfErr (unless r t)
unless_sound None t s = tt
unless_sound (Some e) t s = s

write_place_sound : {A : Type 0} (t : PlainTable A) (id : ObjectId) (w : PropertyWrite A) (place : Result (Place A) Refusal) → IsSoundIfErr place →
    IsSoundIfErr (write_place t id w place)
write_place_sound t id w (Err e) s = s
write_place_sound t id w (Ok at) s = unless_sound (write_refusal (access at.object at.property) (level_of w.priority) w.values)
    (with_object t id (put at.property (level_of w.priority) w.values)) (write_refusal_sound (access at.object at.property) (level_of w.priority) w.values)

-- why a write is refused is sound
pub write_sound : {A : Type 0} (t : PlainTable A) (id : ObjectId) (w : PropertyWrite A) → IsSoundIfErr (write t id w)
write_sound t id w = write_place_sound t id w (locate t id w.property w.index) (locate_sound t id w.property w.index)

-- ---- what a property holds

cons_nil : {X : Type 0} (x : X) (xs : List X) → x ∷ xs ≡ [] → ⊥
cons_nil x xs e = cc

short_if : (long : Bool) (r : Option Refusal) → cond long (Some no_space) r ≡ None → long ≡ false
short_if true r e = absurd (some_none no_space e)
short_if false r e = refl

text_short : (octets : List ℕ) → IsText octets → length octets < 2 ^ 31
text_short octets e = let b = ltb-false 128 (length octets) (short_if (nat_lt 128 (length octets)) (in_range (is_utf8 octets)) e) in omega (arith, b)

find_all_if : {X : Type 0} (P : X → Type 0) (test : Bool) (found : Option X) (y x : X) → P y → cond test (Some y) found ≡ Some x → (found ≡ Some x → P x) → P x
find_all_if P true found y x p e later = subst P (some_same _ _ e) p
find_all_if P false found y x p e later = later e

-- what holds of each element holds of the one that is found
pub find_all : {X : Type 0} (P : X → Type 0) (test : X → Bool) (xs : List X) (x : X) → AllByRecursion P xs → find test xs ≡ Some x → P x
find_all P test [] x all e = absurd (some_none x (sym e))
find_all P test (y ∷ ys) x all e = find_all_if P (test y) (find test ys) y x all.0 e (λ later. find_all P test ys x all.1 later)

first_filled_value : {A : Type 0} (k : ValueKind) (slots : List (Option (Value A))) (default : Value A) → AllByRecursion (IsSlotOf k) slots →
    IsValueOf k default → IsValueOf k (unwrap_or (first_filled slots) default)
first_filled_value k [] default all d = d
first_filled_value k (None ∷ slots) default all d = first_filled_value k slots default all.1 d
first_filled_value k (Some v ∷ slots) default all d = all.0

-- the value in force is one that the object may have
pub present_value_sound : {A : Type 0} (o : ValueObject A) → IsSoundValueObject o → IsValueOf o.kind (present_value o)
present_value_sound o s = first_filled_value o.kind o.slots o.default s.slots s.default

slot_values_sound : {A : Type 0} (k : ValueKind) (slots : List (Option (Value A))) → AllByRecursion (IsSlotOf k) slots → AreSound (map slot_value slots)
slot_values_sound k [] all = tt
slot_values_sound k (None ∷ slots) all = (tt, slot_values_sound k slots all.1)
slot_values_sound k (Some v ∷ slots) all = (all.0.sound, slot_values_sound k slots all.1)

type_sound : (k : ValueKind) → type_number (type_of k) < 1024
type_sound kind.Binary = omega arith
type_sound (kind.MultiState states) = omega arith
type_sound kind.CharacterString = omega arith
type_sound (kind.Integer units) = omega arith

instance_sound : (n : ℕ) → n < 4194303 → n < 2 ^ 22
instance_sound n low = omega (arith, low)

identifier_sound : {A : Type 0} (o : Object A) → IsSoundObjectOf o → IsSound (listed A o)
identifier_sound (object.Device d) s = (omega arith, instance_sound _ s.instance)
identifier_sound (object.Value o) s = (type_sound o.kind, instance_sound _ s.instance)

object_list_sound : {A : Type 0} (t : PlainTable A) → AllByRecursion IsSoundObjectOf t → AreSound (object_list t)
object_list_sound [] all = tt
object_list_sound (o ∷ os) all = (identifier_sound o all.0, object_list_sound os all.1)

status_flags_sound : (A : Type 0) (b : Bool) → IsSound (status_flags {A = A} b)
status_flags_sound A true = (omega arith, record { few = omega arith; none = λ e. absurd (cons_nil _ _ e) })
status_flags_sound A false = (omega arith, record { few = omega arith; none = λ e. absurd (cons_nil _ _ e) })

states_sound : (A : Type 0) (k : ValueKind) → IsSoundKind k → AreSound (states_of {A = A} k)
states_sound A kind.Binary s = tt
states_sound A (kind.MultiState states) s = let low = s.1 in (omega (arith, low), tt)
states_sound A kind.CharacterString s = tt
states_sound A (kind.Integer units) s = tt

units_sound : (A : Type 0) (k : ValueKind) → IsSoundKind k → AreSound (units_of {A = A} k)
units_sound A kind.Binary s = tt
units_sound A (kind.MultiState states) s = tt
units_sound A kind.CharacterString s = tt
units_sound A (kind.Integer units) s = (s, tt)

type_small : (n : ℕ) → n < 1024 → n < 2 ^ 32
type_small n low = omega (arith, low)

held_by_value_sound : {A : Type 0} (o : ValueObject A) (p : Property) → IsSoundValueObject o → AreSound (held_by_value o p)
held_by_value_sound o property.ObjectIdentifier s = (identifier_sound (object.Value o) s, tt)
held_by_value_sound o property.ObjectName s = (text_short _ s.name, tt)
held_by_value_sound o property.ObjectType s = (type_small _ (type_sound o.kind), tt)
held_by_value_sound o property.PresentValue s = ((present_value_sound o s).sound, tt)
held_by_value_sound o property.StatusFlags s = (status_flags_sound _ o.out_of_service, tt)
held_by_value_sound o property.EventState s = (omega arith, tt)
held_by_value_sound o property.OutOfService s = (tt, tt)
held_by_value_sound o property.NumberOfStates s = states_sound _ o.kind s.kind
held_by_value_sound o property.Units s = units_sound _ o.kind s.kind
held_by_value_sound o property.PriorityArray s = slot_values_sound o.kind o.slots s.slots
held_by_value_sound o property.RelinquishDefault s = (s.default.sound, tt)
held_by_value_sound o property.Description s = (text_short _ s.description, tt)
held_by_value_sound o p s = tt

max_apdu_sound : (link : LinkKind) → max_apdu link < 2 ^ 32
max_apdu_sound BacnetIp = omega arith
max_apdu_sound MsTp = omega arith

vendor_sound : (n : ℕ) → n < 2 ^ 16 → n < 2 ^ 32
vendor_sound n low = omega (arith, low)

held_by_device_sound : {A : Type 0} (t : PlainTable A) (d : DeviceObject A) (p : Property) → AllByRecursion IsSoundObjectOf t → IsSoundDevice d →
    AreSound (held_by_device t d p)
held_by_device_sound t d property.ObjectIdentifier all s = (identifier_sound (object.Device d) s, tt)
held_by_device_sound t d property.ObjectName all s = (text_short _ s.name, tt)
held_by_device_sound t d property.ObjectType all s = (omega arith, tt)
held_by_device_sound t d property.SystemStatus all s = (omega arith, tt)
held_by_device_sound t d property.VendorName all s = (omega arith, tt)
held_by_device_sound t d property.VendorIdentifier all s = (vendor_sound _ s.vendor, tt)
held_by_device_sound t d property.ModelName all s = (omega arith, tt)
held_by_device_sound t d property.FirmwareRevision all s = (omega arith, tt)
held_by_device_sound t d property.ApplicationSoftwareVersion all s = (omega arith, tt)
held_by_device_sound t d property.ProtocolVersion all s = (omega arith, tt)
held_by_device_sound t d property.ProtocolRevision all s = (omega arith, tt)
held_by_device_sound t d property.ProtocolServicesSupported all s = ((omega arith, record { few = omega arith; none = λ e. absurd (cons_nil _ _ e) }), tt)
held_by_device_sound t d property.ProtocolObjectTypesSupported all s = ((omega arith, record { few = omega arith; none = λ e. absurd (cons_nil _ _ e) }), tt)
held_by_device_sound t d property.ObjectList all s = object_list_sound t all
held_by_device_sound t d property.MaxApduLengthAccepted all s = (max_apdu_sound d.data_link, tt)
held_by_device_sound t d property.SegmentationSupported all s = (omega arith, tt)
held_by_device_sound t d property.MaxSegmentsAccepted all s = (omega arith, tt)
held_by_device_sound t d property.ApduSegmentTimeout all s = (omega arith, tt)
held_by_device_sound t d property.ApduTimeout all s = (omega arith, tt)
held_by_device_sound t d property.NumberOfApduRetries all s = (omega arith, tt)
held_by_device_sound t d property.DeviceAddressBinding all s = tt
held_by_device_sound t d property.DatabaseRevision all s = (omega arith, tt)
held_by_device_sound t d property.Description all s = (text_short _ s.description, tt)
held_by_device_sound t d p all s = tt

-- what a property of a sound object holds is sound
pub held_sound : {A : Type 0} (t : PlainTable A) (o : Object A) (p : Property) → AllByRecursion IsSoundObjectOf t → IsSoundObjectOf o → AreSound (held t o p)
held_sound t (object.Device d) p all s = held_by_device_sound t d p all s
held_sound t (object.Value o) p all s = held_by_value_sound o p s

-- ---- how many values a property has

kind_values : (A : Type 0) (k : ValueKind) → (length (states_of {A = A} k) < 514) × (length (units_of {A = A} k) < 514)
kind_values A kind.Binary = (omega arith, omega arith)
kind_values A (kind.MultiState states) = (omega arith, omega arith)
kind_values A kind.CharacterString = (omega arith, omega arith)
kind_values A (kind.Integer units) = (omega arith, omega arith)

slots_few : {A : Type 0} (slots : List (Option (Value A))) → length slots ≡ 16 → length (map slot_value slots) < 514
slots_few slots e = let n = length-map slots slot_value in omega (arith, n, e)

objects_few : {A : Type 0} (t : PlainTable A) → length t ≤ 513 → length (object_list t) < 514
objects_few {A} t few = let n = length-map t (λ (o : Object A). listed A o) in omega (arith, n, few)

held_by_value_few : {A : Type 0} (o : ValueObject A) (p : Property) → IsSoundValueObject o → length (held_by_value o p) < 514
held_by_value_few {A} o property.NumberOfStates s = (kind_values A o.kind).0
held_by_value_few {A} o property.Units s = (kind_values A o.kind).1
held_by_value_few o property.PriorityArray s = slots_few o.slots s.sixteen
held_by_value_few o p s = omega arith

held_by_device_few : {A : Type 0} (t : PlainTable A) (d : DeviceObject A) (p : Property) → length t ≤ 513 → length (held_by_device t d p) < 514
held_by_device_few t d property.ObjectList few = objects_few t few
held_by_device_few t d p few = omega arith

-- a property holds at most 513 values
pub held_few : {A : Type 0} (t : PlainTable A) (o : Object A) (p : Property) → length t ≤ 513 → IsSoundObjectOf o → length (held t o p) < 514
held_few t (object.Device d) p few s = held_by_device_few t d p few
held_few t (object.Value o) p few s = held_by_value_few o p s

-- ---- what is read

element_sound : {A : Type 0} (values : List (Value A)) (i : ℕ) → AreSound values → AreSound (option_to_list (slice_get values i))
element_sound [] i all = tt
element_sound (v ∷ vs) zero all = (all.0, tt)
element_sound (v ∷ vs) (suc i) all = element_sound vs i all.1

at_index_sound_if : {A : Type 0} (first : Bool) (values : List (Value A)) (i : ℕ) → AreSound values → length values < 514 →
    AreSound (cond first (value.Unsigned (length values) ∷ []) (option_to_list (slice_get values (i - 1))))
at_index_sound_if true values i all few = (omega (arith, few), tt)
at_index_sound_if false values i all few = element_sound values (i - 1) all

pub at_index_sound : {A : Type 0} (values : List (Value A)) (index : Option ℕ) → AreSound values → length values < 514 → AreSound (at_index values index)
at_index_sound values None all few = all
at_index_sound values (Some i) all few = at_index_sound_if (i == 0) values i all few

read_sound_at : {A : Type 0} (t : PlainTable A) (id : ObjectId) (number : ℕ) (index : Option ℕ) (place : Result (Place A) Refusal) → IsSoundTable t →
    locate t id number index ≡ place → IsSoundIfErr place → IsSoundReading (read_place t place index)
read_sound_at t id number index (Err e) s at sound = sound
read_sound_at t id number index (Ok at) s e sound =
    let o_sound = find_all IsSoundObjectOf (is_named id) t at.object s.objects (located t id number index at e).object in
    at_index_sound (held t at.object at.property) index (held_sound t at.object at.property s.objects o_sound) (held_few t at.object at.property s.few o_sound)

-- what is read of a sound table is sound
pub read_sound : {A : Type 0} (t : PlainTable A) (id : ObjectId) (number : ℕ) (index : Option ℕ) → IsSoundTable t → IsSoundReading (read t id number index)
read_sound t id number index s = read_sound_at t id number index (locate t id number index) s refl (locate_sound t id number index)
