-- A write changes one object, and of it one thing.
use Rattle.std.proofs.Common.{refl, sym, ap, subst, ◌∙◌, ◌≡◌, ◌≢◌, ℕ, Bool, true, false, List, [], ◌∷◌, Option, Some, None, Result, Ok, Err, length}
use Rattle.std.proofs.lemmas.Bool.{eqb-true}
use Rattle.std.specs.Prelude.{cond, map, find, ◌==◌}
use Rattle.object_model.specs.tags.declared.object_id.ObjectId.{ObjectId}
use Rattle.object_model.specs.tags.declared.value.Value.{Value}
use Rattle.object_model.specs.tags.declared.value.Value.TheVariants as value
use Rattle.object_model.specs.declared.object.DeviceObject.{DeviceObject}
use Rattle.object_model.specs.declared.object.Object.{Object}
use Rattle.object_model.specs.declared.object.Object.TheVariants as object
use Rattle.object_model.specs.declared.object.ValueObject.{ValueObject}
use Rattle.primitives.specs.declared.plain_data.PropertyWrite.{PropertyWrite}
use Rattle.primitives.specs.declared.property.Property.{Property}
use Rattle.primitives.specs.declared.property.Property.TheVariants as property
use Rattle.object_model.specs.Identifiers.{same_id}
use Rattle.objects.specs.Laws.{IsNotShownBy}
use Rattle.primitives.specs.Numbers.{property_number}
use Rattle.object_model.specs.Objects.{PlainTable, identifier, properties_of, held_by_value, held_by_device, held, object_list}
use Rattle.primitives.specs.Properties.{is_array}
use Rattle.object_model.specs.Reading.{Refusal, Place, is_named, object_at, property_at, index_refusal, place_or, locate_element, locate_property, at_index}
use Rattle.object_model.specs.Reading.{read_place, read}
use Rattle.object_model.specs.Levels.{put_level}
use Rattle.object_model.specs.Writing.{level_of, commanded, put_value, put_device, put, with_object, write}
use Rattle.object_model.proofs.PlaceLaws.{same_is}
use Rattle.object_model.proofs.SoundLaws.{listed, some_none, some_same, identifier-put, map-with_object}
use Rattle.object_model.proofs.LocateLaws.{is_done}
use Rattle.objects.proofs.ShapeLaws.{alike-put, alike_properties}
use Rattle.objects.proofs.ChangeLaws.{listed-put}

-- ---- one number is one property

abbrev all_properties : List Property
all_properties = property.ApduSegmentTimeout ∷ property.ApduTimeout ∷ property.ApplicationSoftwareVersion ∷ property.Description
    ∷ property.DeviceAddressBinding ∷ property.EventState ∷ property.FirmwareRevision ∷ property.MaxApduLengthAccepted
    ∷ property.ModelName ∷ property.NumberOfApduRetries ∷ property.NumberOfStates ∷ property.ObjectIdentifier
    ∷ property.ObjectList ∷ property.ObjectName ∷ property.ObjectType ∷ property.OutOfService ∷ property.PresentValue
    ∷ property.PriorityArray ∷ property.ProtocolObjectTypesSupported ∷ property.ProtocolServicesSupported
    ∷ property.ProtocolVersion ∷ property.RelinquishDefault ∷ property.SegmentationSupported ∷ property.StatusFlags
    ∷ property.SystemStatus ∷ property.Units ∷ property.VendorIdentifier ∷ property.VendorName ∷ property.ProtocolRevision
    ∷ property.DatabaseRevision ∷ property.MaxSegmentsAccepted ∷ []

abbrev numbered : ℕ → Option Property
numbered n = find (λ p. n == property_number p) all_properties

numbered_back : (p : Property) → numbered (property_number p) ≡ Some p
numbered_back property.ObjectIdentifier = refl
numbered_back p = refl

-- properties of one number are one
pub one_property : (p q : Property) → property_number p ≡ property_number q → p ≡ q
one_property p q e = some_same p q (sym (numbered_back p) ∙ ap numbered e ∙ numbered_back q)

found_passes_if : {X : Type 0} (p : X → Bool) (test : Bool) (y x : X) (found : Option X) → p y ≡ test → cond test (Some y) found ≡ Some x →
    (found ≡ Some x → p x ≡ true) → p x ≡ true
found_passes_if p true y x found is e later = ap p (sym (some_same y x e)) ∙ is
found_passes_if p false y x found is e later = later e

found_passes : {X : Type 0} (p : X → Bool) (xs : List X) (x : X) → find p xs ≡ Some x → p x ≡ true
found_passes p [] x e = absurd (some_none x (sym e))
found_passes p (y ∷ ys) x e = found_passes_if p (p y) y x (find p ys) refl e (found_passes p ys x)

-- a property that is found has the number that was asked for
pub property_at-number : {A : Type 0} (o : Object A) (number : ℕ) (p : Property) → property_at o number ≡ Some p → property_number p ≡ number
property_at-number o number p e = sym (eqb-true number (property_number p) (found_passes (λ p. number == property_number p) (properties_of o) p e))

-- ---- the objects of a table after a write

not_same_if : (test : Bool) (a b : ObjectId) → same_id a b ≡ test → a ≢ b → test ≡ false
not_same_if true a b is apart = absurd (apart (same_is a b is))
not_same_if false a b is apart = refl

not_named : {A : Type 0} (id : ObjectId) (o : Object A) → identifier o ≢ id → is_named id o ≡ false
not_named id o apart = not_same_if (same_id (identifier o) id) (identifier o) id refl apart

object_at_other_if : {A : Type 0} (test : Bool) (o : Object A) (os os' : List (Object A)) (id other : ObjectId) (change : Object A → Object A) →
    is_named id o ≡ test → identifier (change o) ≡ identifier o → (other ≢ id) → object_at os' other ≡ object_at os other →
    object_at (cond test (change o ∷ os) (o ∷ os')) other ≡ object_at (o ∷ os) other
object_at_other_if true o os os' id other change is same apart rest =
    let named : identifier o ≡ id = same_is (identifier o) id is in
    let here : is_named other o ≡ false = not_named other o (λ e. apart (sym e ∙ named)) in
    let there : is_named other (change o) ≡ false = ap (λ (i : ObjectId). same_id i other) same ∙ here in
    ap (λ (test : Bool). cond test (Some (change o)) (object_at os other)) there ∙ ap (λ (test : Bool). cond test (Some o) (object_at os other)) (sym here)
object_at_other_if false o os os' id other change is same apart rest =
    ap (λ (found : Option (Object _)). cond (is_named other o) (Some o) found) rest

-- a write leaves every other object
pub object_at-other : {A : Type 0} (t : PlainTable A) (id other : ObjectId) (change : Object A → Object A) →
    ((o : Object A) → identifier (change o) ≡ identifier o) → other ≢ id → object_at (with_object t id change) other ≡ object_at t other
object_at-other [] id other change same apart = refl
object_at-other (o ∷ os) id other change same apart =
    object_at_other_if (is_named id o) o os (with_object os id change) id other change refl (same o) apart (object_at-other os id other change same apart)

object_at_own_if : {A : Type 0} (test : Bool) (q o : Object A) (os os' : List (Object A)) (id : ObjectId) (change : Object A → Object A) →
    is_named id q ≡ test → identifier (change q) ≡ identifier q → cond test (Some q) (object_at os id) ≡ Some o →
    (object_at os id ≡ Some o → object_at os' id ≡ Some (change o)) → object_at (cond test (change q ∷ os) (q ∷ os')) id ≡ Some (change o)
object_at_own_if true q o os os' id change is same found later =
    ap (λ (test : Bool). cond test (Some (change q)) (object_at os id)) (ap (λ (i : ObjectId). same_id i id) same ∙ is)
    ∙ ap (λ (x : Object _). Some (change x)) (some_same q o found)
object_at_own_if false q o os os' id change is same found later =
    ap (λ (test : Bool). cond test (Some q) (object_at os' id)) is ∙ later found

-- and changes its own
pub object_at-own : {A : Type 0} (t : PlainTable A) (id : ObjectId) (o : Object A) (change : Object A → Object A) →
    ((o : Object A) → identifier (change o) ≡ identifier o) → object_at t id ≡ Some o → object_at (with_object t id change) id ≡ Some (change o)
object_at-own [] id o change same found = absurd (some_none o (sym found))
object_at-own (q ∷ os) id o change same found =
    object_at_own_if (is_named id q) q o os (with_object os id change) id change refl (same q) found (object_at-own os id o change same)

-- ---- what is read is a property's values at an index

abbrev pub unless_refused : {A : Type 0} → Option Refusal → List (Value A) → Result (List (Value A)) Refusal
unless_refused None values = Ok values
unless_refused (Some e) values = Err e

-- what is read of these values at an index
abbrev pub reading : {A : Type 0} → Bool → List (Value A) → Option ℕ → Result (List (Value A)) Refusal
reading array values index = unless_refused (index_refusal array (length values) index) (at_index values index)

read_place_is : {A : Type 0} (t : PlainTable A) (refused : Option Refusal) (at : Place A) (index : Option ℕ) →
    read_place t (place_or refused at) index ≡ unless_refused refused (at_index (held t at.object at.property) index)
read_place_is t None at index = refl
read_place_is t (Some e) at index = refl

read_element_is : {A : Type 0} (t : PlainTable A) (o : Object A) (p : Property) (index : Option ℕ) →
    read_place t (locate_element t o (Some p) index) index ≡ reading (is_array p) (held t o p) index
read_element_is t o p index = read_place_is t (index_refusal (is_array p) (length (held t o p)) index) (record { object = o; property = p }) index

-- what is read of a property that is there
pub read_is : {A : Type 0} (t : PlainTable A) (id : ObjectId) (o : Object A) (number : ℕ) (p : Property) (index : Option ℕ) → object_at t id ≡ Some o →
    property_at o number ≡ Some p → read t id number index ≡ reading (is_array p) (held t o p) index
read_is t id o number p index found named =
    ap (λ (found : Option (Object _)). read_place t (locate_property t found number index) index) found
    ∙ ap (λ (named : Option Property). read_place t (locate_element t o named index) index) named
    ∙ read_element_is t o p index

read_same_named : {A : Type 0} (t u : PlainTable A) (o q : Object A) (named : Option Property) (index : Option ℕ) →
    ((p : Property) → named ≡ Some p → reading (is_array p) (held u q p) index ≡ reading (is_array p) (held t o p) index) →
    read_place u (locate_element u q named index) index ≡ read_place t (locate_element t o named index) index
read_same_named t u o q None index same = refl
read_same_named t u o q (Some p) index same = read_element_is u q p index ∙ same p refl ∙ sym (read_element_is t o p index)

-- objects of the same properties, whose values read the same
pub read_same : {A : Type 0} (t u : PlainTable A) (id : ObjectId) (o q : Object A) (number : ℕ) (index : Option ℕ) → object_at t id ≡ Some o →
    object_at u id ≡ Some q → properties_of q ≡ properties_of o →
    ((p : Property) → property_at o number ≡ Some p → reading (is_array p) (held u q p) index ≡ reading (is_array p) (held t o p) index) →
    read u id number index ≡ read t id number index
read_same t u id o q number index here there properties same =
    ap (λ (found : Option (Object _)). read_place u (locate_property u found number index) index) there
    ∙ ap (λ (ps : List Property). read_place u (locate_element u q (find (λ p. number == property_number p) ps) index) index) properties
    ∙ read_same_named t u o q (property_at o number) index same
    ∙ sym (ap (λ (found : Option (Object _)). read_place t (locate_property t found number index) index) here)

-- ---- what the properties of other numbers hold

device_holds : {A : Type 0} (t u : PlainTable A) (d : DeviceObject A) (p : Property) → object_list u ≡ object_list t →
    held_by_device u d p ≡ held_by_device t d p
device_holds t u d property.ObjectList list = list
device_holds t u d p list = refl

-- an object holds the same in two tables of one object list
pub holds : {A : Type 0} (t u : PlainTable A) (o : Object A) (p : Property) → object_list u ≡ object_list t → held u o p ≡ held t o p
holds t u (object.Device d) p list = device_holds t u d p list
holds t u (object.Value o) p list = refl

described_device_holds : {A : Type 0} (t u : PlainTable A) (d : DeviceObject A) (octets : List ℕ) (p : Property) → object_list u ≡ object_list t →
    property_number property.Description ≢ property_number p → held_by_device u (record d { description = octets }) p ≡ held_by_device t d p
described_device_holds t u d octets property.ObjectList list apart = list
described_device_holds t u d octets property.Description list apart = absurd (apart refl)
described_device_holds t u d octets p list apart = refl

put_device_holds : {A : Type 0} (t u : PlainTable A) (d : DeviceObject A) (written : Property) (v : Value A) (p : Property) → object_list u ≡ object_list t →
    IsNotShownBy written (property_number p) → held_by_device u (put_device d written v) p ≡ held_by_device t d p
put_device_holds t u d property.Description (value.Text set octets) p list apart = described_device_holds t u d octets p list apart.0
put_device_holds t u d written v p list apart = device_holds t u d p list

slots_hold : {A : Type 0} (o : ValueObject A) (slots : List (Option (Value A))) (p : Property) → property_number property.PresentValue ≢ property_number p →
    property_number property.PriorityArray ≢ property_number p → held_by_value (record o { slots = slots }) p ≡ held_by_value o p
slots_hold o slots property.PresentValue a b = absurd (a refl)
slots_hold o slots property.PriorityArray a b = absurd (b refl)
slots_hold o slots p a b = refl

default_holds : {A : Type 0} (o : ValueObject A) (v : Value A) (p : Property) → property_number property.RelinquishDefault ≢ property_number p →
    property_number property.PresentValue ≢ property_number p → held_by_value (record o { default = v }) p ≡ held_by_value o p
default_holds o v property.RelinquishDefault a b = absurd (a refl)
default_holds o v property.PresentValue a b = absurd (b refl)
default_holds o v p a b = refl

service_holds : {A : Type 0} (o : ValueObject A) (out : Bool) (p : Property) → property_number property.OutOfService ≢ property_number p →
    property_number property.StatusFlags ≢ property_number p → held_by_value (record o { out_of_service = out }) p ≡ held_by_value o p
service_holds o out property.OutOfService a b = absurd (a refl)
service_holds o out property.StatusFlags a b = absurd (b refl)
service_holds o out p a b = refl

description_holds : {A : Type 0} (o : ValueObject A) (octets : List ℕ) (p : Property) → property_number property.Description ≢ property_number p →
    held_by_value (record o { description = octets }) p ≡ held_by_value o p
description_holds o octets property.Description a = absurd (a refl)
description_holds o octets p a = refl

put_value_holds : {A : Type 0} (o : ValueObject A) (written : Property) (level : ℕ) (v : Value A) (p : Property) → IsNotShownBy written (property_number p) →
    held_by_value (put_value o written level v) p ≡ held_by_value o p
put_value_holds o property.PresentValue level v p apart = slots_hold o (put_level o.slots level (commanded v)) p apart.0 apart.1.0
put_value_holds o property.OutOfService level (value.Bool b) p apart = service_holds o b p apart.0 apart.1.0
put_value_holds o property.RelinquishDefault level v p apart = default_holds o v p apart.0 apart.1.0
put_value_holds o property.Description level (value.Text set octets) p apart = description_holds o octets p apart.0
put_value_holds o written level v p apart = refl

-- a property through which the written one doesn't show holds what it held
pub put_holds : {A : Type 0} (t u : PlainTable A) (written : Property) (level : ℕ) (values : List (Value A)) (o : Object A) (p : Property) →
    object_list u ≡ object_list t → IsNotShownBy written (property_number p) → held u (put written level values o) p ≡ held t o p
put_holds t u written level [] o p list apart = holds t u o p list
put_holds t u written level (v ∷ []) (object.Device d) p list apart = put_device_holds t u d written v p list apart
put_holds t u written level (v ∷ []) (object.Value o) p list apart = put_value_holds o written level v p apart
put_holds t u written level (v ∷ w ∷ values) o p list apart = holds t u o p list

-- ---- a write that is done

pub write_list : {A : Type 0} (t u : PlainTable A) (id : ObjectId) (w : PropertyWrite A) → write t id w ≡ Ok u → object_list u ≡ object_list t
write_list {A} t u id w e =
    let d = is_done t id w u e in
    ap (map (listed A)) (sym d.table) ∙ map-with_object (listed A) t id (put d.at.property (level_of w.priority) w.values)
    (listed-put d.at.property (level_of w.priority) w.values)

pub write_other : {A : Type 0} (t u : PlainTable A) (id other : ObjectId) (w : PropertyWrite A) → write t id w ≡ Ok u → other ≢ id →
    object_at u other ≡ object_at t other
write_other t u id other w e apart =
    let d = is_done t id w u e in
    ap (λ (x : PlainTable _). object_at x other) (sym d.table)
    ∙ object_at-other t id other (put d.at.property (level_of w.priority) w.values) (identifier-put d.at.property (level_of w.priority) w.values) apart

read_other_found : {A : Type 0} (t u : PlainTable A) (other : ObjectId) (found : Option (Object A)) (number : ℕ) (index : Option ℕ) →
    object_at t other ≡ found → object_at u other ≡ object_at t other → object_list u ≡ object_list t → read u other number index ≡ read t other number index
read_other_found t u other None number index found same list =
    ap (λ (found : Option (Object _)). read_place u (locate_property u found number index) index) (same ∙ found)
    ∙ sym (ap (λ (found : Option (Object _)). read_place t (locate_property t found number index) index) found)
read_other_found t u other (Some o) number index found same list =
    read_same t u other o o number index found (same ∙ found) refl (λ p named. ap (λ (vs : List (Value _)). reading (is_array p) vs index) (holds t u o p list))

-- a write leaves what is read of every other object
pub read_other : {A : Type 0} (t u : PlainTable A) (id other : ObjectId) (w : PropertyWrite A) (number : ℕ) (index : Option ℕ) → write t id w ≡ Ok u →
    other ≢ id → read u other number index ≡ read t other number index
read_other t u id other w number index e apart =
    read_other_found t u other (object_at t other) number index refl (write_other t u id other w e apart) (write_list t u id w e)

-- the object that was written, as it is then
pub write_own : {A : Type 0} (t u : PlainTable A) (id : ObjectId) (w : PropertyWrite A) (at : Place A) → object_at t id ≡ Some at.object →
    with_object t id (put at.property (level_of w.priority) w.values) ≡ u → object_at u id ≡ Some (put at.property (level_of w.priority) w.values at.object)
write_own t u id w at found table =
    ap (λ (x : PlainTable _). object_at x id) (sym table)
    ∙ object_at-own t id at.object (put at.property (level_of w.priority) w.values) (identifier-put at.property (level_of w.priority) w.values) found

pub put_properties : {A : Type 0} (p : Property) (level : ℕ) (values : List (Value A)) (o : Object A) → properties_of (put p level values o) ≡ properties_of o
put_properties p level values o = sym (alike_properties o (put p level values o) (alike-put p level values o))

-- what is read of the written object, where its values read as before
pub read_written : {A : Type 0} (t u : PlainTable A) (id : ObjectId) (w : PropertyWrite A) (at : Place A) (number : ℕ) (index : Option ℕ) →
    object_at t id ≡ Some at.object → with_object t id (put at.property (level_of w.priority) w.values) ≡ u →
    ((p : Property) → property_at at.object number ≡ Some p → reading (is_array p) (held u (put at.property (level_of w.priority) w.values at.object) p) index
    ≡ reading (is_array p) (held t at.object p) index) → read u id number index ≡ read t id number index
read_written t u id w at number index found table same =
    read_same t u id at.object (put at.property (level_of w.priority) w.values at.object) number index found (write_own t u id w at found table)
    (put_properties at.property (level_of w.priority) w.values at.object) same

-- of its own object a write leaves what is read of every property through which the written one doesn't show
pub read_own : {A : Type 0} (t u : PlainTable A) (id : ObjectId) (w : PropertyWrite A) (written : Property) (number : ℕ) (index : Option ℕ) →
    write t id w ≡ Ok u → property_number written ≡ w.property → IsNotShownBy written number → read u id number index ≡ read t id number index
read_own t u id w written number index e is apart =
    let d = is_done t id w u e in
    let same : written ≡ d.at.property = one_property written d.at.property
    (is ∙ sym (property_at-number d.at.object w.property d.at.property d.located.property)) in
    read_written t u id w d.at number index d.located.object d.table (λ p named.
    ap (λ (vs : List (Value _)). reading (is_array p) vs index)
    (put_holds t u d.at.property (level_of w.priority) w.values d.at.object p (write_list t u id w e)
    (subst (λ (n : ℕ). IsNotShownBy d.at.property n) (sym (property_at-number d.at.object number p named))
    (subst (λ (q : Property). IsNotShownBy q number) same apart))))
