-- A write leaves an object, and a table, as sound as they were.
use Rattle.std.proofs.Common.{refl, sym, ap, ◌∙◌, ◌≡◌, ◌≤◌, ℕ, zero, suc, Bool, true, false, List, [], ◌∷◌, Option, Some, None, length, subst}
use Rattle.std.proofs.lemmas.List.{length-map}
use Rattle.std.specs.Prelude.{map, cond, ◌-◌, slice_set}
use Rattle.std.specs.List.{AllByRecursion}
use Rattle.priority.specs.Slots.{put_slot}
use Rattle.priority.proofs.SlotLaws.{length-put_slot}
use Rattle.primitives.specs.tags.declared.object_id.ObjectId.{ObjectId}
use Rattle.primitives.specs.tags.declared.value.Value.{Value}
use Rattle.primitives.specs.tags.declared.value.Value.TheVariants as value
use Rattle.primitives.specs.tags.Value.{IsSound}
use Rattle.object_model.specs.declared.object.DeviceObject.{DeviceObject}
use Rattle.object_model.specs.declared.object.Object.{Object}
use Rattle.object_model.specs.declared.object.Object.TheVariants as object
use Rattle.object_model.specs.declared.object.ValueKind.{ValueKind}
use Rattle.object_model.specs.declared.object.ValueObject.{ValueObject}
use Rattle.primitives.specs.declared.property.Property.{Property}
use Rattle.primitives.specs.declared.property.Property.TheVariants as property
use Rattle.object_model.specs.Objects.{PlainTable, identifier, name_of, type_of}
use Rattle.primitives.specs.Numbers.{type_number}
use Rattle.object_model.specs.Reading.{Refusal, is_named, object_at}
use Rattle.primitives.specs.Sound.{AreSound}
use Rattle.object_model.specs.Site.{IsText, IsSlotOf, IsSoundValueObject, IsSoundDevice, IsSoundObjectOf, IsOther, AllApart, IsValueObject, HasOneDevice}
use Rattle.object_model.specs.Site.{IsSoundTable}
use Rattle.object_model.specs.Levels.{put_level}
use Rattle.object_model.specs.Writing.{access_denied, other_character_set, datatype_of, access, text_refusal, command_refusal, write_refusal, commanded}
use Rattle.object_model.specs.Writing.{put_value, put_device, put, with_object}

-- ---- what a write never changes

-- an object's identifier as a value, as the object list has it
abbrev pub listed : (A : Type 0) → Object A → Value A
listed A o = value.Object (identifier o)

pub put_value_kind : {A : Type 0} (o : ValueObject A) (p : Property) (level : ℕ) (v : Value A) → (put_value o p level v).kind ≡ o.kind
put_value_kind o property.PresentValue level v = refl
put_value_kind o property.OutOfService level (value.Bool b) = refl
put_value_kind o property.RelinquishDefault level v = refl
put_value_kind o property.Description level (value.Text set octets) = refl
put_value_kind o p level v = refl

pub put_value_instance : {A : Type 0} (o : ValueObject A) (p : Property) (level : ℕ) (v : Value A) → (put_value o p level v).instance ≡ o.instance
put_value_instance o property.PresentValue level v = refl
put_value_instance o property.OutOfService level (value.Bool b) = refl
put_value_instance o property.RelinquishDefault level v = refl
put_value_instance o property.Description level (value.Text set octets) = refl
put_value_instance o p level v = refl

pub put_value_name : {A : Type 0} (o : ValueObject A) (p : Property) (level : ℕ) (v : Value A) → (put_value o p level v).name ≡ o.name
put_value_name o property.PresentValue level v = refl
put_value_name o property.OutOfService level (value.Bool b) = refl
put_value_name o property.RelinquishDefault level v = refl
put_value_name o property.Description level (value.Text set octets) = refl
put_value_name o p level v = refl

length-put_level_if : {A : Type 0} (counts : Bool) (slots : List (Option (Value A))) (level : ℕ) (v : Option (Value A)) →
    length (cond counts (put_slot slots level v) slots) ≡ length slots
length-put_level_if true slots level v = length-put_slot slots level v
length-put_level_if false slots level v = refl

pub length-put_level : {A : Type 0} (slots : List (Option (Value A))) (level : ℕ) (v : Option (Value A)) → length (put_level slots level v) ≡ length slots
length-put_level slots level v = length-put_level_if _ slots level v

pub put_value_slots : {A : Type 0} (o : ValueObject A) (p : Property) (level : ℕ) (v : Value A) → length (put_value o p level v).slots ≡ length o.slots
put_value_slots o property.PresentValue level v = length-put_level o.slots level (commanded v)
put_value_slots o property.OutOfService level (value.Bool b) = refl
put_value_slots o property.RelinquishDefault level v = refl
put_value_slots o property.Description level (value.Text set octets) = refl
put_value_slots o p level v = refl

pub put_device_instance : {A : Type 0} (d : DeviceObject A) (p : Property) (v : Value A) → (put_device d p v).instance ≡ d.instance
put_device_instance d property.Description (value.Text set octets) = refl
put_device_instance d p v = refl

pub put_device_name : {A : Type 0} (d : DeviceObject A) (p : Property) (v : Value A) → (put_device d p v).name ≡ d.name
put_device_name d property.Description (value.Text set octets) = refl
put_device_name d p v = refl

pub value_identifier : {A : Type 0} (o q : ValueObject A) → o.kind ≡ q.kind → o.instance ≡ q.instance →
    identifier (object.Value o) ≡ identifier (object.Value q)
value_identifier o q k i =
    ap (λ (k : ValueKind). record { object_type = type_number (type_of k); instance = o.instance }) k
    ∙ ap (λ (i : ℕ). record { object_type = type_number (type_of q.kind); instance = i }) i

pub device_identifier : {A : Type 0} (d e : DeviceObject A) → d.instance ≡ e.instance → identifier (object.Device d) ≡ identifier (object.Device e)
device_identifier d e i = ap (λ (i : ℕ). record { object_type = 8; instance = i }) i

-- a write leaves an object's identifier
pub identifier-put : {A : Type 0} (p : Property) (level : ℕ) (values : List (Value A)) (o : Object A) → identifier (put p level values o) ≡ identifier o
identifier-put p level [] o = refl
identifier-put p level (v ∷ []) (object.Device d) = device_identifier (put_device d p v) d (put_device_instance d p v)
identifier-put p level (v ∷ []) (object.Value o) = value_identifier (put_value o p level v) o (put_value_kind o p level v) (put_value_instance o p level v)
identifier-put p level (v ∷ w ∷ values) o = refl

-- and its name
pub name_of-put : {A : Type 0} (p : Property) (level : ℕ) (values : List (Value A)) (o : Object A) → name_of (put p level values o) ≡ name_of o
name_of-put p level [] o = refl
name_of-put p level (v ∷ []) (object.Device d) = put_device_name d p v
name_of-put p level (v ∷ []) (object.Value o) = put_value_name o p level v
name_of-put p level (v ∷ w ∷ values) o = refl

map-with_object_if : {A X : Type 0} (f : Object A → X) (change : Object A → Object A) (test : Bool) (o : Object A) (os os' : List (Object A)) →
    f (change o) ≡ f o → map f os' ≡ map f os → map f (cond test (change o ∷ os) (o ∷ os')) ≡ map f (o ∷ os)
map-with_object_if f change true o os os' e rest = ap (λ (x : _). x ∷ map f os) e
map-with_object_if f change false o os os' e rest = ap (λ (xs : List _). f o ∷ xs) rest

-- what a change of an object leaves as it is stays so in the table
pub map-with_object : {A X : Type 0} (f : Object A → X) (t : PlainTable A) (id : ObjectId) (change : Object A → Object A) →
    ((o : Object A) → f (change o) ≡ f o) → map f (with_object t id change) ≡ map f t
map-with_object f [] id change same = refl
map-with_object f (o ∷ os) id change same =
    map-with_object_if f change (is_named id o) o os (with_object os id change) (same o) (map-with_object f os id change same)

pub identifiers-with_object : {A : Type 0} (t : PlainTable A) (id : ObjectId) (p : Property) (level : ℕ) (values : List (Value A)) →
    map identifier (with_object t id (put p level values)) ≡ map identifier t
identifiers-with_object t id p level values = map-with_object identifier t id (put p level values) (identifier-put p level values)

pub names-with_object : {A : Type 0} (t : PlainTable A) (id : ObjectId) (p : Property) (level : ℕ) (values : List (Value A)) →
    map name_of (with_object t id (put p level values)) ≡ map name_of t
names-with_object t id p level values = map-with_object name_of t id (put p level values) (name_of-put p level values)

-- ---- values

pub true_false : true ≡ false → ⊥
true_false e = cc

pub some_none : {X : Type 0} (x : X) → Some x ≡ None → ⊥
some_none x e = cc

-- a condition that must not hold for anything but a refusal
pub passes_unless : (test : Bool) (e : Refusal) (r : Option Refusal) → cond test (Some e) r ≡ None → r ≡ None
passes_unless true e r p = absurd (some_none e p)
passes_unless false e r p = p

-- a condition that must hold
pub passes_where : (test : Bool) (e : Refusal) (r : Option Refusal) → cond test r (Some e) ≡ None → r ≡ None
passes_where true e r p = p
passes_where false e r p = absurd (some_none e p)

text_taken : (set : ℕ) (octets : List ℕ) → text_refusal set octets ≡ None → IsText octets
text_taken set octets e = passes_where _ other_character_set _ e

-- a command that is taken leaves a slot of the object's values
command_slot : {A : Type 0} (k : ValueKind) (v : Value A) → command_refusal (datatype_of k) (v ∷ []) ≡ None → IsSound v → IsSlotOf k (commanded v)
command_slot k value.Null e s = tt
command_slot k v e s = record { taken = e; sound = s }

AllByRecursion-set : {X : Type 0} (P : X → Type 0) (xs : List X) (i : ℕ) (x : X) → AllByRecursion P xs → P x → AllByRecursion P (slice_set xs i x)
AllByRecursion-set P [] i x all p = tt
AllByRecursion-set P (y ∷ ys) zero x all p = (p, all.1)
AllByRecursion-set P (y ∷ ys) (suc i) x all p = (all.0, AllByRecursion-set P ys i x all.1 p)

put_level_all_if : {A : Type 0} (k : ValueKind) (counts : Bool) (slots : List (Option (Value A))) (level : ℕ) (v : Option (Value A)) →
    AllByRecursion (IsSlotOf k) slots → IsSlotOf k v → AllByRecursion (IsSlotOf k) (cond counts (put_slot slots level v) slots)
put_level_all_if k true slots level v all s = AllByRecursion-set (IsSlotOf k) slots (level - 1) v all s
put_level_all_if k false slots level v all s = all

pub put_level_all : {A : Type 0} (k : ValueKind) (slots : List (Option (Value A))) (level : ℕ) (v : Option (Value A)) → AllByRecursion (IsSlotOf k) slots →
    IsSlotOf k v → AllByRecursion (IsSlotOf k) (put_level slots level v)
put_level_all k slots level v all s = put_level_all_if k _ slots level v all s

-- ---- one object

-- a value object stays sound where the write isn't refused
pub put_value_sound : {A : Type 0} (o : ValueObject A) (p : Property) (level : ℕ) (v : Value A) → IsSoundValueObject o →
    write_refusal (access (object.Value o) p) level (v ∷ []) ≡ None → IsSound v → IsSoundValueObject (put_value o p level v)
put_value_sound o property.PresentValue level v s e sound = record {
  kind = s.kind;
  instance = s.instance;
  name = s.name;
  sixteen = length-put_level o.slots level (commanded v) ∙ s.sixteen;
  slots = put_level_all o.kind o.slots level (commanded v) s.slots (command_slot o.kind v (passes_unless _ access_denied _ e) sound);
  default = s.default;
  description = s.description;
}
put_value_sound o property.OutOfService level (value.Bool b) s e sound = record {
  kind = s.kind;
  instance = s.instance;
  name = s.name;
  sixteen = s.sixteen;
  slots = s.slots;
  default = s.default;
  description = s.description;
}
put_value_sound o property.RelinquishDefault level v s e sound = record {
  kind = s.kind;
  instance = s.instance;
  name = s.name;
  sixteen = s.sixteen;
  slots = s.slots;
  default = record { taken = e; sound = sound };
  description = s.description;
}
put_value_sound o property.Description level (value.Text set octets) s e sound = record {
  kind = s.kind;
  instance = s.instance;
  name = s.name;
  sixteen = s.sixteen;
  slots = s.slots;
  default = s.default;
  description = text_taken set octets e;
}
put_value_sound o p level v s e sound = s

-- so does a Device object
pub put_device_sound : {A : Type 0} (d : DeviceObject A) (p : Property) (level : ℕ) (v : Value A) → IsSoundDevice d →
    write_refusal (access (object.Device d) p) level (v ∷ []) ≡ None → IsSoundDevice (put_device d p v)
put_device_sound d property.Description level (value.Text set octets) s e = record {
  instance = s.instance;
  name = s.name;
  vendor = s.vendor;
  description = text_taken set octets e;
}
put_device_sound d p level v s e = s

-- a sound object stays sound where the write isn't refused
pub IsSoundObjectOf-put : {A : Type 0} (p : Property) (level : ℕ) (values : List (Value A)) (o : Object A) → IsSoundObjectOf o →
    write_refusal (access o p) level values ≡ None → AreSound values → IsSoundObjectOf (put p level values o)
IsSoundObjectOf-put p level [] o s e sound = s
IsSoundObjectOf-put p level (v ∷ []) (object.Device d) s e sound = put_device_sound d p level v s e
IsSoundObjectOf-put p level (v ∷ []) (object.Value o) s e sound = put_value_sound o p level v s e sound.0
IsSoundObjectOf-put p level (v ∷ w ∷ values) o s e sound = s

-- ---- a table

all_with_object_if : {A : Type 0} (P : Object A → Type 0) (o : Object A) (os os' : List (Object A)) (test : Bool) (found : Option (Object A))
    (change : Object A → Object A) → AllByRecursion P (o ∷ os) → ((q : Object A) → cond test (Some o) found ≡ Some q → P q → P (change q)) →
    (((q : Object A) → found ≡ Some q → P q → P (change q)) → AllByRecursion P os') → AllByRecursion P (cond test (change o ∷ os) (o ∷ os'))
all_with_object_if P o os os' true found change all changed rest = (changed o refl all.0, all.1)
all_with_object_if P o os os' false found change all changed rest = (all.0, rest changed)

-- what holds of each object still does, where it holds of the changed one
pub AllByRecursion-with_object : {A : Type 0} (P : Object A → Type 0) (t : PlainTable A) (id : ObjectId) (change : Object A → Object A) → AllByRecursion P t →
    ((o : Object A) → object_at t id ≡ Some o → P o → P (change o)) → AllByRecursion P (with_object t id change)
AllByRecursion-with_object P [] id change all changed = tt
AllByRecursion-with_object P (o ∷ os) id change all changed =
    all_with_object_if P o os (with_object os id change) (is_named id o) (object_at os id) change all changed
    (λ later. AllByRecursion-with_object P os id change all.1 later)

cons_same : {X : Type 0} (x y : X) (xs ys : List X) → x ∷ xs ≡ y ∷ ys → (x ≡ y) × (xs ≡ ys)
cons_same x y xs ys e = (cc, cc)

nil_cons : {X : Type 0} (x : X) (xs : List X) → [] ≡ x ∷ xs → ⊥
nil_cons x xs e = cc

-- objects of the same identifiers and names are apart from the same others
apart_from : {A : Type 0} (o q : Object A) (os qs : List (Object A)) → identifier q ≡ identifier o → name_of q ≡ name_of o →
    map identifier qs ≡ map identifier os → map name_of qs ≡ map name_of os → AllByRecursion (IsOther (identifier o) (name_of o)) os →
    AllByRecursion (IsOther (identifier q) (name_of q)) qs
apart_from o q os [] i n is ns all = tt
apart_from o q [] (s ∷ qs) i n is ns all = absurd (nil_cons _ _ (sym is))
apart_from o q (p ∷ os) (s ∷ qs) i n is ns all =
    let is' = cons_same _ _ _ _ is in
    let ns' = cons_same _ _ _ _ ns in (
      record { identifiers = λ e. all.0.identifiers (sym i ∙ e ∙ is'.0); names = λ e. all.0.names (sym n ∙ e ∙ ns'.0) },
      apart_from o q os qs i n is'.1 ns'.1 all.1,
    )

pub AllApart-same : {A : Type 0} (os qs : List (Object A)) → map identifier qs ≡ map identifier os → map name_of qs ≡ map name_of os → AllApart os → AllApart qs
AllApart-same os [] is ns all = tt
AllApart-same [] (q ∷ qs) is ns all = absurd (nil_cons _ _ (sym is))
AllApart-same (o ∷ os) (q ∷ qs) is ns all =
    let is' = cons_same _ _ _ _ is in
    let ns' = cons_same _ _ _ _ ns in
    (apart_from o q os qs is'.0 ns'.0 is'.1 ns'.1 all.0, AllApart-same os qs is'.1 ns'.1 all.1)

pub length-with_object : {A : Type 0} (t : PlainTable A) (id : ObjectId) (change : Object A → Object A) → length (with_object t id change) ≡ length t
length-with_object t id change = sym (length-map (with_object t id change) (λ o. tt))
    ∙ ap (λ (xs : List (Unit {0})). length xs) (map-with_object (λ o. tt) t id change (λ o. refl)) ∙ length-map t (λ o. tt)

pub some_same : {X : Type 0} (x y : X) → Some x ≡ Some y → x ≡ y
some_same x y e = cc

put_value_object : {A : Type 0} (p : Property) (level : ℕ) (values : List (Value A)) (o : Object A) → IsValueObject o → IsValueObject (put p level values o)
put_value_object p level [] o is = is
put_value_object p level (v ∷ []) (object.Device d) is = absurd is
put_value_object p level (v ∷ []) (object.Value o) is = tt
put_value_object p level (v ∷ w ∷ values) o is = is

one_device_if : {A : Type 0} (test : Bool) (d : DeviceObject A) (os os' : List (Object A)) (p : Property) (level : ℕ) (values : List (Value A)) →
    AllByRecursion IsValueObject os → AllByRecursion IsValueObject os' →
    HasOneDevice (cond test (put p level values (object.Device d) ∷ os) (object.Device d ∷ os'))
one_device_if true d os os' p level [] all all' = all
one_device_if true d os os' p level (v ∷ []) all all' = all
one_device_if true d os os' p level (v ∷ w ∷ values) all all' = all
one_device_if false d os os' p level values all all' = all'

-- a write leaves the one Device object first
pub HasOneDevice-put : {A : Type 0} (t : PlainTable A) (id : ObjectId) (p : Property) (level : ℕ) (values : List (Value A)) → HasOneDevice t →
    HasOneDevice (with_object t id (put p level values))
HasOneDevice-put [] id p level values one = absurd one
HasOneDevice-put (object.Device d ∷ os) id p level values all =
    one_device_if (is_named id (object.Device d)) d os (with_object os id (put p level values)) p level values all
    (AllByRecursion-with_object IsValueObject os id (put p level values) all (λ o at is. put_value_object p level values o is))
HasOneDevice-put (object.Value o ∷ os) id p level values one = absurd one

-- a sound table stays sound where the write isn't refused
pub IsSoundTable-put : {A : Type 0} (t : PlainTable A) (id : ObjectId) (o : Object A) (p : Property) (level : ℕ) (values : List (Value A)) → IsSoundTable t →
    object_at t id ≡ Some o → write_refusal (access o p) level values ≡ None → AreSound values → IsSoundTable (with_object t id (put p level values))
IsSoundTable-put {A} t id o p level values s found e sound = record {
  device = HasOneDevice-put t id p level values s.device;
  few = subst (λ (n : ℕ). n ≤ 513) (sym (length-with_object t id (put p level values))) s.few;
  objects = AllByRecursion-with_object IsSoundObjectOf t id (put p level values) s.objects
      (λ q at q_sound. IsSoundObjectOf-put p level values q q_sound
      (ap (λ (o : Object A). write_refusal (access o p) level values) (some_same _ _ (sym at ∙ found)) ∙ e) sound);
  apart = AllApart-same t _ (identifiers-with_object t id p level values) (names-with_object t id p level values) s.apart;
}
