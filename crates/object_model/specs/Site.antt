-- The objects that a site may give a device, the table as it opens, and sound tables (12).
use Rattle.std.specs.Prelude.{◌≡◌, ◌≢◌, ℕ, ◌<◌, ◌^◌, ◌≤◌, ◌+◌, false, List, [], ◌∷◌, Option, Some, None, map, length}
use Rattle.std.specs.List.{AllByRecursion}
use Rattle.priority.specs.Slots.{no_slots}
use Rattle.primitives.specs.tags.declared.object_id.ObjectId.{ObjectId}
use Rattle.primitives.specs.tags.declared.value.Value.{Value}
use Rattle.primitives.specs.tags.Value.{IsSound}
use Rattle.object_model.specs.declared.object.DeviceObject.{DeviceObject}
use Rattle.object_model.specs.declared.object.Object.{Object}
use Rattle.object_model.specs.declared.object.Object.TheVariants as object
use Rattle.object_model.specs.declared.object.ValueKind.{ValueKind}
use Rattle.object_model.specs.declared.object.ValueKind.TheVariants as kind
use Rattle.object_model.specs.declared.object.ValueObject.{ValueObject}
use Rattle.object_model.specs.declared.site.SiteObject.{SiteObject}
use Rattle.object_model.specs.declared.site.SiteObjects.{SiteObjects}
use Rattle.object_model.specs.Objects.{PlainTable, identifier, name_of}
use Rattle.object_model.specs.Writing.{datatype_of, value_refusal, text_refusal}
use Rattle.profile.specs.Limits.{MAX_OBJECTS}

-- a value object as it opens: its slots are empty, and it is in service (12.8, 19.2)
abbrev pub opening_value : {A : Type 0} → SiteObject A → Object A
opening_value o = object.Value (record {
  kind = o.kind;
  instance = o.instance;
  name = o.name;
  slots = no_slots;
  default = o.default;
  out_of_service = false;
  description = o.description;
})

-- the Device object as it opens: its description is empty (12.11)
abbrev pub opening_device : {A : Type 0} → SiteObjects A → Object A
opening_device s = object.Device (record {
  instance = s.instance;
  name = s.name;
  vendor = s.vendor;
  data_link = s.data_link;
  description = [];
})

-- the opening table of a site's objects: the Device object, then the others in their order (12.11.16)
abbrev pub opening_table : {A : Type 0} → SiteObjects A → PlainTable A
opening_table s = opening_device s ∷ map opening_value s.objects

-- a text that may be written: UTF-8 of at most 128 octets (20.2.9)
abbrev pub IsText : List ℕ → Type 0
IsText octets = text_refusal 0 octets ≡ None

-- a Multi-state Value has 1 to 65535 states, and units are a number of 32 bits (12.20.10)
abbrev pub IsSoundKind : ValueKind → Type 0
IsSoundKind (kind.MultiState states) = (0 < states) × (states < 2 ^ 16)
IsSoundKind (kind.Integer units) = units < 2 ^ 32
IsSoundKind k = Unit {0}

-- a value that the object's Present_Value may have (15.9.1.3)
pub record IsValueOf {A : Type 0} (k : ValueKind) (v : Value A) : Type 0 where
  pub taken : value_refusal (datatype_of k) v ≡ None
  pub sound : IsSound v

-- a slot holds such a value or none (19.2.1)
abbrev pub IsSlotOf : {A : Type 0} → ValueKind → Option (Value A) → Type 0
IsSlotOf k None = Unit {0}
IsSlotOf k (Some v) = IsValueOf k v

-- a sound value object: instance, texts, sixteen slots and default are in range (12.8, 12.20, 12.37, 12.43)
pub record IsSoundValueObject {A : Type 0} (o : ValueObject A) : Type 0 where
  pub kind : IsSoundKind o.kind
  pub instance : o.instance < 4194303
  pub name : IsText o.name
  pub sixteen : length o.slots ≡ 16
  pub slots : AllByRecursion (IsSlotOf o.kind) o.slots
  pub default : IsValueOf o.kind o.default
  pub description : IsText o.description

-- a sound Device object (12.11)
pub record IsSoundDevice {A : Type 0} (d : DeviceObject A) : Type 0 where
  pub instance : d.instance < 4194303
  pub name : IsText d.name
  pub vendor : d.vendor < 2 ^ 16
  pub description : IsText d.description

-- a sound object
abbrev pub IsSoundObjectOf : {A : Type 0} → Object A → Type 0
IsSoundObjectOf (object.Device d) = IsSoundDevice d
IsSoundObjectOf (object.Value o) = IsSoundValueObject o

-- an object has neither this identifier nor this name (12.1.1, 12.11.2)
pub record IsOther {A : Type 0} (id : ObjectId) (name : List ℕ) (o : Object A) : Type 0 where
  pub identifiers : id ≢ identifier o
  pub names : name ≢ name_of o

-- no two of the objects have one identifier or one name (12.1.1, 12.11.2)
abbrev pub AllApart : {A : Type 0} → List (Object A) → Type 0
AllApart [] = Unit {0}
AllApart (o ∷ os) = AllByRecursion (IsOther (identifier o) (name_of o)) os × AllApart os

-- a value object, and no Device object (12.8, 12.20, 12.37, 12.43)
abbrev pub IsValueObject : {A : Type 0} → Object A → Type 0
IsValueObject (object.Device d) = ⊥
IsValueObject (object.Value o) = Unit {0}

-- one Device object, which is the first; all others are value objects (12.11)
abbrev pub HasOneDevice : {A : Type 0} → PlainTable A → Type 0
HasOneDevice (object.Device d ∷ os) = AllByRecursion IsValueObject os
HasOneDevice t = ⊥

-- a sound table: one Device object and at most MAX_OBJECTS others, all sound, each two apart (12)
pub record IsSoundTable {A : Type 0} (t : PlainTable A) : Type 0 where
  pub device : HasOneDevice t
  pub few : length t ≤ 1 + MAX_OBJECTS
  pub objects : AllByRecursion IsSoundObjectOf t
  pub apart : AllApart t

-- a site may give a device these objects where the table that they open is sound
abbrev pub IsSite : {A : Type 0} → SiteObjects A → Type 0
IsSite s = IsSoundTable (opening_table s)

-- some text, number or value of a site is out of range, there are over 512 value objects, or two objects have one
-- identifier or name (12)
pub record IsFaultySite {A : Type 0} (s : SiteObjects A) : Type 0 where
  pub faulty : IsSite s → ⊥
