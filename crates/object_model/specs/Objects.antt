-- The objects of a device, and the properties that they have (12.8, 12.11, 12.20, 12.37, 12.43).
use Rattle.std.specs.Prelude.{ℕ, Bool, true, false, List, [], ◌∷◌, ◌++◌, Option, Some, None, map, unwrap_or, codes}
use Rattle.priority.specs.Slots.{first_filled}
use Rattle.primitives.specs.tags.declared.object_id.ObjectId.{ObjectId}
use Rattle.primitives.specs.tags.declared.value.Value.{Value}
use Rattle.primitives.specs.tags.declared.value.Value.TheVariants as value
use Rattle.object_model.specs.declared.object.ValueKind.{ValueKind}
use Rattle.object_model.specs.declared.object.ValueKind.TheVariants as kind
use Rattle.object_model.specs.declared.object.ValueObject.{ValueObject}
use Rattle.object_model.specs.declared.object.DeviceObject.{DeviceObject}
use Rattle.object_model.specs.declared.object.Object.{Object}
use Rattle.object_model.specs.declared.object.Object.TheVariants as object
use Rattle.primitives.specs.declared.object_type.ObjectType.{ObjectType}
use Rattle.primitives.specs.declared.object_type.ObjectType.TheVariants as type
use Rattle.primitives.specs.declared.property.Property.{Property}
use Rattle.primitives.specs.declared.property.Property.TheVariants as property
use Rattle.primitives.specs.Numbers.{type_number}
use Rattle.profile.specs.Limits.{MAX_SEGMENTS_ACCEPTED, NUMBER_OF_APDU_RETRIES}
use Rattle.profile.specs.LinkKind.{max_apdu}
use Rattle.profile.specs.Times.{APDU_SEGMENT_TIMEOUT_MS, APDU_TIMEOUT_MS}

-- the objects of a device: the Device object, then the value objects in the order of the site (12.11.16)
abbrev pub PlainTable : Type 0 → Type 0
PlainTable A = List (Object A)

-- the type of a value object (12.8, 12.20, 12.37, 12.43)
abbrev pub type_of : ValueKind → ObjectType
type_of kind.Binary = type.BinaryValue
type_of (kind.MultiState states) = type.MultiStateValue
type_of kind.CharacterString = type.CharacterStringValue
type_of (kind.Integer units) = type.IntegerValue

-- the type of an object (12.11.3)
abbrev pub object_type_of : {A : Type 0} → Object A → ObjectType
object_type_of (object.Device d) = type.Device
object_type_of (object.Value o) = type_of o.kind

-- its instance number (12.11.1)
abbrev pub instance_of : {A : Type 0} → Object A → ℕ
instance_of (object.Device d) = d.instance
instance_of (object.Value o) = o.instance

-- its name (12.11.2)
abbrev pub name_of : {A : Type 0} → Object A → List ℕ
name_of (object.Device d) = d.name
name_of (object.Value o) = o.name

-- its identifier (12.11.1)
abbrev pub identifier : {A : Type 0} → Object A → ObjectId
identifier o = record { object_type = type_number (object_type_of o); instance = instance_of o }

-- the properties that every value object has before those of its own type, in the order of the table
abbrev pub first_properties : List Property
first_properties = property.ObjectIdentifier ∷ property.ObjectName ∷ property.ObjectType ∷ property.PresentValue
    ∷ property.StatusFlags ∷ property.EventState ∷ property.OutOfService ∷ []

-- the properties that every value object has behind those of its own type
abbrev pub last_properties : List Property
last_properties = property.PriorityArray ∷ property.RelinquishDefault ∷ property.Description ∷ []

-- the properties of a type's own (12.20.10, 12.43.10)
abbrev pub own_properties : ValueKind → List Property
own_properties kind.Binary = []
own_properties (kind.MultiState states) = property.NumberOfStates ∷ []
own_properties kind.CharacterString = []
own_properties (kind.Integer units) = property.Units ∷ []

-- the properties of the Device object, in the order of its table (12.11)
abbrev pub device_properties : List Property
device_properties = property.ObjectIdentifier ∷ property.ObjectName ∷ property.ObjectType ∷ property.SystemStatus
    ∷ property.VendorName ∷ property.VendorIdentifier ∷ property.ModelName ∷ property.FirmwareRevision
    ∷ property.ApplicationSoftwareVersion ∷ property.ProtocolVersion ∷ property.ProtocolRevision
    ∷ property.ProtocolServicesSupported ∷ property.ProtocolObjectTypesSupported ∷ property.ObjectList
    ∷ property.MaxApduLengthAccepted ∷ property.SegmentationSupported ∷ property.MaxSegmentsAccepted
    ∷ property.ApduSegmentTimeout ∷ property.ApduTimeout ∷ property.NumberOfApduRetries
    ∷ property.DeviceAddressBinding ∷ property.DatabaseRevision ∷ property.Description ∷ []

-- the properties that an object has, in the order of its type's table (12)
abbrev pub properties_of : {A : Type 0} → Object A → List Property
properties_of (object.Device d) = device_properties
properties_of (object.Value o) = first_properties ++ own_properties o.kind ++ last_properties

-- octets as a text of UTF-8 (20.2.9)
abbrev pub text : {A : Type 0} → List ℕ → Value A
text octets = value.Text 0 octets

-- the value in force: that of the filled slot of the least number, else the default (19.2)
abbrev pub present_value : {A : Type 0} → ValueObject A → Value A
present_value o = unwrap_or (first_filled o.slots) o.default

-- the four flags in-alarm, fault, overridden and out-of-service, of which only the last can be set (12.8.6)
abbrev pub status_flags : {A : Type 0} → Bool → Value A
status_flags true = value.Bits 4 (16 ∷ [])
status_flags false = value.Bits 4 (0 ∷ [])

-- what a slot holds, Null where it is empty (19.2.1)
abbrev pub slot_value : {A : Type 0} → Option (Value A) → Value A
slot_value None = value.Null
slot_value (Some v) = v

-- the number of states of a Multi-state Value (12.20.10)
abbrev pub states_of : {A : Type 0} → ValueKind → List (Value A)
states_of (kind.MultiState states) = value.Unsigned states ∷ []
states_of k = []

-- the units of an Integer Value (12.43.10)
abbrev pub units_of : {A : Type 0} → ValueKind → List (Value A)
units_of (kind.Integer units) = value.Enum units ∷ []
units_of k = []

-- what a property of a value object holds: all elements of an array, else one value; nothing for a property of other
-- types (12.8, 12.20, 12.37, 12.43)
abbrev pub held_by_value : {A : Type 0} → ValueObject A → Property → List (Value A)
held_by_value o property.ObjectIdentifier = value.Object (identifier (object.Value o)) ∷ []
held_by_value o property.ObjectName = text o.name ∷ []
held_by_value o property.ObjectType = value.Enum (type_number (type_of o.kind)) ∷ []
held_by_value o property.PresentValue = present_value o ∷ []
held_by_value o property.StatusFlags = status_flags o.out_of_service ∷ []
held_by_value o property.EventState = value.Enum 0 ∷ []
held_by_value o property.OutOfService = value.Bool o.out_of_service ∷ []
held_by_value o property.NumberOfStates = states_of o.kind
held_by_value o property.Units = units_of o.kind
held_by_value o property.PriorityArray = map slot_value o.slots
held_by_value o property.RelinquishDefault = o.default ∷ []
held_by_value o property.Description = text o.description ∷ []
held_by_value o p = []

-- the object list: the identifiers of all objects, the Device object's first (12.11.16)
abbrev pub object_list : {A : Type 0} → PlainTable A → List (Value A)
object_list t = map (λ o. value.Object (identifier o)) t

-- the octets of Protocol_Services_Supported, whose 35 bits stand for the services by their numbers in
-- BACnetServicesSupported (12.11.13; 21)
abbrev pub services_supported : List ℕ
services_supported = 0 ∷ 11 ∷ 128 ∷ 0 ∷ 32 ∷ []

-- the octets of Protocol_Object_Types_Supported, whose 46 bits stand for the object types by their numbers
-- (12.11.14; 21)
abbrev pub types_supported : List ℕ
types_supported = 4 ∷ 128 ∷ 16 ∷ 0 ∷ 0 ∷ 132 ∷ []

-- what a property of the Device object of a table holds: all elements of an array, else the values (12.11)
abbrev pub held_by_device : {A : Type 0} → PlainTable A → DeviceObject A → Property → List (Value A)
held_by_device t d property.ObjectIdentifier = value.Object (identifier (object.Device d)) ∷ []
held_by_device t d property.ObjectName = text d.name ∷ []
held_by_device t d property.ObjectType = value.Enum (type_number type.Device) ∷ []
held_by_device t d property.SystemStatus = value.Enum 0 ∷ []
held_by_device t d property.VendorName = text (codes "bacsite") ∷ []
held_by_device t d property.VendorIdentifier = value.Unsigned d.vendor ∷ []
held_by_device t d property.ModelName = text (codes "site device") ∷ []
held_by_device t d property.FirmwareRevision = text (codes "1") ∷ []
held_by_device t d property.ApplicationSoftwareVersion = text (codes "1") ∷ []
held_by_device t d property.ProtocolVersion = value.Unsigned 1 ∷ []
held_by_device t d property.ProtocolRevision = value.Unsigned 14 ∷ []
held_by_device t d property.ProtocolServicesSupported = value.Bits 5 services_supported ∷ []
held_by_device t d property.ProtocolObjectTypesSupported = value.Bits 2 types_supported ∷ []
held_by_device t d property.ObjectList = object_list t
held_by_device t d property.MaxApduLengthAccepted = value.Unsigned (max_apdu d.data_link) ∷ []
held_by_device t d property.SegmentationSupported = value.Enum 0 ∷ []
held_by_device t d property.MaxSegmentsAccepted = value.Unsigned MAX_SEGMENTS_ACCEPTED ∷ []
held_by_device t d property.ApduSegmentTimeout = value.Unsigned APDU_SEGMENT_TIMEOUT_MS ∷ []
held_by_device t d property.ApduTimeout = value.Unsigned APDU_TIMEOUT_MS ∷ []
held_by_device t d property.NumberOfApduRetries = value.Unsigned NUMBER_OF_APDU_RETRIES ∷ []
held_by_device t d property.DeviceAddressBinding = []
held_by_device t d property.DatabaseRevision = value.Unsigned 1 ∷ []
held_by_device t d property.Description = text d.description ∷ []
held_by_device t d p = []

-- what a property of an object of a table holds (12)
abbrev pub held : {A : Type 0} → PlainTable A → Object A → Property → List (Value A)
held t (object.Device d) p = held_by_device t d p
held t (object.Value o) p = held_by_value o p
