-- The properties of objects, one row for each, in the order of the standard's tables (12.8, 12.11, 12.20, 12.37,
-- 12.43).
use Rattle.std.specs.Prelude.{ℕ, Bool, true, false, List, [], ◌∷◌, ◌++◌, map, codes}
use Rattle.object_model.specs.Objects.{PlainTable, identifier, object_list, present_value, services_supported}
use Rattle.object_model.specs.Objects.{slot_value}
use Rattle.object_model.specs.Objects.{status_flags, text, type_of, types_supported}
use Rattle.object_model.specs.Writing.{datatype_of}
use Rattle.object_model.specs.declared.object.Access.{Access}
use Rattle.object_model.specs.declared.object.Access.TheVariants.{ReadOnly, Writable, Commandable}
use Rattle.object_model.specs.declared.object.Datatype.TheVariants as datatype
use Rattle.object_model.specs.declared.object.DeviceObject.{DeviceObject}
use Rattle.object_model.specs.declared.object.Object.{Object}
use Rattle.object_model.specs.declared.object.Object.TheVariants as object
use Rattle.object_model.specs.declared.object.ValueKind.{ValueKind}
use Rattle.object_model.specs.declared.object.ValueKind.TheVariants as kind
use Rattle.object_model.specs.declared.object.ValueObject.{ValueObject}
use Rattle.primitives.specs.Numbers.{type_number}
use Rattle.primitives.specs.declared.object_type.ObjectType.TheVariants as type
use Rattle.profile.specs.Limits.{MAX_SEGMENTS_ACCEPTED, NUMBER_OF_APDU_RETRIES}
use Rattle.profile.specs.LinkKind.{max_apdu}
use Rattle.profile.specs.Times.{APDU_SEGMENT_TIMEOUT_MS, APDU_TIMEOUT_MS}
use Rattle.tags.specs.declared.value.Value.{Value}
use Rattle.tags.specs.declared.value.Value.TheVariants as value

-- a property: its number (21, BACnetPropertyIdentifier), whether it is required and not optional, whether it is an
-- array, how it is written, and what it holds: all elements of an array, else one value or none (12)
pub record Row (A : Type 0) : Type 0 where
  pub number : ℕ
  pub required : Bool
  pub array : Bool
  pub access : Access
  pub values : List (Value A)

-- a required property of one value, written so
abbrev pub written : {A : Type 0} → Access → ℕ → Value A → Row A
written access n v = record { number = n; required = true; array = false; access = access; values = v ∷ [] }

-- one that is not written
abbrev pub fixed : {A : Type 0} → ℕ → Value A → Row A
fixed n v = written ReadOnly n v

-- a required array, which is not written
abbrev pub array : {A : Type 0} → ℕ → List (Value A) → Row A
array n values = record { number = n; required = true; array = true; access = ReadOnly; values = values }

-- Description, which is optional and written as a text
abbrev pub description : {A : Type 0} → List ℕ → Row A
description octets = record (written (Writable datatype.CharacterString) 28 (text octets)) { required = false }

-- the Device object, in the order of its table (12.11)
abbrev pub device_rows : {A : Type 0} → PlainTable A → DeviceObject A → List (Row A)
device_rows t d =
    fixed 75 (value.Object (identifier (object.Device d)))  -- Object_Identifier
    ∷ fixed 77 (text d.name)  -- Object_Name
    ∷ fixed 79 (value.Enum (type_number type.Device))  -- Object_Type
    ∷ fixed 112 (value.Enum 0)  -- System_Status: operational
    ∷ fixed 121 (text (codes "bacsite"))  -- Vendor_Name
    ∷ fixed 120 (value.Unsigned d.vendor)  -- Vendor_Identifier
    ∷ fixed 70 (text (codes "site device"))  -- Model_Name
    ∷ fixed 44 (text (codes "1"))  -- Firmware_Revision
    ∷ fixed 12 (text (codes "1"))  -- Application_Software_Version
    ∷ fixed 98 (value.Unsigned 1)  -- Protocol_Version
    ∷ fixed 139 (value.Unsigned 14)  -- Protocol_Revision
    ∷ fixed 97 (value.Bits 5 services_supported)  -- Protocol_Services_Supported
    ∷ fixed 96 (value.Bits 2 types_supported)  -- Protocol_Object_Types_Supported
    ∷ array 76 (object_list t)  -- Object_List
    ∷ fixed 62 (value.Unsigned (max_apdu d.data_link))  -- Max_APDU_Length_Accepted
    ∷ fixed 107 (value.Enum 0)  -- Segmentation_Supported: both ways
    ∷ fixed 167 (value.Unsigned MAX_SEGMENTS_ACCEPTED)  -- Max_Segments_Accepted
    ∷ fixed 10 (value.Unsigned APDU_SEGMENT_TIMEOUT_MS)  -- APDU_Segment_Timeout
    ∷ fixed 11 (value.Unsigned APDU_TIMEOUT_MS)  -- APDU_Timeout
    ∷ fixed 73 (value.Unsigned NUMBER_OF_APDU_RETRIES)  -- Number_Of_APDU_Retries
    ∷ record (array 30 []) { array = false }  -- Device_Address_Binding: an empty list
    ∷ fixed 155 (value.Unsigned 1)  -- Database_Revision
    ∷ description d.description ∷ []

-- the property of its type's own: Number_Of_States, Units (12.20.10, 12.43.10)
abbrev pub own_rows : {A : Type 0} → ValueKind → List (Row A)
own_rows (kind.MultiState states) = fixed 74 (value.Unsigned states) ∷ []
own_rows (kind.Integer units) = fixed 117 (value.Enum units) ∷ []
own_rows k = []

-- a value object, in the order of its type's table (12.8, 12.20, 12.37, 12.43)
abbrev pub value_rows : {A : Type 0} → ValueObject A → List (Row A)
value_rows o =
    fixed 75 (value.Object (identifier (object.Value o)))  -- Object_Identifier
    ∷ fixed 77 (text o.name)  -- Object_Name
    ∷ fixed 79 (value.Enum (type_number (type_of o.kind)))  -- Object_Type
    ∷ written (Commandable (datatype_of o.kind)) 85 (present_value o)  -- Present_Value
    ∷ fixed 111 (status_flags o.out_of_service)  -- Status_Flags
    ∷ fixed 36 (value.Enum 0)  -- Event_State: normal
    ∷ written (Writable datatype.Boolean) 81 (value.Bool o.out_of_service)  -- Out_Of_Service
    ∷ own_rows o.kind
    ++ record (array 87 (map slot_value o.slots)) { required = false }  -- Priority_Array
    ∷ record (written (Writable (datatype_of o.kind)) 104 o.default) { required = false }  -- Relinquish_Default
    ∷ description o.description ∷ []

-- the properties that an object of a table has (12)
abbrev pub rows : {A : Type 0} → PlainTable A → Object A → List (Row A)
rows t (object.Device d) = device_rows t d
rows t (object.Value o) = value_rows o
