-- The standard's numbers of object types and properties (21).
use Rattle.std.specs.Prelude.{◌≡◌, ℕ}
use Rattle.primitives.specs.declared.object_type.ObjectType.{ObjectType}
use Rattle.primitives.specs.declared.object_type.ObjectType.TheVariants as type
use Rattle.primitives.specs.declared.property.Property.{Property}
use Rattle.primitives.specs.declared.property.Property.TheVariants as property

-- BACnetObjectType (21)
abbrev pub type_number : ObjectType → ℕ
type_number type.BinaryValue = 5
type_number type.Device = 8
type_number type.MultiStateValue = 19
type_number type.CharacterStringValue = 40
type_number type.IntegerValue = 45

-- no object type has this number
pub record NoObjectType (number : ℕ) : Type 0 where
  pub none : (t : ObjectType) → type_number t ≡ number → ⊥

-- stands for all properties of an object in ReadPropertyMultiple (15.7.3.1.2; 21, BACnetPropertyIdentifier)
abbrev pub ALL_PROPERTIES : ℕ
ALL_PROPERTIES = 8

-- stands for its optional properties (15.7.3.1.2; 21)
abbrev pub OPTIONAL_PROPERTIES : ℕ
OPTIONAL_PROPERTIES = 80

-- stands for its required properties (15.7.3.1.2; 21)
abbrev pub REQUIRED_PROPERTIES : ℕ
REQUIRED_PROPERTIES = 105

-- BACnetPropertyIdentifier (21)
abbrev pub property_number : Property → ℕ
property_number property.ApduSegmentTimeout = 10
property_number property.ApduTimeout = 11
property_number property.ApplicationSoftwareVersion = 12
property_number property.Description = 28
property_number property.DeviceAddressBinding = 30
property_number property.EventState = 36
property_number property.FirmwareRevision = 44
property_number property.MaxApduLengthAccepted = 62
property_number property.ModelName = 70
property_number property.NumberOfApduRetries = 73
property_number property.NumberOfStates = 74
property_number property.ObjectIdentifier = 75
property_number property.ObjectList = 76
property_number property.ObjectName = 77
property_number property.ObjectType = 79
property_number property.OutOfService = 81
property_number property.PresentValue = 85
property_number property.PriorityArray = 87
property_number property.ProtocolObjectTypesSupported = 96
property_number property.ProtocolServicesSupported = 97
property_number property.ProtocolVersion = 98
property_number property.RelinquishDefault = 104
property_number property.SegmentationSupported = 107
property_number property.StatusFlags = 111
property_number property.SystemStatus = 112
property_number property.Units = 117
property_number property.VendorIdentifier = 120
property_number property.VendorName = 121
property_number property.ProtocolRevision = 139
property_number property.DatabaseRevision = 155
property_number property.MaxSegmentsAccepted = 167

-- no property has this number
pub record NoProperty (number : ℕ) : Type 0 where
  pub none : (p : Property) → property_number p ≡ number → ⊥
