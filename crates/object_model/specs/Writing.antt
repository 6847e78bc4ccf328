-- Writing a property: what it leaves, or the first rule that refuses (15.9, 15.10, 19.2).
use Rattle.std.specs.Prelude.{ℕ, ◌+◌, ◌==◌, ◌&&◌, nat_lt, Bool, if◌then◌else◌, List, [], ◌∷◌, Option, Some, None}
use Rattle.std.specs.Prelude.{Result, Ok, Err, map, flat_map, length, unwrap_or}
use Rattle.std.specs.Str.{is_utf8}
use Rattle.primitives.specs.tags.declared.object_id.ObjectId.{ObjectId}
use Rattle.primitives.specs.tags.declared.value.Value.{Value}
use Rattle.primitives.specs.tags.declared.value.Value.TheVariants as value
use Rattle.primitives.specs.declared.error.ErrorClass.TheVariants as class
use Rattle.primitives.specs.declared.error.ErrorCode.TheVariants as code
use Rattle.object_model.specs.declared.object.Access.{Access}
use Rattle.object_model.specs.declared.object.Access.TheVariants.{ReadOnly, Writable, Commandable}
use Rattle.object_model.specs.declared.object.Datatype.{Datatype}
use Rattle.object_model.specs.declared.object.Datatype.TheVariants as datatype
use Rattle.object_model.specs.declared.object.DeviceObject.{DeviceObject}
use Rattle.object_model.specs.declared.object.Object.{Object}
use Rattle.object_model.specs.declared.object.Object.TheVariants as object
use Rattle.object_model.specs.declared.object.ValueKind.{ValueKind}
use Rattle.object_model.specs.declared.object.ValueKind.TheVariants as kind
use Rattle.object_model.specs.declared.object.ValueObject.{ValueObject}
use Rattle.primitives.specs.declared.plain_data.ObjectWrites.{ObjectWrites}
use Rattle.primitives.specs.declared.plain_data.PropertyWrite.{PropertyWrite}
use Rattle.primitives.specs.declared.plain_data.Reply.{Reply}
use Rattle.primitives.specs.declared.plain_data.Reply.TheVariants.{Done, ErrorAt}
use Rattle.primitives.specs.declared.property.Property.{Property}
use Rattle.primitives.specs.declared.property.Property.TheVariants as property
use Rattle.profile.specs.Limits.{MAX_TEXT_OCTETS}
use Rattle.object_model.specs.Levels.{put_level}
use Rattle.object_model.specs.Objects.{PlainTable}
use Rattle.object_model.specs.Reading.{Refusal, Place, is_named, locate}

-- the first refusal of writing: the property is not written, or not at this priority (15.9.1.3)
abbrev pub access_denied : Refusal
access_denied = (class.Property, code.WriteAccessDenied)

-- not exactly one value, or a value of another type than the property (15.9.1.3)
abbrev pub invalid_type : Refusal
invalid_type = (class.Property, code.InvalidDataType)

-- a text of a character set that the device does not have (15.9.1.3)
abbrev pub other_character_set : Refusal
other_character_set = (class.Property, code.CharacterSetNotSupported)

-- a text longer than the property holds (15.9.1.3)
abbrev pub no_space : Refusal
no_space = (class.Resources, code.NoSpaceToWriteProperty)

-- a number out of the property's range, or a text that is no UTF-8 (15.9.1.3)
abbrev pub out_of_range : Refusal
out_of_range = (class.Property, code.ValueOutOfRange)

-- the type of the values that a value object holds (12.8.4, 12.20.4, 12.37.4, 12.43.4)
abbrev pub datatype_of : ValueKind → Datatype
datatype_of kind.Binary = datatype.Binary
datatype_of (kind.MultiState states) = datatype.MultiState states
datatype_of kind.CharacterString = datatype.CharacterString
datatype_of (kind.Integer units) = datatype.Integer

-- how a property of an object is written (12: conformance code W, and commandable in 19.2)
abbrev pub access : {A : Type 0} → Object A → Property → Access
access (object.Device d) property.Description = Writable datatype.CharacterString
access (object.Value o) property.PresentValue = Commandable (datatype_of o.kind)
access (object.Value o) property.OutOfService = Writable datatype.Boolean
access (object.Value o) property.RelinquishDefault = Writable (datatype_of o.kind)
access (object.Value o) property.Description = Writable datatype.CharacterString
access o p = ReadOnly

-- a number is in range or refused
abbrev pub in_range : Bool → Option Refusal
in_range fits = if fits then None else Some out_of_range

-- why a text is not taken: its character set, its length, or octets that are no UTF-8 (20.2.9)
abbrev pub text_refusal : ℕ → List ℕ → Option Refusal
text_refusal set octets =
    if set == 0 then (if nat_lt MAX_TEXT_OCTETS (length octets) then Some no_space else in_range (is_utf8 octets))
    else Some other_character_set

-- why a value is not taken where this type is wanted (15.9.1.3)
abbrev pub value_refusal : {A : Type 0} → Datatype → Value A → Option Refusal
value_refusal datatype.Boolean (value.Bool b) = None
value_refusal datatype.Binary (value.Enum n) = in_range (nat_lt n 2)
value_refusal (datatype.MultiState states) (value.Unsigned n) = in_range (nat_lt 0 n && nat_lt n (1 + states))
value_refusal datatype.CharacterString (value.Text set octets) = text_refusal set octets
value_refusal datatype.Integer (value.Signed z) = None
value_refusal d v = Some invalid_type

-- why a list of values is not taken: it must be exactly one (15.9.1.3)
abbrev pub values_refusal : {A : Type 0} → Datatype → List (Value A) → Option Refusal
values_refusal d (v ∷ []) = value_refusal d v
values_refusal d values = Some invalid_type

-- why a command is not taken; Null always is, and empties its slot (19.2.1)
abbrev pub command_refusal : {A : Type 0} → Datatype → List (Value A) → Option Refusal
command_refusal d (value.Null ∷ []) = None
command_refusal d values = values_refusal d values

-- why a property is not written; level 6 is reserved for the minimum on and off times (15.9.1.3, 19.2.3)
abbrev pub write_refusal : {A : Type 0} → Access → ℕ → List (Value A) → Option Refusal
write_refusal ReadOnly level values = Some access_denied
write_refusal (Writable d) level values = values_refusal d values
write_refusal (Commandable d) level values = if level == 6 then Some access_denied else command_refusal d values

-- the level of a write: 16 where none is given (15.9.1.1.5)
abbrev pub level_of : Option ℕ → ℕ
level_of priority = unwrap_or priority 16

-- what a command leaves in its slot: Null nothing, else the value (19.2.1)
abbrev pub commanded : {A : Type 0} → Value A → Option (Value A)
commanded value.Null = None
commanded v = Some v

-- a value object after a value has been put into a property; only these four are ever put (15.9.2, 19.2)
abbrev pub put_value : {A : Type 0} → ValueObject A → Property → ℕ → Value A → ValueObject A
put_value o property.PresentValue level v = record o { slots = put_level o.slots level (commanded v) }
put_value o property.OutOfService level (value.Bool b) = record o { out_of_service = b }
put_value o property.RelinquishDefault level v = record o { default = v }
put_value o property.Description level (value.Text set octets) = record o { description = octets }
put_value o p level v = o

-- the Device object after a value has been put into a property, which is only ever its description (15.9.2)
abbrev pub put_device : {A : Type 0} → DeviceObject A → Property → Value A → DeviceObject A
put_device d property.Description (value.Text set octets) = record d { description = octets }
put_device d p v = d

-- an object after the one value of a write has been put into a property (15.9.2)
abbrev pub put : {A : Type 0} → Property → ℕ → List (Value A) → Object A → Object A
put p level (v ∷ []) (object.Device d) = object.Device (put_device d p v)
put p level (v ∷ []) (object.Value o) = object.Value (put_value o p level v)
put p level values o = o

-- why a write to a place is refused, if it is (15.9.1.3)
abbrev pub place_refusal : {A : Type 0} → Result (Place A) Refusal → List (Value A) → Option ℕ → Option Refusal
place_refusal (Err e) values priority = Some e
place_refusal (Ok at) values priority = write_refusal (access at.object at.property) (level_of priority) values

-- a table with one object changed, that which the identifier names
abbrev pub with_object : {A : Type 0} → PlainTable A → ObjectId → (Object A → Object A) → PlainTable A
with_object [] id change = []
with_object (o ∷ os) id change = if is_named id o then change o ∷ os else o ∷ with_object os id change

-- what is left unless the write is refused
abbrev pub unless : {A : Type 0} → Option Refusal → PlainTable A → Result (PlainTable A) Refusal
unless None t = Ok t
unless (Some e) t = Err e

-- a write to a place (15.9.2)
abbrev pub write_place : {A : Type 0} → PlainTable A → ObjectId → PropertyWrite A → Result (Place A) Refusal →
    Result (PlainTable A) Refusal
write_place t id w (Err e) = Err e
write_place t id w (Ok at) =
    unless (write_refusal (access at.object at.property) (level_of w.priority) w.values)
    (with_object t id (put at.property (level_of w.priority) w.values))

-- what a write leaves, or the first rule that refuses it, which changes nothing (15.9.2)
abbrev pub write : {A : Type 0} → PlainTable A → ObjectId → PropertyWrite A → Result (PlainTable A) Refusal
write t id w = write_place t id w (locate t id w.property w.index)

-- a write to a property of an object
pub record ObjectWrite (A : Type 0) : Type 0 where
  pub object : ObjectId
  pub write : PropertyWrite A

-- the writes to one object in their order (15.10.3.1)
abbrev pub writes_to : {A : Type 0} → ObjectId → List (PropertyWrite A) → List (ObjectWrite A)
writes_to id writes = map (λ w. record { object = id; write = w }) writes

-- all writes of a request in their order (15.10.3.1)
abbrev pub in_order : {A : Type 0} → List (ObjectWrites A) → List (ObjectWrite A)
in_order asked = flat_map (λ g. writes_to g.object g.writes) asked

-- a table after a request, and the reply to it
pub record Outcome (A : Type 0) : Type 0 where
  pub table : PlainTable A
  pub reply : Reply A

-- the error of a write that failed, with what it named (15.10.1.3)
abbrev pub failed_at : {A : Type 0} → ObjectWrite A → Refusal → Reply A
failed_at w e = ErrorAt (e.0) (e.1) w.object w.write.property w.write.index

-- a failed write ends the request and changes nothing; after one that is done the others follow (15.10.2)
abbrev pub go_on : {A : Type 0} → PlainTable A → ObjectWrite A → Result (PlainTable A) Refusal →
    (PlainTable A → Outcome A) → Outcome A
go_on t w (Err e) next = record { table = t; reply = failed_at w e }
go_on t w (Ok written) next = next written

-- writes done one after another, up to the first that fails; those before it stay (15.10.2)
abbrev pub write_all : {A : Type 0} → PlainTable A → List (ObjectWrite A) → Outcome A
write_all t [] = record { table = t; reply = Done }
write_all t (w ∷ ws) = go_on t w (write t w.object w.write) (λ written. write_all written ws)
