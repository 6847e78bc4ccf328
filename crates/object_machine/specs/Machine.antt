-- The object machine by rows: what a device replies to a request, and what the request leaves (12, 15, 19).
use Rattle.std.specs.Prelude.{ℕ, ◌==◌, not, Bool, true, if◌then◌else◌, List, [], ◌∷◌, Option, Some, None, Result, Ok}
use Rattle.std.specs.Prelude.{Err, map, filter, find, flat_map, length}
use Rattle.object_machine.specs.Rows.{Row, rows}
use Rattle.object_model.specs.Levels.{put_level}
use Rattle.object_model.specs.Objects.{PlainTable}
use Rattle.object_model.specs.Reading.{Refusal, at_index, index_refusal, is_special, not_an_array, object_at}
use Rattle.object_model.specs.Reading.{unknown_object, unknown_property}
use Rattle.object_model.specs.Writing.{ObjectWrite, Outcome, commanded, go_on, in_order, level_of, unless, with_object}
use Rattle.object_model.specs.Writing.{write_refusal}
use Rattle.object_model.specs.declared.object.DeviceObject.{DeviceObject}
use Rattle.object_model.specs.declared.object.Object.{Object}
use Rattle.object_model.specs.declared.object.Object.TheVariants as object
use Rattle.object_model.specs.declared.object.ValueObject.{ValueObject}
use Rattle.objects.specs.Machine.{reading_reply, write_outcome}
use Rattle.primitives.specs.Numbers.{ALL_PROPERTIES, REQUIRED_PROPERTIES}
use Rattle.primitives.specs.declared.plain_data.ObjectRefs.{ObjectRefs}
use Rattle.primitives.specs.declared.plain_data.ObjectResults.{ObjectResults}
use Rattle.primitives.specs.declared.plain_data.PropertyReference.{PropertyReference}
use Rattle.primitives.specs.declared.plain_data.PropertyResult.{PropertyResult}
use Rattle.primitives.specs.declared.plain_data.PropertyWrite.{PropertyWrite}
use Rattle.primitives.specs.declared.plain_data.Reply.{Reply}
use Rattle.primitives.specs.declared.plain_data.Reply.TheVariants.{Done, Many}
use Rattle.primitives.specs.declared.plain_data.Request.{Request}
use Rattle.primitives.specs.declared.plain_data.Request.TheVariants.{Read, ReadMany, Write, WriteMany}
use Rattle.tags.specs.declared.object_id.ObjectId.{ObjectId}
use Rattle.tags.specs.declared.value.Value.{Value}
use Rattle.tags.specs.declared.value.Value.TheVariants as value

-- a property, unless this refuses it
abbrev pub row_or : {A : Type 0} → Option Refusal → Row A → Result (Row A) Refusal
row_or None r = Ok r
row_or (Some e) r = Err e

-- the property that is asked for, or the first rule that refuses: no such object, no such property, no array, no such
-- element (15.5.1.3)
abbrev pub element : {A : Type 0} → Option (Row A) → Option ℕ → Result (Row A) Refusal
element None index = Err unknown_property
element (Some r) index = row_or (index_refusal r.array (length r.values) index) r

abbrev pub property : {A : Type 0} → PlainTable A → Option (Object A) → ℕ → Option ℕ → Result (Row A) Refusal
property t None number index = Err unknown_object
property t (Some o) number index = element (find (λ r. number == r.number) (rows t o)) index

abbrev pub located : {A : Type 0} → PlainTable A → ObjectId → ℕ → Option ℕ → Result (Row A) Refusal
located t id number index = property t (object_at t id) number index

-- what is read of it: its values at the index, or why there are none (15.5.2)
abbrev pub values_at : {A : Type 0} → Result (Row A) Refusal → Option ℕ → Result (List (Value A)) Refusal
values_at (Err e) index = Err e
values_at (Ok r) index = Ok (at_index r.values index)

abbrev pub read : {A : Type 0} → PlainTable A → ObjectId → ℕ → Option ℕ → Result (List (Value A)) Refusal
read t id number index = values_at (located t id number index) index

-- one entry of a result: what is read of one property (15.7.3.2)
abbrev pub entry : {A : Type 0} → PlainTable A → ObjectId → ℕ → Option ℕ → PropertyResult A
entry t id number index = record { property = number; index = index; result = read t id number index }

-- whether a property is among those that a special number stands for (15.7.3.1.2)
abbrev pub stands_for : {A : Type 0} → ℕ → Row A → Bool
stands_for number r =
    if number == ALL_PROPERTIES then true else if number == REQUIRED_PROPERTIES then r.required else not r.required

-- the entries for such a number: one for each property; with an index none of them is an array (15.7.3.1.2)
abbrev pub special_entries : {A : Type 0} → PlainTable A → ObjectId → Object A → ℕ → Option ℕ → List (PropertyResult A)
special_entries t id o number (Some i) = record { property = number; index = Some i; result = Err not_an_array } ∷ []
special_entries t id o number None = map (λ r. entry t id r.number None) (filter (stands_for number) (rows t o))

-- the entries for one reference (15.7.3.2)
abbrev pub entries : {A : Type 0} → PlainTable A → ObjectId → Option (Object A) → PropertyReference →
    List (PropertyResult A)
entries t id None r = entry t id r.property r.index ∷ []
entries t id (Some o) r =
    if is_special r.property then special_entries t id o r.property r.index else entry t id r.property r.index ∷ []

-- what is read of one object: the entries for its references in their order (15.7.3.2)
abbrev pub results : {A : Type 0} → PlainTable A → ObjectRefs A → ObjectResults A
results t q = record { object = q.object; results = flat_map (entries t q.object (object_at t q.object)) q.refs }

-- what a Boolean, and what a text leaves where it is put
abbrev pub bool_or : {A : Type 0} → Bool → Value A → Bool
bool_or old (value.Bool b) = b
bool_or old v = old

abbrev pub octets_or : {A : Type 0} → List ℕ → Value A → List ℕ
octets_or old (value.Text set octets) = octets
octets_or old v = old

-- an object after a value has been put into a property: Present_Value, Out_Of_Service, Relinquish_Default or
-- Description; no other is ever put (15.9.2, 19.2)
abbrev pub put_value : {A : Type 0} → ValueObject A → ℕ → (level : ℕ) → Value A → ValueObject A
put_value o number level v =
    if number == 85 then record o { slots = put_level o.slots level (commanded v) }
    else if number == 81 then record o { out_of_service = bool_or o.out_of_service v }
    else if number == 104 then record o { default = v }
    else if number == 28 then record o { description = octets_or o.description v }
    else o

abbrev pub put_device : {A : Type 0} → DeviceObject A → ℕ → Value A → DeviceObject A
put_device d number v = if number == 28 then record d { description = octets_or d.description v } else d

abbrev pub put : {A : Type 0} → ℕ → (level : ℕ) → List (Value A) → Object A → Object A
put number level (v ∷ []) (object.Device d) = object.Device (put_device d number v)
put number level (v ∷ []) (object.Value o) = object.Value (put_value o number level v)
put number level values o = o

-- what a write leaves, or the first rule that refuses it, which changes nothing (15.9.1.3, 15.9.2)
abbrev pub write_row : {A : Type 0} → PlainTable A → ObjectId → PropertyWrite A → Result (Row A) Refusal →
    Result (PlainTable A) Refusal
write_row t id w (Err e) = Err e
write_row t id w (Ok r) = unless (write_refusal r.access (level_of w.priority) w.values)
    (with_object t id (put w.property (level_of w.priority) w.values))

abbrev pub write : {A : Type 0} → PlainTable A → ObjectId → PropertyWrite A → Result (PlainTable A) Refusal
write t id w = write_row t id w (located t id w.property w.index)

-- writes are done one after another, up to the first that fails; those before it stay (15.10.2)
abbrev pub write_all : {A : Type 0} → PlainTable A → List (ObjectWrite A) → Outcome A
write_all t [] = record { table = t; reply = Done }
write_all t (w ∷ ws) = go_on t w (write t w.object w.write) (λ written. write_all written ws)

-- the outcome of a request, by its service; reading leaves the table as it is (15.5.2, 15.7.2, 15.9.2, 15.10.2)
abbrev pub outcome : {A : Type 0} → PlainTable A → Request A → Outcome A
outcome t (Read id property index) = record { table = t; reply = reading_reply (read t id property index) }
outcome t (ReadMany asked) = record { table = t; reply = Many (map (results t) asked) }
outcome t (Write id property index values priority) = write_outcome t
    (write t id (record { property = property; index = index; values = values; priority = priority }))
outcome t (WriteMany asked) = write_all t (in_order asked)

-- what the device replies
abbrev pub reply : {A : Type 0} → PlainTable A → Request A → Reply A
reply t q = (outcome t q).reply

-- what the request leaves
abbrev pub after : {A : Type 0} → PlainTable A → Request A → PlainTable A
after t q = (outcome t q).table
