-- Sound requests and replies: those that have a spelling (15).
use Rattle.std.specs.Prelude.{◌≢◌, ℕ, ◌<◌, ◌^◌, List, [], Option, Some, None, Result, Ok, Err}
use Rattle.std.specs.List.{AllByRecursion}
use Rattle.tags.specs.declared.object_id.ObjectId.{ObjectId}
use Rattle.tags.specs.declared.value.Value.{Value}
use Rattle.tags.specs.Number.{IsSoundObject}
use Rattle.tags.specs.Value.{IsSound}
use Rattle.primitives.specs.Errors.{class_number, code_number, IsNamedClass, IsNamedCode}
use Rattle.primitives.specs.declared.error.ErrorClass.{ErrorClass}
use Rattle.primitives.specs.declared.error.ErrorCode.{ErrorCode}
use Rattle.primitives.specs.declared.plain_data.Request.{Request}
use Rattle.primitives.specs.declared.plain_data.Request.TheVariants.{Read, ReadMany, Write, WriteMany}
use Rattle.primitives.specs.declared.plain_data.ObjectRefs.{ObjectRefs}
use Rattle.primitives.specs.declared.plain_data.PropertyReference.{PropertyReference}
use Rattle.primitives.specs.declared.plain_data.ObjectWrites.{ObjectWrites}
use Rattle.primitives.specs.declared.plain_data.PropertyWrite.{PropertyWrite}
use Rattle.primitives.specs.declared.plain_data.Reply.{Reply}
use Rattle.primitives.specs.declared.plain_data.Reply.TheVariants.{Values, Many, Done, Error, ErrorAt}
use Rattle.primitives.specs.declared.plain_data.ObjectResults.{ObjectResults}
use Rattle.primitives.specs.declared.plain_data.PropertyResult.{PropertyResult}

-- a type below 1024 and an instance below 2^22 (20.2.14)
abbrev pub IsSoundId : ObjectId → Type 0
IsSoundId object = IsSoundObject object.object_type object.instance

-- each value has a spelling (20.2)
abbrev pub AreSound : {A : Type 0} → List (Value A) → Type 0
AreSound values = AllByRecursion IsSound values

-- an index of 32 bits, if there is one
abbrev pub IsSoundIndex : Option ℕ → Type 0
IsSoundIndex None = Unit {0}
IsSoundIndex (Some index) = index < 2 ^ 32

-- a priority from 1 to 16, if there is one (15.9.1.1.5)
abbrev pub IsSoundPriority : Option ℕ → Type 0
IsSoundPriority None = Unit {0}
IsSoundPriority (Some priority) = (0 < priority) × (priority < 17)

-- a property's number and index of 32 bits (21, BACnetPropertyReference)
abbrev pub IsSoundReference : PropertyReference → Type 0
IsSoundReference r = (r.property < 2 ^ 32) × IsSoundIndex r.index

-- an object with at least one reference (15.7.3.1)
abbrev pub IsSoundRefs : {A : Type 0} → ObjectRefs A → Type 0
IsSoundRefs r = IsSoundId r.object × (r.refs ≢ []) × AllByRecursion IsSoundReference r.refs

-- a write of sound values (21, BACnetPropertyValue)
abbrev pub IsSoundWrite : {A : Type 0} → PropertyWrite A → Type 0
IsSoundWrite w = (w.property < 2 ^ 32) × IsSoundIndex w.index × AreSound w.values × IsSoundPriority w.priority

-- an object with at least one write (15.10.3.1)
abbrev pub IsSoundWrites : {A : Type 0} → ObjectWrites A → Type 0
IsSoundWrites w = IsSoundId w.object × (w.writes ≢ []) × AllByRecursion IsSoundWrite w.writes

-- a request that has a spelling (15.5, 15.7, 15.9, 15.10)
abbrev pub IsSoundRequest : {A : Type 0} → Request A → Type 0
IsSoundRequest (Read object property index) = IsSoundId object × (property < 2 ^ 32) × IsSoundIndex index
IsSoundRequest (ReadMany asked) = (asked ≢ []) × AllByRecursion IsSoundRefs asked
IsSoundRequest (Write object property index values priority) =
    IsSoundId object × (property < 2 ^ 32) × IsSoundIndex index × AreSound values × IsSoundPriority priority
IsSoundRequest (WriteMany asked) = (asked ≢ []) × AllByRecursion IsSoundWrites asked

-- a class and a code of 32 bits, each under its name (18)
abbrev pub IsSoundError : ErrorClass → ErrorCode → Type 0
IsSoundError class code = (class_number class < 2 ^ 32) × IsNamedClass class × (code_number code < 2 ^ 32) ×
    IsNamedCode code

-- sound values, or a sound error
abbrev pub IsSoundReading : {A : Type 0} → Result (List (Value A)) (ErrorClass × ErrorCode) → Type 0
IsSoundReading (Ok values) = AreSound values
IsSoundReading (Err e) = IsSoundError e.0 e.1

-- what was read of a property, with its number and index (15.7.3.2)
abbrev pub IsSoundResult : {A : Type 0} → PropertyResult A → Type 0
IsSoundResult r = (r.property < 2 ^ 32) × IsSoundIndex r.index × IsSoundReading r.result

-- what was read of an object (15.7.3.2)
abbrev pub IsSoundResults : {A : Type 0} → ObjectResults A → Type 0
IsSoundResults r = IsSoundId r.object × AllByRecursion IsSoundResult r.results

-- a reply that has a spelling (15.5 to 15.10, 18)
abbrev pub IsSoundReply : {A : Type 0} → Reply A → Type 0
IsSoundReply (Values values) = AreSound values
IsSoundReply (Many results) = AllByRecursion IsSoundResults results
IsSoundReply Done = Unit {0}
IsSoundReply (Error class code) = IsSoundError class code
IsSoundReply (ErrorAt class code object property index) =
    IsSoundError class code × IsSoundId object × (property < 2 ^ 32) × IsSoundIndex index
