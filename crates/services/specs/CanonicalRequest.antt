-- The octets that are written of a request: its shortest spelling (15.5.1, 15.7.3.1, 15.9.1, 15.10.3.1).
use Rattle.std.specs.Prelude.{ℕ, List, [], ◌∷◌, ◌++◌, Option}
use Rattle.tags.specs.declared.object_id.ObjectId.{ObjectId}
use Rattle.tags.specs.declared.value.Value.{Value}
use Rattle.tags.specs.Canonical.{canonicals}
use Rattle.apdu.specs.ParameterWriting.{object_field, number_field, option_field, opening_octets, closing_octets}
use Rattle.primitives.specs.declared.plain_data.Request.{Request}
use Rattle.primitives.specs.declared.plain_data.Request.TheVariants.{Read, ReadMany, Write, WriteMany}
use Rattle.primitives.specs.declared.plain_data.ObjectRefs.{ObjectRefs}
use Rattle.primitives.specs.declared.plain_data.PropertyReference.{PropertyReference}
use Rattle.primitives.specs.declared.plain_data.ObjectWrites.{ObjectWrites}
use Rattle.primitives.specs.declared.plain_data.PropertyWrite.{PropertyWrite}

-- the octets of each of a list, one after another
abbrev pub in_turn : {X : Type 0} → (X → List ℕ) → List X → List ℕ
in_turn octets [] = []
in_turn octets (x ∷ xs) = octets x ++ in_turn octets xs

-- values between an opening and a closing tag (20.2.1.3.2)
abbrev pub values_field : {A : Type 0} → ℕ → List (Value A) → List ℕ
values_field number values = opening_octets number ++ canonicals values ++ closing_octets number

-- a property and its index (21, BACnetPropertyReference)
abbrev pub reference_octets : PropertyReference → List ℕ
reference_octets r = number_field 0 r.property ++ option_field 1 r.index

-- an object and its references (15.7.3.1, ReadAccessSpecification)
abbrev pub refs_octets : {A : Type 0} → ObjectRefs A → List ℕ
refs_octets r = object_field 0 r.object ++ opening_octets 1 ++ in_turn reference_octets r.refs ++ closing_octets 1

-- a property, its index, its values and its priority (21, BACnetPropertyValue)
abbrev pub write_octets : {A : Type 0} → PropertyWrite A → List ℕ
write_octets w = number_field 0 w.property ++ option_field 1 w.index ++ values_field 2 w.values ++
    option_field 3 w.priority

-- an object and the writes to it (15.10.3.1, WriteAccessSpecification)
abbrev pub writes_octets : {A : Type 0} → ObjectWrites A → List ℕ
writes_octets w = object_field 0 w.object ++ opening_octets 1 ++ in_turn write_octets w.writes ++ closing_octets 1

-- an object, a property and an index (15.5.1, 15.9.1)
abbrev pub read_octets : ObjectId → ℕ → Option ℕ → List ℕ
read_octets object property index = object_field 0 object ++ number_field 1 property ++ option_field 2 index

-- the octets of a request behind its service (15.5.1, 15.7.3.1, 15.9.1, 15.10.3.1)
abbrev pub canonical_request : {A : Type 0} → Request A → List ℕ
canonical_request (Read object property index) = read_octets object property index
canonical_request (ReadMany asked) = in_turn refs_octets asked
canonical_request (Write object property index values priority) = read_octets object property index ++
    values_field 3 values ++ option_field 4 priority
canonical_request (WriteMany asked) = in_turn writes_octets asked
