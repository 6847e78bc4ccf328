-- The octets that are written of a reply: the service data of its ComplexACK (15.5.1, 15.7.3.2).
use Rattle.std.specs.Prelude.{ℕ, List, [], ◌++◌, Result, Ok, Err}
use Rattle.tags.specs.declared.value.Value.{Value}
use Rattle.primitives.specs.Errors.{class_number, code_number}
use Rattle.primitives.specs.declared.error.ErrorClass.{ErrorClass}
use Rattle.primitives.specs.declared.error.ErrorCode.{ErrorCode}
use Rattle.primitives.specs.declared.plain_data.Request.{Request}
use Rattle.primitives.specs.declared.plain_data.Request.TheVariants.{Read, ReadMany}
use Rattle.primitives.specs.declared.plain_data.Reply.{Reply}
use Rattle.primitives.specs.declared.plain_data.Reply.TheVariants.{Values, Many}
use Rattle.primitives.specs.declared.plain_data.ObjectResults.{ObjectResults}
use Rattle.primitives.specs.declared.plain_data.PropertyResult.{PropertyResult}
use Rattle.apdu.specs.ApduWriting.{class_and_code_octets}
use Rattle.apdu.specs.ParameterWriting.{object_field, number_field, option_field, opening_octets, closing_octets}
use Rattle.services.specs.CanonicalRequest.{values_field, in_turn, read_octets}

-- values between the tags 4, or class and code between the tags 5 (15.7.3.2)
abbrev pub reading_octets : {A : Type 0} → Result (List (Value A)) (ErrorClass × ErrorCode) → List ℕ
reading_octets (Ok values) = values_field 4 values
reading_octets (Err e) = opening_octets 5 ++ class_and_code_octets (class_number e.0)
    (code_number e.1) ++ closing_octets 5

-- a property, its index, and what was read of it (15.7.3.2)
abbrev pub result_octets : {A : Type 0} → PropertyResult A → List ℕ
result_octets r = number_field 2 r.property ++ option_field 3 r.index ++ reading_octets r.result

-- an object, and what was read of its properties (15.7.3.2, ReadAccessResult)
abbrev pub results_octets : {A : Type 0} → ObjectResults A → List ℕ
results_octets r = object_field 0 r.object ++ opening_octets 1 ++ in_turn result_octets r.results ++ closing_octets 1

-- the octets behind the header of the ComplexACK: none where the reply goes in another PDU (15.5.1, 15.7.3.2)
abbrev pub canonical_reply : {A : Type 0} → Request A → Reply A → List ℕ
canonical_reply (Read object property index) (Values values) = read_octets object property index ++
    values_field 3 values
canonical_reply (ReadMany asked) (Many results) = in_turn results_octets results
canonical_reply request reply = []
