-- The shortest octets of an APDU, all bits that are not looked at being 0 (20.1).
use Rattle.std.specs.Prelude.{◌≡◌, ◌≢◌, ℕ, ◌+◌, ◌*◌, ◌<◌, ◌^◌, List, [], ◌∷◌, ◌++◌, Option, Some, None, IfSome}
use Rattle.tags.specs.declared.tag.Class.TheVariants.{Application}
use Rattle.tags.specs.Canonical.{tagged}
use Rattle.tags.specs.Number.{bit, unsigned_octets, IsSoundObject}
use Rattle.apdu.specs.Numbers.{service_number}
use Rattle.apdu.specs.declared.numbers.ConfirmedService.TheVariants.{WritePropertyMultiple}
use Rattle.apdu.specs.Apdu.{PlainApdu, confirmed, complex_ack, segment_ack, error_pdu, abort_pdu, type_of}
use Rattle.apdu.specs.Apdu.{octets_behind}
use Rattle.apdu.specs.ParameterWriting.{object_field, number_field, option_field, opening_octets, closing_octets}
use Rattle.apdu.specs.PduType.{type_number}
use Rattle.apdu.specs.Sizes.{segments_code}
use Rattle.apdu.specs.declared.apdu.Segment.{Segment}
use Rattle.apdu.specs.declared.service_error.ObjectPropertyReference.{ObjectPropertyReference}

-- SEG in bit 3 and MOR in bit 2 (20.1.2.1, 20.1.2.2)
abbrev pub segment_bits : Option Segment → ℕ
segment_bits None = 0
segment_bits (Some s) = 8 + 4 * bit s.more_follows

-- the low four bits of the first octet (20.1.2 to 20.1.9)
abbrev pub flag_bits : PlainApdu → ℕ
flag_bits (confirmed segment accepted max_segments max_apdu invoke service octets) = segment_bits segment +
    2 * bit accepted
flag_bits (complex_ack segment invoke service octets) = segment_bits segment
flag_bits (segment_ack negative server invoke sequence window) = 2 * bit negative + bit server
flag_bits (abort_pdu server invoke reason) = bit server
flag_bits a = 0

-- class and code (21, Error)
abbrev pub class_and_code_octets : ℕ → ℕ → List ℕ
class_and_code_octets class code = tagged Application 9 (unsigned_octets class) ++
    tagged Application 9 (unsigned_octets code)

-- object [0], property [1] and index [2] (21, BACnetObjectPropertyReference)
abbrev pub reference_octets : ObjectPropertyReference → List ℕ
reference_octets r = object_field 0 r.object ++ (number_field 1 r.property ++ option_field 2 r.index)

-- an Error's contents, for WritePropertyMultiple with the first write that failed (20.1.7, 21,
-- WritePropertyMultiple-Error)
abbrev pub error_octets : ℕ → ℕ → Option ObjectPropertyReference → List ℕ
error_octets class code None = class_and_code_octets class code
error_octets class code (Some r) = opening_octets 0 ++
    (class_and_code_octets class code ++ (closing_octets 0 ++
    (opening_octets 1 ++ (reference_octets r ++ closing_octets 1))))

-- what is written behind the first octet (20.1.2 to 20.1.9)
abbrev pub field_octets : PlainApdu → List ℕ
field_octets (confirmed segment accepted max_segments max_apdu invoke service octets) =
    octets_behind (16 * segments_code max_segments + max_apdu) []
    (confirmed segment accepted max_segments max_apdu invoke service octets)
field_octets (error_pdu invoke service class code first_failed) =
    octets_behind 0 (error_octets class code first_failed) (error_pdu invoke service class code first_failed)
field_octets a = octets_behind 0 [] a

-- the shortest octets, with all bits 0 that are not looked at
abbrev pub canonical : PlainApdu → List ℕ
canonical a = (16 * type_number (type_of a) + flag_bits a) ∷ field_octets a

-- the write that failed has an object with a spelling
abbrev pub CanBeNamed : Option ObjectPropertyReference → Type 0
CanBeNamed None = Unit {0}
CanBeNamed (Some r) = IsSoundObject r.object.object_type r.object.instance

-- WritePropertyMultiple alone names the write that failed (15.10.1.3)
abbrev pub NamesWriteOf : ℕ → Option ObjectPropertyReference → Type 0
NamesWriteOf service None = service ≢ service_number WritePropertyMultiple
NamesWriteOf service (Some r) = service ≡ service_number WritePropertyMultiple

-- what an APDU's types leave open: the size code has four bits, and an Error the form of its service
abbrev pub CanBeWritten : PlainApdu → Type 0
CanBeWritten (confirmed segment accepted max_segments max_apdu invoke service octets) = max_apdu < 16
CanBeWritten (error_pdu invoke service class code first_failed) = NamesWriteOf service first_failed ×
    CanBeNamed first_failed
CanBeWritten a = Unit {0}

-- a property and an index of 32 bits
abbrev pub FitsReference : Option ObjectPropertyReference → Type 0
FitsReference None = Unit {0}
FitsReference (Some r) = (r.property < 2 ^ 32) × IfSome r.index (λ n. n < 2 ^ 32)

-- class, code, property and index of 32 bits
abbrev pub FitsError : ℕ → ℕ → Option ObjectPropertyReference → Type 0
FitsError class code first_failed = (class < 2 ^ 32) × (code < 2 ^ 32) × FitsReference first_failed

-- what an APDU's types say: the numbers of an Error have 32 bits
abbrev pub HasNumbers : PlainApdu → Type 0
HasNumbers (error_pdu invoke service class code first_failed) = FitsError class code first_failed
HasNumbers a = Unit {0}
