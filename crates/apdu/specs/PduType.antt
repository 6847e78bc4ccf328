-- The types of APDUs (20.1).
use Rattle.std.specs.Prelude.{ℕ, ◌+◌, ◌*◌, ◌/◌, ◌%◌}
use Rattle.apdu.specs.declared.pdu_type.PduType.{PduType}
use Rattle.apdu.specs.declared.pdu_type.PduType.TheVariants.{ConfirmedRequest, UnconfirmedRequest, SimpleAck}
use Rattle.apdu.specs.declared.pdu_type.PduType.TheVariants.{ComplexAck, SegmentAck, Error, Reject, Abort}

-- the high four bits of the first octet (20.1.2 to 20.1.9)
abbrev pub type_number : PduType → ℕ
type_number ConfirmedRequest = 0
type_number UnconfirmedRequest = 1
type_number SimpleAck = 2
type_number ComplexAck = 3
type_number SegmentAck = 4
type_number Error = 5
type_number Reject = 6
type_number Abort = 7

-- how many octets stand before the data, two more where bit 3 of the first says a segment (20.1.2 to 20.1.9)
abbrev pub header_length : PduType → ℕ → ℕ
header_length ConfirmedRequest first = 4 + 2 * (first / 8 % 2)
header_length UnconfirmedRequest first = 2
header_length SimpleAck first = 3
header_length ComplexAck first = 3 + 2 * (first / 8 % 2)
header_length SegmentAck first = 4
header_length Error first = 3
header_length Reject first = 3
header_length Abort first = 3

-- nothing stands behind the header (20.1.4, 20.1.6, 20.1.8, 20.1.9)
abbrev pub IsWholeHeader : PduType → Type 0
IsWholeHeader SimpleAck = Unit {0}
IsWholeHeader SegmentAck = Unit {0}
IsWholeHeader Reject = Unit {0}
IsWholeHeader Abort = Unit {0}
IsWholeHeader kind = ⊥
