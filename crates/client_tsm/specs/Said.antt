-- What a client says (20.1.2, 20.1.6).
use Rattle.std.specs.Prelude.{Bool, false, is_some}
use Rattle.apdu.specs.Apdu.{PlainApdu, confirmed, segment_ack}
use Rattle.apdu.specs.ApduWriting.{canonical}
use Rattle.apdu.specs.Sizes.{apdu_code}
use Rattle.apdu.specs.declared.pdu_type.PduType.TheVariants as pdu
use Rattle.npdu.specs.declared.mac.Way.{Way}
use Rattle.client_tsm.specs.declared.said.ClientSaid.{ClientSaid}
use Rattle.client_tsm.specs.declared.said.ClientSaid.TheVariants as said
use Rattle.unitdata.specs.Saying as rule
use Rattle.unitdata.specs.Saying.{Spoken}

-- the APDU that it is (20.1.2, 20.1.6)
abbrev pub said_apdu : {A : Type 0} → ClientSaid A → PlainApdu
said_apdu (said.Request way accepts segment invoke service octets) =
    confirmed segment accepts.segmented accepts.max_segments (apdu_code accepts.max_apdu) invoke service octets
said_apdu (said.SegmentAck way negative invoke sequence window) = segment_ack negative false invoke sequence window

-- where it goes (6.5.2)
abbrev pub said_way : {A : Type 0} → ClientSaid A → Way
said_way (said.Request way accepts segment invoke service octets) = way
said_way (said.SegmentAck way negative invoke sequence window) = way

-- a reply is expected to a request and to each segment of one, and to nothing else that a client says (6.2.2)
abbrev pub expects_reply : {A : Type 0} → ClientSaid A → Bool
expects_reply (said.Request way accepts segment invoke service octets) =
    rule.expects_reply pdu.ConfirmedRequest (is_some segment)
expects_reply (said.SegmentAck way negative invoke sequence window) = rule.expects_reply pdu.SegmentAck false

-- it goes out so (6.2.2)
abbrev pub spoken_of : {A : Type 0} → ClientSaid A → Spoken
spoken_of s = record { way = said_way s; expects_reply = expects_reply s; apdu = canonical (said_apdu s) }
