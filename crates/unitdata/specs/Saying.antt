-- The header that an APDU is said behind (6.2, 6.5.1).
use Rattle.std.specs.Prelude.{ℕ, ◌&&◌, nat_lt, Bool, true, false, List, [], ◌∷◌, Option, Some, None, option_map}
use Rattle.apdu.specs.Apdu.{unconfirmed}
use Rattle.apdu.specs.ApduWriting as apdu
use Rattle.apdu.specs.declared.pdu_type.PduType.{PduType}
use Rattle.apdu.specs.declared.pdu_type.PduType.TheVariants.{ConfirmedRequest, ComplexAck}
use Rattle.npdu.specs.Header.{INITIAL_HOP_COUNT, Header, PlainDestination, canonical}
use Rattle.npdu.specs.Mac.{is_address, mac_octets}
use Rattle.npdu.specs.declared.mac.Mac.{Mac}
use Rattle.npdu.specs.declared.mac.Station.{Station}
use Rattle.npdu.specs.declared.mac.Target.TheVariants.{One, All}
use Rattle.npdu.specs.declared.mac.Way.{Way}
use Rattle.npdu.specs.declared.parcel.Parcel.{Parcel}
use Rattle.npdu.specs.declared.priority.Priority.TheVariants.{Normal}
use Rattle.npdu.specs.declared.view.Dnet.TheVariants.{Network, Global}

-- a header of normal priority without a source and a network message, and the APDU behind it (6.2.2)
abbrev pub header_to : (expects_reply : Bool) → Option PlainDestination → List ℕ → Header
header_to expects_reply destination apdu = record {
  expects_reply = expects_reply;
  priority = Normal;
  destination = destination;
  source = None;
  message = None;
  body = apdu;
}

-- a station as DNET and DADR name it (6.2.2)
abbrev pub destination_to : Station → PlainDestination
destination_to s = record { net = Network s.net; mac = mac_octets s.mac; hops = INITIAL_HOP_COUNT }

-- all stations of all networks (6.2.2)
abbrev pub everywhere : PlainDestination
everywhere = record { net = Global; mac = []; hops = INITIAL_HOP_COUNT }

-- the NPDU of an APDU to a station of another network, or to one of this network (6.2.2)
unfoldable pub npdu_to : (expects_reply : Bool) → Option Station → List ℕ → List ℕ
npdu_to expects_reply destination apdu =
    canonical (header_to expects_reply (option_map destination_to destination) apdu)

-- the NPDU of an APDU to all stations of all networks (6.3.2)
unfoldable pub global_npdu : List ℕ → List ℕ
global_npdu apdu = canonical (header_to false (Some everywhere) apdu)

-- DNET and DADR can name a station: networks are numbered from 1 to 65534, and its address has one octet or six (6.2.2)
abbrev pub is_named : Station → Bool
is_named s = (nat_lt 0 s.net && nat_lt s.net 65535) && is_address s.mac

-- a destination, where there is one, is a station that DNET and DADR can name (6.2.2)
abbrev pub is_spelled : Option Station → Bool
is_spelled None = true
is_spelled (Some s) = is_named s

-- what a station says: an APDU on its way, and whether a reply is expected to it (6.1)
pub record Spoken : Type 0 where
  pub way : Way
  pub expects_reply : Bool
  pub apdu : List ℕ

-- its NPDU (6.2.2)
abbrev pub npdu_of : Spoken → List ℕ
npdu_of s = npdu_to s.expects_reply s.way.destination s.apdu

-- what is said from this address at this moment goes to the next station on its way, in a parcel
abbrev pub parcel_to : {A : Type 0} → ℕ → Mac → Spoken → Parcel A
parcel_to now mac s = record { from = mac; to = One s.way.to; npdu = npdu_of s; stamp = now }

-- it goes out where DNET and DADR can name who it is for, else not
abbrev pub parcel_if : {A : Type 0} → (spelled : Bool) → ℕ → Mac → Spoken → List (Parcel A)
parcel_if true now mac s = parcel_to now mac s ∷ []
parcel_if false now mac s = []

-- what is said, in a parcel; in none where who it is for can't be named (6.2.2)
abbrev pub parcel_of : {A : Type 0} → ℕ → Mac → Spoken → List (Parcel A)
parcel_of now mac s = parcel_if (is_spelled s.way.destination) now mac s

-- the NPDU of an unconfirmed request to all stations of all networks (6.3.2, 16.10)
unfoldable pub announcing_npdu : (service : ℕ) → List ℕ → List ℕ
announcing_npdu service octets = global_npdu (apdu.canonical (unconfirmed service octets))

-- such a request from this address at this moment, in a parcel
abbrev pub announced : {A : Type 0} → ℕ → Mac → (service : ℕ) → List ℕ → Parcel A
announced now mac service octets =
    record { from = mac; to = All; npdu = announcing_npdu service octets; stamp = now }

-- a reply is expected to a request, whole or a segment, and to a segment of an answer, and to nothing else (6.2.2)
abbrev pub expects_reply : PduType → (segmented : Bool) → Bool
expects_reply ConfirmedRequest segmented = true
expects_reply ComplexAck segmented = segmented
expects_reply kind segmented = false
