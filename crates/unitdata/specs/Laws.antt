-- What holds of all that is heard, for the proofs of the layers above.
use Rattle.std.specs.Prelude.{◌≡◌, ◌<◌, ℕ, true, List, Option, Some, None}
use Rattle.apdu.specs.Apdu.{PlainApdu, unconfirmed}
use Rattle.apdu.specs.Apdu as application
use Rattle.apdu.specs.ApduWriting.{canonical}
use Rattle.inside.specs.Inside.{Covers, HasInside, Inside, Reaches}
use Rattle.inside.specs.declared.reach.Reach.TheVariants as reach
use Rattle.npdu.specs.Mac.{is_address}
use Rattle.npdu.specs.declared.mac.Mac.{Mac}
use Rattle.npdu.specs.declared.mac.Station.{Station}
use Rattle.npdu.specs.declared.mac.Target.{Target}
use Rattle.npdu.specs.declared.mac.Target.TheVariants.{One}
use Rattle.unitdata.specs.Hearing.{Brings, Heard, SpellsContent, says}
use Rattle.unitdata.specs.Saying.{Spoken, announcing_npdu, is_spelled, npdu_of}

-- an NPDU brings one thing (6.2)
abbrev pub BroughtOnce : Type 0
BroughtOnce = (net : ℕ) (from : Mac) (to : Target) (npdu : List ℕ) (x y : Heard) → Brings net from to npdu x →
    Brings net from to npdu y → x ≡ y

-- the way that is learnt of what is heard names a station that DNET and DADR can name, where the network is one and the
-- address that it came from (6.2.2, 6.5.2)
abbrev pub LearntIsSpelled : Type 0
LearntIsSpelled = (net : ℕ) (from : Mac) (to : Target) (npdu : List ℕ) (h : Heard) → 0 < net → net < 65535 →
    is_address from ≡ true → Brings net from to npdu h → is_spelled h.way.destination ≡ true

-- what is heard is an APDU of these octets, said by the station with this address on this network
pub record IsBrought (net : ℕ) (from : Mac) (octets : List ℕ) (h : Heard) : Type 0 where
  pub sayer : h.station ≡ record { net = net; mac = from }
  pub contents : SpellsContent None octets h.content

-- what is said in a parcel brings a station of its own network that APDU, where it is for that network; where it is for
-- a station of another, it brings nothing here (6.2.2)
abbrev pub SpokenIsBrought : Type 0
SpokenIsBrought = (net : ℕ) (mac : Mac) (s : Spoken) (h : Heard) → is_spelled s.way.destination ≡ true →
    Brings net mac (One s.way.to) (npdu_of s) h → (s.way.destination ≡ None) × IsBrought net mac s.apdu h

-- an unconfirmed request to all brings a station of its own network that request (6.3.2)
abbrev pub AnnouncedIsBrought : Type 0
AnnouncedIsBrought = (net : ℕ) (mac : Mac) (to : Target) (service : ℕ) (octets : List ℕ) (h : Heard) →
    Brings net mac to (announcing_npdu service octets) h → IsBrought net mac (canonical (unconfirmed service octets)) h

-- an APDU that a station hears is inside the message, which comes from who says it and is for each station that the
-- target reaches there
pub record IsHeardInside (net : ℕ) (from : Mac) (to : Target) (npdu : List ℕ) (h : Heard) (a : PlainApdu) : Type 0 where
  pub inside : Inside
  pub has : HasInside net from to npdu inside
  pub source : inside.source ≡ h.station
  pub spelled : application.Spells inside.apdu a
  pub covers : (mac : Mac) → Reaches to mac → Covers inside.reach (record { net = net; mac = mac })

-- what an NPDU brings to a station is inside it (6.2, 6.3)
abbrev pub BroughtIsInside : Type 0
BroughtIsInside = (net : ℕ) (from : Mac) (to : Target) (npdu : List ℕ) (h : Heard) (a : PlainApdu) →
    Brings net from to npdu h → h.content ≡ says a → IsHeardInside net from to npdu h a

-- the station that DNET and DADR name, else the one on this network that it is handed to (6.2.2)
abbrev pub addressed : ℕ → Mac → Option Station → Station
addressed net to None = record { net = net; mac = to }
addressed net to (Some station) = station

-- what a station with this address on this network says to one station
abbrev pub spoken_inside : ℕ → Mac → Spoken → Inside
spoken_inside net mac s = record {
  source = record { net = net; mac = mac };
  reach = reach.One (addressed net s.way.to s.way.destination);
  apdu = s.apdu;
}

-- what is inside what is said is that: from who says it, for the station on its way, its APDU (6.2.2)
abbrev pub SpokenIsInside : Type 0
SpokenIsInside = (net : ℕ) (mac : Mac) (s : Spoken) → is_spelled s.way.destination ≡ true →
    HasInside net mac (One s.way.to) (npdu_of s) (spoken_inside net mac s)

-- what such a station says to all stations of all networks
abbrev pub announced_inside : ℕ → Mac → (service : ℕ) → List ℕ → Inside
announced_inside net mac service octets = record {
  source = record { net = net; mac = mac };
  reach = reach.All;
  apdu = canonical (unconfirmed service octets);
}

-- what is inside an unconfirmed request to all is that, for all (6.3.2)
abbrev pub AnnouncedIsInside : Type 0
AnnouncedIsInside = (net : ℕ) (mac : Mac) (to : Target) (service : ℕ) (octets : List ℕ) →
    HasInside net mac to (announcing_npdu service octets) (announced_inside net mac service octets)
