-- The parcels of the run across the router, and what their octets spell.
use Rattle.std.proofs.Common.{ℕ, ◌<◌, ◌≤◌, Bool, true, false, List, length, None, Some, arith}
use Rattle.apdu.proofs.CanonicalLaws as apdu_laws
use Rattle.apdu.proofs.UnconfirmedLaws.{i_am_spelled}
use Rattle.apdu.specs.Apdu.{PlainApdu}
use Rattle.apdu.specs.Apdu as application
use Rattle.apdu.specs.ApduWriting as apdu
use Rattle.apdu.specs.Unconfirmed.{SpellsIAm, i_am_octets}
use Rattle.carry_runs.specs.Crossing.{answer_apdu, asker, far, i_am_apdu, near, request_apdu, request_from, who_is_apdu}
use Rattle.client.specs.Saying.{who_is_parcel}
use Rattle.device.specs.Saying.{i_am_parcel}
use Rattle.headline_site_runs.specs.Small.{device, i_am}
use Rattle.inside.specs.Routed.{at_last, on_way}
use Rattle.npdu.proofs.CanonicalLaws.{canonical_spells}
use Rattle.npdu.specs.Header.{Header, Spells, canonical}
use Rattle.npdu.specs.Mac.{mac_octets}
use Rattle.npdu.specs.declared.mac.Station.{Station}
use Rattle.npdu.specs.declared.mac.Target.TheVariants.{All, One}
use Rattle.npdu.specs.declared.parcel.Parcel.{Parcel}
use Rattle.services.specs.Asked.{request_octets, service_asked}
use Rattle.tags.specs.Canonical as canonical
use Rattle.tags.specs.Number as number
use Rattle.unitdata.specs.Saying.{announcing_npdu, destination_to, everywhere, global_npdu, header_to, npdu_to, Spoken, parcel_to}

-- to all networks, as it is said, and as a router passes it on
abbrev pub to_all : PlainApdu → Header
to_all a = header_to false (Some everywhere) (apdu.canonical a)

abbrev pub on_its_way : Station → PlainApdu → Header
on_its_way from a = on_way from.net from.mac everywhere (to_all a)

-- to one station of another network, and as the router there hands it to that station
abbrev pub to_one : Bool → Station → PlainApdu → Header
to_one reply to a = header_to reply (Some (destination_to to)) (apdu.canonical a)

abbrev pub handed_over : Bool → Station → Station → PlainApdu → Header
handed_over reply from to a = at_last from.net from.mac (to_one reply to a)

-- the parcels, as they are said
abbrev pub who_is : (A : Type 0) → Parcel A
who_is A = who_is_parcel 0 asker.mac None

abbrev pub tells_who : (A : Type 0) → Parcel A
tells_who A = i_am_parcel 0 device.mac i_am

abbrev pub asked_spoken : (A : Type 0) → Spoken
asked_spoken A = record { way = record { to = near; destination = Some device }; expects_reply = true; apdu = apdu.canonical (request_apdu A) }

abbrev pub told_spoken : (A : Type 0) → Spoken
told_spoken A = record { way = record { to = far; destination = Some asker }; expects_reply = false; apdu = apdu.canonical (answer_apdu A) }

abbrev pub asks : (A : Type 0) → Parcel A
asks A = parcel_to 0 asker.mac (asked_spoken A)

abbrev pub tells : (A : Type 0) → Parcel A
tells A = parcel_to 0 device.mac (told_spoken A)

-- and as the router passes them on
abbrev pub who_is_on : (A : Type 0) → Parcel A
who_is_on A = record { from = far; to = All; npdu = canonical (on_its_way asker who_is_apdu); stamp = 0 }

abbrev pub tells_who_on : (A : Type 0) → Parcel A
tells_who_on A = record { from = near; to = All; npdu = canonical (on_its_way device i_am_apdu); stamp = 0 }

abbrev pub tells_on : (A : Type 0) → Parcel A
tells_on A = record { from = near; to = One asker.mac; npdu = canonical (handed_over false device asker (answer_apdu A)); stamp = 0 }

-- their headers are spelled
pub announced_spells : (a : PlainApdu) → Spells (global_npdu (apdu.canonical a)) (to_all a)
unfolding global_npdu
announced_spells a = canonical_spells (to_all a) (record { destination = (tt, omega arith, omega arith); source = tt; message = tt })

pub announcing_spells : (service : ℕ) (octets : List ℕ) → Spells (announcing_npdu service octets) (to_all (application.unconfirmed service octets))
unfolding announcing_npdu
announcing_spells service octets = announced_spells (application.unconfirmed service octets)

pub on_its_way_spells : (from : Station) (a : PlainApdu) → 0 < from.net → from.net < 65535 → 0 < length (mac_octets from.mac) →
    length (mac_octets from.mac) < 256 → Spells (canonical (on_its_way from a)) (on_its_way from a)
on_its_way_spells from a low high some few =
    canonical_spells (on_its_way from a) (record { destination = (tt, omega arith, omega arith); source = (low, high, some, few); message = tt })

pub to_one_spells : (reply : Bool) (to : Station) (a : PlainApdu) → 0 < to.net → to.net < 65535 → length (mac_octets to.mac) < 256 →
    Spells (npdu_to reply (Some to) (apdu.canonical a)) (to_one reply to a)
unfolding npdu_to
to_one_spells reply to a low high few =
    canonical_spells (to_one reply to a) (record { destination = ((low, high), few, omega arith); source = tt; message = tt })

pub handed_over_spells : (reply : Bool) (from to : Station) (a : PlainApdu) → 0 < from.net → from.net < 65535 → 0 < length (mac_octets from.mac) →
    length (mac_octets from.mac) < 256 → Spells (canonical (handed_over reply from to a)) (handed_over reply from to a)
handed_over_spells reply from to a low high some few =
    canonical_spells (handed_over reply from to a) (record { destination = tt; source = (low, high, some, few); message = tt })

-- what they say is spelled
pub who_is_spells : application.Spells (apdu.canonical who_is_apdu) who_is_apdu
who_is_spells = apdu_laws.canonical_spells who_is_apdu tt tt

pub i_am_spells : application.Spells (apdu.canonical i_am_apdu) i_am_apdu
i_am_spells = apdu_laws.canonical_spells i_am_apdu tt tt

pub i_am_is_spelled : SpellsIAm (i_am_octets i_am) i_am
i_am_is_spelled = i_am_spelled i_am (omega arith) (omega arith) (omega arith)

pub request_spells : (A : Type 0) → application.Spells (apdu.canonical (request_apdu A)) (request_apdu A)
request_spells A = apdu_laws.canonical_spells (request_apdu A) (omega arith) tt

pub answer_spells : (A : Type 0) → application.Spells (apdu.canonical (answer_apdu A)) (answer_apdu A)
answer_spells A = apdu_laws.canonical_spells (answer_apdu A) tt tt

-- all are short
pub who_is_short : (A : Type 0) → length (who_is A).npdu ≤ 1497
unfolding announcing_npdu global_npdu
who_is_short A = omega arith

pub who_is_on_short : (A : Type 0) → length (who_is_on A).npdu ≤ 1497
who_is_on_short A = omega arith

pub tells_who_short : (A : Type 0) → length (tells_who A).npdu ≤ 1497
unfolding announcing_npdu global_npdu canonical.shortest number.width
tells_who_short A = omega arith

pub tells_who_on_short : (A : Type 0) → length (tells_who_on A).npdu ≤ 1497
unfolding canonical.shortest number.width
tells_who_on_short A = omega arith

pub asks_short : (A : Type 0) → length (asks A).npdu ≤ 1497
unfolding npdu_to request_octets service_asked canonical.shortest number.width
asks_short A = omega arith

pub request_short : (A : Type 0) (net : ℕ) → length (request_from A net).npdu ≤ 1497
unfolding request_octets service_asked canonical.shortest number.width
request_short A net = omega arith

pub tells_short : (A : Type 0) → length (tells A).npdu ≤ 1497
unfolding npdu_to request_octets service_asked canonical.shortest number.width
tells_short A = omega arith

pub tells_on_short : (A : Type 0) → length (tells_on A).npdu ≤ 1497
unfolding request_octets service_asked canonical.shortest number.width
tells_on_short A = omega arith
