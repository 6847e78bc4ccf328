-- What a client says, in parcels (6.2.2, 16.10.1).
use Rattle.std.specs.Prelude.{ℕ, List, Option}
use Rattle.std.specs.List.{flat_map}
use Rattle.apdu.specs.Unconfirmed.{limits_octets, service_number}
use Rattle.apdu.specs.declared.unconfirmed.Limits.{Limits}
use Rattle.apdu.specs.declared.unconfirmed.UnconfirmedService.TheVariants as service
use Rattle.client_tsm.specs.Said.{spoken_of}
use Rattle.client_tsm.specs.declared.plan.ClientTsmTold.{ClientTsmTold}
use Rattle.client_tsm.specs.declared.said.ClientSaid.{ClientSaid}
use Rattle.npdu.specs.declared.mac.Mac.{Mac}
use Rattle.npdu.specs.declared.parcel.Parcel.{Parcel}
use Rattle.unitdata.specs.Saying as spoken
use Rattle.unitdata.specs.Saying.{announced}
use Rattle.client.specs.ClientTold.{ClientTold}

-- what is said, in a parcel; in none where who it is for can't be named (6.2.2)
abbrev pub parcel_of : {A : Type 0} → ℕ → Mac → ClientSaid A → List (Parcel A)
parcel_of now mac s = spoken.parcel_of now mac (spoken_of s)

-- all that is said, in order
abbrev pub parcels_of : {A : Type 0} → ℕ → Mac → List (ClientSaid A) → List (Parcel A)
parcels_of now mac says = flat_map (parcel_of now mac) says

-- what its client of transactions says goes out in parcels, and what it tells is told
abbrev pub told_of : {A : Type 0} → ℕ → Mac → ClientTsmTold A → ClientTold A
told_of now mac told = record { said = parcels_of now mac told.said; outcomes = told.told }

-- the parcel of a Who-Is, to all stations of all networks (16.10.1)
abbrev pub who_is_parcel : {A : Type 0} → ℕ → Mac → Option Limits → Parcel A
who_is_parcel now mac limits = announced now mac (service_number service.WhoIs) (limits_octets limits)
