-- What a device says, in parcels (6.2.2, 16.10.3).
use Rattle.std.specs.Prelude.{ℕ, List}
use Rattle.std.specs.List.{flat_map}
use Rattle.apdu.specs.Unconfirmed.{i_am_octets, service_number}
use Rattle.apdu.specs.declared.unconfirmed.IAm.{IAm}
use Rattle.apdu.specs.declared.unconfirmed.UnconfirmedService.TheVariants as kind
use Rattle.npdu.specs.declared.mac.Mac.{Mac}
use Rattle.npdu.specs.declared.parcel.Parcel.{Parcel}
use Rattle.server_tsm.specs.server_answers.Said.{spoken_of}
use Rattle.server_tsm.specs.server_answers.ServerTold.{ServerTold}
use Rattle.server_tsm.specs.server_answers.declared.said.ServerSaid.{ServerSaid}
use Rattle.unitdata.specs.Saying as spoken
use Rattle.unitdata.specs.Saying.{announced}
use Rattle.device.specs.DeviceTold.{DeviceTold}

-- what is said, in a parcel; in none where who it is for can't be named (6.2.2)
abbrev pub parcel_of : {A : Type 0} → ℕ → Mac → ServerSaid A → List (Parcel A)
parcel_of now mac s = spoken.parcel_of now mac (spoken_of s)

-- all that is said, in order
abbrev pub parcels_of : {A : Type 0} → ℕ → Mac → List (ServerSaid A) → List (Parcel A)
parcels_of now mac says = flat_map (parcel_of now mac) says

-- what its server says goes out in parcels, and what it executed is told
abbrev pub told_of : {A : Type 0} → ℕ → Mac → ServerTold A → DeviceTold A
told_of now mac server_told = record { said = parcels_of now mac server_told.said; executed = server_told.executed }

-- the parcel of an I-Am, to all stations of all networks (16.10.4)
abbrev pub i_am_parcel : {A : Type 0} → ℕ → Mac → IAm → Parcel A
i_am_parcel now mac i = announced now mac (service_number kind.IAm) (i_am_octets i)
