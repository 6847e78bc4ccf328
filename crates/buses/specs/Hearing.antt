-- What the ears of the buses hear.
use Rattle.std.specs.Prelude.{ℕ, ◌==◌, List, map, slice_set, if◌then◌else◌}
use Rattle.bus_traffic.specs.Bus.{BusState, IsHearing, heard_on}
use Rattle.bus_traffic.specs.Ears.{ear_anew}
use Rattle.bus_traffic.specs.declared.ear.Ear.{Ear}
use Rattle.buses.specs.Finding.{IsEarOf}
use Rattle.buses.specs.Puts.{BusesState}
use Rattle.buses.specs.declared.buses.EarHearing.{EarHearing}

-- what the ear of the station at an address of a network makes of octets at a moment, and the places of both (9.5.4)
pub record HearsAt {A : Type 0} (now net address : ℕ) (octets : List ℕ) (buses : List (BusState A))
    (h : EarHearing A) : Type 0 where
  pub bus : BusState A
  pub ear : Ear
  pub found : IsEarOf net address buses h.bus bus h.ear ear
  pub hears : IsHearing now octets ear bus h.hearing

-- the ear at these places has heard octets at a moment and keeps these (9.5.4)
abbrev pub heard_at : {A : Type 0} → (now bus_place ear_place : ℕ) → (octets kept : List ℕ) → Ear → BusState A →
    BusesState A → BusesState A
heard_at now bus_place ear_place octets kept e b all = record {
  buses = slice_set all.buses bus_place (heard_on now ear_place octets kept e b);
  frames = all.frames;
}

-- an ear is made anew at a moment, if it is that of the station at an address
abbrev pub anew_of : (now address : ℕ) → Ear → Ear
anew_of now address e = if e.address == address then ear_anew e.address now else e

-- .. each of a bus
abbrev pub anew_on : {A : Type 0} → (now address : ℕ) → BusState A → BusState A
anew_on now address b = record {
  net = b.net;
  ears = map (anew_of now address) b.ears;
  known = b.known;
  recent = b.recent;
}

-- .. if the bus has a number
abbrev pub anew_at : {A : Type 0} → (now net address : ℕ) → BusState A → BusState A
anew_at now net address b = if b.net == net then anew_on now address b else b

-- each ear of the station at an address of a network is made anew at a moment: it restarts (9.5.6, Initialize)
abbrev pub ears_anew : {A : Type 0} → (now net address : ℕ) → BusesState A → BusesState A
ears_anew now net address all = record { buses = map (anew_at now net address) all.buses; frames = all.frames }
