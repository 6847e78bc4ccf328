-- A bus: its ears, what is known of all frames that were put out there, and those that may still be heard.
use Rattle.std.specs.Prelude.{◌≤◌, ℕ, ◌+◌, List, [], ◌∷◌, ◌++◌, slice_set}
use Rattle.std.specs.Vec.{vec_capacity, vec_len}
use Rattle.bus_traffic.specs.Ears.{ear_after, ear_anew, kept_at}
use Rattle.bus_traffic.specs.Hearing.{Hears}
use Rattle.bus_traffic.specs.Sendings.{delivered, followed, judged_by, known_by, known_of, learned}
use Rattle.bus_traffic.specs.declared.bus.Bus.{Bus}
use Rattle.bus_traffic.specs.declared.ear.Ear.{Ear}
use Rattle.bus_traffic.specs.declared.hearing.Hearing.{Hearing}
use Rattle.bus_traffic.specs.declared.sending.Known.{Known}
use Rattle.bus_traffic.specs.declared.sending.Recent.{Recent}
use Rattle.bus_traffic.specs.declared.sending.Sending.{Sending}

-- net: the number of the network. ears: one for each station on it. known: what was ever put out, each frame once.
-- recent: what may still be heard, in the order in which it was put out.
pub record BusState (A : Type 0) : Type 0 where
  pub net : ℕ
  pub ears : List Ear
  pub known : List (Known A)
  pub recent : List (Recent A)

-- what the code keeps of a bus, whatever room there is
abbrev pub bus_of : {A : Type 0} → Bus A → BusState A
bus_of b = record { net = b.net; ears = b.ears.items; known = b.known.items; recent = b.recent.items }

-- a bus without ears on which nothing was put out
abbrev pub bus_anew : {A : Type 0} → (net : ℕ) → BusState A
bus_anew net = record { net = net; ears = []; known = []; recent = [] }

-- a station comes to it at a moment
abbrev pub joined : {A : Type 0} → (now address : ℕ) → BusState A → BusState A
joined now address b = record {
  net = b.net;
  ears = b.ears ++ ear_anew address now ∷ [];
  known = b.known;
  recent = b.recent;
}

-- there is room for so many frames
pub record HasRoom {A : Type 0} (count : ℕ) (b : Bus A) : Type 0 where
  pub known : vec_len b.known + count ≤ vec_capacity b.known
  pub recent : vec_len b.recent + count ≤ vec_capacity b.recent

-- a frame is put out at a moment
abbrev pub put_out : {A : Type 0} → (now : ℕ) → Sending A → BusState A → BusState A
put_out now s b = record {
  net = b.net;
  ears = b.ears;
  known = learned (known_by s) b.known;
  recent = followed now s b.recent;
}

-- an ear has these octets come to it at a moment, and makes this of them
abbrev pub IsHearing : {A : Type 0} → (now : ℕ) → (octets : List ℕ) → Ear → BusState A → Hearing A → Type 0
IsHearing {A} now octets e b h =
    Hears A (λ whole. judged_by now (known_of whole b.known)) (kept_at now octets e) octets h.frames h.ending

-- the ear at a place has heard octets at a moment, and keeps these: where the octets are just those of a frame of
-- another station that may still be heard and wasn't yet delivered there, the first such is
abbrev pub heard_on : {A : Type 0} → (now place : ℕ) → (octets kept : List ℕ) → Ear → BusState A → BusState A
heard_on now place octets kept e b = record {
  net = b.net;
  ears = slice_set b.ears place (ear_after now octets kept e);
  known = b.known;
  recent = delivered now e.address octets b.recent;
}

-- the station whose ear is at a place restarts at a moment
abbrev pub restarted : {A : Type 0} → (now place : ℕ) → Ear → BusState A → BusState A
restarted now place e b = record {
  net = b.net;
  ears = slice_set b.ears place (ear_anew e.address now);
  known = b.known;
  recent = b.recent;
}
