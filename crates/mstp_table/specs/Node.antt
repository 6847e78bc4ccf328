-- What a master node of MS/TP knows, and what it hears and puts out (9.3, 9.5).
use Rattle.std.specs.Prelude.{◌≡◌, ◌≤◌, ℕ, ◌+◌, ◌-◌, ◌/◌, ◌%◌, ◌==◌, ◌&&◌, not, Bool, true, if◌then◌else◌, List, []}
use Rattle.std.specs.Prelude.{◌∷◌, filter, length, map, slice_index, Option, Some, None}
use Rattle.link.specs.Limits.{is_target}
use Rattle.link.specs.declared.step.Sent.{Sent}
use Rattle.mstp_frame.specs.Frame.{PlainFrame, canonical}
use Rattle.mstp_frame.specs.FrameType.{type_number}
use Rattle.mstp_frame.specs.declared.frame.Frame.{Frame}
use Rattle.mstp_frame.specs.declared.frame_type.FrameType.{FrameType}
use Rattle.npdu.specs.declared.mac.Mac.TheVariants.{One as Octet, Six}
use Rattle.npdu.specs.declared.mac.Target.{Target}
use Rattle.npdu.specs.declared.mac.Target.TheVariants.{One, All}
use Rattle.npdu.specs.declared.parcel.Parcel.{Parcel}
use Rattle.profile.specs.Ages.{is_heard_in_time}
use Rattle.profile.specs.LinkKind.{max_npdu}
use Rattle.profile.specs.declared.link_kind.LinkKind.TheVariants.{MsTp}
use Rattle.mstp_table.specs.declared.state.State.{State}
use Rattle.mstp_table.specs.declared.state.Whom.{Whom}
use Rattle.mstp_table.specs.declared.state.Whom.TheVariants.{ToUs, ToAll, ToOthers}
use Rattle.mstp_table.specs.declared.waiting.Waiting.{Waiting}

-- A master node: its state; TS, NS and PS, the addresses of this station, of the next, and of the one polled; the
-- tokens that it had since it polled, how often it gave the last one again, and whether it is the sole master (9.5.2);
-- how many octets it heard since it gave the token or took it for lost, at most four being counted; when an octet was
-- last heard or said, and the moment of the last input; and what waits for the token
pub record NodeState (A : Type 0) : Type 0 where
  pub state : State
  pub ts : ℕ
  pub ns : ℕ
  pub ps : ℕ
  pub count : ℕ
  pub retries : ℕ
  pub sole : Bool
  pub heard : ℕ
  pub last : ℕ
  pub moment : ℕ
  pub queue : List (Waiting A)

-- a frame, by the name of its type (9.3)
pub record NamedFrame : Type 0 where
  pub frame_type : FrameType
  pub destination : ℕ
  pub source : ℕ
  pub contents : List ℕ

-- .. by its number
abbrev pub plain : NamedFrame → PlainFrame
plain f = record {
  frame_type = type_number f.frame_type;
  destination = f.destination;
  source = f.source;
  contents = f.contents;
}

-- what the code's frame says
abbrev pub named : Frame → NamedFrame
named f = record {
  frame_type = f.frame_type;
  destination = f.destination;
  source = f.source;
  contents = f.«data».now;
}

-- a frame that is put out, and when what it says was said
pub record PutOut : Type 0 where
  pub frame : NamedFrame
  pub stamp : ℕ

-- what an input leads to: whether the data heard are handed up, what the node is then, and the frames that it puts out
pub record Outcome (A : Type 0) : Type 0 where
  pub up : Bool
  pub left : NodeState A
  pub frames : List PutOut

-- a frame goes out to its destination, in its canonical octets (9.3)
abbrev pub sent : {A : Type 0} → PutOut → Sent A
sent p = record { to = Octet p.frame.destination; octets = canonical (plain p.frame); stamp = p.stamp }

-- .. each of these
abbrev pub all_sent : {A : Type 0} → List PutOut → List (Sent A)
all_sent [] = []
all_sent (p ∷ ps) = sent p ∷ all_sent ps

-- the destination that is all nodes of a bus (9.3)
abbrev pub ALL_NODES : ℕ
ALL_NODES = 255

-- whom a frame is for, at the station of this address (9.3)
abbrev pub whom : (ts destination : ℕ) → Whom
whom ts destination = if destination == ts then ToUs else if destination == ALL_NODES then ToAll else ToOthers

-- the target that a destination is (9.3)
abbrev pub target_of : ℕ → Target
target_of destination = if destination == ALL_NODES then All else One (Octet destination)

-- the destination of a target on a bus: an address of one octet, or all (9.3)
abbrev pub destination_of : Target → ℕ
destination_of (One (Octet address)) = address
destination_of (One (Six octets)) = ALL_NODES
destination_of All = ALL_NODES

-- the address behind this, of those of 128 masters (9.5.2)
abbrev pub after : ℕ → ℕ
after address = (address + 1) % 128

-- how long no octet was heard or said (9.5.2, SilenceTimer)
abbrev pub silence : {A : Type 0} → NodeState A → (now : ℕ) → ℕ
silence s now = now - s.last

-- those of them that are at most LIFE old
abbrev pub young : {A : Type 0} → List (Waiting A) → (now : ℕ) → List (Waiting A)
young ws now = filter (λ w. is_heard_in_time w.stamp now) ws

-- bit 2 of the control octet, the second of an NPDU (6.2.2)
abbrev pub expects_reply : List ℕ → Bool
expects_reply npdu = (slice_index npdu 1 / 4) % 2 == 1

-- it is for all
abbrev pub is_broadcast : {A : Type 0} → Waiting A → Bool
is_broadcast w = w.destination == ALL_NODES

-- it is for the node of this address alone
abbrev pub is_to : {A : Type 0} → ℕ → Waiting A → Bool
is_to address w = not (is_broadcast w) && w.destination == address

-- one that waits, and those that are left
pub record Picked (A : Type 0) : Type 0 where
  pub picked : Waiting A
  pub rest : List (Waiting A)

-- .. with another one before these
abbrev pub with_front : {A : Type 0} → Waiting A → Option (Picked A) → Option (Picked A)
with_front w None = None
with_front w (Some x) = Some (record { picked = x.picked; rest = w ∷ x.rest })

-- the first that is for a node, and those that are left
abbrev pub first_to : {A : Type 0} → ℕ → List (Waiting A) → Option (Picked A)
first_to address [] = None
first_to address (w ∷ ws) =
    if is_to address w then Some (record { picked = w; rest = ws }) else with_front w (first_to address ws)

-- a parcel that may be queued: from this station, to all or a master, and no longer than a bus carries (9.1, 9.3)
pub record IsForBus {A : Type 0} (ts : ℕ) (p : Parcel A) : Type 0 where
  pub from : p.from ≡ Octet ts
  pub to : is_target (Octet ts) p.to ≡ true
  pub size : length p.npdu ≤ max_npdu MsTp

-- it waits as its destination, octets and stamp
abbrev pub waiting_of : {A : Type 0} → Parcel A → Waiting A
waiting_of p = record { destination = destination_of p.to; npdu = p.npdu; stamp = p.stamp }

-- the parcel that one is which waits at this station
abbrev pub parcel_of : {A : Type 0} → ℕ → Waiting A → Parcel A
parcel_of ts w = record { from = Octet ts; to = target_of w.destination; npdu = w.npdu; stamp = w.stamp }

-- the parcels that wait
abbrev pub parcels_in : {A : Type 0} → NodeState A → List (Parcel A)
parcels_in s = map (parcel_of s.ts) s.queue
