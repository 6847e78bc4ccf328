-- The steps of a port on a bus of MS/TP: each call is an input of its node (9.5.6).
use Rattle.std.specs.Prelude.{◌≡◌, ◌≤◌, ◌⊎◌, ℕ, ◌&&◌, Bool, true, false, List, length, Option, Some, None}
use Rattle.carry.specs.Datagrams.{parcel}
use Rattle.carry.specs.Frames.{IsFrameOf, framed_to}
use Rattle.link.specs.Carrying.{nothing}
use Rattle.link.specs.Limits.{is_target, max_npdu_at}
use Rattle.link.specs.Step.{LinkStep}
use Rattle.mstp_frame.specs.Frame.{Spells}
use Rattle.mstp_frame.specs.FrameType.{IsNamed}
use Rattle.mstp_frame.specs.Heard.{NoFrame}
use Rattle.mstp_table.specs.Node.{NamedFrame, NodeState, Outcome, all_sent, plain}
use Rattle.mstp_table.specs.Table as table
use Rattle.mstp_table.specs.Table.{Queued, Octets, Frame, Tick}
use Rattle.npdu.specs.Mac.{same_mac}
use Rattle.npdu.specs.declared.mac.Mac.{Mac}
use Rattle.npdu.specs.declared.mac.Mac.TheVariants.{One, Six}
use Rattle.npdu.specs.declared.parcel.Parcel.{Parcel}
use Rattle.tags.specs.declared.fault.Fault.{Fault}
use Rattle.link_bus.specs.Port.{BusPortState, at_moment, station_of, with_node}

-- octets on a bus carry a parcel: that of the frame that they spell, whose addresses the frame has itself (9.3)
abbrev pub IsOnBus : {A : Type 0} → (from to : Mac) → (octets : List ℕ) → (stamp : ℕ) → Parcel A → Type 0
IsOnBus from to octets stamp p = IsFrameOf octets stamp p

-- no octets are refused
abbrev pub IsRefused : Fault → (from : Mac) → (octets : List ℕ) → Type 0
IsRefused fault from octets = ⊥

-- a call does what its node's input leads to: the frames are put out, and this is handed up
pub record Does {A : Type 0} (outcome : Outcome A) (brings : Option (Parcel A)) (old : BusPortState A)
    (step : LinkStep A) (new : BusPortState A) : Type 0 where
  pub up : step.up ≡ brings
  pub puts : step.out ≡ all_sent outcome.frames
  pub left : new ≡ with_node old outcome.left

-- nothing comes of a call but its moment
pub record Idles {A : Type 0} (now : ℕ) (old : BusPortState A) (step : LinkStep A) (new : BusPortState A) :
    Type 0 where
  pub nothing : step ≡ nothing
  pub left : new ≡ at_moment now old

-- a parcel is from the port's own address, and for all or for a master (6.1, 9.1, 9.3)
abbrev pub is_taken : {A : Type 0} → (own : Mac) → Parcel A → Bool
is_taken own p = same_mac p.from own && is_target own p.to

-- a parcel that is taken waits in the node, and any other is dropped
abbrev pub queued_if : {A : Type 0} → (taken : Bool) → Parcel A → NodeState A → NodeState A
queued_if true p s = (table.step s (Queued p)).left
queued_if false p s = s

-- a parcel is handed down: it waits for the token, and it is no longer than a bus carries (9.1.1, 9.5.6)
pub record Downs {A : Type 0} (now : ℕ) (p : Parcel A) (old : BusPortState A) (step : LinkStep A)
    (new : BusPortState A) : Type 0 where
  pub fits : length p.npdu ≤ max_npdu_at (station_of old).mac
  pub nothing : step ≡ nothing
  pub left : new ≡ with_node old (queued_if (is_taken (station_of old).mac p) p (at_moment now old).node)

-- the data of a frame as a message from its source to its destination, where they are handed up (9.3)
abbrev pub handed_up : {A : Type 0} → (hands_up : Bool) → (stamp : ℕ) → NamedFrame → Option (Parcel A)
handed_up true stamp f = Some (parcel (One f.source) (framed_to f.destination) f.contents stamp)
handed_up false stamp f = None

-- a frame is heard: its node's input, whose data are handed up where the node does so (9.5.6)
abbrev pub HearsIt : {A : Type 0} → (now : ℕ) → NamedFrame → (stamp : ℕ) → BusPortState A → LinkStep A →
    BusPortState A → Type 0
HearsIt now f stamp old step new =
    Does (table.step old.node (Frame f now)) (handed_up (table.step old.node (Frame f now)).up stamp f) old step new

-- octets spell a frame, which is heard
pub record HearsFrame {A : Type 0} (now : ℕ) (octets : List ℕ) (stamp : ℕ) (old : BusPortState A) (step : LinkStep A)
    (new : BusPortState A) : Type 0 where
  pub frame : NamedFrame
  pub spelled : Spells octets (plain frame)
  pub named : IsNamed frame.frame_type
  pub does : HearsIt now frame stamp old step new

-- .. or none, and nothing is heard (9.5.4)
pub record HearsNone {A : Type 0} (now : ℕ) (octets : List ℕ) (old : BusPortState A) (step : LinkStep A)
    (new : BusPortState A) : Type 0 where
  pub none : NoFrame octets
  pub idles : Idles now old step new

-- octets are heard from an address of the bus; what comes from an address of another kind is dropped (Table 6-2)
abbrev pub Hears : {A : Type 0} → (now : ℕ) → (from : Mac) → (octets : List ℕ) → (stamp : ℕ) → BusPortState A →
    LinkStep A → BusPortState A → Type 0
Hears now (One from) octets stamp old step new =
    HearsFrame now octets stamp old step new ⊎ HearsNone now octets old step new
Hears now (Six from) octets stamp old step new = Idles now old step new

-- it wakes: a tick of its node (9.5.6)
abbrev pub Wakes : {A : Type 0} → (now : ℕ) → BusPortState A → LinkStep A → BusPortState A → Type 0
Wakes now old step new = Does (table.step old.node (Tick now)) None old step new

-- so many octets are heard on the bus, in a frame or not (9.5.2)
abbrev pub Counts : {A : Type 0} → (count now : ℕ) → BusPortState A → LinkStep A → BusPortState A → Type 0
Counts count now old step new = Does (table.step old.node (Octets count now)) None old step new

-- a tick of its node would lead on (9.5.6)
abbrev pub is_due : {A : Type 0} → (now : ℕ) → BusPortState A → Bool
is_due now port = table.is_due port.node now
