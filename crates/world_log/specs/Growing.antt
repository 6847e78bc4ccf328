-- What comes of what a node does: items, frames, and entries of the history.
use Rattle.std.specs.Prelude.{ℕ, ◌+◌, false, List, [], ◌∷◌, ◌++◌, length, option_to_list, slice_get}
use Rattle.std.specs.List.{AllByRecursion, flat_map}
use Rattle.carry_ends.specs.carry_world.PlainWorld.{Key, executed_told, outcomes_told}
use Rattle.history.specs.declared.Entry.{Entry}
use Rattle.link.specs.Step.{PortSent}
use Rattle.link.specs.declared.step.Sent.{Sent}
use Rattle.npdu.specs.declared.mac.Mac.{Mac}
use Rattle.npdu.specs.declared.mac.Mac.TheVariants.{One, Six}
use Rattle.npdu.specs.declared.mac.Station.{Station}
use Rattle.primitives.specs.declared.plain_data.Reply.{Reply}
use Rattle.primitives.specs.declared.plain_data.Request.{Request}
use Rattle.node_laws.specs.Out.{IsMac}
use Rattle.node_laws.specs.site_node.declared.told.PartTold.{PartTold}
use Rattle.traffic.specs.declared.item.Item.{Item}
use Rattle.traffic.specs.declared.frame.FramePut.{FramePut}

-- what is kept of all that happened, in order
abbrev pub WorldHistory : Type 0 → Type 0
WorldHistory A = List (Entry Station (Request A) (Reply A))

-- what goes out from an address on a network is an item where that is one of BACnet/IP: not yet delivered (J.2)
abbrev pub item_from : {A : Type 0} → (now net : ℕ) → Mac → Sent A → List (Item A)
item_from now net (Six from) s = record {
  net = net;
  from = Six from;
  to = s.to;
  octets = s.octets;
  stamp = s.stamp;
  put_out = now;
  is_delivered = false;
} ∷ []
item_from now net (One from) s = []

-- .. and a frame where it is one of MS/TP, behind so many items (9.3)
abbrev pub frame_from : {A : Type 0} → (behind net : ℕ) → Mac → Sent A → List (FramePut A)
frame_from behind net (One from) s = record {
  net = net;
  sender = from;
  octets = s.octets;
  stamp = s.stamp;
  behind = behind;
} ∷ []
frame_from behind net (Six from) s = []

-- what goes out over a port at one of these places, where there is one, as an item
abbrev pub item_over : {A : Type 0} → (now : ℕ) → List Station → PortSent A → List (Item A)
item_over now places o = flat_map (λ x. item_from now x.net x.mac o.sent) (option_to_list (slice_get places o.port))

-- the items of all that goes out, in order (J.2)
abbrev pub items_at : {A : Type 0} → (now : ℕ) → List Station → List (PortSent A) → List (Item A)
items_at now places out = flat_map (item_over now places) out

-- .. as a frame, behind so many items
abbrev pub frame_over : {A : Type 0} → (behind : ℕ) → List Station → PortSent A → List (FramePut A)
frame_over behind places o =
    flat_map (λ x. frame_from behind x.net x.mac o.sent) (option_to_list (slice_get places o.port))

-- the frames of all that goes out, in order, each behind the items before it and so many before all of them (9.3)
abbrev pub frames_behind : {A : Type 0} → (behind : ℕ) → List Station → List (PortSent A) → List (FramePut A)
frames_behind behind places [] = []
frames_behind behind places (o ∷ os) =
    frame_over behind places o ++ frames_behind (behind + length (item_over 0 places o)) places os

abbrev pub frames_at : {A : Type 0} → List Station → List (PortSent A) → List (FramePut A)
frames_at places out = frames_behind 0 places out

-- each of these items is from a link address (6.1)
abbrev pub AreFromMacs : {A : Type 0} → List (Item A) → Type 0
AreFromMacs items = AllByRecursion (λ i. IsMac i.from) items

-- what a node told is in the history: what it executed for whom, and what came of its own requests (5.4)
abbrev pub told_in : {A : Type 0} → Station → (now : ℕ) → List Key → PartTold A → WorldHistory A → WorldHistory A
told_in x now keys t h = outcomes_told x now keys t.outcomes (executed_told now t.executed keys h)
