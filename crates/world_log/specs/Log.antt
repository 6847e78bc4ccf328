-- What a world keeps of all that happened, how it grows, how it is cut back, and what it hands out and forgets.
use Rattle.std.specs.Prelude.{◌≡◌, ◌≤◌, ℕ, ◌+◌, List, [], ◌∷◌, ◌++◌, Some, drop, length, min, take}
use Rattle.std.specs.Vec.{vec_capacity, vec_len}
use Rattle.carry_ends.specs.carry_world.PlainWorld as plain
use Rattle.inside.specs.Inside.{AreInside, Said}
use Rattle.link.specs.Step.{PortSent}
use Rattle.npdu.specs.declared.mac.Station.{Station}
use Rattle.npdu.specs.declared.parcel.Parcel.{Parcel}
use Rattle.node_laws.specs.site_node.declared.told.PartTold.{PartTold}
use Rattle.traffic.specs.Recent.{KeepsRecent}
use Rattle.traffic.specs.declared.item.Item.{Item}
use Rattle.world_log.specs.Growing.{WorldHistory, items_at, told_in}
use Rattle.world_log.specs.Issues.{KeepsKeys, key_of}
use Rattle.world_log.specs.Kept.{all_said}
use Rattle.world_log.specs.declared.log.Cause.{Cause}
use Rattle.world_log.specs.declared.log.Cause.TheVariants as cause
use Rattle.world_log.specs.declared.log.WorldLog.{WorldLog}
use Rattle.world_log.specs.declared.saying.SaidMessage.{SaidMessage}

-- items: what was put out on networks of BACnet/IP, numbered from 0 on; those before first_item may be forgotten. keys:
-- who issued, and under which invoke ID, of each issue. history, said: in order, behind so many entries that were
-- handed
-- out and so many messages that are forgotten
pub record LogState (A : Type 0) : Type 0 where
  pub first_item : ℕ
  pub items : List (Item A)
  pub keys : List plain.Key
  pub first_entry : ℕ
  pub history : WorldHistory A
  pub first_said : ℕ
  pub said : List (SaidMessage A)

abbrev pub log_of : {A : Type 0} → WorldLog A → LogState A
log_of l = record {
  first_item = l.items.first;
  items = l.items.items;
  keys = l.keys.keys;
  first_entry = l.first_entry;
  history = l.history.items;
  first_said = l.first_said;
  said = l.said.items;
}

-- the log once this was written down
abbrev pub caused : {A : Type 0} → Cause A → LogState A → LogState A
caused cause.Nothing l = l
caused (cause.Issue key entry) l = record l { keys = l.keys ++ key_of key ∷ []; history = l.history ++ entry ∷ [] }
caused (cause.Restart entry) l = record l { history = l.history ++ entry ∷ [] }

-- there is room for the key of this
abbrev pub IsReadyFor : {A : Type 0} → Cause A → WorldLog A → Type 0
IsReadyFor cause.Nothing l = Unit {0}
IsReadyFor (cause.Issue key entry) l = l.keys.ready ≡ Some key
IsReadyFor (cause.Restart entry) l = Unit {0}

-- so many items are left
abbrev pub cut_to : {A : Type 0} → (items : ℕ) → LogState A → LogState A
cut_to items l = record l { first_item = min l.first_item items; items = take items l.items }

-- there are items behind those that there were, and nothing else has changed
abbrev pub GoesOn : {A : Type 0} → (old new : LogState A) → Type 0
GoesOn old new = record new { items = take (length old.items) new.items } ≡ old

-- this is inside the messages that were said on a network, and stands behind all that was said (6.2, 6.3)
pub record Says {A : Type 0} (net : ℕ) (said : List (Parcel A)) (old new : List (SaidMessage A)) : Type 0 where
  pub fresh : List Said
  pub inside : AreInside net said fresh
  pub behind : all_said new ≡ all_said old ++ fresh

-- the log once this went out over these places
abbrev pub put_in : {A : Type 0} → (now : ℕ) → List Station → List (PortSent A) → LogState A → LogState A
put_in now places out l = record l { items = l.items ++ items_at now places out }

-- there is room for so many messages, and in the history for what is written down, for what is executed and for so many
-- outcomes
pub record HasRoomToTell {A : Type 0} (l : WorldLog A) (messages outcomes : ℕ) : Type 0 where
  pub said : vec_len l.said + messages ≤ vec_capacity l.said
  pub history : vec_len l.history + (outcomes + 2) ≤ vec_capacity l.history

-- the log once a node at a station told this: what is inside what it said stands behind all that was said, and what it
-- executed and what came of its requests in the history
pub record Tells {A : Type 0} (x : Station) (now : ℕ) (t : PartTold A) (old new : LogState A) : Type 0 where
  pub first_item : new.first_item ≡ old.first_item
  pub items : new.items ≡ old.items
  pub keys : new.keys ≡ old.keys
  pub first_entry : new.first_entry ≡ old.first_entry
  pub history : new.history ≡ told_in x now old.keys t old.history
  pub first_said : new.first_said ≡ old.first_said
  pub says : Says x.net t.said old.said new.said

-- the log once all entries that it has were handed out
abbrev pub handed_out : {A : Type 0} → LogState A → LogState A
handed_out l = record l { first_entry = l.first_entry + length l.history; history = [] }

-- of a log this is left where it forgets: what may still be heard, all items from the first on that is kept, the last
-- issues, and the history; and of what was said the end, behind so many more that are forgotten
pub record Forgets {A : Type 0} (now : ℕ) (old new : LogState A) : Type 0 where
  pub first_item : old.first_item ≤ new.first_item
  pub items : KeepsRecent now old.items new.items
  pub left : drop new.first_item new.items ≡ drop new.first_item old.items
  pub keys : KeepsKeys old.keys new.keys
  pub first_entry : new.first_entry ≡ old.first_entry
  pub history : new.history ≡ old.history
  pub gone : List (SaidMessage A)
  pub said : old.said ≡ gone ++ new.said
  pub first_said : new.first_said ≡ old.first_said + length gone
