-- The least that is kept of a world: all that can be is forgotten at once.
use Rattle.std.specs.Prelude.{◌≡◌, ◌==◌, ℕ, suc, ◌+◌, Bool, false, List, [], ◌∷◌, Option, None, Some, length, map}
use Rattle.std.specs.Prelude.{if◌then◌else◌}
use Rattle.std.specs.List.{AllByRecursion}
use Rattle.bus_traffic.specs.Bus.{BusState}
use Rattle.bus_traffic.specs.Sendings.{AreKnownOnce, learned, young, young_known}
use Rattle.bus_traffic.specs.declared.sending.Known.{Known}
use Rattle.traffic.specs.Seeking.{is_young}
use Rattle.traffic.specs.declared.item.Item.{Item}
use Rattle.world.specs.World.{WorldState}
use Rattle.world.specs.carry_world.PlainWorld.{Key, last_key}
use Rattle.world.specs.node_laws.Out.{IsMac}
use Rattle.world.specs.world_log.Growing.{AreFromMacs}
use Rattle.world.specs.Keeping.{Keeps}

-- an item may stand in the place of one that is too old: it is too old itself, and from a link address (6.1)
pub record IsBlank {A : Type 0} (now : ℕ) (blank : Item A) : Type 0 where
  pub old : is_young now blank ≡ false
  pub from : IsMac blank.from

-- an item while it may be heard, and then a blank
abbrev pub item_kept : {A : Type 0} → (now : ℕ) → (blank i : Item A) → Item A
item_kept now blank i = if is_young now i then i else blank

-- what is known of the frames of a bus that may be heard, and those that wait
abbrev pub bus_kept : {A : Type 0} → (now : ℕ) → BusState A → BusState A
bus_kept now b = record {
  net = b.net;
  ears = b.ears;
  known = young_known now b.known;
  recent = young now b.recent;
}

-- an issue of this number is the last one
abbrev pub is_last : (number : ℕ) → Option ℕ → Bool
is_last number None = false
is_last number (Some n) = n == number

-- each of these keys whose issue is the last of its client under its invoke ID, and the newest in place of each other,
-- where the first of them has the number n (5.4.1)
abbrev pub keys_from : (n : ℕ) → (all : List Key) → (newest : Key) → List Key → List Key
keys_from n all newest [] = []
keys_from n all newest (k ∷ ks) = (if is_last n (last_key k.client k.invoke_id all) then k else newest)
    ∷ keys_from (suc n) all newest ks

-- the last of these keys, behind another
abbrev pub newest_of : Key → List Key → Key
newest_of k [] = k
newest_of k (x ∷ xs) = newest_of x xs

-- as many keys as there are, of which none is known but the last of each client under each invoke ID, and the newest
abbrev pub keys_kept : List Key → List Key
keys_kept [] = []
keys_kept (k ∷ ks) = keys_from 0 (k ∷ ks) (newest_of k ks) (k ∷ ks)

-- a world of which all is forgotten that may be: what is too old, the key of each issue that is not its client's last
-- under its invoke ID, what was said, and the history, which was handed out
abbrev pub least : {A : Type 0} → (blank : Item A) → WorldState A → WorldState A
least blank w = record w {
  items = map (item_kept w.moment blank) w.items;
  buses = record { buses = map (bus_kept w.moment) w.buses.buses; frames = w.buses.frames };
  keys = keys_kept w.keys;
  first_entry = w.first_entry + length w.history;
  history = [];
  first_said = w.first_said + length w.said;
  said = [];
}

-- each frame is known once still where one is put out
abbrev pub KnownOnceStill : Type 0 → Type 0
KnownOnceStill A = (new : Known A) (ks : List (Known A)) → AreKnownOnce ks → AreKnownOnce (learned new ks)

-- where that is so on all buses, this much is kept of a world of which so much is forgotten
abbrev pub KeepsLeast : Type 0 → Type 0
KeepsLeast A = (blank : Item A) (w : WorldState A) → IsBlank w.moment blank → AreFromMacs w.items →
    AllByRecursion (λ b. AreKnownOnce b.known) w.buses.buses → Keeps w.history w (least blank w)
