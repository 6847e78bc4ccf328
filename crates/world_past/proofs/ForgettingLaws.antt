-- All that is too old may be forgotten.
use Rattle.std.proofs.Common.{◌≡◌, inl, inr, refl, sym, arith, ℕ, Bool, true, false, List, [], ◌∷◌, append-nil, map}
use Rattle.std.specs.List.{AllByRecursion}
use Rattle.std.specs.Prelude.{if◌then◌else◌}
use Rattle.bus_traffic.proofs.ForgettingLaws.{stamps_kept, young_twice}
use Rattle.bus_traffic.specs.Bus.{BusState}
use Rattle.bus_traffic.specs.Forgetting.{KeepsBus, KeepsEach}
use Rattle.bus_traffic.specs.Sendings.{AreKnownOnce}
use Rattle.traffic.specs.Seeking.{is_young}
use Rattle.traffic.specs.declared.item.Item.{Item}
use Rattle.world.specs.node_laws.Out.{IsMac}
use Rattle.world.specs.world_log.Growing.{AreFromMacs}
use Rattle.world_past.proofs.KeysKept.{keys_less}
use Rattle.world_past.specs.Forgetting.{IsBlank, KeepsLeast, bus_kept, item_kept}
use Rattle.world.specs.Old.{KeepsItem, KeepsItems}

-- an item
item_by : {A : Type 0} (now : ℕ) (blank i : Item A) (b : Bool) → IsBlank now blank → IsMac i.from →
    is_young now i ≡ b → KeepsItem now i (if b then i else blank)
item_by now blank i true is from e = inl refl
item_by now blank i false is from e =
    inr (record { old = e; kept_old = is.old; from = from; kept_from = is.from })

items_kept : {A : Type 0} (now : ℕ) (blank : Item A) (is : List (Item A)) → IsBlank now blank → AreFromMacs is →
    KeepsItems now is (map (item_kept now blank) is)
items_kept now blank [] is from = tt
items_kept now blank (i ∷ rest) is from =
    (item_by now blank i (is_young now i) is from.0 refl, items_kept now blank rest is from.1)

-- a bus
bus_keeps : {A : Type 0} (now : ℕ) (b : BusState A) → AreKnownOnce b.known → KeepsBus now b (bus_kept now b)
bus_keeps now b once = record {
  net = refl;
  ears = refl;
  known = stamps_kept now b.known once;
  recent = young_twice now now b.recent (omega arith);
}

buses_kept : {A : Type 0} (now : ℕ) (bs : List (BusState A)) → AllByRecursion (λ b. AreKnownOnce b.known) bs →
    KeepsEach (KeepsBus now) bs (map (bus_kept now) bs)
buses_kept now [] once = tt
buses_kept now (b ∷ bs) once = (bus_keeps now b once.0, buses_kept now bs once.1)

pub keeps_least : {A : Type 0} → KeepsLeast A
keeps_least blank w is from once = record {
  site = refl;
  moment = refl;
  nodes = refl;
  items = items_kept w.moment blank w.items is from;
  buses = record { each = buses_kept w.moment w.buses.buses once; frames = refl };
  keys = keys_less w.keys;
  history = sym (append-nil w.history);
  first_entry = refl;
  gone = w.said;
  said = sym (append-nil w.said);
  first_said = refl;
}
