-- What may be forgotten of what was put out on networks of BACnet/IP: an item that is too old to be heard.
use Rattle.std.specs.Prelude.{◌≡◌, ◌⊎◌, ℕ, false, List}
use Rattle.bus_traffic.specs.Forgetting.{KeepsEach}
use Rattle.traffic.specs.Seeking.{is_young}
use Rattle.traffic.specs.declared.item.Item.{Item}
use Rattle.world_log.specs.node_laws.Out.{IsMac}

-- two items are too old to be heard, each from a link address (6.1)
pub record AreTooOld {A : Type 0} (now : ℕ) (all kept : Item A) : Type 0 where
  pub old : is_young now all ≡ false
  pub kept_old : is_young now kept ≡ false
  pub from : IsMac all.from
  pub kept_from : IsMac kept.from

-- this is kept of an item: the item, or another in its place, where both are too old
abbrev pub KeepsItem : {A : Type 0} → (now : ℕ) → (all kept : Item A) → Type 0
KeepsItem now all kept = (kept ≡ all) ⊎ AreTooOld now all kept

-- .. of each of these, in order
abbrev pub KeepsItems : {A : Type 0} → (now : ℕ) → (all kept : List (Item A)) → Type 0
KeepsItems now all kept = KeepsEach (KeepsItem now) all kept
