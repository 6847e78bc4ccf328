-- A copy of a world is an equal one.
use Rattle.std.proofs.Common.{◌≡◌, ◌∙◌, ◌⊎◌, inl, inr, sym, ap, subst, ℕ, List}
use Rattle.buses.specs.Puts.{BusesState}
use Rattle.world_sites.specs.site.Sound.{IsFaulty, IsSound}
use Rattle.world_log.specs.site_node.Node.{NodeState}
use Rattle.site_parts.specs.declared.parts.Parts.{Parts}
use Rattle.tags.specs.declared.fault.Fault.{Fault}
use Rattle.tags.specs.declared.fault.Fault.TheVariants.{BadSite, Memory}
use Rattle.traffic.specs.declared.item.Item.{Item}
use Rattle.world.proofs.ActingLaws.{seen}
use Rattle.world.specs.Laws.{AreSteady}
use Rattle.world.specs.World.{WorldState}
use Rattle.world_log.specs.Log.{LogState}

-- equal parts of a sound site have no fault
pub refused_for_memory : {A : Type 0} (p q : Parts A) (fault : Fault) → IsSound p → q ≡ p →
    (fault ≡ Memory) ⊎ ((fault ≡ BadSite) × IsFaulty q) → fault ≡ Memory
refused_for_memory p q fault sound same (inl m) = m
refused_for_memory {A} p q fault sound same (inr f) =
    absurd (f.1.faulty (subst (λ (x : Parts A). IsSound x) (sym same) sound))

module _ {A : Type 0} (p q : Parts A) (now : ℕ) (ns nt : List (NodeState A)) (l0 l1 : LogState A) (parts : q ≡ p)
    (nodes : nt ≡ ns) (log : l1 ≡ l0) where
  -- equal nodes stand as those do
  pub copy_stands : AreSteady p now ns l0.items → AreSteady q now nt l1.items
  copy_stands h = subst (λ (x : Parts A). AreSteady x now nt l1.items) (sym parts)
      (subst (λ (xs : List (NodeState A)). AreSteady p now xs l1.items) (sym nodes)
      (subst (λ (l : LogState A). AreSteady p now ns l.items) (sym log) h))

  -- .. and so are all seen the same
  pub copy_seen : (b0 b1 : BusesState A) (w : WorldState A) → b1 ≡ b0 → seen p now ns l0 b0 ≡ w →
      seen q now nt l1 b1 ≡ w
  copy_seen b0 b1 w buses view =
      ap (λ (x : Parts A). seen x now nt l1 b1) parts ∙ ap (λ (xs : List (NodeState A)). seen p now xs l1 b1) nodes
      ∙ ap (λ (l : LogState A). seen p now ns l b1) log ∙ ap (λ (b : BusesState A). seen p now ns l0 b) buses ∙ view

pub ruleset copy_rules = (refused_for_memory)
