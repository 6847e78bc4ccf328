-- The nodes of a site stand as it opens.
use Rattle.std.proofs.Common.{◌≡◌, sym, subst, arith, ◌≤◌, ℕ, List, [], ◌∷◌}
use Rattle.std.specs.List.{AllByRecursion}
use Rattle.world_log.specs.node_laws.Stands as node
use Rattle.profile.specs.Times.{MAX_MOMENT_MS}
use Rattle.world_sites.specs.site.Sound.{IsSound}
use Rattle.world_log.specs.site_node.Node.{NodeState}
use Rattle.site_parts.specs.declared.parts.Parts.{Parts}
use Rattle.world.specs.Laws.{AreSteady, HasMacs, IsSteady}
use Rattle.world_sites.proofs.FreshLaws.{nodes_are_of_site}
use Rattle.world_sites.proofs.StandLaws.{nodes_stand}
use Rattle.world_sites.specs.Nodes.{IsOfSite}
use Rattle.world_sites.specs.Opening.{object_site, opening_nodes}

all_steady : {A : Type 0} (p : Parts A) (now : ℕ) (ns : List (NodeState A)) → AllByRecursion (node.Stands now) ns →
    AllByRecursion HasMacs ns → AllByRecursion (λ n. IsOfSite (object_site p) n.part) ns →
    AllByRecursion (IsSteady p now) ns
all_steady p now [] stand macs of = tt
all_steady p now (n ∷ ns) stand macs of = (
  record { stands = stand.0; macs = macs.0; of_site = of.0 },
  all_steady p now ns stand.1 macs.1 of.1,
)

pub steady_new : {A : Type 0} (p : Parts A) (ns : List (NodeState A)) → IsSound p → ns ≡ opening_nodes p →
    AllByRecursion HasMacs ns → AreSteady {A = A} p 0 ns []
steady_new {A} p ns sound is macs = record {
  each = all_steady p 0 ns
      (subst (λ (xs : List (NodeState A)). AllByRecursion (node.Stands 0) xs) (sym is) (nodes_stand p sound)) macs
      (subst (λ (xs : List (NodeState A)). AllByRecursion (λ n. IsOfSite (object_site p) n.part) xs) (sym is)
      (nodes_are_of_site p sound));
  from = tt;
  greatest = let least : 0 ≤ MAX_MOMENT_MS = omega arith in least;
}

pub ruleset fresh_rules = (steady_new)
