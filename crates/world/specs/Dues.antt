-- When anything is due of the nodes of a world.
use Rattle.std.specs.Prelude.{◌≡◌, ◌<◌, ◌≤◌, ℕ, List, length, Some, slice_get, slice_set}
use Rattle.due_times.specs.Until.{Until}
use Rattle.world_log.specs.site_node.Node.{NodeState}
use Rattle.world_log.specs.site_node.Steps.{IsQuiet}
use Rattle.world.specs.World.{WorldState}

-- before the moment at its place nothing is due of a node where it wakes (5.4.1, 6.6.2, 9.5.6)
pub record AreDues {A : Type 0} (dues : List ℕ) (nodes : List (NodeState A)) : Type 0 where
  pub as_many : length dues ≡ length nodes
  pub each : (place due : ℕ) (n : NodeState A) → slice_get dues place ≡ Some due → slice_get nodes place ≡ Some n →
      Until due (λ now. IsQuiet now n)

-- the moment at one place is put anew: before it nothing is due of this node
pub record IsDueFrom {A : Type 0} (place : ℕ) (n : NodeState A) (old new : List ℕ) : Type 0 where
  pub due : ℕ
  pub until : Until due (λ now. IsQuiet now n)
  pub is : new ≡ slice_set old place due

-- of the nodes from one place on, up to another, nothing is due at this moment
pub record AreAtRest {A : Type 0} (from end : ℕ) (w : WorldState A) : Type 0 where
  pub rest : (place : ℕ) (n : NodeState A) → from ≤ place → place < end → slice_get w.nodes place ≡ Some n →
      IsQuiet w.moment n
