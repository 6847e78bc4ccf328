-- A plan of a node of a world, and that it was done.
use Rattle.std.specs.Prelude.{◌≡◌, ℕ, [], ◌∷◌, ◌++◌, slice_set}
use Rattle.world_log.specs.carry_said.Said.{IsSayingEach}
use Rattle.world_log.specs.node_laws.Stands.{Stays}
use Rattle.world_log.specs.site_node.Node.{NodeState, home_of, node_places}
use Rattle.world_log.specs.site_node.Part.{IsPlanned, told_by}
use Rattle.world_log.specs.site_node.Plan.{left_by}
use Rattle.world_log.specs.site_node.Steps.{NodeTold, NodeWakes, nothing_told}
use Rattle.world_log.specs.site_node.declared.plan.PartPlan.{PartPlan}
use Rattle.world_log.specs.site_ports.declared.draft.Draft.{Draft}
use Rattle.world.specs.Acting.{Acts}
use Rattle.world.specs.World.{WorldState}
use Rattle.world_log.specs.Growing.{items_at, told_in}
use Rattle.world_log.specs.Log.{LogState, Says, caused}
use Rattle.world_log.specs.declared.log.Cause.{Cause}
use Rattle.world_log.specs.declared.log.Cause.TheVariants as cause

-- a node made this plan and drafted this of its ports at this moment, what it says can be told and is its own, and it
-- stands, where it was, once that is done
pub record MayBeDone {A : Type 0} (now : ℕ) (plan : PartPlan A) (draft : Draft A) (n : NodeState A) : Type 0 where
  pub planned : IsPlanned now n.part plan
  pub own : IsSayingEach (home_of n.part) now (told_by plan).said
  pub stays : Stays now n (left_by now plan draft.changes.items n)

-- what a plan and a draft tell
abbrev pub told_of : {A : Type 0} → PartPlan A → Draft A → NodeTold A
told_of plan draft = record { told = told_by plan; out = draft.out }

-- this is how a log grew by what a node did: all that was told stands behind
pub record Logs {A : Type 0} (now : ℕ) (n : NodeState A) (t : NodeTold A) (old new : LogState A) : Type 0 where
  pub first_item : new.first_item ≡ old.first_item
  pub items : new.items ≡ old.items ++ items_at now (node_places n) t.out
  pub keys : new.keys ≡ old.keys
  pub first_entry : new.first_entry ≡ old.first_entry
  pub history : new.history ≡ told_in (home_of n.part) now old.keys t.told old.history
  pub first_said : new.first_said ≡ old.first_said
  pub says : Says (home_of n.part).net t.told.said old.said new.said

-- a world in which this was written down
abbrev pub caused_in : {A : Type 0} → Cause A → WorldState A → WorldState A
caused_in cause.Nothing w = w
caused_in (cause.Issue key entry) w = record w {
  keys = w.keys ++ record { client = key.client; invoke_id = key.invoke_id } ∷ [];
  history = w.history ++ entry ∷ [];
}
caused_in (cause.Restart entry) w = record w { history = w.history ++ entry ∷ [] }

-- the plan was done, with this written down before
abbrev pub IsDone : {A : Type 0} → (w v : WorldState A) → (place : ℕ) → PartPlan A → Draft A → Cause A → NodeState A →
    Type 0
IsDone w v place plan draft cause n =
    Acts (caused_in cause w) v place n (left_by w.moment plan draft.changes.items n) (told_of plan draft)

-- the node woke where nothing was due: nothing was told or put out, and nothing else has changed
pub record HasRested {A : Type 0} (w v : WorldState A) (place : ℕ) (n : NodeState A) : Type 0 where
  pub next : NodeState A
  pub wakes : NodeWakes w.moment n nothing_told next
  pub is : v ≡ record w { nodes = slice_set w.nodes place next }
