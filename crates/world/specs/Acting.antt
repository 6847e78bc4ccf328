-- What a node of a world does: its own step, and how items, buses, the history and what was said grow by it.
use Rattle.std.specs.Prelude.{◌≡◌, ℕ, List, ◌++◌, length, Some, slice_get, slice_set}
use Rattle.std.specs.List.{AllByRecursion}
use Rattle.buses.specs.Puts.{put_on}
use Rattle.inside.specs.Inside.{AreInside, Said}
use Rattle.npdu.specs.declared.mac.Station.{Station}
use Rattle.world_log.specs.site_node.Node.{NodeState, home_of, node_places}
use Rattle.world_log.specs.site_node.Steps.{NodeTold}
use Rattle.world.specs.World.{WorldState}
use Rattle.world_log.specs.Growing.{frames_at, items_at, told_in}

-- this was said by a station at a moment: it is the source of what is inside (6.2.2)
pub record IsSaidBy (x : Station) (now : ℕ) (e : Said) : Type 0 where
  pub source : e.inside.source ≡ x
  pub stamp : e.stamp ≡ now

-- the node at a place did this: what it put out stands behind all items, or goes out on its buses; what it executed and
-- what came of its requests stands behind the history, and what it said at this moment behind all that was said;
-- nothing else has changed
pub record Acts {A : Type 0} (w v : WorldState A) (place : ℕ) (n next : NodeState A) (t : NodeTold A) : Type 0 where
  pub there : slice_get w.nodes place ≡ Some n
  pub fresh : List Said
  pub insides : AreInside (home_of n.part).net t.told.said fresh
  pub sayer : AllByRecursion (IsSaidBy (home_of n.part) w.moment) fresh
  pub is : v ≡ record w {
    nodes = slice_set w.nodes place next;
    items = w.items ++ items_at w.moment (node_places n) t.out;
    buses = put_on w.moment (length w.items) (frames_at (node_places n) t.out) w.buses;
    history = told_in (home_of n.part) w.moment w.keys t.told w.history;
    said = w.said ++ fresh;
  }
