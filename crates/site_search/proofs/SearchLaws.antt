-- Events, one after another.
use Rattle.std.proofs.Common.{List, ◌∷◌}
use Rattle.site_storm.specs.site_run.simulator.world.Step.{Steps}
use Rattle.site_storm.specs.site_run.simulator.world.World.{WorldState}
use Rattle.site_storm.specs.site_run.simulator.world.site_events.declared.event.Event.{Event}
use Rattle.site_search.specs.Searching.{Happen}
pub use Rattle.site_trace.proofs.TraceLaws.{appends_more, appends_nothing}

module _ {A : Type 0} where
  -- an event, and then others
  pub event_happens : (e : Event A) (es : List (Event A)) (w u v : WorldState A) → Steps e w u → Happen es u v →
      Happen (e ∷ es) w v
  event_happens e es w u v first rest = record { middle = u; first = first; rest = rest }

pub ruleset search_rules = (event_happens, appends_more, appends_nothing)
