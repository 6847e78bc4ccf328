use Rattle.std.proofs.Common.{◌∙◌, ap}
use Rattle.simulator.proofs.simulation.World.items.Goals as goal
use Rattle.world.specs.World.{WorldState}

-- nothing is forgotten
pub returns-clause-items : goal.returns-clause-items
returns-clause-items g c = c.items.ensures.all c.self.invariant.whole.first_item
    ∙ ap (λ (w : WorldState _). w.items) c.self.view_is
