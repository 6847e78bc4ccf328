use Rattle.std.proofs.Common.{sym, subst}
use Rattle.world.specs.World.{WorldState}
use Rattle.simulator.proofs.FreshLaws.{led_new}
use Rattle.simulator.proofs.simulation.World.new.Goals as goal
use Rattle.simulator.specs.Laws.{IsLed}

-- it is fresh
pub invariant_of-result : goal.invariant_of-result
invariant_of-result g c = subst (λ (w : WorldState _). IsLed w) (sym c.in_ok-internetwork.ensures.fresh)
    (led_new c.args.site c.in_ok-internetwork.ensures.sound)
