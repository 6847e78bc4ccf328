use Rattle.std.proofs.Common.{rules, subst}
use Rattle.world.specs.World.{WorldState}
use Rattle.simulator.proofs.EndLaws.{accounted_of, unclosed_of}
use Rattle.simulator.proofs.LedLaws.{legal_as}
use Rattle.simulator.proofs.simulation.World.history.Goals as goal
use Rattle.simulator.specs.Laws.{IsLed}

-- events led to it, so it is legal
pub returns-clause-legal : goal.returns-clause-legal
returns-clause-legal g c =
    legal_as c.args.self.now (subst (λ (w : WorldState _). IsLed w) c.self.view_is c.self.invariant) c.history.result.now
    (search rules)

-- .. and no issue is forgotten
pub returns-clause-accounted : goal.returns-clause-accounted
returns-clause-accounted g c =
    accounted_of c.args.self.now (subst (λ (w : WorldState _). IsLed w) c.self.view_is c.self.invariant)

pub returns-clause-unclosed : goal.returns-clause-unclosed
returns-clause-unclosed g c =
    unclosed_of c.args.self.now (subst (λ (w : WorldState _). IsLed w) c.self.view_is c.self.invariant)
