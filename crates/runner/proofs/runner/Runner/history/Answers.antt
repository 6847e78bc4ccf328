use Rattle.std.proofs.Common.{◌≡◌, rules, subst, true}
use Rattle.runner.proofs.LedRules.{kept_ends_legal, kept_is_whole}
use Rattle.runner.proofs.runner.Runner.history.Goals as goal
use Rattle.runner.specs.Runner.{RunnerState}
use Rattle.simulator.proofs.LedLaws.{legal_as}
use Rattle.simulator.specs.Laws.{IsLed}
use Rattle.world_kept.specs.Kept.{IsKept}

-- events led to it, where nothing was handed out or forgotten, so it is legal
pub returns-clause-whole : goal.returns-clause-whole
returns-clause-whole g c = λ led whole. legal_as c.args.self.now.world
    (subst (λ (r : RunnerState _). r.is_led ≡ true → r.is_whole ≡ true → IsLed r.world) c.self.view_is
    (c.self.invariant.1) led whole) c.history.result.now (search rules)

-- it is kept of a world that events led to: where nothing was handed out it is that one's, and legal
pub returns-clause-legal : goal.returns-clause-legal
returns-clause-legal g c = λ led none. kept_is_whole c.args.self.now.world c.history.result.now (search rules) none
    (subst (λ (r : RunnerState _). r.is_led ≡ true → IsKept r.world) c.self.view_is (c.self.invariant.0) led)

-- .. and else it ends a legal one
pub returns-clause-ends : goal.returns-clause-ends
returns-clause-ends g c = λ led. kept_ends_legal c.args.self.now.world c.history.result.now (search rules)
    (subst (λ (r : RunnerState _). r.is_led ≡ true → IsKept r.world) c.self.view_is (c.self.invariant.0) led)
