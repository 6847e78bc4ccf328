use Rattle.runner.proofs.LedRules.{kept_handed, known_handed}
use Rattle.runner.proofs.runner.Runner.hand_out.Goals as goal

-- what is left is kept still, and its items are the same
pub invariant_of-self-2 : goal.invariant_of-self-2
invariant_of-self-2 g c = (
  λ led. kept_handed c.self.inside.world c.hand_out.new.self c.in_ok-hand_out.ensures.handed (c.self.invariant.0 led),
  λ led whole. absurd (cc whole),
  known_handed c.self.inside.senders c.self.inside.world c.hand_out.new.self c.in_ok-hand_out.ensures.handed
      (c.self.invariant.2),
)
