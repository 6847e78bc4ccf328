use Rattle.std.proofs.Common.{◌≡◌, ◌-◌, rules}
use Rattle.runner.proofs.LedRules.{kept_forgotten}
use Rattle.runner.proofs.SenderLaws.{known_forgotten_so}
use Rattle.runner.proofs.runner.Runner.forget.Goals as goal

-- what is left is kept still, and whoever sent those that are kept is known
pub invariant_of-self : goal.invariant_of-self
invariant_of-self g c = let less : c.saturating_sub.result ≡ c.first_item-after.result - c.first_item-before.result = search rules in (
  λ led. kept_forgotten c.self.inside.world c.forget.new.self c.forget.ensures (c.self.invariant.0 led),
  λ led whole. absurd (cc whole),
  known_forgotten_so c.self.inside.senders c.forget-2.new.self c.first_item-before.result
      c.first_item-after.result c.saturating_sub.result c.self.inside.world c.forget.new.self
      c.first_item-before.ensures c.first_item-after.ensures less c.forget-2.ensures
      (c.self.invariant.2) c.forget.ensures,
)
