use Rattle.std.proofs.Common.{◌≡◌, ◌-◌, rules}
use Rattle.site_storm.proofs.CountedLaws.{forgets_so}
use Rattle.site_storm.proofs.counted.Counted.forget.Goals as goal

pub returns : goal.returns
returns g c =
    let gone : c.saturating_sub.result ≡ c.first_said-after.result - c.first_said-before.result = search rules in
    forgets_so c.args.self.now c.forget_in_world.new.self c.lose.new.self c.first_said-before.result
    c.first_said-after.result c.saturating_sub.result c.forget_in_world.ensures.forgets c.forget_in_world.ensures.rest
    c.first_said-before.ensures c.first_said-after.ensures gone c.lose.ensures
