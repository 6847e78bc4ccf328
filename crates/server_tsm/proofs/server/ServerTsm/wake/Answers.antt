use Rattle.std.proofs.Common.{rules, ◌≤◌}
use Rattle.server_tsm.proofs.Kept.{kept_woken}
use Rattle.server_tsm.proofs.server.ServerTsm.wake.Goals as goal

pub invariant_of-self : goal.invariant_of-self
invariant_of-self g c =
    let order : c.self.inside.moment ≤ c.args.now = search rules in
    rw (c.say_all.ensures, c.forget_dead.ensures.forgotten)
    (kept_woken c.self.inside.moment c.args.now c.args.sayings.now c.self.inside.records order c.self.invariant)
