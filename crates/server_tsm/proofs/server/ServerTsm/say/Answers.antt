use Rattle.std.proofs.Common.{rules, ◌≤◌}
use Rattle.server_tsm.proofs.Kept.{kept_said}
use Rattle.server_tsm.proofs.server.ServerTsm.say.Goals as goal

pub invariant_of-self : goal.invariant_of-self
invariant_of-self g c =
    let order : c.self.inside.moment ≤ c.args.now = search rules in
    rw (c.replace.ensures.replaced) (kept_said c.self.inside.moment c.args.now c.args.saying.asker c.args.saying.way c.args.saying.sending
    c.self.inside.records order c.self.invariant)
