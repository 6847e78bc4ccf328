use Rattle.std.proofs.Common.{subst}
use Rattle.world.proofs.Dues.{rest_until}
use Rattle.world.proofs.internetwork.Internetwork.next_due.Goals as goal
use Rattle.world.specs.Dues.{AreDues}
use Rattle.world.specs.World.{WorldState}

pub returns : goal.returns
returns g c = rest_until c.next.result c.self.inside.dues c.args.self.now
    (subst (λ (w : WorldState _). AreDues c.self.inside.dues w.nodes) c.self.view_is c.self.invariant.2)
    c.next.ensures
