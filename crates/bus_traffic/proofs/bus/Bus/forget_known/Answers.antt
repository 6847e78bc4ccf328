use Rattle.bus_traffic.proofs.ForgettingLaws.{known_still}
use Rattle.bus_traffic.proofs.bus.Bus.forget_known.Goals as goal

-- each frame is known once still
pub invariant_of-self-clause-once : goal.invariant_of-self-clause-once
invariant_of-self-clause-once g c =
    known_still c.args.now c.args.self.now.known.items _ c.keep_young_known.ensures c.args.self.now.once
