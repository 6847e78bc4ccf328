use Rattle.mstp_node.proofs.Queues.{picked_fits, rest_fits}
use Rattle.mstp_node.proofs.node.Node.answer.Goals as goal

pub say_data-requires : goal.say_data-requires
say_data-requires g c = picked_fits _ _ _ _ c.self.invariant.1 c.in-Some.ensures.some

pub invariant_of-self : goal.invariant_of-self
invariant_of-self g c = (c.self.invariant.0, rest_fits _ _ _ _ c.self.invariant.1 c.in-Some.ensures.some)
