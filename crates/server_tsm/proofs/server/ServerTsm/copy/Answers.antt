use Rattle.server_tsm.proofs.server.ServerTsm.copy.Goals as goal

pub invariant_of-result : goal.invariant_of-result
invariant_of-result g c = rw (c.in_ok-copy.ensures.copied) (c.self.invariant)
