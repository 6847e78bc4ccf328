use Rattle.server_tsm.proofs.Meaning.{heard_is_planned}
use Rattle.server_tsm.proofs.server.ServerTsm.plan.Goals as goal
use Rattle.server_tsm.specs.Hearing.{heard_of}

pub returns-clause-planned : goal.returns-clause-planned
returns-clause-planned g c = heard_is_planned c.args.now c.args.origin.now (heard_of c.args.apdu.now) c.args.self.now c.heard.result c.heard.ensures
