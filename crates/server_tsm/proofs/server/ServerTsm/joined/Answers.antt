use Rattle.server_tsm.proofs.Meaning.{is_joined}
use Rattle.server_tsm.proofs.server.ServerTsm.joined.Goals as goal

pub returns : goal.returns
returns g c =
    is_joined c.args.heard.now.moment c.args.heard.now.asked c.args.segment.now c.args.heard.now.octets.now c.args.receiver.now c.args.self.now
    c.step-step.result c.joined_by.result c.step-step.ensures c.joined_by.ensures
