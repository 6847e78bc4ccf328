use Rattle.runner.proofs.StrayLaws.{refused_at}
use Rattle.runner.proofs.straying.take_at.Goals as goal
use Rattle.wire.specs.Datagrams.{datagram_of}

pub returns-clause-cause : goal.returns-clause-cause
returns-clause-cause g c =
    refused_at (datagram_of c.args.got.now) c.args.world.now c.take_on.result c.args.place c.network_at-network.result
    c.network_at-network.ensures c.take_on.ensures.cause
