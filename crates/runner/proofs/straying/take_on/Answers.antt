use Rattle.runner.proofs.StrayLaws.{taken_on}
use Rattle.runner.proofs.straying.take_on.Goals as goal
use Rattle.wire.specs.Datagrams.{datagram_of}

pub returns-clause-takes : goal.returns-clause-takes
returns-clause-takes g c =
    taken_on (datagram_of c.args.got.now) c.args.world.now c.stray.result c.args.net c.stray.new.self
    c.stray.ensures.strays
