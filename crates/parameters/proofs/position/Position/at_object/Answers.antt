use Rattle.std.proofs.Common.{sym}
use Rattle.parameters.proofs.Octets.{names_object}
use Rattle.parameters.proofs.position.Position.at_object.Goals as goal

pub returns-in-Ok : goal.returns-in-Ok
returns-in-Ok c =
    sym (names_object c.args.octets.now c.in-Ok.object.object_type c.in-Ok.object.instance c.args.self c.in-Ok.ensures.read)
