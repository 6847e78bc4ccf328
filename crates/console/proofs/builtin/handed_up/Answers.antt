use Rattle.console.proofs.HearLaws.{up_brings}
use Rattle.console.proofs.builtin.handed_up.Goals as goal

pub returns-in-Ok-Some-clause-up : goal.returns-in-Ok-Some-clause-up
returns-in-Ok-Some-clause-up g c =
    up_brings c.args.from c.args.datagram.now c.args.port.now _ _ c.in-Ok-Some.field-0 c.in-Ok-Some.up c.in_ok-to_parcel-in-Ok-Some.field-0 c.requires
    c.in-Ok-Some.field-0-is c.in_ok-to_parcel-in-Ok-Some.ensures c.in-Ok-Some.ensures.step
