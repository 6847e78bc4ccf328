use Rattle.std.proofs.Common.{◌∙◌, ◌++◌, ap}
use Rattle.console.proofs.SayLaws.{down_said}
use Rattle.console.proofs.builtin.put_down.Goals as goal
use Rattle.console.specs.Respond.{Said}

pub returns-in-Ok-clause-said : goal.returns-in-Ok-clause-said
returns-in-Ok-clause-said g c =
    c.in_ok-put_octets-in-Ok.ensures ∙ ap (λ (ds : Said). c.args.said.now ++ ds)
    (down_said 0 c.args.parcel.now c.args.port.now _ _ c.down.new.out c.requires c.new-out.ensures c.in-Ok.ensures.step)
