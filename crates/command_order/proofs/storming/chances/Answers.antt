use Rattle.command_order.proofs.CommandLaws.{adds, adds_last}
use Rattle.command_order.proofs.storming.chances.Goals as goal

pub returns : goal.returns
returns c =
    let reorder = adds c.in_ok-arg.ensures c.option.ensures.own c.in_ok-losses.ensures c.option.ensures.rule in
    let damage = adds c.in_ok-arg-2.ensures c.option-2.ensures.own reorder c.option-2.ensures.rule in
    adds_last c.arg-3.result _ _ c.arg-3.ensures c.option-3.ensures.own damage c.option-3.ensures.rule
