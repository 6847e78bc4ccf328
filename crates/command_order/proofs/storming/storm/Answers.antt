use Rattle.std.proofs.Common.{◌∙◌, ap}
use Rattle.command_order.specs.Storming.{with_chances}
use Rattle.command_order.proofs.CommandLaws.{adds, adds_last}
use Rattle.command_order.proofs.storming.storm.Goals as goal

pub returns : goal.returns
returns c =
    let chances = c.in_ok-command.ensures ∙ ap with_chances c.in_ok-named.ensures in
    let file = adds c.in_ok-arg.ensures c.script_file.ensures.own chances c.script_file.ensures.rule in
    let count = adds c.in_ok-arg-2.ensures c.flag.ensures.own file c.flag.ensures.rule in
    adds_last c.arg-3.result _ _ c.arg-3.ensures c.names.ensures.own count c.names.ensures.rule
