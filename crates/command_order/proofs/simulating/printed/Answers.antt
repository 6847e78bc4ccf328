use Rattle.command_order.proofs.CommandLaws.{adds, adds_last}
use Rattle.command_order.proofs.simulating.printed.Goals as goal

pub returns : goal.returns
returns c =
    let trace = adds c.in_ok-arg.ensures c.flag.ensures.own c.in_ok-at_site.ensures c.flag.ensures.rule in
    let json = adds c.in_ok-arg-2.ensures c.json.ensures.own trace c.json.ensures.rule in
    adds_last c.arg-3.result _ _ c.arg-3.ensures c.names.ensures.own json c.names.ensures.rule
