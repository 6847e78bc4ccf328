use Rattle.command_order.proofs.CommandLaws.{adds, adds_last}
use Rattle.command_order.proofs.searching.search.Goals as goal

pub returns : goal.returns
returns c =
    let until = adds c.in_ok-arg.ensures c.required.ensures.own c.in_ok-at_site.ensures c.required.ensures.rule in
    let depth = adds c.in_ok-arg-2.ensures c.option.ensures.own until c.option.ensures.rule in
    adds_last c.arg-3.result _ _ c.arg-3.ensures c.names.ensures.own depth c.names.ensures.rule
