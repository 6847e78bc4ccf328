use Rattle.std.proofs.Common.{◌∙◌, ap}
use Rattle.clap.specs.Simple.{app_of_fields}
use Rattle.command_order.proofs.CommandLaws.{adds, adds_last}
use Rattle.command_order.proofs.diagnosing.told.Goals as goal

pub returns : goal.returns
returns c =
    let named = ap app_of_fields c.about.ensures ∙ c.new.ensures.app in
    let capture = adds c.in_ok-arg.ensures c.file.ensures.own named c.file.ensures.rule in
    let timeout = adds c.in_ok-arg-2.ensures c.option.ensures.own capture c.option.ensures.rule in
    let slow = adds c.in_ok-arg-3.ensures c.option-2.ensures.own timeout c.option-2.ensures.rule in
    let port = adds c.in_ok-arg-4.ensures c.option-3.ensures.own slow c.option-3.ensures.rule in
    let all = adds c.in_ok-arg-5.ensures c.flag.ensures.own port c.flag.ensures.rule in
    let transactions = adds c.in_ok-arg-6.ensures c.flag-2.ensures.own all c.flag-2.ensures.rule in
    let stations = adds c.in_ok-arg-7.ensures c.flag-3.ensures.own transactions c.flag-3.ensures.rule in
    adds_last c.arg-8.result _ _ c.arg-8.ensures c.json.ensures.own stations c.json.ensures.rule
