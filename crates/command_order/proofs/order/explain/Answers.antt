use Rattle.std.proofs.Common.{◌∙◌, ap}
use Rattle.clap.specs.Simple.{app_of_fields}
use Rattle.command_order.proofs.CommandLaws.{adds, adds_last}
use Rattle.command_order.proofs.order.explain.Goals as goal

pub returns : goal.returns
returns c =
    let named = ap app_of_fields c.about.ensures ∙ c.new.ensures.app in
    let hex = c.optional_hex_argument.ensures in
    let words = adds c.in_ok-arg.ensures hex.own named hex.rule in
    let capture = adds c.in_ok-arg-2.ensures c.option.ensures.own words c.option.ensures.rule in
    let json = adds c.in_ok-arg-3.ensures c.json.ensures.own capture c.json.ensures.rule in
    adds_last c.arg-4.result _ _ c.arg-4.ensures c.flag.ensures.own json c.flag.ensures.rule
