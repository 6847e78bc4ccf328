use Rattle.std.proofs.Common.{◌∙◌, ap}
use Rattle.clap.specs.Simple.{app_of_fields}
use Rattle.command_order.proofs.CommandLaws.{adds, adds_last}
use Rattle.command_order.proofs.order.check.Goals as goal

pub returns : goal.returns
returns c =
    let named = ap app_of_fields c.about.ensures ∙ c.new.ensures.app in
    let site = adds c.in_ok-arg.ensures c.site_file.ensures.own named c.site_file.ensures.rule in
    let script = adds c.in_ok-arg-2.ensures c.optional_file.ensures.own site c.optional_file.ensures.rule in
    let json = adds c.in_ok-arg-3.ensures c.json.ensures.own script c.json.ensures.rule in
    let strict = adds c.in_ok-arg-4.ensures c.flag.ensures.own json c.flag.ensures.rule in
    adds_last c.arg-5.result _ _ c.arg-5.ensures c.flag-2.ensures.own strict c.flag-2.ensures.rule
