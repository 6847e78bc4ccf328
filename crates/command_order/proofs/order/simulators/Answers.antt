use Rattle.std.proofs.Common.{◌∙◌, ap}
use Rattle.std.proofs.lemmas.Result.{IfOk-weaker}
use Rattle.clap.specs.Words.{App}
use Rattle.command_order.proofs.CommandLaws.{joins}
use Rattle.command_order.proofs.order.simulators.Goals as goal

pub add-requires : goal.add-requires
add-requires c = record { plain = ap (λ (a : App). a.top.is_plain) c.in_ok-sim.ensures }

pub add-requires-2 : goal.add-requires-2
add-requires-2 c = record { plain = ap (λ (a : App). a.top.is_plain) c.in_ok-storm.ensures }

pub add-requires-3 : goal.add-requires-3
add-requires-3 c = record { plain = ap (λ (a : App). a.top.is_plain) c.in_ok-search.ensures }

pub returns : goal.returns
returns c =
    let sim = c.in_ok-command.ensures ∙ joins c.in_ok-tools.ensures c.in_ok-sim.ensures in
    let storm = c.in_ok-command-2.ensures ∙ joins sim c.in_ok-storm.ensures in
    IfOk-weaker c.add-3.result _ _ (λ _ more. more ∙ joins storm c.in_ok-search.ensures) c.add-3.ensures
