use Rattle.std.proofs.Common.{◌∙◌, ap}
use Rattle.std.proofs.lemmas.Result.{IfOk-weaker}
use Rattle.clap.specs.Words.{App}
use Rattle.command_order.proofs.CommandLaws.{joins}
use Rattle.command_order.proofs.order.site_commands.Goals as goal

pub add-requires : goal.add-requires
add-requires c = record { plain = ap (λ (a : App). a.top.is_plain) c.in_ok-run.ensures }

pub add-requires-2 : goal.add-requires-2
add-requires-2 c = record { plain = ap (λ (a : App). a.top.is_plain) c.in_ok-check.ensures }

pub add-requires-3 : goal.add-requires-3
add-requires-3 c = record { plain = ap (λ (a : App). a.top.is_plain) c.in_ok-fmt.ensures }

pub returns : goal.returns
returns c =
    let run = c.in_ok-command.ensures ∙ joins c.in_ok-simulators.ensures c.in_ok-run.ensures in
    let check = c.in_ok-command-2.ensures ∙ joins run c.in_ok-check.ensures in
    IfOk-weaker c.add-3.result _ _ (λ _ more. more ∙ joins check c.in_ok-fmt.ensures) c.add-3.ensures
