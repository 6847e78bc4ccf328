use Rattle.std.proofs.Common.{◌∙◌, ap}
use Rattle.std.proofs.lemmas.Result.{IfOk-weaker}
use Rattle.clap.specs.Words.{App}
use Rattle.command_order.proofs.CommandLaws.{joins}
use Rattle.command_order.proofs.order.tools.Goals as goal

pub add-requires : goal.add-requires
add-requires c = record { plain = ap (λ (a : App). a.top.is_plain) c.in_ok-answer.ensures }

pub add-requires-2 : goal.add-requires-2
add-requires-2 c = record { plain = ap (λ (a : App). a.top.is_plain) c.in_ok-explain.ensures }

pub add-requires-3 : goal.add-requires-3
add-requires-3 c = record { plain = ap (λ (a : App). a.top.is_plain) c.in_ok-diagnose.ensures }

pub returns : goal.returns
returns c =
    let answer = c.in_ok-command.ensures ∙ joins c.bare.ensures c.in_ok-answer.ensures in
    let explain = c.in_ok-command-2.ensures ∙ joins answer c.in_ok-explain.ensures in
    IfOk-weaker c.add-3.result _ _ (λ _ more. more ∙ joins explain c.in_ok-diagnose.ensures) c.add-3.ensures
