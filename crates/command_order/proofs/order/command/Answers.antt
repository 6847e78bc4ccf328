use Rattle.std.proofs.Common.{◌∙◌, ap}
use Rattle.std.proofs.lemmas.Result.{IfOk-weaker}
use Rattle.clap.specs.Words.{App}
use Rattle.command_order.proofs.CommandLaws.{joins}
use Rattle.command_order.proofs.order.command.Goals as goal

pub add-requires : goal.add-requires
add-requires c = record { plain = ap (λ (a : App). a.top.is_plain) c.in_ok-pics.ensures }

pub add-requires-2 : goal.add-requires-2
add-requires-2 c = record { plain = ap (λ (a : App). a.top.is_plain) c.in_ok-init.ensures }

pub add-requires-3 : goal.add-requires-3
add-requires-3 c = record { plain = ap (λ (a : App). a.top.is_plain) c.in_ok-completions.ensures }

pub add-requires-4 : goal.add-requires-4
add-requires-4 c = record { plain = ap (λ (a : App). a.top.is_plain) c.man.ensures }

pub returns : goal.returns
returns c =
    let pics = c.in_ok-command.ensures ∙ joins c.in_ok-site_commands.ensures c.in_ok-pics.ensures in
    let init = c.in_ok-command-2.ensures ∙ joins pics c.in_ok-init.ensures in
    let completions = c.in_ok-command-3.ensures ∙ joins init c.in_ok-completions.ensures in
    IfOk-weaker c.add-4.result _ _ (λ _ more. more ∙ joins completions c.man.ensures) c.add-4.ensures
