use Rattle.std.proofs.Common.{◌∙◌, ap}
use Rattle.std.proofs.lemmas.Result.{IfOk-weaker}
use Rattle.command_order.specs.Simulating.{with_choice, with_files, with_junit, with_times}
use Rattle.command_order.proofs.simulating.sim.Goals as goal

pub returns : goal.returns
returns c =
    let files = c.in_ok-with_files.ensures ∙ ap with_files c.in_ok-printed.ensures in
    let junit = c.in_ok-with_junit.ensures ∙ ap with_junit files in
    let times = c.in_ok-with_times.ensures ∙ ap with_times junit in
    IfOk-weaker c.with_choice.result _ _ (λ _ e. e ∙ ap with_choice times) c.with_choice.ensures
