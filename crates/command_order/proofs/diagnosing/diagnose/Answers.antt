use Rattle.std.proofs.Common.{◌∙◌, ap}
use Rattle.std.proofs.lemmas.Result.{IfOk-weaker}
use Rattle.command_order.specs.Diagnosing.{with_files, with_stations, with_times}
use Rattle.command_order.proofs.diagnosing.diagnose.Goals as goal

pub returns : goal.returns
returns c =
    let stations = c.in_ok-with_stations.ensures ∙ ap with_stations c.in_ok-told.ensures in
    let times = c.in_ok-with_times.ensures ∙ ap with_times stations in
    IfOk-weaker c.with_files.result _ _ (λ _ e. e ∙ ap with_files times) c.with_files.ensures
