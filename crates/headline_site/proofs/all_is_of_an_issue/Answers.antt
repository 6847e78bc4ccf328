use Rattle.headline_site.proofs.Promised.{closed_issue, executed_issue, opened_issue}
use Rattle.headline_site.proofs.all_is_of_an_issue.Goals as goal

pub returns : goal.returns
returns g c = record { executed = executed_issue; opened = opened_issue; closed = closed_issue }
