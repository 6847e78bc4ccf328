use Rattle.headline_site.proofs.Hearings.{hearing_executes_issued, hearing_is_whole_issue, hearing_tells_of_issues}
use Rattle.headline_site.proofs.Outcomes.{woken_at}
use Rattle.headline_site.proofs.Reached.{answers_whole_at, requests_whole_at}
use Rattle.headline_site.proofs.hearings_are_of_issues.Goals as goal

pub returns : goal.returns
returns g c = record {
  executed = hearing_executes_issued;
  told = hearing_tells_of_issues;
  woken = woken_at;
  whole = hearing_is_whole_issue;
  requests = requests_whole_at;
  answers = answers_whole_at;
}
