use Rattle.headline_site.proofs.Outcomes.{outcomes_of_issues}
use Rattle.headline_site.proofs.outcomes_are_of_issues.Goals as goal

pub returns : goal.returns
returns g c = outcomes_of_issues
