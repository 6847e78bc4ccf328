use Rattle.carry_world.proofs.Promised.{executed_is_issued, outcomes_are_of_issues, whole_is_issued, woken_are_of_issues}
use Rattle.carry_world.proofs.all_is_of_an_issue.Goals as goal

pub returns : goal.returns
returns g c = record {
  executed = executed_is_issued;
  whole = whole_is_issued;
  told = outcomes_are_of_issues;
  woken = woken_are_of_issues;
}
