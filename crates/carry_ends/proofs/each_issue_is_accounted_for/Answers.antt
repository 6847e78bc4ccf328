use Rattle.carry_ends.proofs.Ends.{all_accounted, all_unclosed}
use Rattle.carry_ends.proofs.each_issue_is_accounted_for.Goals as goal

pub returns : goal.returns
returns g c = record { issues = all_accounted; unclosed = all_unclosed }
