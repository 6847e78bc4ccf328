use Rattle.headline_site.proofs.Reached.{after_issue_at, answered_at, closed_at, executed_at, numbered_at, tables_left_at}
use Rattle.headline_site.proofs.holds_wherever_reached.Goals as goal

pub returns : goal.returns
returns g c = record {
  numbered = numbered_at;
  after_issue = after_issue_at;
  executed = executed_at;
  answered = answered_at;
  closed = closed_at;
  tables = tables_left_at;
}
