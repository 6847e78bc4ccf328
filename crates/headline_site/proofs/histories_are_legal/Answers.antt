use Rattle.headline_site.proofs.Promised.{after_issue, answered, closed, executed, numbered}
use Rattle.headline_site.proofs.histories_are_legal.Goals as goal

pub returns : goal.returns
returns g c = record { numbered = numbered; after_issue = after_issue; executed = executed; answered = answered; closed = closed }
