use Rattle.headline.specs.Happenings.{after_all}
use Rattle.headline.proofs.Whole.{from_start}
use Rattle.headline.proofs.Laws.{transaction_issues, outcome_issues}
use Rattle.headline.proofs.outcomes_are_of_an_issue.Goals as goal

pub returns : goal.returns
returns g c = record {
  opened = λ s hs f honest. transaction_issues g.P.HasProtocol.protocol s (after_all g.P.HasProtocol.protocol s hs)
      (from_start g.P.HasProtocol.protocol s g.met.P.HasProtocol.lawful f hs honest);
  closed = λ s hs f honest. outcome_issues g.P.HasProtocol.protocol s g.met.P.HasProtocol.lawful (after_all g.P.HasProtocol.protocol s hs)
      (from_start g.P.HasProtocol.protocol s g.met.P.HasProtocol.lawful f hs honest);
}
