use Rattle.headline.proofs.Whole.{from_start}
use Rattle.headline.specs.Happenings.{after_all}
use Rattle.headline_ends.proofs.Ends.{all_accounted, all_unclosed}
use Rattle.headline_ends.proofs.each_issue_is_accounted_for.Goals as goal

pub returns : goal.returns
returns g c = record {
  issues = λ s hs f honest. all_accounted g.P.HasProtocol.protocol s g.met.P.HasProtocol.lawful f hs honest;
  unclosed = λ s hs f honest. all_unclosed g.P.HasProtocol.protocol s (after_all g.P.HasProtocol.protocol s hs)
      (from_start g.P.HasProtocol.protocol s g.met.P.HasProtocol.lawful f hs honest);
}
