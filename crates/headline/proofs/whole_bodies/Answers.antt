use Rattle.headline.specs.Happenings.{after_all}
use Rattle.headline.proofs.Whole.{from_start}
use Rattle.headline.proofs.Laws.{whole_requests, whole_answers}
use Rattle.headline.proofs.whole_bodies.Goals as goal

pub returns : goal.returns
returns g c = record {
  requests = λ s hs f honest. whole_requests g.P.HasProtocol.protocol s g.met.P.HasProtocol.lawful (after_all g.P.HasProtocol.protocol s hs)
      (from_start g.P.HasProtocol.protocol s g.met.P.HasProtocol.lawful f hs honest);
  answers = λ s hs f honest. whole_answers g.P.HasProtocol.protocol s g.met.P.HasProtocol.lawful (after_all g.P.HasProtocol.protocol s hs)
      (from_start g.P.HasProtocol.protocol s g.met.P.HasProtocol.lawful f hs honest);
}
