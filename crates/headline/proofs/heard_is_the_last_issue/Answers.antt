use Rattle.headline.specs.Happenings.{after_all}
use Rattle.headline.proofs.Whole.{from_start}
use Rattle.headline.proofs.Laws.{executed_issues}
use Rattle.headline.proofs.heard_is_the_last_issue.Goals as goal

pub returns : goal.returns
returns g c = λ s hs f honest. executed_issues g.P.HasProtocol.protocol s g.met.P.HasProtocol.lawful (after_all g.P.HasProtocol.protocol s hs)
    (from_start g.P.HasProtocol.protocol s g.met.P.HasProtocol.lawful f hs honest)
