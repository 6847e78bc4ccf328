use Rattle.headline.specs.Happenings.{after_all}
use Rattle.headline.proofs.Whole.{from_start}
use Rattle.headline.proofs.Laws.{tables_of}
use Rattle.headline.proofs.tables_are_what_executions_leave.Goals as goal

pub returns : goal.returns
returns g c = λ s hs f honest. tables_of g.P.HasProtocol.protocol s (after_all g.P.HasProtocol.protocol s hs)
    (from_start g.P.HasProtocol.protocol s g.met.P.HasProtocol.lawful f hs honest)
