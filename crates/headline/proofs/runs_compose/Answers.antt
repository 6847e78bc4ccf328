use Rattle.headline.proofs.Laws.{run_more, honest_more}
use Rattle.headline.proofs.runs_compose.Goals as goal

pub returns : goal.returns
returns g c = record {
  one = run_more g.P.HasProtocol.protocol;
  honest = honest_more g.P.HasProtocol.protocol;
}
