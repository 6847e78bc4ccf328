use Rattle.std.proofs.Common.{inr}
use Rattle.std.proofs.lemmas.Result.{on_ok_weaker}
use Rattle.site_storm.proofs.counted.Counted.let_go_at.Goals as goal

pub returns : goal.returns
returns g c = on_ok_weaker c.let_go.result (λ p. inr p) c.let_go.ensures
