use Rattle.std.proofs.lemmas.Result.{IfOk-weaker}
use Rattle.site_search.proofs.searching.search_in.Goals as goal

-- steps were taken, and what came of the search behind them
pub returns-clause-written : goal.returns-clause-written
returns-clause-written g c = IfOk-weaker c.search_on.result _ _ (λ found finds written. record {
  begun = c.begin.new.world;
  begins = c.in_ok-begin.ensures.taken;
  found = finds written;
}) c.search_on.ensures.written
