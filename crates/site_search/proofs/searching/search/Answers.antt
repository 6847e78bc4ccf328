use Rattle.std.proofs.lemmas.Result.{IfOk-weaker}
use Rattle.site_search.proofs.searching.search.Goals as goal

-- what was opened, and what came of it
pub returns-clause-written : goal.returns-clause-written
returns-clause-written g c =
    let o = c.in_ok-world.field-0 in
    IfOk-weaker c.search_in-found.result _ _ (λ found continues written. record {
      fresh = o.world;
      steps = o.steps;
      opened = c.in_ok-world.ensures.opened;
      continues = continues written;
    }) c.search_in-found.ensures.written
