use Rattle.std.proofs.Common.{rules}
use Rattle.site_search.proofs.searching.search_on.Goals as goal

pub returns-in_ok-write_script-in-Found-clause-written :
    goal.returns-in_ok-write_script-in-Found-clause-written
returns-in_ok-write_script-in-Found-clause-written g c =
    λ e. record {
      events = c.as_slice.result.now;
      left = c.leads.new.world;
      leads = c.in_ok-leads-in-Found.ensures.leads (search rules);
      written = search rules;
    }
