use Rattle.std.proofs.Common.{◌∙◌, ap, rules}
use Rattle.site_storm.proofs.WaitLaws.{wait_counted}
use Rattle.site_storm.specs.Counting.{outcomes_in}
use Rattle.site_storm.specs.Waits.{greatest_wait}
use Rattle.site_storm.proofs.counts.counts_of.Goals as goal

pub returns-clause-counts : goal.returns-clause-counts
returns-clause-counts g c = record {
  messages = c.said.result.now;
  said = search rules;
  outcomes = c.outcomes_in.ensures ∙ ap (λ h. outcomes_in h) c.history-history.ensures.history;
  types = c.messages_in.ensures;
  datagrams = search rules;
  frames = search rules;
  moment = search rules;
  wait = c.greatest.ensures
      ∙ wait_counted c.history-history.result.now c.new-waits.result c.count.new.self _ _
      c.history-history.ensures.legal c.new-waits.ensures c.in_ok-count.ensures
      ∙ ap (λ h. greatest_wait h) c.history-history.ensures.history;
}
