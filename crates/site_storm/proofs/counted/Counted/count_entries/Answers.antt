use Rattle.std.proofs.lemmas.Result.{on_ok_weaker}
use Rattle.site_storm.proofs.CountedLaws.{entries_so}
use Rattle.site_storm.proofs.counted.Counted.count_entries.Goals as goal

-- what is handed out is counted
pub returns : goal.returns
returns g c = on_ok_weaker c.add_outcomes.result
    (λ is. entries_so c.args.self.now c.count_waits.new.self c.hand_out.new.self c.add_outcomes.new.self
    c.outcomes_left-more.result c.outcomes_left-more.ensures c.in_ok-count_waits.ensures c.in_ok-hand_out.ensures is)
    c.add_outcomes.ensures
