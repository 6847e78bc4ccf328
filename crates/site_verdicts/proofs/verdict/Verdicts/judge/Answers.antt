use Rattle.site_verdicts.proofs.JudgeLaws.{judged_unmet}
use Rattle.site_verdicts.proofs.verdict.Verdicts.judge.Goals as goal

-- it doesn't hold
pub returns : goal.returns
returns g c =
    judged_unmet c.args.expected.now c.args.seen.history.now c.args.seen.refusals.count _ c.holds.result
    c.args.self.now c.put_unmet.new.self c.holds.ensures c.if-holds.false c.in_ok-put_unmet.ensures
