use Rattle.site_run.proofs.JudgeLaws.{seen_judged}
use Rattle.site_run.proofs.judging.judge_seen.Goals as goal

pub returns : goal.returns
returns g c = seen_judged c.judge.result c.args.expected.now c.args.world.now c.history.result.now
    c.args.refusals.count _ c.args.verdicts.now c.judge.new.self c.history.ensures.history c.judge.ensures
