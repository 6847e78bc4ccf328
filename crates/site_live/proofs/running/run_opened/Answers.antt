use Rattle.site_live.proofs.ExpectLaws.{not_run, plain_status}
use Rattle.site_live.proofs.running.run_opened.Goals as goal

pub returns-in-Ok-run-clause-plain : goal.returns-in-Ok-run-clause-plain
returns-in-Ok-run-clause-plain g c = plain_status c.expect_something-expects.result c.status_of.result
    c.args.opened.steps c.expect_something-expects.ensures c.status_of.ensures.plain

-- nothing ran
pub returns-in-Err-run-clause-runs : goal.returns-in-Err-run-clause-runs
returns-in-Err-run-clause-runs g c = not_run c.say_failed.result c.say_failed.ensures

pub returns-in-Err-clause-runs : goal.returns-in-Err-clause-runs
returns-in-Err-clause-runs g c = not_run c.say_refused.result c.say_refused.ensures
