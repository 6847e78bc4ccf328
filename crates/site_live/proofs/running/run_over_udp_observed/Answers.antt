use Rattle.site_live.proofs.ExpectLaws.{live_plain}
use Rattle.site_live.proofs.running.run_over_udp_observed.Goals as goal

-- where the script expects nothing, its steps don't
pub returns-in-Ok-clause-plain : goal.returns-in-Ok-clause-plain
returns-in-Ok-clause-plain g c = λ none. c.run_opened.ensures.plain
    (live_plain c.args.script.now c.in-Ok.opened.steps c.in-Ok.ensures.said none)
