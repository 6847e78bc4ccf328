use Rattle.site_steps.proofs.watching.make_all.Given as goal

abbrev pub decreases-loop-flow : goal.decreases-loop-flow
decreases-loop-flow g l = l.flow.rest
