use Rattle.std.proofs.Common.{subst}
use Rattle.std.specs.Prelude.{IfErr}
use Rattle.world.proofs.internetwork.Internetwork.step.Goals as goal
use Rattle.world.specs.Refusals.{IsRefused}
use Rattle.world.specs.World.{WorldState}

-- what is lent is no change
pub returns-clause-cause : goal.returns-clause-cause
returns-clause-cause g c = subst (λ (w : WorldState _).
    IfErr c.step_with-done.result (λ fault. IsRefused c.args.event.now w fault)) c.lend-draft.ensures.same
    c.step_with-done.ensures.cause
