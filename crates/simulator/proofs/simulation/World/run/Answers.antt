use Rattle.std.proofs.Common.{arith, ◌≡◌, ◌+◌, ◌++◌, ◌∷◌, [], subst, take, List}
use Rattle.std.proofs.lemmas.Grind.{common_steps}
use Rattle.simulator.proofs.LedLaws.{comes_of, runs_more}
use Rattle.world.specs.site_events.declared.event.Event.{Event}
use Rattle.simulator.proofs.simulation.World.run.Goals as goal
use Rattle.simulator.specs.Runs.{Runs}

-- one more
pub loop-event-preserved : goal.loop-event-preserved
loop-event-preserved g c =
    let t : take c.loop-event.event-index c.args.events.now ++ c.event-item.result ∷ []
    ≡ take (c.loop-event.event-index + 1) c.args.events.now = grind (arith, common_steps) in
    subst (λ (es : List (Event _)). Runs es c.args.self.now c.step.new.self) t
    (runs_more (take c.loop-event.event-index c.args.events.now) c.event-item.result c.args.self.now c.loop-event.self
    c.step.new.self c.loop-event.invariant (record {
      comes = comes_of c.event-item.result c.loop-event.self c.step.new.self c.step.result c.step.ensures.steps
          c.step.ensures.cause c.step.ensures.unchanged;
      brought = record {
        heard = c.step.ensures.heard;
        executed = c.step.ensures.executed;
        outcomes = c.step.ensures.outcomes;
        requests = c.step.ensures.requests;
        answers = c.step.ensures.answers;
      };
    }))
