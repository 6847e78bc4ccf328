use Rattle.std.proofs.Common.{refl, subst}
use Rattle.simulator.proofs.LedLaws.{comes_of}
use Rattle.site_storm.proofs.counted.Counted.make.Goals as goal
use Rattle.site_storm.specs.Counted.{CountedState, Makes}

-- its step was made, or refused
pub returns : goal.returns
returns g c = subst (λ (s : CountedState _). Makes c.args.event.now s (record {
  world = c.step.new.self;
  outcomes = c.self.inside.outcomes;
  waits = c.self.inside.waits;
  messages = c.self.inside.messages;
  seen = c.self.inside.seen;
})) c.self.view_is (record {
  stands = c.step.ensures.stands;
  comes = comes_of c.args.event.now c.self.inside.world c.step.new.self c.step.result c.step.ensures.steps
      c.step.ensures.cause c.step.ensures.unchanged;
  is = refl;
})
