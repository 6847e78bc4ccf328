use Rattle.std.proofs.Common.{◌∙◌, ap, sym, subst, List}
use Rattle.runner.proofs.LedRules.{kept_on, made_so}
use Rattle.runner.proofs.SenderLaws.{known_after}
use Rattle.runner.proofs.runner.Runner.make.Goals as goal
use Rattle.runner.specs.Runner.{RunnerState}
use Rattle.runner.specs.Turns.{HasMade}
use Rattle.senders.specs.Senders.{AreKnown, senders_of}
use Rattle.simulator.proofs.LedLaws.{led_on}
use Rattle.traffic.specs.declared.item.Item.{Item}

-- who sent the items before it is still known
pub see-requires : goal.see-requires
see-requires g c = record {
  known = subst (λ (is : List (Item _)). AreKnown c.self.inside.senders (senders_of is)) (sym c.items.ensures.kept)
      (known_after c.self.inside.senders c.args.event.now c.self.inside.world c.step.new.self (c.self.invariant.2)
      c.in-Ok.ensures.steps);
}

-- it came about by one event more, and whoever sent items then is known
pub invariant_of-self : goal.invariant_of-self
invariant_of-self g c = (
  λ led. kept_on c.args.event.now c.self.inside.world c.step.new.self c.in-Ok.ensures.stands c.requires.sound
      c.in-Ok.ensures.steps (c.self.invariant.0 led),
  λ led whole. led_on c.args.event.now c.self.inside.world c.step.new.self c.in-Ok.ensures.stands c.requires.sound
      c.in-Ok.ensures.steps (c.self.invariant.1 led whole),
  subst (λ (is : List (Item _)). AreKnown c.see.new.self (senders_of is)) c.items.ensures.kept c.see.ensures.known,
)

-- its step was made, with what it brought
pub returns-in-Ok-clause-made : goal.returns-in-Ok-clause-made
returns-in-Ok-clause-made g c =
    subst (λ (r : RunnerState _). HasMade c.args.event.now r (record {
      world = c.step.new.self;
      is_open = c.self.inside.is_open;
      strayed = c.self.inside.strayed;
      is_led = c.self.inside.is_led;
      is_whole = c.self.inside.is_whole;
    })) c.self.view_is (made_so c.args.event.now (record {
      world = c.self.inside.world;
      is_open = c.self.inside.is_open;
      strayed = c.self.inside.strayed;
      is_led = c.self.inside.is_led;
      is_whole = c.self.inside.is_whole;
    }) c.step.new.self c.in-Ok.ensures.stands c.requires.sound c.in-Ok.ensures.steps
    c.in-Ok.ensures.rests (c.self.invariant.1)
    (ap (λ (r : RunnerState _). r.strayed) c.self.view_is ∙ c.requires.strayed))
