use Rattle.simulator.proofs.EndLaws.{ended_by}
use Rattle.simulator.proofs.HeardLaws.{brought_by}
use Rattle.simulator.proofs.LedLaws.{answers_of, led_after, whole_of}
use Rattle.simulator.proofs.simulation.World.step.Goals as goal

pub returns-clause-heard : goal.returns-clause-heard
returns-clause-heard g c = (brought_by c.args.event.now c.self.inside.internetwork c.args.self.now c.step.new.self
    c.self.view_is c.step.ensures.stands c.self.invariant).heard

pub returns-clause-executed : goal.returns-clause-executed
returns-clause-executed g c = (brought_by c.args.event.now c.self.inside.internetwork c.args.self.now c.step.new.self
    c.self.view_is c.step.ensures.stands c.self.invariant).executed

pub returns-clause-outcomes : goal.returns-clause-outcomes
returns-clause-outcomes g c = (brought_by c.args.event.now c.self.inside.internetwork c.args.self.now c.step.new.self
    c.self.view_is c.step.ensures.stands c.self.invariant).outcomes

pub returns-clause-requests : goal.returns-clause-requests
returns-clause-requests g c = (brought_by c.args.event.now c.self.inside.internetwork c.args.self.now c.step.new.self
    c.self.view_is c.step.ensures.stands c.self.invariant).requests

pub returns-clause-answers : goal.returns-clause-answers
returns-clause-answers g c = (brought_by c.args.event.now c.self.inside.internetwork c.args.self.now c.step.new.self
    c.self.view_is c.step.ensures.stands c.self.invariant).answers

pub returns-clause-whole : goal.returns-clause-whole
returns-clause-whole g c = whole_of c.step.new.self
    (led_after c.args.event.now c.self.inside.internetwork c.step.new.self c.step.result c.step.ensures.stands
    c.requires.sound c.step.ensures.steps c.step.ensures.unchanged c.self.invariant)

pub returns-clause-whole_answers : goal.returns-clause-whole_answers
returns-clause-whole_answers g c = answers_of c.step.new.self
    (led_after c.args.event.now c.self.inside.internetwork c.step.new.self c.step.result c.step.ensures.stands
    c.requires.sound c.step.ensures.steps c.step.ensures.unchanged c.self.invariant)

pub returns-clause-ended : goal.returns-clause-ended
returns-clause-ended g c = ended_by c.args.event.now c.self.inside.internetwork c.args.self.now c.step.new.self
    c.step.result c.self.view_is c.self.invariant c.step.ensures.steps
