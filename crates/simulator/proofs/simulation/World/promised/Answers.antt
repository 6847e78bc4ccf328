use Rattle.std.proofs.Common.{subst}
use Rattle.simulator.proofs.EndLaws.{accounted_of, unclosed_of}
use Rattle.simulator.proofs.LedLaws.{answers_of, carried_of, legal_of, whole_of}
use Rattle.simulator.specs.Laws.{IsLed}
use Rattle.world.specs.World.{WorldState}
use Rattle.simulator.proofs.simulation.World.promised.Goals as goal

pub returns-clause-legal : goal.returns-clause-legal
returns-clause-legal g c =
    legal_of c.args.self.now (subst (λ (w : WorldState _). IsLed w) c.self.view_is c.self.invariant)

pub returns-clause-carried : goal.returns-clause-carried
returns-clause-carried g c =
    carried_of c.args.self.now (subst (λ (w : WorldState _). IsLed w) c.self.view_is c.self.invariant)

pub returns-clause-whole : goal.returns-clause-whole
returns-clause-whole g c =
    whole_of c.args.self.now (subst (λ (w : WorldState _). IsLed w) c.self.view_is c.self.invariant)

pub returns-clause-whole_answers : goal.returns-clause-whole_answers
returns-clause-whole_answers g c =
    answers_of c.args.self.now (subst (λ (w : WorldState _). IsLed w) c.self.view_is c.self.invariant)

pub returns-clause-accounted : goal.returns-clause-accounted
returns-clause-accounted g c =
    accounted_of c.args.self.now (subst (λ (w : WorldState _). IsLed w) c.self.view_is c.self.invariant)

pub returns-clause-unclosed : goal.returns-clause-unclosed
returns-clause-unclosed g c =
    unclosed_of c.args.self.now (subst (λ (w : WorldState _). IsLed w) c.self.view_is c.self.invariant)
