-- What is left of a flow in which faults act.
use Rattle.std.proofs.Common.{◌≡◌, ◌∙◌, refl, sym, ap, ℕ, ◌+◌, ◌*◌, ◌<◌, ◌≤◌, Option, Some, None, Result, Ok, Err, IfOk, arith}
use Rattle.faulty_flow.specs.Flows.{Gives, IsAgain, IsDelivery, IsDeliveryIfAny, IsLess, IsTurn, again_of, state_of}
use Rattle.simulator.specs.Flows as flows
use Rattle.simulator.specs.Flows.{IsOfFlow, left_of, ticks_of}
use Rattle.simulator.specs.declared.flow.Flow.{Flow}
use Rattle.simulator.specs.world.site_events.declared.event.Event.{Event}
use Rattle.tags.specs.declared.fault.Fault.{Fault}

module _ {A : Type 0} where
  at_most_one : (o : Option (Event A)) → again_of o ≤ 1
  at_most_one None = omega arith
  at_most_one (Some e) = omega arith

  -- an event of the flow that faults made another of
  pub turn_gives : (old before new : Flow) (again : Option (Event A)) (e f : Event A) → before.left ≡ old.left →
      flows.Gives before new (Some e) → IsTurn e (Some f) → Gives {A = A} (state_of {A = A} old None) (state_of {A = A} new again) (Some f)
  turn_gives old before new again e f same gives turn =
      let a = gives.1 in let b = turn.1 in (turn.0, omega (arith, same, a, b))

  pub turn_less : (old before new : Flow) (again : Option (Event A)) (e f : Event A) → left_of before ≤ left_of old →
      flows.IsLess (left_of before) new (Some e) → IsLess {A = A} (state_of {A = A} old None) (state_of {A = A} new again) (Some f)
  turn_less old before new again e f few less =
      let one = at_most_one again in omega (arith, few, less, one)

  -- .. at which no time passes
  pub kept_left : (old before new : Flow) (e : Event A) → before.left ≡ old.left → flows.Gives before new (Some e) →
      ticks_of e ≡ 0 → new.left ≡ old.left
  kept_left old before new e same gives zero = let a = gives.1 in omega (arith, same, a, zero)

  pub kept_few : (old before new : Flow) (e : Event A) → left_of before ≤ left_of old →
      flows.IsLess (left_of before) new (Some e) → left_of new ≤ left_of old
  kept_few old before new e few less = omega (arith, few, less)

  -- no event is left
  pub none_left : (old before new : Flow) (again : Option (Event A)) → before.left ≡ old.left →
      flows.Gives {A = A} before new None → Gives {A = A} (state_of {A = A} old None) (state_of {A = A} new again) None
  none_left old before new again same gives = (
    sym same ∙ gives.0,
    ap (λ (f : Flow). f.left) gives.1 ∙ gives.0,
  )

  -- what comes once more
  pub again_gives : (f : Flow) (e : Event A) → IsDelivery e → Gives {A = A} (state_of {A = A} f (Some e)) (state_of {A = A} f None) (Some e)
  again_gives f e d = let no_time = d.no_time in (d.of_flow, omega (arith, no_time))

  -- what becomes of a delivery
  turn_is : (e : Event A) (o : Option (Event A)) → ticks_of e ≡ 0 → IsAgain o → IsTurn e o
  turn_is e None zero d = zero
  turn_is e (Some f) zero d = (d.of_flow, d.no_time ∙ sym zero, d.sound)

  pub delivered : (e : Event A) (r : Result (Option (Event A)) Fault) → ticks_of e ≡ 0 → IfOk r IsDeliveryIfAny →
      IfOk r (IsTurn e)
  delivered e (Ok o) zero d = turn_is e o zero d
  delivered e (Err fault) zero d = tt

pub ruleset turn_laws = (turn_gives, turn_less, kept_left, kept_few, none_left, again_gives, delivered)
