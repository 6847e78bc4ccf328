-- Nothing is said of an answer once its record is dead.
use Rattle.std.proofs.Common.{◌≡◌, refl, subst, ℕ, Bool, true, false, List, [], ◌∷◌, ◌++◌}
use Rattle.std.specs.Prelude.{zero, suc, Option, Some, slice_get}
use Rattle.std.specs.List.{AllByRecursion, flat_map}
use Rattle.server_answers.specs.remembered.Records.{lives}
use Rattle.server_answers.specs.remembered.declared.record.Record.{Record}
use Rattle.segments.specs.declared.step.Turn.{Turn}
use Rattle.segments.specs.declared.step.Turn.TheVariants.{Waits, Sends, Ends}
use Rattle.server_answers.specs.Answering.{answered_by}
use Rattle.server_tsm.specs.Hearing.{ack_heard, plans}
use Rattle.server_tsm.specs.Laws.{AckOfDeadIsDropped, IsSaidOfLiving, StaysTimely, WokenLive}
use Rattle.server_tsm.specs.Steps.{IsFinished}
use Rattle.server_tsm.specs.Waking.{again, said_at_turn, said_on_wake, turn_by, turn_where}
use Rattle.server_tsm.proofs.Timely.{timely_later, timely_said, timely_woken, timely_executed}
use Rattle.server_answers.specs.Plan.{Stays, Says, Gathers, GivesUp, Executes, Wakes}

module _ {Y : Type 0} where
  all_append : (P : Y → Type 0) (xs ys : List Y) → AllByRecursion P xs → AllByRecursion P ys → AllByRecursion P (xs ++ ys)
  all_append P [] ys p q = q
  all_append P (x ∷ xs) ys p q = (p.0, all_append P xs ys p.1 q)

  all_places : (P : Y → Type 0) (ys : List Y) → ((k : ℕ) (y : Y) → slice_get ys k ≡ Some y → P y) → AllByRecursion P ys
  all_places P [] h = tt
  all_places P (y ∷ ys) h = (h zero y refl, all_places P ys (λ k z e. h (suc k) z e))

module _ {X Y : Type 0} where
  all_flat : (P : Y → Type 0) (f : X → List Y) (xs : List X) → ((k : ℕ) (x : X) → slice_get xs k ≡ Some x → AllByRecursion P (f x)) →
      AllByRecursion P (flat_map f xs)
  all_flat P f [] h = tt
  all_flat P f (x ∷ xs) h = all_append P (f x) (flat_map f xs) (h zero x refl) (all_flat P f xs (λ k y e. h (suc k) y e))

module _ {A : Type 0} where
  said_living : (now k : ℕ) (rs : List (Record A)) (r : Record A) (t : Turn) → slice_get rs k ≡ Some r → lives now r ≡ true →
      AllByRecursion (IsSaidOfLiving now rs) (said_at_turn t now r)
  said_living now k rs r Waits there living = tt
  said_living now k rs r Sends there living =
      all_places (IsSaidOfLiving now rs) (answered_by (again now r.sending) r)
      (λ place s e. record { r = r; k = k; there = there; living = living; sending = again now r.sending; place = place; is = e })
  said_living now k rs r Ends there living = tt

  said_where : (now k : ℕ) (rs : List (Record A)) (r : Record A) (b : Bool) → slice_get rs k ≡ Some r → lives now r ≡ b →
      AllByRecursion (IsSaidOfLiving now rs) (said_at_turn (turn_where b now r.sending) now r)
  said_where now k rs r true there living = said_living now k rs r (turn_by r.sending now) there living
  said_where now k rs r false there living = tt

  pub woken_live : WokenLive A
  woken_live now rs = all_flat (IsSaidOfLiving now rs) (said_on_wake now) rs (λ k r e. said_where now k rs r (lives now r) e refl)

  pub ack_of_dead_is_dropped : AckOfDeadIsDropped A
  ack_of_dead_is_dropped now id number window negative from st plan none p =
      (subst (λ (o : Option (Record A)). IsFinished now (plans (ack_heard o now number window negative from.way)) st plan) none p).is

  pub stays_timely : StaysTimely A
  stays_timely now Stays st l t = timely_later st.moment now st.records l t
  stays_timely now (Says x) st l t = timely_said st.moment now x.asker x.way x.sending st.records l t
  stays_timely now (Gathers asked segment octets) st l t = timely_later st.moment now st.records l t
  stays_timely now (GivesUp asker) st l t = timely_later st.moment now st.records l t
  stays_timely now (Executes request r) st l t = timely_executed st.moment now st.records r l t
  stays_timely now (Wakes xs) st l t = timely_woken st.moment now xs st.records l t

pub ruleset silent_rules = (woken_live, ack_of_dead_is_dropped)
