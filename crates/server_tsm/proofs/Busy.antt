-- A request is aborted for want of resources only where so many answers live, or so many requests are gathered.
use Rattle.std.proofs.Common.{◌≡◌, refl, subst, ℕ, ◌≤◌, List, [], ◌∷◌, ◌++◌, inl, inr}
use Rattle.std.specs.Prelude.{◌⊎◌, map, zero, suc, Option, Some, None, slice_get}
use Rattle.std.specs.List.{AllByRecursion}
use Rattle.std.proofs.lemmas.Bool.{leb-true}
use Rattle.apdu.specs.declared.numbers.AbortReason.TheVariants.{BufferOverflow, OutOfResources}
use Rattle.npdu.specs.declared.mac.Way.{Way}
use Rattle.profile.specs.Limits.{MAX_GATHERINGS, MAX_REMEMBERED}
use Rattle.server_answers.specs.remembered.Records.{said_on}
use Rattle.server_answers.specs.remembered.declared.record.Record.{Record}
use Rattle.segments.specs.Pieces.{PlainPiece}
use Rattle.segments.specs.Sender.{SenderState, window_of}
use Rattle.server_answers.specs.Answering.{answered_by, data_of, answer_segment}
use Rattle.server_answers.specs.Plan.{ServerPlan}
use Rattle.server_answers.specs.declared.asked.Origin.{Origin}
use Rattle.server_answers.specs.declared.said.ServerSaid.{ServerSaid}
use Rattle.server_answers.specs.declared.said.ServerSaid.TheVariants as said
use Rattle.server_tsm.proofs.Arms.{AreAcks, IsAck, holds_of_plan}
use Rattle.server_tsm.proofs.Full.{full_is_living}
use Rattle.server_tsm.specs.Hearing.{Heard}
use Rattle.server_tsm.specs.Laws.{BusyIsFull, living_gatherings, living_records}
use Rattle.server_tsm.specs.Server.{AreTimely, ServerTsmState}
use Rattle.server_tsm.specs.Steps.{IsPlan}

overflow : BufferOverflow ≡ OutOfResources → ⊥
overflow e = cc e

module _ {A : Type 0} where
  -- it is no Abort for want of resources
  abbrev IsCalm : ServerSaid A → Type 0
  IsCalm (said.Abort way id reason) = reason ≡ OutOfResources → ⊥
  IsCalm s = Unit {0}

  abbrev AreCalm : List (ServerSaid A) → Type 0
  AreCalm ss = AllByRecursion IsCalm ss

  calm_append : (xs ys : List (ServerSaid A)) → AreCalm xs → AreCalm ys → AreCalm (xs ++ ys)
  calm_append [] ys p q = q
  calm_append (x ∷ xs) ys p q = (p.0, calm_append xs ys p.1 q)

  the_same : (x y : ServerSaid A) → Some x ≡ Some y → x ≡ y
  the_same x y e = cc e

  calm_at : (ss : List (ServerSaid A)) (place id : ℕ) (way : Way) → AreCalm ss → slice_get ss place ≡ Some (said.Abort way id OutOfResources) → ⊥
  calm_at [] place id way calm e = cc e
  calm_at (s ∷ ss) zero id way calm e = subst (λ (x : ServerSaid A). IsCalm x) (the_same s (said.Abort way id OutOfResources) e) calm.0 refl
  calm_at (s ∷ ss) (suc place) id way calm e = calm_at ss place id way calm.1 e

  calm_pieces : (r : Record A) (ps : List PlainPiece) → AreCalm (map (answer_segment r) ps)
  calm_pieces r [] = tt
  calm_pieces r (p ∷ ps) = (tt, calm_pieces r ps)

  calm_answer : (o : Option SenderState) (r : Record A) → AreCalm (answered_by o r)
  calm_answer None r = (tt, tt)
  calm_answer (Some c) r = calm_pieces r (window_of (data_of r.answer) c)

  abbrev IsBusy : ℕ → ServerTsmState A → Type 0
  IsBusy now st = (MAX_REMEMBERED ≤ living_records now st) ⊎ (MAX_GATHERINGS ≤ living_gatherings now st)

  -- what is said is calm, or the server is busy
  abbrev IsCalmPlan : ℕ → ServerTsmState A → ServerPlan A → Type 0
  IsCalmPlan now st plan = AreCalm plan.said ⊎ IsBusy now st

  ack_calm : (s : ServerSaid A) → IsAck s → IsCalm s
  ack_calm (said.SegmentAck way negative id number window) a = tt
  ack_calm (said.Answer way id service answer) a = tt
  ack_calm (said.Segment way id service segment octets) a = tt
  ack_calm (said.Reject way id reason) a = tt
  ack_calm (said.Abort way id reason) a = absurd a

  acks_calm : (ss : List (ServerSaid A)) → AreAcks ss → AreCalm ss
  acks_calm [] a = tt
  acks_calm (s ∷ ss) a = (ack_calm s a.0, acks_calm ss a.1)

  calm_plan : (now : ℕ) (from : Origin) (h : Heard) (st : ServerTsmState A) (plan : ServerPlan A) → AreTimely st.moment st.records →
      IsPlan now from h st plan → IsCalmPlan now st plan
  calm_plan now from h st plan timely p = holds_of_plan now from h st plan (λ x. IsCalmPlan now st x) (record {
    dropped = inl tt;
    answered = λ sending way r. inl (calm_answer sending (said_on way sending r));
    ended = λ r. inl tt;
    given_up = inl tt;
    gathers = λ says asked s octets a. inl (acks_calm says a);
    overflows = λ says asked a. inl (calm_append says _ (acks_calm says a) (overflow, tt));
    crowded = λ asked e. inr (inr (leb-true MAX_GATHERINGS (living_gatherings now st) e));
    rejected = λ says asked reason a. inl (calm_append says _ (acks_calm says a) (tt, tt));
    full = λ says asked a e. inr (inl (full_is_living now st.records timely.ascending e));
    executed = λ says asked q a of none room. inl (calm_append says _ (acks_calm says a) (calm_answer _ _));
  }) p

  busy_by : (now : ℕ) (st : ServerTsmState A) (plan : ServerPlan A) (place id : ℕ) (way : Way) → IsCalmPlan now st plan →
      slice_get plan.said place ≡ Some (said.Abort way id OutOfResources) → IsBusy now st
  busy_by now st plan place id way (inl calm) e = absurd (calm_at plan.said place id way calm e)
  busy_by now st plan place id way (inr busy) e = busy

  pub busy_is_full : BusyIsFull A
  busy_is_full now from h st plan place id way timely p e = busy_by now st plan place id way (calm_plan now from h st plan timely p) e
