-- What is read of a whole request is what its service data mean.
use Rattle.std.proofs.Common.{◌≡◌, refl, subst, sym, ℕ, Bool, true, false, List, None}
use Rattle.std.specs.Prelude.{nat_lt, length, IfOk, IfErr, Some, Result, Ok, Err}
use Rattle.apdu.specs.declared.apdu.Segment.{Segment}
use Rattle.apdu.specs.declared.numbers.RejectReason.{RejectReason}
use Rattle.primitives.specs.declared.plain_data.Request.{Request}
use Rattle.profile.specs.Limits.{MAX_SERVICE_DATA_OCTETS}
use Rattle.segments.specs.Receiver.{ReceiverState, joining_after, joins, step_of}
use Rattle.segments.specs.declared.step.Step.{Step}
use Rattle.server_answers.specs.services.Request.{RejectsRequest, SpellsRequest}
use Rattle.server_answers.specs.declared.asked.Asked.{Asked}
use Rattle.server_answers.specs.declared.asked.Origin.{Origin}
use Rattle.server_tsm.specs.Hearing.{Heard, Message, Whole, asker_of, completed, completed_if, finished_by, joined, joined_by, nothing, reached_by}
use Rattle.server_answers.specs.Plan.{ServerPlan, Stays, quiet}
use Rattle.server_tsm.specs.Server.{ServerTsmState}
use Rattle.server_tsm.specs.Steps.{IsFinished, IsPlan, IsPlanned, Means, on_heard}

module _ {A : Type 0} where
  pub means_of : (service : ℕ) (octets : List ℕ) (found : Result (Request A) RejectReason) → IfOk found (λ request. SpellsRequest service octets request) →
      IfErr found (λ reason. RejectsRequest A reason service octets) → Means A service octets found
  means_of service octets (Ok request) read rejected = read
  means_of service octets (Err reason) read rejected = rejected

  finished_if : (b : Bool) (now : ℕ) (w : Whole A) (st : ServerTsmState A) (found : Result (Request A) RejectReason) (plan : ServerPlan A) → b ≡ false →
      Means A w.asked.service w.octets found → plan ≡ finished_by found now w.says w.asked st → IsFinished now (completed_if b w) st plan
  finished_if true now w st found plan e means is = absurd (cc e)
  finished_if false now w st found plan e means is = record { found = Some found; means = means; is = is }

  pub is_completed : {F : Type 0} (now : ℕ) (w : Whole A) (st : ServerTsmState A) (found : Result (Request A) RejectReason) (r : Result (ServerPlan A) F) →
      nat_lt MAX_SERVICE_DATA_OCTETS (length w.octets) ≡ false → Means A w.asked.service w.octets found →
      IfOk r (λ plan. plan ≡ finished_by found now w.says w.asked st) → IfOk r (IsFinished now (completed w) st)
  is_completed now w st found (Ok plan) e means is = finished_if (nat_lt MAX_SERVICE_DATA_OCTETS (length w.octets)) now w st found plan e means is
  is_completed now w st found (Err fault) e means is = tt

  -- what the receiver does is what it comes to once the segment joined
  pub is_joined : {F : Type 0} (now : ℕ) (asked : Asked) (s : Segment) (octets : List ℕ) (j : ReceiverState) (st : ServerTsmState A) (stp : Step)
      (r : Result (ServerPlan A) F) → stp ≡ step_of now s.sequence_number s.more_follows octets j →
      IfOk r (IsFinished now (joined_by stp asked s octets (joining_after stp now s.more_follows octets j)) st) →
      IfOk r (IsFinished now (joined now asked j s octets) st)
  unfolding joins
  is_joined now asked s octets j st stp r e h =
      subst (λ (z : Step). IfOk r (IsFinished now (joined_by z asked s octets (joining_after z now s.more_follows octets j)) st)) e h

  -- what says nothing to a server comes to nothing
  pub nothing_heard : (now : ℕ) (from : Origin) (h : Heard) (st : ServerTsmState A) (plan : ServerPlan A) → h.message ≡ nothing → plan ≡ quiet Stays →
      IsPlan now from h st plan
  nothing_heard now from h st plan none is =
      subst (λ (m : Message). IsFinished now (reached_by m now from (asker_of from h) st) st plan) (sym none)
      (record { found = None; means = refl; is = is })

  -- the plan for what is heard is one of the server
  pub heard_is_planned : {F : Type 0} (now : ℕ) (from : Origin) (h : Heard) (st : ServerTsmState A) (r : Result (ServerPlan A) F) →
      IfOk r (IsPlan now from h st) → IfOk r (IsPlanned now st)
  heard_is_planned now from h st (Ok plan) p = on_heard from h p
  heard_is_planned now from h st (Err fault) p = tt
