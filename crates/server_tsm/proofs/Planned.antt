-- What is planned is one plan, and of a whole faultless request its execution.
use Rattle.std.proofs.Common.{◌≡◌, ◌∙◌, refl, sym, ap, subst, ℕ, ◌<◌, ◌≤◌, Bool, true, false, List, [], arith}
use Rattle.std.specs.Prelude.{nat_lt, length, filter, Option, Some, None, Result, Ok, Err}
use Rattle.std.proofs.lemmas.Bool.{eq-eqb, le-leb, le-ltb}
use Rattle.apdu.specs.declared.apdu.Segment.{Segment}
use Rattle.apdu.specs.declared.numbers.RejectReason.{RejectReason}
use Rattle.primitives.specs.declared.plain_data.Request.{Request}
use Rattle.primitives.specs.declared.plain_data.Reply.TheVariants.{Values, Many, Done, Error, ErrorAt}
use Rattle.server_answers.proofs.remembered.Living.{full_is_living as living_are_full}
use Rattle.server_answers.specs.remembered.Records.{AreAscending, is_full, lives, remembered}
use Rattle.server_answers.specs.remembered.declared.record.Record.{Record}
use Rattle.segments.specs.Receiver.{joins}
use Rattle.segments.specs.declared.step.Step.{Step}
use Rattle.profile.specs.Limits.{MAX_REMEMBERED, MAX_SERVICE_DATA_OCTETS}
use Rattle.server_answers.proofs.services.NoRequest.{request_not_spelled}
use Rattle.server_answers.proofs.services.OneReason.{one_reason}
use Rattle.server_answers.proofs.services.OneRequest.{one_request}
use Rattle.server_answers.specs.services.Asked.{replied}
use Rattle.server_tsm.proofs.Arms.{holds_of_plan}
use Rattle.server_tsm.proofs.Full.{full_is_living}
use Rattle.server_answers.specs.Answering.{answer_of}
use Rattle.server_answers.specs.Plan.{quiet, ServerPlan, Stays}
use Rattle.server_tsm.specs.Hearing.{Heard, asks, Reached, Whole, plans, completes, ack_if}
use Rattle.server_tsm.specs.Hearing.{asked_by, asked_on, asker_of, completed_if, executing, executing_if, finished, is_deaf, joined, joined_by}
use Rattle.server_tsm.specs.Hearing.{of_service, part_heard, part_joined, reached, repeated, request_heard, taken_if, unless}
use Rattle.server_tsm.specs.Hearing.{whole_heard}
use Rattle.server_tsm.specs.Laws.{AnswerIsWhole, DeafDoesNothing, ExecutesNothing, FullIsAborted, IsTaken, JoinedIsExecuted, OnePlan, RememberedIsNotExecuted}
use Rattle.server_tsm.specs.Laws.{RepeatIsSaidAgain, WholeIsExecuted}
use Rattle.server_tsm.specs.Server.{ServerTsmState}
use Rattle.server_tsm.specs.Steps.{IsFinished, IsFound, Means}
use Rattle.server_answers.specs.declared.asked.AnswerLimits.{AnswerLimits}
use Rattle.server_answers.specs.declared.asked.Asked.{Asked}
use Rattle.server_answers.specs.declared.asked.Origin.{Origin}
use Rattle.server_answers.specs.declared.gathering.RequestGathering.{RequestGathering}
use Rattle.server_answers.specs.declared.said.ServerSaid.{ServerSaid}

module _ {A : Type 0} where
  one_meaning : (service : ℕ) (octets : List ℕ) (x y : Result (Request A) RejectReason) → Means A service octets x → Means A service octets y → x ≡ y
  one_meaning service octets (Ok x) (Ok y) s t = ap (λ (q : Request A). Ok q) (one_request service octets x y s t)
  one_meaning service octets (Ok x) (Err y) s t = absurd (request_not_spelled y service octets x t s)
  one_meaning service octets (Err x) (Ok y) s t = absurd (request_not_spelled x service octets y s t)
  one_meaning service octets (Err x) (Err y) s t = ap (λ (r : RejectReason). Err r) (one_reason x y service octets s t)

  found_once : (r : Reached A) (a b : Option (Result (Request A) RejectReason)) → IsFound r a → IsFound r b → a ≡ b
  found_once (plans p) a b x y = x ∙ sym y
  found_once (completes w) None b x y = absurd x
  found_once (completes w) (Some a) None x y = absurd y
  found_once (completes w) (Some a) (Some b) x y = ap (λ (f : Result (Request A) RejectReason). Some f) (one_meaning w.asked.service w.octets a b x y)

  pub one_plan : OnePlan A
  one_plan now from h st x y p q =
      p.is ∙ ap (λ (f : Option (Result (Request A) RejectReason)). finished now (reached now from h st) f st)
      (found_once (reached now from h st) p.found q.found p.means q.means) ∙ sym q.is

  -- the tests that precede
  not_deaf : (now : ℕ) (from : Origin) (st : ServerTsmState A) → IsTaken now from st → is_deaf now from.by_broadcast st ≡ false
  not_deaf now from st t = rw (t.alone, le-ltb now st.quiet_until t.quiet_over) refl

  heard_if : (b : Bool) (r : Reached A) → b ≡ false → unless b r ≡ r
  heard_if true r e = absurd (cc e)
  heard_if false r e = refl

  fits_if : (b : Bool) (w : Whole A) → b ≡ false → completed_if b w ≡ completes w
  fits_if true w e = absurd (cc e)
  fits_if false w e = refl

  place_if : (b : Bool) (now : ℕ) (says : List (ServerSaid A)) (asked : Asked) (request : Request A) (st : ServerTsmState A) → b ≡ false →
      executing_if b now says asked request st ≡ executing now says asked request (replied st.table request) st
  place_if true now says asked request st e = absurd (cc e)
  place_if false now says asked request st e = refl

  not_full : (now : ℕ) (rs : List (Record A)) → AreAscending rs → length (filter (lives now) rs) < MAX_REMEMBERED → is_full now rs ≡ false
  not_full now rs up few = by_test (is_full now rs) refl
    where
      by_test : (b : Bool) → is_full now rs ≡ b → b ≡ false
      by_test true e = let full = full_is_living now rs up e in absurd (omega (arith, few, full))
      by_test false e = refl

  -- what a plan comes to, where it is known what is reached
  planned_by : (now : ℕ) (r s : Reached A) (st : ServerTsmState A) (plan : ServerPlan A) → r ≡ s → IsFinished now r st plan → IsFinished now s st plan
  planned_by now r s st plan e f = subst (λ (x : Reached A). IsFinished now x st plan) e f

  found_so : (now : ℕ) (w : Whole A) (st : ServerTsmState A) (plan : ServerPlan A) (x : Result (Request A) RejectReason) →
      IsFinished now (completes w) st plan → Means A w.asked.service w.octets x → plan ≡ finished now (completes w) (Some x) st
  found_so now w st plan x f means =
      f.is ∙ ap (λ (o : Option (Result (Request A) RejectReason)). finished now (completes w) o st) (found_once (completes w) f.found (Some x) f.means means)

  -- a whole request of which no answer is remembered is read
  whole_reached : (now id : ℕ) (from : Origin) (limits : AnswerLimits) (service : ℕ) (octets : List ℕ) (st : ServerTsmState A) →
      let h : Heard = record { invoke_id = id; message = asks None limits service octets } in
      IsTaken now from st → remembered now (asker_of from h) st.records ≡ None → length octets ≤ MAX_SERVICE_DATA_OCTETS →
      reached now from h st ≡ completes (record { asked = asked_by from (asker_of from h) limits service; octets = octets; says = [] })
  whole_reached now id from limits service octets st taken none short =
      let h : Heard = record { invoke_id = id; message = asks None limits service octets } in
      let asked : Asked = asked_by from (asker_of from h) limits service in
      heard_if (is_deaf now from.by_broadcast st) (request_heard None now asked octets st) (not_deaf now from st taken)
      ∙ ap (λ (o : Option (Record A)). whole_heard o now asked octets) none
      ∙ fits_if (nat_lt MAX_SERVICE_DATA_OCTETS (length octets)) (record { asked = asked; octets = octets; says = [] })
      (le-ltb MAX_SERVICE_DATA_OCTETS (length octets) short)

  pub whole_is_executed : WholeIsExecuted A
  whole_is_executed now id from limits service octets request st plan taken timely none few short spelled p =
      let h : Heard = record { invoke_id = id; message = asks None limits service octets } in
      let asked : Asked = asked_by from (asker_of from h) limits service in
      let w : Whole A = record { asked = asked; octets = octets; says = [] } in
      found_so now w st plan (Ok request)
      (planned_by now (reached now from h st) (completes w) st plan (whole_reached now id from limits service octets st taken none short) p) spelled
      ∙ place_if (is_full now st.records) now [] asked request st (not_full now st.records timely.ascending few)

  is_full_where : (now : ℕ) (rs : List (Record A)) → AreAscending rs → length rs ≤ MAX_REMEMBERED → MAX_REMEMBERED ≤ length (filter (lives now) rs) →
      is_full now rs ≡ true
  is_full_where now rs up few many = living_are_full now rs up few ∙ le-leb MAX_REMEMBERED (length (filter (lives now) rs)) many

  pub full_is_aborted : FullIsAborted A
  full_is_aborted now id from limits service octets request st plan taken kept none many short spelled p =
      let h : Heard = record { invoke_id = id; message = asks None limits service octets } in
      let asked : Asked = asked_by from (asker_of from h) limits service in
      let w : Whole A = record { asked = asked; octets = octets; says = [] } in
      found_so now w st plan (Ok request)
      (planned_by now (reached now from h st) (completes w) st plan (whole_reached now id from limits service octets st taken none short) p) spelled
      ∙ ap (λ (b : Bool). executing_if b now [] asked request st) (is_full_where now st.records kept.timely.ascending kept.few many)

  pub joined_is_executed : JoinedIsExecuted A
  joined_is_executed now id from segment limits octets a ack request st plan taken timely none some last step few short spelled p =
      let h : Heard = record { invoke_id = id; message = asks (Some segment) limits a.asked.service octets } in
      let asked : Asked = asked_by from (asker_of from h) limits a.asked.service in
      let on : Asked = asked_on from.way a in
      let x = joins now segment.sequence_number segment.more_follows octets a.receiver in
      let w : Whole A = record { asked = on; octets = x.state.octets; says = ack_if ack x.state.window on } in
      let is_reached : reached now from h st ≡ completes w =
      heard_if (is_deaf now from.by_broadcast st) (request_heard (Some segment) now asked octets st) (not_deaf now from st taken)
      ∙ ap (λ (o : Option (Record A)). part_heard o now asked segment octets st.gatherings) none
      ∙ ap (λ (o : Option (RequestGathering A)). part_joined o now asked segment octets st.gatherings) some
      ∙ ap (λ (b : Bool). of_service b (joined now on a.receiver segment octets)) (eq-eqb a.asked.service a.asked.service refl)
      ∙ ap (λ (s : Step). joined_by s on segment octets x.state) step
      ∙ ap (λ (b : Bool). taken_if b (ack_if ack x.state.window on) on segment octets x.state.octets) last
      ∙ fits_if (nat_lt MAX_SERVICE_DATA_OCTETS (length x.state.octets)) w (le-ltb MAX_SERVICE_DATA_OCTETS (length x.state.octets) short) in
      found_so now w st plan (Ok request) (planned_by now (reached now from h st) (completes w) st plan is_reached p) spelled
      ∙ place_if (is_full now st.records) now (ack_if ack x.state.window on) on request st (not_full now st.records timely.ascending few)

  pub deaf_does_nothing : DeafDoesNothing A
  deaf_does_nothing now id from segment limits service octets st plan deaf p =
      let h : Heard = record { invoke_id = id; message = asks segment limits service octets } in
      let asked : Asked = asked_by from (asker_of from h) limits service in
      let is_reached : reached now from h st ≡ plans (quiet Stays) =
      ap (λ (b : Bool). unless b (request_heard segment now asked octets st)) deaf in
      (planned_by now (reached now from h st) (plans (quiet Stays)) st plan is_reached p).is

  repeated_heard : (now : ℕ) (segment : Option Segment) (asked : Asked) (octets : List ℕ) (r : Record A) (st : ServerTsmState A) →
      remembered now asked.asker st.records ≡ Some r → request_heard segment now asked octets st ≡ plans (repeated now asked.way r)
  repeated_heard now None asked octets r st e = rw e refl
  repeated_heard now (Some s) asked octets r st e = rw e refl

  pub repeat_is_said_again : RepeatIsSaidAgain A
  repeat_is_said_again now id from segment limits service octets r st plan taken some p =
      let h : Heard = record { invoke_id = id; message = asks segment limits service octets } in
      let asked : Asked = asked_by from (asker_of from h) limits service in
      let is_reached : reached now from h st ≡ plans (repeated now from.way r) =
      heard_if (is_deaf now from.by_broadcast st) (request_heard segment now asked octets st) (not_deaf now from st taken)
      ∙ repeated_heard now segment asked octets r st some in
      (planned_by now (reached now from h st) (plans (repeated now from.way r)) st plan is_reached p).is

  -- a plan that executes nothing
  abbrev IsHarmless : ServerPlan A → Type 0
  IsHarmless plan = (plan.executed ≡ None) × ExecutesNothing plan.change

  pub remembered_is_not_executed : RememberedIsNotExecuted A
  remembered_is_not_executed now from h r st plan some p = holds_of_plan now from h st plan (λ x. IsHarmless x) (record {
    dropped = (refl, tt);
    answered = λ sending way x. (refl, tt);
    ended = λ x. (refl, tt);
    given_up = (refl, tt);
    gathers = λ says asked s octets a. (refl, tt);
    overflows = λ says asked a. (refl, tt);
    crowded = λ asked e. (refl, tt);
    rejected = λ says asked reason a. (refl, tt);
    full = λ says asked a e. (refl, tt);
    executed = λ says asked q a of none room. absurd (cc (sym none ∙ some));
  }) p

  pub answer_is_whole : AnswerIsWhole A
  unfolding answer_of
  answer_is_whole invoke request Done = refl
  answer_is_whole invoke request (Error class code) = refl
  answer_is_whole invoke request (ErrorAt class code object property index) = refl
  answer_is_whole invoke request (Values values) = refl
  answer_is_whole invoke request (Many results) = refl

pub ruleset repeat_rules = (repeat_is_said_again, remembered_is_not_executed)
