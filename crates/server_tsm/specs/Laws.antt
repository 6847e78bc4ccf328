-- What holds of any server: what is executed, said again, and refused (5.4.5).
use Rattle.std.specs.Prelude.{◌≡◌, ◌≤◌, ◌<◌, ◌⊎◌, ℕ, Bool, true, false, List, [], length, filter, Option, Some, None}
use Rattle.std.specs.Prelude.{slice_get}
use Rattle.std.specs.List.{AllByRecursion}
use Rattle.apdu.specs.ApduWriting.{canonical}
use Rattle.apdu.specs.declared.apdu.Segment.{Segment}
use Rattle.apdu.specs.declared.numbers.AbortReason.TheVariants.{BufferOverflow, OutOfResources}
use Rattle.apdu.specs.declared.numbers.AbortReason.TheVariants.{SegmentationNotSupported}
use Rattle.npdu.specs.declared.mac.Way.{Way}
use Rattle.primitives.specs.declared.plain_data.Reply.{Reply}
use Rattle.primitives.specs.declared.plain_data.Request.{Request}
use Rattle.server_answers.specs.remembered.Records.{lives, remembered}
use Rattle.server_answers.specs.remembered.declared.record.Record.{Record}
use Rattle.server_answers.specs.remembered.declared.record.RememberedAnswer.{RememberedAnswer}
use Rattle.server_answers.specs.remembered.declared.record.RememberedAnswer.TheVariants as kept
use Rattle.segments.specs.Sender.{SenderState}
use Rattle.segments.specs.Receiver.{joins}
use Rattle.segments.specs.declared.step.Step.TheVariants.{Taken}
use Rattle.profile.specs.Limits.{MAX_GATHERINGS, MAX_REMEMBERED, MAX_SERVICE_DATA_OCTETS}
use Rattle.server_answers.specs.services.Asked.{replied}
use Rattle.server_answers.specs.services.Request.{SpellsRequest}
use Rattle.server_answers.specs.Answering.{answer_apdu, answer_of, answered_by, number_of}
use Rattle.server_answers.specs.Plan.{quiet, ServerChange, ServerPlan, Stays, GivesUp, Executes}
use Rattle.server_tsm.specs.Hearing.{Heard, aborting, asks, acknowledges, ack_if, asked_by, asked_on, asker_of}
use Rattle.server_tsm.specs.Hearing.{executing, is_deaf, repeated}
use Rattle.server_answers.specs.Said.{answer_octets}
use Rattle.server_answers.specs.Gathering.{gathering_of, gathers_still}
use Rattle.server_tsm.specs.Server.{AreKept, AreTimely, ServerTsmState, committed}
use Rattle.server_tsm.specs.Steps.{IsPlan, IsPlanned}
use Rattle.server_tsm.specs.Waking.{woken}
use Rattle.server_answers.specs.declared.asked.AnswerLimits.{AnswerLimits}
use Rattle.server_answers.specs.declared.asked.Origin.{Origin}
use Rattle.server_answers.specs.declared.gathering.RequestGathering.{RequestGathering}
use Rattle.server_answers.specs.declared.said.ServerSaid.{ServerSaid}
use Rattle.server_answers.specs.declared.said.ServerSaid.TheVariants as said

-- the answers that live
abbrev pub living_records : {A : Type 0} → ℕ → ServerTsmState A → ℕ
living_records now st = length (filter (lives now) st.records)

-- the requests that are still gathered
abbrev pub living_gatherings : {A : Type 0} → ℕ → ServerTsmState A → ℕ
living_gatherings now st = length (filter (gathers_still now) st.gatherings)

-- it hears a request from a station alone, outside the quiet time (5.4)
pub record IsTaken {A : Type 0} (now : ℕ) (from : Origin) (st : ServerTsmState A) : Type 0 where
  pub alone : from.by_broadcast ≡ false
  pub quiet_over : st.quiet_until ≤ now

-- a whole request that means one, of which no answer is remembered, and for whose answer there is a place, is executed
-- and its answer said (5.4.5.1)
abbrev pub WholeIsExecuted : Type 0 → Type 0
WholeIsExecuted A = (now id : ℕ) (from : Origin) (limits : AnswerLimits) (service : ℕ) (octets : List ℕ)
    (request : Request A) (st : ServerTsmState A) (plan : ServerPlan A) →
    let h : Heard = record { invoke_id = id; message = asks None limits service octets } in
    IsTaken now from st → AreTimely st.moment st.records → remembered now (asker_of from h) st.records ≡ None →
    living_records now st < MAX_REMEMBERED → length octets ≤ MAX_SERVICE_DATA_OCTETS →
    SpellsRequest service octets request → IsPlan now from h st plan →
    plan ≡ executing now [] (asked_by from (asker_of from h) limits service) request (replied st.table request) st

-- a request whose last segment is taken, which its segments together mean, is executed and its answer said, behind the
-- SegmentACK that is due, where no answer is remembered and there is a place for one
-- (5.4.5.2)
abbrev pub JoinedIsExecuted : Type 0 → Type 0
JoinedIsExecuted A = (now id : ℕ) (from : Origin) (segment : Segment) (limits : AnswerLimits) (octets : List ℕ)
    (a : RequestGathering A) (ack : Option ℕ) (request : Request A) (st : ServerTsmState A) (plan : ServerPlan A) →
    let h : Heard = record { invoke_id = id; message = asks (Some segment) limits a.asked.service octets } in
    let x = joins now segment.sequence_number segment.more_follows octets a.receiver in
    let asked = asked_on from.way a in
    IsTaken now from st → AreTimely st.moment st.records → remembered now (asker_of from h) st.records ≡ None →
    gathering_of now (asker_of from h) st.gatherings ≡ Some a → segment.more_follows ≡ false → x.step ≡ Taken ack →
    living_records now st < MAX_REMEMBERED → length x.state.octets ≤ MAX_SERVICE_DATA_OCTETS →
    SpellsRequest a.asked.service x.state.octets request → IsPlan now from h st plan →
    plan ≡ executing now (ack_if ack x.state.window asked) asked request (replied st.table request) st

-- a request that came by a broadcast, or before the end of the quiet time, comes to nothing (5.4)
abbrev pub DeafDoesNothing : Type 0 → Type 0
DeafDoesNothing A = (now id : ℕ) (from : Origin) (segment : Option Segment) (limits : AnswerLimits) (service : ℕ)
    (octets : List ℕ) (st : ServerTsmState A) (plan : ServerPlan A) → is_deaf now from.by_broadcast st ≡ true →
    IsPlan now from (record { invoke_id = id; message = asks segment limits service octets }) st plan →
    plan ≡ quiet Stays

-- of a request, or a segment of one, whose answer is remembered, that is said again on the way of what was heard,
-- unless segments of it are being said (5.4.5.1)
abbrev pub RepeatIsSaidAgain : Type 0 → Type 0
RepeatIsSaidAgain A = (now id : ℕ) (from : Origin) (segment : Option Segment) (limits : AnswerLimits) (service : ℕ)
    (octets : List ℕ) (r : Record A) (st : ServerTsmState A) (plan : ServerPlan A) →
    let h : Heard = record { invoke_id = id; message = asks segment limits service octets } in
    IsTaken now from st → remembered now (asker_of from h) st.records ≡ Some r → IsPlan now from h st plan →
    plan ≡ repeated now from.way r

-- nothing is executed
abbrev pub ExecutesNothing : {A : Type 0} → ServerChange A → Type 0
ExecutesNothing (Executes request r) = ⊥
ExecutesNothing change = Unit {0}

-- where an answer is remembered, nothing is executed, whatever is heard of its asker (5.4.5.1)
abbrev pub RememberedIsNotExecuted : Type 0 → Type 0
RememberedIsNotExecuted A = (now : ℕ) (from : Origin) (h : Heard) (r : Record A) (st : ServerTsmState A)
    (plan : ServerPlan A) → remembered now (asker_of from h) st.records ≡ Some r → IsPlan now from h st plan →
    (plan.executed ≡ None) × ExecutesNothing plan.change

-- an Abort that is remembered in place of an answer has one of two reasons (5.4.5.3)
abbrev pub IsFitted : {A : Type 0} → RememberedAnswer A → Type 0
IsFitted (kept.Abort reason) = (reason ≡ BufferOverflow) ⊎ (reason ≡ SegmentationNotSupported)
IsFitted answer = Unit {0}

-- what is executed is remembered with such an answer
abbrev pub RemembersFitted : {A : Type 0} → ServerChange A → Type 0
RemembersFitted (Executes request r) = IsFitted r.answer
RemembersFitted change = Unit {0}

-- no Abort but these is ever remembered: an Abort for want of resources is no answer (5.4.5.3)
abbrev pub ExecutedIsFitted : Type 0 → Type 0
ExecutedIsFitted A = (now : ℕ) (from : Origin) (h : Heard) (st : ServerTsmState A) (plan : ServerPlan A) →
    IsPlan now from h st plan → RemembersFitted plan.change

-- a request is aborted for want of resources only where so many answers live, or so many requests are gathered
-- (5.4.5.1)
abbrev pub BusyIsFull : Type 0 → Type 0
BusyIsFull A = (now : ℕ) (from : Origin) (h : Heard) (st : ServerTsmState A) (plan : ServerPlan A) (place id : ℕ)
    (way : Way) → AreTimely st.moment st.records → IsPlan now from h st plan →
    slice_get plan.said place ≡ Some (said.Abort way id OutOfResources) →
    (MAX_REMEMBERED ≤ living_records now st) ⊎ (MAX_GATHERINGS ≤ living_gatherings now st)

-- this is said of an answer that lives
pub record IsSaidOfLiving {A : Type 0} (now : ℕ) (rs : List (Record A)) (s : ServerSaid A) : Type 0 where
  pub r : Record A
  pub k : ℕ
  pub there : slice_get rs k ≡ Some r
  pub living : lives now r ≡ true
  pub sending : Option SenderState
  pub place : ℕ
  pub is : slice_get (answered_by sending r) place ≡ Some s

-- when the server wakes, each thing said is of an answer that lives (5.4.5.4)
abbrev pub WokenLive : Type 0 → Type 0
WokenLive A = (now : ℕ) (rs : List (Record A)) → AllByRecursion (IsSaidOfLiving now rs) (woken now rs).said

-- a SegmentACK of an answer that isn't remembered, or is dead, comes to nothing (5.4.5.4)
abbrev pub AckOfDeadIsDropped : Type 0 → Type 0
AckOfDeadIsDropped A = (now id number window : ℕ) (negative : Bool) (from : Origin) (st : ServerTsmState A)
    (plan : ServerPlan A) → let h : Heard = record { invoke_id = id; message = acknowledges negative number window } in
    remembered now (asker_of from h) st.records ≡ None → IsPlan now from h st plan → plan ≡ quiet Stays

-- what is heard is planned in one way
abbrev pub OnePlan : Type 0 → Type 0
OnePlan A = (now : ℕ) (from : Origin) (h : Heard) (st : ServerTsmState A) (x y : ServerPlan A) →
    IsPlan now from h st x → IsPlan now from h st y → x ≡ y

-- what is remembered stays in order of execution, and none of it is executed later than the moment
abbrev pub StaysTimely : Type 0 → Type 0
StaysTimely A = (now : ℕ) (change : ServerChange A) (st : ServerTsmState A) → st.moment ≤ now →
    AreTimely st.moment st.records →
    AreTimely (committed now change st).moment (committed now change st).records

-- a planned change keeps what a server promises of what it remembers
abbrev pub PlannedStaysKept : Type 0 → Type 0
PlannedStaysKept A = (now : ℕ) (st : ServerTsmState A) (plan : ServerPlan A) → IsPlanned now st plan → st.moment ≤ now →
    AreKept st.moment st.records →
    AreKept (committed now plan.change st).moment (committed now plan.change st).records

-- where MAX_REMEMBERED answers live, a whole request that means one, of which no answer is remembered, is aborted for
-- want of resources; nothing else is said, and nothing executed (5.4.5.1)
abbrev pub FullIsAborted : Type 0 → Type 0
FullIsAborted A = (now id : ℕ) (from : Origin) (limits : AnswerLimits) (service : ℕ) (octets : List ℕ)
    (request : Request A) (st : ServerTsmState A) (plan : ServerPlan A) →
    let h : Heard = record { invoke_id = id; message = asks None limits service octets } in
    let asked = asked_by from (asker_of from h) limits service in
    IsTaken now from st → AreKept st.moment st.records → remembered now asked.asker st.records ≡ None →
    MAX_REMEMBERED ≤ living_records now st → length octets ≤ MAX_SERVICE_DATA_OCTETS →
    SpellsRequest service octets request → IsPlan now from h st plan →
    plan ≡ aborting [] OutOfResources asked (GivesUp asked.asker)

-- the octets of the answer with a reply, whole, are those of the APDU that answers with it (20.1)
abbrev pub AnswerIsWhole : Type 0 → Type 0
AnswerIsWhole A = (invoke : ℕ) (request : Request A) (reply : Reply A) →
    answer_octets invoke (number_of request) (answer_of request reply) ≡ canonical (answer_apdu invoke request reply)
