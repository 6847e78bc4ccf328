-- What a client does with an APDU that it hears (5.4.4).
use Rattle.std.specs.Prelude.{ℕ, ◌==◌, Bool, true, false, List, [], ◌∷◌, ◌++◌, Option, Some, None, slice_get, unwrap_or}
use Rattle.std.specs.List.{position_from}
use Rattle.apdu.specs.Apdu.{apdu_of, invoke_id_of}
use Rattle.apdu.specs.declared.apdu.Apdu.{Apdu}
use Rattle.apdu.specs.declared.apdu.Apdu.TheVariants as apdu
use Rattle.apdu.specs.declared.apdu.Segment.{Segment}
use Rattle.npdu.specs.declared.mac.Station.{Station}
use Rattle.primitives.specs.declared.plain_data.Reply.{Reply}
use Rattle.segments.specs.Sender.{SenderState, hears}
use Rattle.segments.specs.declared.step.Step.{Step}
use Rattle.segments.specs.declared.step.Step.TheVariants.{Taken, Nak, Dropped, Full}
use Rattle.segments.specs.declared.step.Turn.{Turn}
use Rattle.segments.specs.declared.step.Turn.TheVariants as turn
use Rattle.services.specs.Asked.{service_asked}
use Rattle.services.specs.Contents.{PlainAnswer, simple, complex, failed}
use Rattle.client_tsm.specs.Asking.{asked_by}
use Rattle.client_tsm.specs.Client.{ClientTsmState, gathered_at, receiver_of}
use Rattle.client_tsm.specs.Open.{Open, got_of, takes}
use Rattle.client_tsm.specs.declared.gathering.Gathering.{Gathering}
use Rattle.client_tsm.specs.declared.hearing.Taker.{Taker}
use Rattle.client_tsm.specs.declared.plan.ClientTsmChange.{ClientTsmChange}
use Rattle.client_tsm.specs.declared.plan.ClientTsmChange.TheVariants.{Stays, Sends, Gathers, Renews, Ends}
use Rattle.client_tsm.specs.declared.plan.Outcome.{Outcome}
use Rattle.client_tsm.specs.declared.plan.Outcome.TheVariants.{Answered, Aborted, Rejected, TimedOut}
use Rattle.client_tsm.specs.declared.plan.ClientTsmPlan.{ClientTsmPlan}
use Rattle.client_tsm.specs.declared.said.ClientSaid.{ClientSaid}
use Rattle.client_tsm.specs.declared.said.ClientSaid.TheVariants as said

-- what an APDU says to a client: an answer whole, or a segment of one, to a request of a service; that segments of the
-- request came; that the transaction ended so; or nothing (20.1)
pub data Message (A : Type 0) : Type 0 where
  answers : (service : ℕ) → PlainAnswer → Message A
  answers_in_part : (service : ℕ) → Segment → List ℕ → Message A
  acknowledges : (negative : Bool) → (number window : ℕ) → Message A
  closes : Outcome A → Message A
  nothing : Message A

-- what a client hears, under which invoke ID
pub record Heard (A : Type 0) : Type 0 where
  pub invoke_id : ℕ
  pub message : Message A

-- a ComplexACK is an answer whole, or a segment of one (20.1.5)
abbrev pub answer_heard : {A : Type 0} → Option Segment → ℕ → List ℕ → Message A
answer_heard None service octets = answers service (complex octets)
answer_heard (Some segment) service octets = answers_in_part service segment octets

-- only what a server says is for a client (20.1.6.2, 20.1.9.1)
abbrev pub of_server : {A : Type 0} → (server : Bool) → Message A → Message A
of_server true message = message
of_server false message = nothing

-- what an APDU says to a client: nothing where it is a request (20.1)
abbrev pub message_of : {A : Type 0} → Apdu → Message A
message_of (apdu.ConfirmedRequest segment accepted max_segments max_apdu invoke service octets) = nothing
message_of (apdu.UnconfirmedRequest service octets) = nothing
message_of (apdu.SimpleAck invoke service) = answers service simple
message_of (apdu.ComplexAck segment invoke service octets) = answer_heard segment service octets.now
message_of (apdu.SegmentAck negative server invoke number window) =
    of_server server (acknowledges negative number window)
message_of (apdu.Error invoke service e) = answers service (failed e.class e.code e.first_failed)
message_of (apdu.Reject invoke reason) = closes (Rejected reason)
message_of (apdu.Abort server invoke reason) = of_server server (closes (Aborted reason))

-- what an APDU says to a client; its invoke ID counts as 0 where it has none (20.1)
abbrev pub heard_of : {A : Type 0} → Apdu → Heard A
heard_of a = record { invoke_id = unwrap_or (invoke_id_of (apdu_of a)) 0; message = message_of a }

-- nothing is said or told, and this changes
abbrev pub quiet : {A : Type 0} → ClientTsmChange A → ClientTsmPlan A
quiet change = record { said = []; told = []; change = change }

-- an open transaction that takes what is heard at a moment, and its place among all
pub record Taking (A : Type 0) : Type 0 where
  pub moment : ℕ
  pub place : ℕ
  pub transaction : Open A

-- what takes in the code takes so
abbrev pub taking_of : {A : Type 0} → Taker A → Taking A
taking_of t = record { moment = t.moment; place = t.place; transaction = t.transaction.now }

-- the transaction ends so
abbrev pub closing : {A : Type 0} → List (ClientSaid A) → Taking A → Outcome A → ClientTsmPlan A
closing says t outcome =
    record {
      said = says;
      told = record { invoke_id = t.transaction.invoke_id; outcome = outcome } ∷ [];
      change = Ends t.place;
    }

-- a whole answer. says: what is said of its last segment; otherwise: what changes where it means no reply
pub record Whole (A : Type 0) : Type 0 where
  pub taking : Taking A
  pub contents : PlainAnswer
  pub says : List (ClientSaid A)
  pub otherwise : ClientTsmChange A

-- what an input comes to before any service data are read
pub data Reached (A : Type 0) : Type 0 where
  plans : ClientTsmPlan A → Reached A
  completes : Whole A → Reached A

-- the window of each SegmentACK of the answer: that of what gathers its segments (20.1.6.5)
abbrev pub window_for : {A : Type 0} → Open A → Segment → ℕ
window_for o s = (receiver_of o.gathering s.window).window

-- a SegmentACK of the answer (20.1.6)
abbrev pub ack_said : {A : Type 0} → (negative : Bool) → ℕ → Open A → Segment → ClientSaid A
ack_said negative number o s = said.SegmentAck o.way negative o.invoke_id number (window_for o s)

-- a SegmentACK, where one is due (5.4.4.4)
abbrev pub ack_if : {A : Type 0} → Option ℕ → Open A → Segment → List (ClientSaid A)
ack_if None o s = []
ack_if (Some number) o s = ack_said false number o s ∷ []

-- a segment that isn't taken renews the gathering, where there is one
abbrev pub renewed_if : {A : Type 0} → Option (Gathering A) → ℕ → ClientTsmChange A
renewed_if None place = Stays
renewed_if (Some g) place = Renews place

-- a segment of the answer came, and this is said (5.4.4.4)
abbrev pub gathered : {A : Type 0} → List (ClientSaid A) → Taking A → Segment → List ℕ → ClientTsmPlan A
gathered says t s octets = record { said = says; told = []; change = Gathers t.place s octets }

-- the octets of an answer, of which these are the last segment's (5.4.4.4)
abbrev pub whole_with : {A : Type 0} → List ℕ → Open A → List ℕ
whole_with octets o = got_of o.gathering ++ octets

-- a segment was taken: more follow, or the answer is whole (5.4.4.4)
abbrev pub taken_if : {A : Type 0} → (more : Bool) → List (ClientSaid A) → Taking A → Segment → List ℕ → Reached A
taken_if true says t s octets = plans (gathered says t s octets)
taken_if false says t s octets =
    completes (record {
      taking = t;
      contents = complex (whole_with octets t.transaction);
      says = says;
      otherwise = Renews t.place;
    })

-- a segment of the answer, by what the receiver does with it; one that would pass a limit ends the transaction
-- (5.4.4.4)
abbrev pub gathered_by : {A : Type 0} → Step → Taking A → Segment → List ℕ → Reached A
gathered_by (Taken ack) t s octets = taken_if s.more_follows (ack_if ack t.transaction s) t s octets
gathered_by (Nak number) t s octets = plans (gathered (ack_said true number t.transaction s ∷ []) t s octets)
gathered_by Dropped t s octets = plans (quiet (renewed_if t.transaction.gathering t.place))
gathered_by Full t s octets = plans (closing [] t TimedOut)

-- a segment of the answer (5.4.4.4)
abbrev pub part_heard : {A : Type 0} → Taking A → Segment → List ℕ → Reached A
part_heard t s octets = gathered_by (gathered_at t.moment t.transaction s octets).step t s octets

-- a SegmentACK of the request, by what the sender does on it (5.4.4.2)
abbrev pub turned_by : {A : Type 0} → Turn → Taking A → SenderState → ClientTsmPlan A
turned_by turn.Waits t c = quiet Stays
turned_by turn.Sends t c =
    record { said = asked_by (Some c) t.transaction; told = []; change = Sends t.place (Some c) }
turned_by turn.Ends t c = quiet (Sends t.place None)

-- a SegmentACK of the request: the next window is said, or all has come (5.4.4.2)
abbrev pub ack_heard : {A : Type 0} → Option SenderState → Taking A → Bool → ℕ → ℕ → ClientTsmPlan A
ack_heard None t negative number window = quiet Stays
ack_heard (Some c) t negative number window =
    turned_by (hears t.moment number window negative c).turn t (hears t.moment number window negative c).state

-- an answer in one APDU (5.4.4.3)
abbrev pub whole_heard : {A : Type 0} → Taking A → PlainAnswer → Reached A
whole_heard t contents = completes (record { taking = t; contents = contents; says = []; otherwise = Stays })

-- where a message has a service, it is the request's
abbrev pub is_asked : {A : Type 0} → Message A → Open A → Bool
is_asked (answers service contents) o = service == service_asked o.request
is_asked (answers_in_part service segment octets) o = service == service_asked o.request
is_asked (acknowledges negative number window) o = true
is_asked (closes outcome) o = true
is_asked nothing o = true

-- what such a message comes to
abbrev pub asked_told : {A : Type 0} → Taking A → Message A → Reached A
asked_told t (answers service contents) = whole_heard t contents
asked_told t (answers_in_part service segment octets) = part_heard t segment octets
asked_told t (acknowledges negative number window) =
    plans (ack_heard t.transaction.sending t negative number window)
asked_told t (closes outcome) = plans (closing [] t outcome)
asked_told t nothing = plans (quiet Stays)

-- an answer to another service than the request's is dropped
abbrev pub of_service : {A : Type 0} → (is_asked : Bool) → Reached A → Reached A
of_service true reached = reached
of_service false reached = plans (quiet Stays)

-- what a message comes to for the transaction that takes it
abbrev pub told_open : {A : Type 0} → Taking A → Message A → Reached A
told_open t message = of_service (is_asked message t.transaction) (asked_told t message)

-- what a message comes to for the transaction at this place, if there is one
abbrev pub told_at : {A : Type 0} → Option (Open A) → ℕ → ℕ → Message A → Reached A
told_at None now place message = plans (quiet Stays)
told_at (Some o) now place message = told_open (record { moment = now; place = place; transaction = o }) message

-- what a message comes to for these transactions, where a place among them was found or not
abbrev pub told_where : {A : Type 0} → Option ℕ → ℕ → Message A → List (Open A) → Reached A
told_where None now message os = plans (quiet Stays)
told_where (Some place) now message os = told_at (slice_get os place) now place message

-- the place of the first transaction that takes what this station says under this invoke ID
abbrev pub place_of : {A : Type 0} → ℕ → Station → ℕ → List (Open A) → Option ℕ
place_of now from id os = position_from (takes now from id) 0 os

-- the half of the step that needs no service data
abbrev pub reached : {A : Type 0} → ℕ → Station → Heard A → ClientTsmState A → Reached A
reached now from h st = told_where (place_of now from h.invoke_id st.open_ones) now h.message st.open_ones

-- an answer gives the reply that it means and ends the transaction; one that means none is dropped
abbrev pub answered_by : {A : Type 0} → Option (Reply A) → Whole A → ClientTsmPlan A
answered_by None w = record { said = w.says; told = []; change = w.otherwise }
answered_by (Some reply) w = closing w.says w.taking (Answered reply)

-- the other half of the step: what is planned, where this is what a whole answer means
abbrev pub finished : {A : Type 0} → Reached A → Option (Reply A) → ClientTsmPlan A
finished (plans plan) found = plan
finished (completes w) found = answered_by found w
