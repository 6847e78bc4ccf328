-- What a client does when it wakes, one transaction after another in order of issue (5.4.4).
use Rattle.std.specs.Prelude.{ℕ, suc, ◌-◌, ◌&&◌, nat_le, nat_lt, Bool, true, false, List, [], ◌∷◌, length, Option, Some}
use Rattle.std.specs.Prelude.{None}
use Rattle.std.specs.List.{flat_map, list_all}
use Rattle.segments.specs.Sender.{SenderState, waits, wakes}
use Rattle.profile.specs.Limits.{NUMBER_OF_APDU_RETRIES}
use Rattle.profile.specs.Times.{APDU_TIMEOUT_MS}
use Rattle.segments.specs.declared.step.Turn.{Turn}
use Rattle.segments.specs.declared.step.Turn.TheVariants.{Waits, Sends, Ends}
use Rattle.services.specs.Asked.{request_octets}
use Rattle.client_tsm.specs.Asking.{asked_by}
use Rattle.bindings.specs.Limits.{begun}
use Rattle.client_tsm.specs.Open.{Open, goes_on}
use Rattle.client_tsm.specs.declared.gathering.Gathering.{Gathering}
use Rattle.client_tsm.specs.declared.plan.ClientTsmChange.TheVariants.{Wakes}
use Rattle.client_tsm.specs.declared.plan.Outcome.TheVariants.{TimedOut}
use Rattle.client_tsm.specs.declared.plan.ClientTsmPlan.{ClientTsmPlan}
use Rattle.client_tsm.specs.declared.plan.TransactionOutcome.{TransactionOutcome}
use Rattle.client_tsm.specs.declared.said.ClientSaid.{ClientSaid}

-- no answer came in time, and the request may be said again (5.4.4.3, Timeout)
abbrev pub is_overdue : {A : Type 0} → ℕ → Open A → Bool
is_overdue now o = nat_le APDU_TIMEOUT_MS (now - o.sent) && nat_lt o.repeats NUMBER_OF_APDU_RETRIES

-- it is said again, or waits
abbrev pub turn_if : (is_overdue : Bool) → Turn
turn_if true = Sends
turn_if false = Waits

-- nothing is said again while an answer is gathered (5.4.4.4); else a window, or the request from its beginning
abbrev pub turn_by : {A : Type 0} → Option (Gathering A) → Option SenderState → ℕ → Open A → Turn
turn_by (Some g) sending now o = Waits
turn_by None (Some c) now o = (wakes now c).turn
turn_by None None now o = turn_if (is_overdue now o)

-- one that has its end ends
abbrev pub turn_where : {A : Type 0} → (goes_on : Bool) → ℕ → Open A → Turn
turn_where false now o = Ends
turn_where true now o = turn_by o.gathering o.sending now o

-- what a transaction does when the client wakes
abbrev pub turn_of : {A : Type 0} → ℕ → Open A → Turn
turn_of now o = turn_where (goes_on now o) now o

-- a transaction that is said again, by what goes on sending it (5.4.4.2, 5.4.4.3)
abbrev pub again_by : {A : Type 0} → Option SenderState → ℕ → Open A → Open A
again_by (Some c) now o = record o { sent = now; sending = Some (wakes now c).state }
again_by None now o =
    record o {
      sent = now;
      repeats = suc o.repeats;
      sending = begun now o.max_apdu (length (request_octets o.request));
    }

-- the transaction that is said again: its window, or it from its beginning, which counts as a repeat (5.4.4.2, 5.4.4.3)
abbrev pub again : {A : Type 0} → ℕ → Open A → Open A
again now o = again_by o.sending now o

-- what is said of a transaction at a turn (5.4.4.2, 5.4.4.3)
abbrev pub said_by : {A : Type 0} → Turn → ℕ → Open A → List (ClientSaid A)
said_by Waits now o = []
said_by Sends now o = asked_by (again now o).sending o
said_by Ends now o = []

-- what is told of a transaction at a turn: only its end (5.4.4)
abbrev pub told_by : {A : Type 0} → Turn → Open A → List (TransactionOutcome A)
told_by Waits o = []
told_by Sends o = []
told_by Ends o = record { invoke_id = o.invoke_id; outcome = TimedOut } ∷ []

-- what is left of a transaction at a turn (5.4.4)
abbrev pub left_by : {A : Type 0} → Turn → ℕ → Open A → List (Open A)
left_by Waits now o = o ∷ []
left_by Sends now o = again now o ∷ []
left_by Ends now o = []

-- what a transaction says when the client wakes
abbrev pub said_of : {A : Type 0} → ℕ → Open A → List (ClientSaid A)
said_of now o = said_by (turn_of now o) now o

-- what is told of a transaction when the client wakes
abbrev pub told_of : {A : Type 0} → ℕ → Open A → List (TransactionOutcome A)
told_of now o = told_by (turn_of now o) o

-- what is left of a transaction when the client wakes
abbrev pub left_of : {A : Type 0} → ℕ → Open A → List (Open A)
left_of now o = left_by (turn_of now o) now o

-- what is left of all transactions when the client wakes
abbrev pub all_left : {A : Type 0} → ℕ → List (Open A) → List (Open A)
all_left now os = flat_map (left_of now) os

-- nothing is due of any transaction: none is said again, and none ends (5.4.4)
abbrev pub is_quiet : {A : Type 0} → ℕ → List (Open A) → Bool
is_quiet now os = list_all (λ o. waits (turn_of now o)) os

-- what is said, told and left of all when the client wakes, in order of issue
abbrev pub woken : {A : Type 0} → ℕ → List (Open A) → ClientTsmPlan A
woken now os = record { said = flat_map (said_of now) os; told = flat_map (told_of now) os; change = Wakes }
