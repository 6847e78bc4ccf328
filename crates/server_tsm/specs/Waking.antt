-- What a server does when it wakes, one remembered answer after another in order of execution (5.4.5).
use Rattle.std.specs.Prelude.{ℕ, Bool, true, false, List, [], ◌∷◌, Option, Some, None}
use Rattle.std.specs.List.{flat_map, list_all}
use Rattle.server_answers.specs.remembered.Records.{lives, said_again}
use Rattle.server_answers.specs.remembered.declared.record.Record.{Record}
use Rattle.segments.specs.Sender.{SenderState, waits, wakes}
use Rattle.segments.specs.declared.step.Turn.{Turn}
use Rattle.segments.specs.declared.step.Turn.TheVariants.{Waits, Sends, Ends}
use Rattle.server_answers.specs.Answering.{answered_by}
use Rattle.server_answers.specs.Plan.{ServerPlan, Wakes}
use Rattle.server_answers.specs.declared.plan.Saying.{Saying}
use Rattle.server_answers.specs.declared.said.ServerSaid.{ServerSaid}

-- what goes on sending an answer says its window again, where it is due (5.4.5.4, Timeout)
abbrev pub turn_by : Option SenderState → ℕ → Turn
turn_by None now = Waits
turn_by (Some c) now = (wakes now c).turn

-- nothing of an answer is said once its record is dead
abbrev pub turn_where : (lives : Bool) → ℕ → Option SenderState → Turn
turn_where false now sending = Waits
turn_where true now sending = turn_by sending now

-- what is done with a remembered answer when the server wakes
abbrev pub turn_of : {A : Type 0} → ℕ → Record A → Turn
turn_of now r = turn_where (lives now r) now r.sending

-- what goes on sending it, once its window is said again
abbrev pub again : ℕ → Option SenderState → Option SenderState
again now None = None
again now (Some c) = Some (wakes now c).state

-- that an answer is said by this from now on, on its way
abbrev pub saying_by : {A : Type 0} → Option SenderState → Record A → Saying
saying_by sending r = record { asker = r.asker; way = r.way; sending = sending }

-- what is said of an answer at a turn (5.4.5.4)
abbrev pub said_at_turn : {A : Type 0} → Turn → ℕ → Record A → List (ServerSaid A)
said_at_turn Waits now r = []
said_at_turn Sends now r = answered_by (again now r.sending) r
said_at_turn Ends now r = []

-- what goes on sending an answer after a turn, where that changes (5.4.5.4)
abbrev pub saying_at_turn : {A : Type 0} → Turn → ℕ → Record A → List Saying
saying_at_turn Waits now r = []
saying_at_turn Sends now r = saying_by (again now r.sending) r ∷ []
saying_at_turn Ends now r = saying_by None r ∷ []

-- what is said of a remembered answer when the server wakes
abbrev pub said_on_wake : {A : Type 0} → ℕ → Record A → List (ServerSaid A)
said_on_wake now r = said_at_turn (turn_of now r) now r

-- what goes on sending a remembered answer once the server woke, where that changes
abbrev pub saying_on_wake : {A : Type 0} → ℕ → Record A → List Saying
saying_on_wake now r = saying_at_turn (turn_of now r) now r

-- nothing is due of any remembered answer: no window is said again, and no sending ends (5.4.5.4)
abbrev pub is_quiet : {A : Type 0} → ℕ → List (Record A) → Bool
is_quiet now rs = list_all (λ r. waits (turn_of now r)) rs

-- what is said of all and changed when the server wakes, in order of execution
abbrev pub woken : {A : Type 0} → ℕ → List (Record A) → ServerPlan A
woken now rs =
    record { said = flat_map (said_on_wake now) rs; executed = None; change = Wakes (flat_map (saying_on_wake now) rs) }

-- what is remembered after the answer to an asker is said so
abbrev pub after_saying : {A : Type 0} → Saying → List (Record A) → List (Record A)
after_saying x rs = said_again x.asker x.way x.sending rs

-- what is remembered after answers are said so, one after another
abbrev pub after_sayings : {A : Type 0} → List Saying → List (Record A) → List (Record A)
after_sayings [] rs = rs
after_sayings (x ∷ xs) rs = after_sayings xs (after_saying x rs)
