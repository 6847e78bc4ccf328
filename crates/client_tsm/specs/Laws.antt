-- What holds of any client: what is told of it, and when an answer counts (5.4.1, 5.4.4).
use Rattle.std.specs.Prelude.{◌≡◌, ◌⊎◌, ℕ, ◌+◌, ◌<◌, true, false, List, [], ◌∷◌, length, Option, Some, slice_get}
use Rattle.std.specs.List.{AllByRecursion, flat_map}
use Rattle.npdu.specs.declared.mac.Station.{Station}
use Rattle.profile.specs.Times.{DEADLINE_MS}
use Rattle.segments.specs.declared.step.Step.TheVariants.{Full, Taken}
use Rattle.services.specs.Asked.{service_asked}
use Rattle.services.specs.Contents.{complex, MeansReply}
use Rattle.client_tsm.specs.Client.{AreApart, ClientTsmState, committed, gathered_at}
use Rattle.client_tsm.specs.Hearing.{Message, answers, answers_in_part, acknowledges, closes, nothing, Heard, quiet}
use Rattle.client_tsm.specs.Hearing.{whole_with}
use Rattle.client_tsm.specs.Open.{Open, goes_on}
use Rattle.client_tsm.specs.Planned.{IsPlanned}
use Rattle.client_tsm.specs.Steps.{IsPlan}
use Rattle.client_tsm.specs.Waking.{left_of, told_of}
use Rattle.client_tsm.specs.declared.plan.ClientTsmChange.{ClientTsmChange}
use Rattle.client_tsm.specs.declared.plan.ClientTsmChange.TheVariants.{Stays, Ends}
use Rattle.client_tsm.specs.declared.plan.Outcome.{Outcome}
use Rattle.client_tsm.specs.declared.plan.Outcome.TheVariants.{Answered, TimedOut}
use Rattle.client_tsm.specs.declared.plan.ClientTsmPlan.{ClientTsmPlan}
use Rattle.client_tsm.specs.declared.plan.TransactionOutcome.{TransactionOutcome}

-- where a message has a service, it is that of the request (20.1.4, 20.1.5, 20.1.7)
abbrev pub HasService : {A : Type 0} → Message A → Open A → Type 0
HasService (answers service contents) o = service ≡ service_asked o.request
HasService (answers_in_part service segment octets) o = service ≡ service_asked o.request
HasService (acknowledges negative number window) o = Unit {0}
HasService (closes outcome) o = Unit {0}
HasService nothing o = Unit {0}

-- what is heard counts for a transaction that is open: it is addressed to the station heard, under the invoke ID and of
-- the service that were heard; it is before the deadline, and before its end (5.4.1, 5.4.4)
pub record IsCounted {A : Type 0} (now : ℕ) (from : Station) (h : Heard A) (st : ClientTsmState A) (place : ℕ)
    (o : Open A) : Type 0 where
  pub there : slice_get st.open_ones place ≡ Some o
  pub id : o.invoke_id ≡ h.invoke_id
  pub station : o.station ≡ from
  pub service : HasService h.message o
  pub early : now < o.at + DEADLINE_MS
  pub living : goes_on now o ≡ true

-- this is the outcome that was heard of a transaction: the reply that an answer means, whole or, where its last segment
-- is taken, by its segments together; an end that was said; or a time-out, where a segment would pass a limit (5.4.4)
abbrev pub IsOutcome : {A : Type 0} → ℕ → Message A → Open A → Outcome A → Type 0
IsOutcome now (answers service contents) o (Answered reply) = MeansReply o.request contents reply
IsOutcome now (answers_in_part service segment octets) o (Answered reply) =
    ((ack : Option ℕ) × ((gathered_at now o segment octets).step ≡ Taken ack)) × (segment.more_follows ≡ false)
    × MeansReply o.request (complex (whole_with octets o)) reply
IsOutcome now (answers_in_part service segment octets) o TimedOut = (gathered_at now o segment octets).step ≡ Full
IsOutcome now (closes said) o outcome = outcome ≡ said
IsOutcome now message o outcome = ⊥

-- what is told is one outcome, that was heard of a transaction for which it counts, and which ends
pub record IsTold {A : Type 0} (now : ℕ) (from : Station) (h : Heard A) (st : ClientTsmState A)
    (plan : ClientTsmPlan A) : Type 0 where
  pub place : ℕ
  pub transaction : Open A
  pub counted : IsCounted now from h st place transaction
  pub outcome : Outcome A
  pub heard : IsOutcome now h.message transaction outcome
  pub told : plan.told ≡ record { invoke_id = transaction.invoke_id; outcome = outcome } ∷ []
  pub ends : plan.change ≡ Ends place

-- what is heard counts for a transaction, or nothing is said, told or changed
abbrev pub CountsOrNothing : Type 0 → Type 0
CountsOrNothing A = (now : ℕ) (from : Station) (h : Heard A) (st : ClientTsmState A) (plan : ClientTsmPlan A) →
    IsPlan now from h st plan →
    (plan ≡ quiet Stays) ⊎ ((place : ℕ) × (o : Open A) × IsCounted now from h st place o)

-- nothing is told, or one outcome of an open transaction that takes what is heard, which it closes
abbrev pub ToldIsOpen : Type 0 → Type 0
ToldIsOpen A = (now : ℕ) (from : Station) (h : Heard A) (st : ClientTsmState A) (plan : ClientTsmPlan A) →
    IsPlan now from h st plan → (plan.told ≡ []) ⊎ IsTold now from h st plan

-- an outcome of a transaction for which what is heard counts is told: a reply, whole or by its segments, is given;
-- nothing else is told, and the transaction ends. No other transaction has its invoke ID
abbrev pub CountedIsTold : Type 0 → Type 0
CountedIsTold A = (now : ℕ) (from : Station) (h : Heard A) (st : ClientTsmState A) (plan : ClientTsmPlan A) (place : ℕ)
    (o : Open A) (outcome : Outcome A) → AreApart st.open_ones → IsCounted now from h st place o →
    IsOutcome now h.message o outcome → IsPlan now from h st plan →
    (plan.told ≡ record { invoke_id = o.invoke_id; outcome = outcome } ∷ []) × (plan.change ≡ Ends place)

-- what is heard is planned in one way
abbrev pub OnePlan : Type 0 → Type 0
OnePlan A = (now : ℕ) (from : Station) (h : Heard A) (st : ClientTsmState A) (x y : ClientTsmPlan A) →
    IsPlan now from h st x → IsPlan now from h st y → x ≡ y

-- a change that was planned keeps the invoke IDs of the open transactions apart (5.4.1)
abbrev pub PlannedKeepApart : Type 0 → Type 0
PlannedKeepApart A = (now : ℕ) (st : ClientTsmState A) (change : ClientTsmChange A) → IsPlanned now st change →
    AreApart st.open_ones → AreApart (committed now change st).open_ones

-- what is told at a wake: a transaction that was open, and has its end, is timed out
pub record IsEnded {A : Type 0} (now : ℕ) (os : List (Open A)) (t : TransactionOutcome A) : Type 0 where
  pub place : ℕ
  pub transaction : Open A
  pub there : slice_get os place ≡ Some transaction
  pub dead : goes_on now transaction ≡ false
  pub is : t ≡ record { invoke_id = transaction.invoke_id; outcome = TimedOut }

-- at a wake only ends are told
abbrev pub WokenAreEnded : Type 0 → Type 0
WokenAreEnded A = (now : ℕ) (os : List (Open A)) → AllByRecursion (IsEnded now os) (flat_map (told_of now) os)

-- at a wake each transaction is told or left, and not both
abbrev pub ToldOrLeft : Type 0 → Type 0
ToldOrLeft A = (now : ℕ) (o : Open A) → length (told_of now o) + length (left_of now o) ≡ 1
