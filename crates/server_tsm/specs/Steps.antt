-- What is planned for an APDU that is heard: a function of what its service data mean (5.4.5).
use Rattle.std.specs.Prelude.{◌≡◌, ℕ, List, Option, Some, None, Result, Ok, Err}
use Rattle.apdu.specs.declared.numbers.RejectReason.{RejectReason}
use Rattle.primitives.specs.declared.plain_data.Request.{Request}
use Rattle.server_answers.specs.services.Request.{RejectsRequest, SpellsRequest}
use Rattle.server_tsm.specs.Hearing.{Heard, Reached, Whole, plans, completes, reached, finished}
use Rattle.server_answers.specs.Plan.{ServerPlan}
use Rattle.server_tsm.specs.Server.{ServerTsmState, committed}
use Rattle.server_tsm.specs.Waking.{woken}
use Rattle.server_answers.specs.declared.asked.Origin.{Origin}
use Rattle.server_answers.specs.ServerTold.{ServerTold}

-- this is what service data mean: a request, or why they are rejected (15, 18.9)
abbrev pub Means : (A : Type 0) → (service : ℕ) → List ℕ → Result (Request A) RejectReason → Type 0
Means A service octets (Ok request) = SpellsRequest service octets request
Means A service octets (Err reason) = RejectsRequest A reason service octets

-- this is what the service data of a whole request mean, where something was found in them
abbrev pub IsMeant : {A : Type 0} → Whole A → Option (Result (Request A) RejectReason) → Type 0
IsMeant w None = ⊥
IsMeant {A} w (Some found) = Means A w.asked.service w.octets found

-- this is what was found in a whole request, where there is one
abbrev pub IsFound : {A : Type 0} → Reached A → Option (Result (Request A) RejectReason) → Type 0
IsFound (plans plan) found = found ≡ None
IsFound (completes w) found = IsMeant w found

-- the plan is what an input comes to, with what was found in a whole request
pub record IsFinished {A : Type 0} (now : ℕ) (r : Reached A) (st : ServerTsmState A) (plan : ServerPlan A) :
    Type 0 where
  pub found : Option (Result (Request A) RejectReason)
  pub means : IsFound r found
  pub is : plan ≡ finished now r found st

-- the plan is that of the server, for what it hears from there at this moment
abbrev pub IsPlan : {A : Type 0} → ℕ → Origin → Heard → ServerTsmState A → ServerPlan A → Type 0
IsPlan now from h st plan = IsFinished now (reached now from h st) st plan

-- the plan is that of the server at this moment: for what it hears, or for a wake (5.4.5)
pub data IsPlanned {A : Type 0} (now : ℕ) (st : ServerTsmState A) (plan : ServerPlan A) : Type 0 where
  on_heard : (from : Origin) (h : Heard) → IsPlan now from h st plan → IsPlanned now st plan
  on_wake : plan ≡ woken now st.records → IsPlanned now st plan

-- what is said and executed of a plan
abbrev pub told_of_plan : {A : Type 0} → ServerPlan A → ServerTold A
told_of_plan plan = record { said = plan.said; executed = plan.executed }

-- this is what the server says and executes, and what it leaves, where it hears that from there at this moment
pub record IsStep {A : Type 0} (now : ℕ) (from : Origin) (h : Heard) (st : ServerTsmState A)
    (server_told : ServerTold A) (left : ServerTsmState A) : Type 0 where
  pub plan : ServerPlan A
  pub planned : IsPlan now from h st plan
  pub told_is : server_told ≡ told_of_plan plan
  pub left_is : left ≡ committed now plan.change st
