-- What is planned for an APDU that is heard: a function of what its service data mean (5.4.4).
use Rattle.std.specs.Prelude.{◌≡◌, ℕ, Option, Some, None}
use Rattle.npdu.specs.declared.mac.Station.{Station}
use Rattle.primitives.specs.declared.plain_data.Reply.{Reply}
use Rattle.primitives.specs.declared.plain_data.Request.{Request}
use Rattle.services.specs.Contents.{PlainAnswer, MeansReply}
use Rattle.client_tsm.specs.Client.{ClientTsmState, committed}
use Rattle.client_tsm.specs.Hearing.{Heard, Reached, plans, completes, reached, finished}
use Rattle.client_tsm.specs.declared.plan.ClientTsmTold.{ClientTsmTold}
use Rattle.client_tsm.specs.declared.plan.ClientTsmPlan.{ClientTsmPlan}

-- contents mean no reply to the request (15, 20.1)
pub record MeansNothing {A : Type 0} (request : Request A) (contents : PlainAnswer) : Type 0 where
  pub none : (reply : Reply A) → MeansReply request contents reply → ⊥

-- this is what contents mean to a request: a reply, or none (15, 20.1)
abbrev pub IsMeant : {A : Type 0} → Request A → PlainAnswer → Option (Reply A) → Type 0
IsMeant request contents None = MeansNothing request contents
IsMeant request contents (Some reply) = MeansReply request contents reply

-- this is what was found in a whole answer, where there is one
abbrev pub IsFound : {A : Type 0} → Reached A → Option (Reply A) → Type 0
IsFound (plans plan) found = found ≡ None
IsFound (completes w) found = IsMeant w.taking.transaction.request w.contents found

-- the plan is what an input comes to, with what was found in a whole answer
pub record IsFinished {A : Type 0} (r : Reached A) (plan : ClientTsmPlan A) : Type 0 where
  pub found : Option (Reply A)
  pub means : IsFound r found
  pub is : plan ≡ finished r found

-- the plan is that of the client, for what this station says to it at this moment
abbrev pub IsPlan : {A : Type 0} → ℕ → Station → Heard A → ClientTsmState A → ClientTsmPlan A → Type 0
IsPlan now from h st plan = IsFinished (reached now from h st) plan

-- what is said and told of a plan
abbrev pub told_of_plan : {A : Type 0} → ClientTsmPlan A → ClientTsmTold A
told_of_plan plan = record { said = plan.said; told = plan.told }

-- this is what the client says and tells, and what it leaves, where this station says that to it at this moment
pub record IsStep {A : Type 0} (now : ℕ) (from : Station) (h : Heard A) (st : ClientTsmState A)
    (told : ClientTsmTold A) (left : ClientTsmState A) : Type 0 where
  pub plan : ClientTsmPlan A
  pub planned : IsPlan now from h st plan
  pub told_is : told ≡ told_of_plan plan
  pub left_is : left ≡ committed now plan.change st
