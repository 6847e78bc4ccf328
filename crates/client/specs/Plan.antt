-- What a client would do, before anything changes.
use Rattle.std.specs.Prelude.{◌≡◌, ℕ, true}
use Rattle.bindings.specs.Binding.{has_place, mark_refused, put_binding}
use Rattle.client_tsm.specs.Client.{committed}
use Rattle.client_tsm.specs.Planned as tsm
use Rattle.client.specs.Client.{ClientState}
use Rattle.client.specs.declared.plan.ClientChange.{ClientChange}
use Rattle.client.specs.declared.plan.ClientChange.TheVariants.{Stays, Refuses, Binds, Transacts}
use Rattle.client.specs.declared.plan.ClientIssued.{ClientIssued}
use Rattle.client.specs.declared.plan.ClientIssuePlan.{ClientIssuePlan}
use Rattle.client.specs.declared.plan.ClientPlan.{ClientPlan}
use Rattle.client.specs.ClientTold.{ClientTold}

-- what a plan says and tells
abbrev pub told_by : {A : Type 0} → ClientPlan A → ClientTold A
told_by p = record { said = p.said; outcomes = p.outcomes }

-- what comes of the plan of an issue
abbrev pub issued_by : {A : Type 0} → ClientIssuePlan A → ClientIssued A
issued_by p = record { invoke_id = p.invoke_id; said = p.plan.said }

-- the client as a change at this moment leaves it
abbrev pub left_of : {A : Type 0} → ℕ → ClientChange A → ClientState A → ClientState A
left_of now Stays c = c
left_of now (Refuses r) c = record c { bindings = mark_refused r.reason r.net c.bindings }
left_of now (Binds b) c = record c { bindings = put_binding b c.bindings }
left_of now (Transacts change) c = record c { machine = committed now change c.machine }

-- the client as a plan that is carried out at this moment leaves it
abbrev pub left_by : {A : Type 0} → ℕ → ClientPlan A → ClientState A → ClientState A
left_by now p c = left_of now p.change c

-- a change is one
abbrev pub ChangesSomething : {A : Type 0} → ClientChange A → Type 0
ChangesSomething Stays = ⊥
ChangesSomething change = Unit {0}

-- a change was planned at this moment in this state: a binding has a place, and what its client of transactions does
-- was planned by that
abbrev pub IsPlannedChange : {A : Type 0} → ℕ → ClientState A → ClientChange A → Type 0
IsPlannedChange now c (Binds b) = has_place b.instance c.bindings ≡ true
IsPlannedChange now c (Transacts change) = tsm.IsPlanned now c.machine change
IsPlannedChange now c change = Unit {0}

-- a plan was made at this moment in this state
abbrev pub IsPlanned : {A : Type 0} → ℕ → ClientState A → ClientPlan A → Type 0
IsPlanned now c p = IsPlannedChange now c p.change
