-- What a client does at an issue (5.4.4.1).
use Rattle.std.specs.Prelude.{◌≡◌, ℕ, Bool, true, false, Option, Some, None}
use Rattle.client_tsm.specs.Client.{ClientTsmState, committed}
use Rattle.client_tsm.specs.Issuing.{issued}
use Rattle.client_tsm.specs.Issuing as tsm
use Rattle.bindings.specs.declared.bound.Bound.{Bound}
use Rattle.primitives.specs.declared.plain_data.Request.{Request}
use Rattle.tags.specs.declared.fault.Fault.{Fault}
use Rattle.tags.specs.declared.fault.Fault.TheVariants.{Unbound, NoRoute}
use Rattle.bindings.specs.Binding.{binding_of}
use Rattle.client.specs.Client.{ClientState}
use Rattle.client.specs.Saying.{parcels_of}
use Rattle.bindings.specs.declared.binding.Binding.{Binding}
use Rattle.client.specs.declared.plan.ClientIssued.{ClientIssued}

-- a network that a router refused, before what the client of transactions refuses
abbrev pub refusal_if : {A : Type 0} → (refused : Bool) → ℕ → Request A → Bound → ClientTsmState A → Option Fault
refusal_if true now request to machine = Some NoRoute
refusal_if false now request to machine = tsm.refusal now request to machine

-- no binding before all else
abbrev pub refusal_by : {A : Type 0} → Option Binding → ℕ → Request A → ClientTsmState A → Option Fault
refusal_by None now request machine = Some Unbound
refusal_by (Some b) now request machine = refusal_if b.refused now request b.bound machine

-- why an issue to the device of this instance is refused, the first that holds
abbrev pub refusal : {A : Type 0} → ℕ → (instance : ℕ) → Request A → ClientState A → Option Fault
refusal now instance request c = refusal_by (binding_of instance c.bindings) now request c.machine

-- a request is issued as its client of transactions does, to where the device of this instance is bound
pub record Issues {A : Type 0} (now instance : ℕ) (request : Request A) (old : ClientState A) (told : ClientIssued A)
    (new : ClientState A) : Type 0 where
  pub binding : Binding
  pub held : binding_of instance old.bindings ≡ Some binding
  pub id : told.invoke_id ≡ old.machine.next
  pub said : told.said ≡ parcels_of now old.mac (issued now request binding.bound old.machine).said
  pub left : new ≡
      record old { machine = committed now (issued now request binding.bound old.machine).change old.machine }
