-- Until when a part has nothing to do where it wakes.
use Rattle.std.proofs.Common.{arith, ◌≡◌, ◌∙◌, ap, ℕ, ◌<◌, true}
use Rattle.bbmd_manager.specs.State.{ManagerState}
use Rattle.client.specs.Client.{ClientState}
use Rattle.client.specs.client_tsm.Waking as client
use Rattle.device.specs.Device.{DeviceState}
use Rattle.device.specs.server_tsm.Waking as server
use Rattle.due_times.specs.Until.{Until}
use Rattle.router.specs.Router.{RouterState}
use Rattle.site_node.specs.Part.{is_quiet}
use Rattle.site_node.specs.declared.part.Part.{Part}
use Rattle.site_node.specs.declared.part.Part.TheVariants.{Device, Client, Router, Manager}

module _ {A : Type 0} where
  -- a part, by its kind
  pub due_device : (due : ℕ) (p : Part A) (d : DeviceState A) →
      Until due (λ now. server.is_quiet now d.server.records ≡ true) → p ≡ Device d →
      Until due (λ now. is_quiet now p ≡ true)
  due_device due p d until is =
      record { holds = λ now lt. ap (λ (q : Part A). is_quiet now q) is ∙ until.holds now lt }

  pub due_client : (due : ℕ) (p : Part A) (c : ClientState A) →
      Until due (λ now. client.is_quiet now c.machine.open_ones ≡ true) → p ≡ Client c →
      Until due (λ now. is_quiet now p ≡ true)
  due_client due p c until is =
      record { holds = λ now lt. ap (λ (q : Part A). is_quiet now q) is ∙ until.holds now lt }

  pub due_router : (due : ℕ) (p : Part A) (r : RouterState) → p ≡ Router r → r.woken ≡ true →
      Until due (λ now. is_quiet now p ≡ true)
  due_router due p r is woken = record { holds = λ now lt. ap (λ (q : Part A). is_quiet now q) is ∙ woken }

  pub due_manager : (due net : ℕ) (p : Part A) (m : ManagerState) → p ≡ Manager net m →
      Until due (λ now. is_quiet now p ≡ true)
  due_manager due net p m is = record { holds = λ now lt. ap (λ (q : Part A). is_quiet now q) is }

  -- before the moment 0 anything holds
  pub due_now : (p : Part A) → Until 0 (λ now. is_quiet now p ≡ true)
  due_now p = record { holds = λ now lt. absurd (omega (arith, lt)) }

pub ruleset part_rules = (due_device, due_client, due_router, due_manager, due_now)
