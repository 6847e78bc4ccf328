-- Where nothing is due of a part, it says, executes and tells nothing as it wakes.
use Rattle.std.proofs.Common.{◌≡◌, ◌∙◌, ap, ℕ, List, [], None}
use Rattle.client.specs.Client.{ClientState}
use Rattle.client.specs.Saying as client_saying
use Rattle.client.specs.client_tsm.Waking as client_waking
use Rattle.client.specs.client_tsm.declared.plan.TransactionOutcome.{TransactionOutcome}
use Rattle.client.specs.client_tsm.declared.said.ClientSaid.{ClientSaid}
use Rattle.device.specs.Device.{DeviceState}
use Rattle.device.specs.Saying as device_saying
use Rattle.device.specs.server_tsm.Waking as server_waking
use Rattle.device.specs.server_tsm.server_answers.declared.said.ServerSaid.{ServerSaid}
use Rattle.site_node.specs.Part.{silence, told_awake}
use Rattle.site_node.specs.declared.part.Part.TheVariants.{Client, Device}
use Rattle.site_node.specs.declared.told.PartTold.{PartTold}

-- a device
pub device_is_silent : {A : Type 0} (now : ℕ) (d : DeviceState A) → (server_waking.woken now d.server.records).said ≡ [] →
    told_awake now (Device d) ≡ silence
device_is_silent {A} now d e = ap (λ (ss : List (ServerSaid A)). let told : PartTold A = record {
  said = device_saying.parcels_of now d.mac ss;
  executed = None;
  outcomes = [];
} in told) e

-- a client
pub client_is_silent : {A : Type 0} (now : ℕ) (c : ClientState A) → (client_waking.woken now c.machine.open_ones).said ≡ [] →
    (client_waking.woken now c.machine.open_ones).told ≡ [] → told_awake now (Client c) ≡ silence
client_is_silent {A} now c said told =
    ap (λ (ss : List (ClientSaid A)). let t : PartTold A = record {
      said = client_saying.parcels_of now c.mac ss;
      executed = None;
      outcomes = (client_waking.woken now c.machine.open_ones).told;
    } in t) said
    ∙ ap (λ (os : List (TransactionOutcome A)). let t : PartTold A = record {
      said = [];
      executed = None;
      outcomes = os;
    } in t) told

pub ruleset quiet_rules = (device_is_silent, client_is_silent)
