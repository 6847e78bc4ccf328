use Rattle.carry_said.proofs.Clients.{client_hearing_says, client_says_something, who_is_says_something}
use Rattle.carry_said.proofs.Devices.{device_hearing_says, device_says_something}
use Rattle.carry_said.proofs.says_something.Goals as goal

pub returns : goal.returns
returns g c = record {
  device = device_says_something;
  client = client_says_something;
  asks = who_is_says_something;
  device_hears = device_hearing_says;
  client_hears = client_hearing_says;
}
