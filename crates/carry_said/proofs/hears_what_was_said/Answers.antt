use Rattle.carry_said.proofs.Hearing.{client_hears, device_hears, heard_was_said}
use Rattle.carry_said.proofs.hears_what_was_said.Goals as goal

pub returns : goal.returns
returns g c = record { device = device_hears; client = client_hears; heard = heard_was_said }
