use Rattle.carry_said.proofs.Clients.{client_asks, client_issues, client_says}
use Rattle.carry_said.proofs.client_says.Goals as goal

pub returns : goal.returns
returns g c = record { acts = client_says; issues = client_issues; asks = client_asks }
