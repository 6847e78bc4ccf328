use Rattle.carry_world.proofs.Promised.{stays_so, step_leads, steps_lead_on}
use Rattle.carry_world.proofs.steps_lead_on.Goals as goal

pub returns : goal.returns
returns g c = record { none = stays_so; one = step_leads; more = steps_lead_on }
