use Rattle.simulator.proofs.LeadLaws.{happenings_lead, steps_lead}
use Rattle.simulator.proofs.laws.events_lead.Goals as goal

pub returns : goal.returns
returns g c = record { events = steps_lead; happenings = happenings_lead }
