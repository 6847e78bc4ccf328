use Rattle.headline_site.proofs.Reached.{begins_reached, goes_then, reached_then}
use Rattle.headline_site.proofs.reached_leads_on.Goals as goal

pub returns : goal.returns
returns g c = record { begins = begins_reached; leads = reached_then; goes = goes_then }
