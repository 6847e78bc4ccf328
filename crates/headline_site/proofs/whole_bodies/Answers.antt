use Rattle.headline_site.proofs.Promised.{answers_whole, requests_whole}
use Rattle.headline_site.proofs.whole_bodies.Goals as goal

pub returns : goal.returns
returns g c = record { requests = requests_whole; answers = answers_whole }
