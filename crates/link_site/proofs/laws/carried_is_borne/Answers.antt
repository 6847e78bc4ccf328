use Rattle.link_site.proofs.Things.{carried_is_borne, is_on_its_network}
use Rattle.link_site.proofs.laws.carried_is_borne.Goals as goal

pub returns-clause-borne : goal.returns-clause-borne
returns-clause-borne g c = carried_is_borne _

pub returns-clause-place : goal.returns-clause-place
returns-clause-place g c = is_on_its_network _
