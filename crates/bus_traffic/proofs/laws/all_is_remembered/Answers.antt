use Rattle.bus_traffic.proofs.RememberLaws.{judges_by_all, remembers_more, remembers_nothing, remembers_still}
use Rattle.bus_traffic.proofs.laws.all_is_remembered.Goals as goal

pub returns-clause-nothing : goal.returns-clause-nothing
returns-clause-nothing g c = remembers_nothing

pub returns-clause-more : goal.returns-clause-more
returns-clause-more g c = remembers_more

pub returns-clause-still : goal.returns-clause-still
returns-clause-still g c = remembers_still

pub returns-clause-judges : goal.returns-clause-judges
returns-clause-judges g c = judges_by_all
