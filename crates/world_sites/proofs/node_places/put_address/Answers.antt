use Rattle.std.proofs.Common.{sym, subst, Option}
use Rattle.npdu.specs.Mac.{same_station}
use Rattle.npdu.specs.declared.mac.Station.{Station}
use Rattle.world_sites.proofs.NodePlaceLaws.{address_put}
use Rattle.world_sites.proofs.node_places.put_address.Goals as goal
use Rattle.world_sites.specs.Finding.{passes}
use Rattle.world_sites.specs.Places.{ArePut}

-- this address was put in
pub returns-in_ok-put_place : goal.returns-in_ok-put_place
returns-in_ok-put_place g c = subst (λ (o : Option Station).
    ArePut (λ x. passes (λ y. same_station y x) o) c.args.place c.args.places.now c.put_place.new.places)
    (sym c.in-Some.is)
    (address_put c.args.places.now c.put_place.new.places c.in-Some.address c.args.place c.in_ok-put_place.ensures)
