use Rattle.std.proofs.Common.{arith}
use Rattle.node_laws.specs.site_node.Node.{node_places}
use Rattle.world_sites.proofs.NodePlaceLaws.{node_put, port_put}
use Rattle.world_sites.proofs.node_places.put_addresses.Goals as goal

-- one more place
pub loop-port-preserved : goal.loop-port-preserved
loop-port-preserved g c = port_put (node_places c.args.node.now) c.loop-port.port c.args.place c.place.result
    c.loop-port.places c.put_address.new.places c.args.places.now
    (let lt = c.loop-port-test.true in omega (arith, lt, c.place_count-port-end.ensures)) c.place.ensures
    c.in_ok-put_address.ensures c.loop-port.invariant

-- all places
pub returns : goal.returns
returns g c = node_put c.args.node.now c.loop-port.port c.args.place c.loop-port.places c.args.places.now
    (let le = c.loop-port-test.false in omega (arith, le, c.place_count-port-end.ensures)) c.loop-port.invariant
