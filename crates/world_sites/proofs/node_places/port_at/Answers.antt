use Rattle.std.proofs.Common.{◌∙◌, arith, sym}
use Rattle.npdu.specs.Mac.{same_station}
use Rattle.node_laws.specs.site_node.Node.{node_places}
use Rattle.world_sites.proofs.FindLaws.{found_here, found_later, found_none}
use Rattle.world_sites.proofs.node_places.port_at.Goals as goal

-- this place is at the address
pub returns-then-is_at : goal.returns-then-is_at
returns-then-is_at g c = found_here (λ y. same_station y c.args.address) (node_places c.args.node.now)
    c.loop-port.port _ c.loop-port.invariant c.place.result c.place.ensures (sym c.is_at.ensures ∙ c.if-is_at.true)

-- this one isn't
pub loop-port-preserved : goal.loop-port-preserved
loop-port-preserved g c = found_later (λ y. same_station y c.args.address) (node_places c.args.node.now)
    c.loop-port.port _ c.loop-port.invariant c.place.result c.place.ensures
    (let lt = c.loop-port-test.true in omega (arith, lt, c.place_count-port-end.ensures))
    (sym c.is_at.ensures ∙ c.if-is_at.false)

-- none is
pub returns : goal.returns
returns g c = found_none (λ y. same_station y c.args.address) (node_places c.args.node.now) c.loop-port.port _
    c.loop-port.invariant (let le = c.loop-port-test.false in omega (arith, le, c.place_count-port-end.ensures))
