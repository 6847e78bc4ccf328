use Rattle.std.proofs.Common.{◌∙◌, arith, sym}
use Rattle.world_sites.specs.Listening.{is_on}
use Rattle.node_laws.specs.site_node.Node.{node_places}
use Rattle.world_sites.proofs.FindLaws.{found_here, found_later, found_none}
use Rattle.world_sites.proofs.listening.first_on.Goals as goal

-- this place is on the network
pub returns-then-is_on : goal.returns-then-is_on
returns-then-is_on g c = found_here (λ x. is_on c.args.network x) (node_places c.args.node.now) c.loop-port.port _
    c.loop-port.invariant c.place.result c.place.ensures (sym c.is_on.ensures ∙ c.if-is_on.true)

-- this one isn't
pub loop-port-preserved : goal.loop-port-preserved
loop-port-preserved g c = found_later (λ x. is_on c.args.network x) (node_places c.args.node.now)
    c.loop-port.port _ c.loop-port.invariant c.place.result c.place.ensures
    (let lt = c.loop-port-test.true in omega (arith, lt, c.place_count-port-end.ensures))
    (sym c.is_on.ensures ∙ c.if-is_on.false)

-- none is
pub returns : goal.returns
returns g c = found_none (λ x. is_on c.args.network x) (node_places c.args.node.now) c.loop-port.port _
    c.loop-port.invariant (let le = c.loop-port-test.false in omega (arith, le, c.place_count-port-end.ensures))
