use Rattle.std.proofs.Common.{refl, arith, ◌-◌, length}
use Rattle.std.proofs.lemmas.Option.{slice_get_read}
use Rattle.world_sites.proofs.NodePlaceLaws.{all_put, none_put, one_put}
use Rattle.world_sites.proofs.node_places.first_at.Goals as goal

-- none was put in
pub loop-place-init : goal.loop-place-init
loop-place-init g c = none_put c.new-places.result (length c.args.nodes.now) c.args.nodes.now
    c.new-places.ensures.empty refl

-- one more was
pub loop-place-preserved : goal.loop-place-preserved
loop-place-preserved g c = let some = c.loop-place-test.true in
    one_put c.loop-place.places c.put_addresses.new.places c.loop-place.place (c.loop-place.place - 1)
    c.args.nodes.now c.index-nodes-place.result (omega (arith, some))
    (slice_get_read c.args.nodes.now (length c.args.nodes.now) (c.loop-place.place - 1) c.index-nodes-place.result refl
    (let within = c.loop-place.invariant.within in omega (arith, some, within)) c.index-nodes-place.is)
    c.in_ok-put_addresses.ensures c.loop-place.invariant

-- all were
pub returns : goal.returns
returns g c = all_put c.loop-place.places c.loop-place.place c.args.nodes.now
    (let le = c.loop-place-test.false in omega (arith, le)) c.loop-place.invariant
