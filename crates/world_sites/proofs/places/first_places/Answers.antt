use Rattle.std.proofs.Common.{rules}
use Rattle.world_sites.proofs.PlaceLaws.{all_in, none_in, put_in}
use Rattle.world_sites.proofs.places.first_places.Goals as goal

pub loop-key-init : goal.loop-key-init
loop-key-init g c = none_in g.K.Ord.cmp c.new-places.result c.args.keys.items c.new-places.ensures.empty

pub loop-key-smaller : goal.loop-key-smaller
loop-key-smaller g c = search rules

pub loop-key-preserved : goal.loop-key-preserved
loop-key-preserved g c =
    put_in g.K.Ord.cmp g.met.K.Ord.total c.loop-key.places c.insert.new.self c.loop-key.left.items
    c.pop.new.self.items c.args.keys.items c.in-Some.key _ (search rules) (search rules)
    c.in_ok-insert.ensures.entries c.loop-key.invariant

pub returns : goal.returns
returns g c = all_in g.K.Ord.cmp c.loop-key.places c.loop-key.left.items c.args.keys.items (search rules)
    c.loop-key.invariant
