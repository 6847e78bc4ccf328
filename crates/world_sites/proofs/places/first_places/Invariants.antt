use Rattle.std.proofs.Common.{length}
use Rattle.world_sites.proofs.PlaceLaws.{AreFirstBehind}
use Rattle.world_sites.proofs.places.first_places.Given as goal

-- the keys behind those that are left were put in
abbrev pub invariant-loop-key : goal.invariant-loop-key
invariant-loop-key g l = AreFirstBehind g.K.Ord.cmp l.places l.left.items l.fn.keys.items

abbrev pub decreases-loop-key : goal.decreases-loop-key
decreases-loop-key g l = length l.left.items
