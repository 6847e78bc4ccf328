use Rattle.std.proofs.Common.{length}
use Rattle.std.specs.Prelude.{◌↔◌, map}
use Rattle.object_model.specs.Site.{AllApart, opening_value}
use Rattle.objects.proofs.opening.are_apart.Given as goal

abbrev pub decreases-loop-left : goal.decreases-loop-left
decreases-loop-left g l = length l.left

-- all are apart where those that are left are
abbrev pub invariant-loop-left : goal.invariant-loop-left
invariant-loop-left g l = AllApart (map opening_value l.left) ↔ AllApart (map opening_value l.objects)
