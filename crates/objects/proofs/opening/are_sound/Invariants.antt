use Rattle.std.proofs.Common.{length}
use Rattle.std.specs.Prelude.{◌↔◌, map}
use Rattle.std.specs.List.{AllByRecursion}
use Rattle.object_model.specs.Site.{IsSoundObjectOf, opening_value}
use Rattle.objects.proofs.opening.are_sound.Given as goal

abbrev pub decreases-loop-left : goal.decreases-loop-left
decreases-loop-left g l = length l.left

-- all are sound where those that are left are
abbrev pub invariant-loop-left : goal.invariant-loop-left
invariant-loop-left g l = AllByRecursion IsSoundObjectOf (map opening_value l.left) ↔ AllByRecursion IsSoundObjectOf (map opening_value l.objects)
