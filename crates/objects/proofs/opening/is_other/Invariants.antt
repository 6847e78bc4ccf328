use Rattle.std.proofs.Common.{length}
use Rattle.std.specs.Prelude.{◌↔◌, map}
use Rattle.std.specs.List.{AllByRecursion}
use Rattle.object_model.specs.Site.{IsOther, opening_value}
use Rattle.objects.proofs.opening.is_other.Given as goal

abbrev pub decreases-loop-left : goal.decreases-loop-left
decreases-loop-left g l = length l.left

-- all are others where those that are left are
abbrev pub invariant-loop-left : goal.invariant-loop-left
invariant-loop-left g l = AllByRecursion (IsOther l.id l.name) (map opening_value l.left) ↔ AllByRecursion (IsOther l.id l.name) (map opening_value l.objects)
