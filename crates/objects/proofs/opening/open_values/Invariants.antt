use Rattle.std.proofs.Common.{◌≡◌, ◌++◌}
use Rattle.std.specs.Prelude.{map}
use Rattle.object_model.specs.Site.{opening_value}
use Rattle.objects.proofs.opening.open_values.Given as goal

-- the objects opened so far
abbrev pub invariant-loop-object : goal.invariant-loop-object
invariant-loop-object g l = l.opened.items ≡ l.fn.opened.items ++ map opening_value l.yielded
