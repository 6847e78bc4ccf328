use Rattle.std.proofs.Common.{◌≡◌, ◌++◌}
use Rattle.std.specs.Prelude.{drop, map}
use Rattle.object_model.specs.Reading.{results_of}
use Rattle.objects.proofs.table.Table.read_many.Given as goal

-- the results so far, and those of the objects that are left
abbrev pub invariant-loop-refs : goal.invariant-loop-refs
invariant-loop-refs g l = l.results ++ map (results_of l.self) (drop l.refs-index l.asked) ≡ map (results_of l.self) l.asked
