use Rattle.std.proofs.Common.{◌≡◌}
use Rattle.std.specs.Prelude.{drop}
use Rattle.objects.specs.Failure.{first_failure}
use Rattle.object_model.specs.Writing.{writes_to}
use Rattle.objects.proofs.table.Table.first_failure_of.Given as goal

-- no write so far is refused
abbrev pub invariant-loop-write : goal.invariant-loop-write
invariant-loop-write g l =
    first_failure l.self (writes_to l.object (drop l.write-index l.writes)) ≡ first_failure l.self (writes_to l.object l.writes)
