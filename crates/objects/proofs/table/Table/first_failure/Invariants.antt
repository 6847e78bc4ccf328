use Rattle.std.proofs.Common.{◌≡◌}
use Rattle.std.specs.Prelude.{drop}
use Rattle.objects.specs.Failure.{first_failure}
use Rattle.object_model.specs.Writing.{in_order}
use Rattle.objects.proofs.table.Table.first_failure.Given as goal

-- no write so far is refused
abbrev pub invariant-loop-group : goal.invariant-loop-group
invariant-loop-group g l = first_failure l.self (in_order (drop l.group-index l.asked)) ≡ first_failure l.self (in_order l.asked)
