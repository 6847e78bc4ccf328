use Rattle.std.proofs.Common.{◌≡◌}
use Rattle.object_model.specs.Writing.{write_all, in_order}
use Rattle.objects.proofs.table.Table.write_groups.Given as goal

-- the groups that are left lead where all lead
abbrev pub invariant-loop-group : goal.invariant-loop-group
invariant-loop-group g l = write_all l.self (in_order l.group-iterator.rest.items) ≡ write_all l.fn.self (in_order l.fn.asked)
