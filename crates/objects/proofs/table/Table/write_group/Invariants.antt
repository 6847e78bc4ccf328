use Rattle.std.proofs.Common.{◌≡◌}
use Rattle.object_model.specs.Writing.{write_all, writes_to}
use Rattle.objects.proofs.table.Table.write_group.Given as goal

-- the writes that are left lead where all lead
abbrev pub invariant-loop-write : goal.invariant-loop-write
invariant-loop-write g l = write_all l.self (writes_to l.object l.write-iterator.rest.items) ≡ write_all l.fn.self (writes_to l.object l.fn.writes)
