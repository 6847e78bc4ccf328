use Rattle.std.proofs.Common.{◌≡◌, ◌++◌, flat_map}
use Rattle.std.specs.List.{AllByRecursion}
use Rattle.bvll.proofs.table.BvllTable.put.Given as goal

abbrev pub invariant-loop-entry : goal.invariant-loop-entry
invariant-loop-entry g l =
    (l.out.items ≡ l.fn.out.items ++ flat_map g.E.TableEntry.octets_of l.yielded)
    × AllByRecursion g.E.TableEntry.IsEntry l.yielded
