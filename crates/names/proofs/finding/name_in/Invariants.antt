use Rattle.std.proofs.Common.{◌≡◌, length}
use Rattle.std.specs.Prelude.{map}
use Rattle.names.specs.Tables.{row_of}
use Rattle.names.specs.Names as spec
use Rattle.names.proofs.finding.name_in.Given as goal

-- the name is sought in what is left
abbrev pub invariant-loop-left : goal.invariant-loop-left
invariant-loop-left l = spec.name_in (map row_of l.left) l.number ≡ spec.name_in (map row_of l.table) l.number

abbrev pub decreases-loop-left : goal.decreases-loop-left
decreases-loop-left l = length l.left
