use Rattle.std.proofs.Common.{◌≡◌, length}
use Rattle.std.specs.Prelude.{map}
use Rattle.names.specs.Tables.{row_of}
use Rattle.names.specs.Names as spec
use Rattle.names.proofs.finding.number_in.Given as goal

-- the number is sought in what is left
abbrev pub invariant-loop-left : goal.invariant-loop-left
invariant-loop-left l = spec.number_in (map row_of l.left) l.name ≡ spec.number_in (map row_of l.table) l.name

abbrev pub decreases-loop-left : goal.decreases-loop-left
decreases-loop-left l = length l.left
