use Rattle.std.proofs.Common.{◌≡◌, length}
use Rattle.printing.specs.Printed.{is_plain}
use Rattle.printing.proofs.quoted.is_plain.Given as goal

-- all are plain where those that are left are
abbrev pub invariant-loop-left : goal.invariant-loop-left
invariant-loop-left l = is_plain l.left ≡ is_plain l.octets

abbrev pub decreases-loop-left : goal.decreases-loop-left
decreases-loop-left l = length l.left
