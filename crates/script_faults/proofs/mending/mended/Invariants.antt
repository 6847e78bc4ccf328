use Rattle.std.proofs.Common.{◌≤◌}
use Rattle.script_faults.proofs.mending.mended.Given as goal

abbrev pub invariant-loop-at : goal.invariant-loop-at
invariant-loop-at g l = l.begin ≤ l.at
