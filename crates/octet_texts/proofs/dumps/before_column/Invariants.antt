use Rattle.std.proofs.Common.{◌≡◌, ◌++◌, ◌-◌, ◌≤◌, drop, take, length}
use Rattle.octet_texts.specs.Dumps.{before_column}
use Rattle.octet_texts.proofs.dumps.before_column.Given as goal

abbrev pub invariant-loop-length : goal.invariant-loop-length
invariant-loop-length l = (take l.length l.text ++ before_column (drop l.length l.text) ≡ before_column l.text) × (l.length ≤ length l.text)

abbrev pub decreases-loop-length : goal.decreases-loop-length
decreases-loop-length l = length l.text - l.length
