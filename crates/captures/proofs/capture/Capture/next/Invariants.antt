use Rattle.std.proofs.Common.{◌≤◌, length}
use Rattle.captures.proofs.capture.Capture.next.Given as goal

abbrev pub invariant-loop-item : goal.invariant-loop-item
invariant-loop-item g l = length l.self-inside.rest.now ≤ length l.fn.self

abbrev pub decreases-loop-item : goal.decreases-loop-item
decreases-loop-item g l = length l.self-inside.rest.now
