use Rattle.std.proofs.Common.{◌≤◌}
use Rattle.wire.specs.Turns.{AreUnmarked}
use Rattle.wire.proofs.turns.first_in.Given as goal

-- none is marked so far
abbrev pub invariant-loop-place : goal.invariant-loop-place
invariant-loop-place l = AreUnmarked l.ready l.from l.place × (l.from ≤ l.place)
