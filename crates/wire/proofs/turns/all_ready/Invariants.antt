use Rattle.std.proofs.Common.{◌≡◌}
use Rattle.std.specs.Prelude.{true, replicate}
use Rattle.wire.proofs.turns.all_ready.Given as goal

-- so many are there
abbrev pub invariant-loop : goal.invariant-loop
invariant-loop g l = l.all.items ≡ replicate l.counter true
