use Rattle.std.proofs.Common.{◌≡◌, take}
use Rattle.bus_traffic.proofs.copying.ears_of.Given as goal

-- so far
abbrev pub invariant-loop-ear : goal.invariant-loop-ear
invariant-loop-ear g l = l.copies.items ≡ take l.ear-index l.ears
