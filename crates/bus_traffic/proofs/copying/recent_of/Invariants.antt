use Rattle.std.proofs.Common.{◌≡◌, take}
use Rattle.bus_traffic.proofs.copying.recent_of.Given as goal

-- so far
abbrev pub invariant-loop-one : goal.invariant-loop-one
invariant-loop-one g l = l.copies.items ≡ take l.one-index l.recent
