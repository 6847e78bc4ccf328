use Rattle.std.proofs.Common.{◌≡◌, take}
use Rattle.world_log.proofs.last_numbers.copy_of.Given as goal

-- so far
abbrev pub invariant-loop-clients : goal.invariant-loop-clients
invariant-loop-clients g l = l.copies.items ≡ take l.clients-index l.last
