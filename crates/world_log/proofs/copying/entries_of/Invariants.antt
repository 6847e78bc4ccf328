use Rattle.std.proofs.Common.{◌≡◌, take}
use Rattle.world_log.proofs.copying.entries_of.Given as goal

-- so far
abbrev pub invariant-loop-entry : goal.invariant-loop-entry
invariant-loop-entry g l = l.copies.items ≡ take l.entry-index l.entries
