use Rattle.std.proofs.Common.{◌≡◌, take}
use Rattle.server_tsm.proofs.gatherings.copied.Given as goal

abbrev pub invariant-loop-gathering : goal.invariant-loop-gathering
invariant-loop-gathering g l = l.copies.items ≡ take l.gathering-index l.gatherings
