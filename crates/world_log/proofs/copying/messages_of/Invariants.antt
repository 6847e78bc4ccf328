use Rattle.std.proofs.Common.{◌≡◌, take}
use Rattle.world_log.proofs.copying.messages_of.Given as goal

-- so far
abbrev pub invariant-loop-message : goal.invariant-loop-message
invariant-loop-message g l = l.copies.items ≡ take l.message-index l.messages
