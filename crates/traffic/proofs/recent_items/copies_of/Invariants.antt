use Rattle.std.proofs.Common.{◌≡◌, take}
use Rattle.traffic.proofs.recent_items.copies_of.Given as goal

-- so far
abbrev pub invariant-loop-item : goal.invariant-loop-item
invariant-loop-item g l = l.copies.items ≡ take l.item-index l.items
