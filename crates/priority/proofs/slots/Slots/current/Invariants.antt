use Rattle.std.proofs.Common.{◌≡◌, ◌-◌, drop, length}
use Rattle.priority.specs.Slots.{first_filled}
use Rattle.priority.proofs.slots.Slots.current.Given as goal

-- no slot so far was filled
abbrev pub invariant-loop-level : goal.invariant-loop-level
invariant-loop-level g l = (length l.self ≡ 16) × (first_filled (drop (l.level - 1) l.self) ≡ first_filled l.self)
