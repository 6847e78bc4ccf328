use Rattle.std.proofs.Common.{◌≡◌}
use Rattle.std.specs.Prelude.{take}
use Rattle.primitives.proofs.copying.copy_all.Given as goal

-- what was copied so far
abbrev pub invariant-loop-item : goal.invariant-loop-item
invariant-loop-item g l = l.all ≡ take l.item-index l.items
