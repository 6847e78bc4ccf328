use Rattle.std.proofs.Common.{◌≡◌, ◌++◌}
use Rattle.std.specs.Prelude.{drop, map, length}
use Rattle.object_model.specs.Objects.{slot_value}
use Rattle.object_model.proofs.reading.priority_array.Given as goal

-- what the slots so far hold, and what those hold that are left
abbrev pub invariant-loop-place : goal.invariant-loop-place
invariant-loop-place g l = (length l.slots ≡ 16) × (l.values ++ map slot_value (drop l.place l.slots) ≡ map slot_value l.slots)
