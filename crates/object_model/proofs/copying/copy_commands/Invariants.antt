use Rattle.std.proofs.Common.{◌≡◌, ℕ, ◌≤◌, ◌<◌, ◌+◌, length}
use Rattle.priority.specs.Slots.{slot}
use Rattle.object_model.proofs.copying.copy_commands.Given as goal

-- sixteen slots, of which those of the levels so far are equal
abbrev pub invariant-loop-place : goal.invariant-loop-place
invariant-loop-place g l = (length l.all ≡ 16) × (length l.slots ≡ 16) × ((n : ℕ) → 1 ≤ n → n < l.place + 1 → slot l.all n ≡ slot l.slots n)
