use Rattle.std.proofs.Common.{◌≡◌, ◌≤◌, ◌-◌, ◌++◌, take, drop, length}
use Rattle.std.specs.Prelude.{map}
use Rattle.bindings.specs.Binding.{marked}
use Rattle.bindings.proofs.binding.mark_all.Given as goal

abbrev pub decreases-loop-place : goal.decreases-loop-place
decreases-loop-place g l = length l.bindings.items - l.place

-- those before the place are marked, and with the others marked too all are
abbrev pub invariant-loop-place : goal.invariant-loop-place
invariant-loop-place g l =
    (l.place ≤ length l.bindings.items)
    × (take l.place l.bindings.items ++ map (marked l.net) (drop l.place l.bindings.items) ≡ map (marked l.net) l.fn.bindings.items)
