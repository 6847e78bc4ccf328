use Rattle.std.proofs.Common.{◌≡◌, ◌≤◌, ◌-◌, ◌++◌, take, drop, length}
use Rattle.std.specs.List.{find}
use Rattle.bindings.specs.Binding.{is_of, put_binding}
use Rattle.bindings.proofs.binding.put_binding.Given as goal

abbrev pub decreases-loop-place : goal.decreases-loop-place
decreases-loop-place g l = length l.bindings.items - l.place

-- the bindings are as they were; to put one behind those before the place, and to find it there, is to do so in all
abbrev pub invariant-loop-place : goal.invariant-loop-place
invariant-loop-place g l =
    (l.place ≤ length l.bindings.items)
    × (l.bindings.items ≡ l.fn.bindings.items)
    × (take l.place l.bindings.items ++ put_binding l.binding (drop l.place l.bindings.items) ≡ put_binding l.binding l.bindings.items)
    × (find (is_of l.binding.instance) (drop l.place l.bindings.items) ≡ find (is_of l.binding.instance) l.bindings.items)
