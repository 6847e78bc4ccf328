use Rattle.std.proofs.Common.{◌≡◌, ◌≤◌, ◌-◌, ◌++◌, take, drop, length}
use Rattle.client_tsm.specs.Waking.{all_left}
use Rattle.client_tsm.proofs.waking.wake_all.Given as goal

abbrev pub decreases-loop-place : goal.decreases-loop-place
decreases-loop-place g l = length l.open_ones.items - l.place

-- those before the place, and what is left of the others, are what is left of all
abbrev pub invariant-loop-place : goal.invariant-loop-place
invariant-loop-place g l =
    (l.place ≤ length l.open_ones.items)
    × (take l.place l.open_ones.items ++ all_left l.now (drop l.place l.open_ones.items) ≡ all_left l.now l.fn.open_ones.items)
