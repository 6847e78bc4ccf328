use Rattle.std.proofs.Common.{◌≡◌, ◌≤◌, ◌-◌, false, length, take}
use Rattle.std.specs.List.{AllByRecursion}
use Rattle.traffic.proofs.recent_items.old_count.Given as goal
use Rattle.traffic.specs.Seeking.{is_young}

-- so far
abbrev pub invariant-loop-count : goal.invariant-loop-count
invariant-loop-count g l = (l.count ≤ length l.items) × (l.count ≤ l.most)
    × AllByRecursion (λ i. is_young l.now i ≡ false) (take l.count l.items)

abbrev pub decreases-loop-count : goal.decreases-loop-count
decreases-loop-count g l = length l.items - l.count
