use Rattle.std.proofs.Common.{◌≤◌, ◌-◌, length}
use Rattle.due_times.specs.Times.{NoneIsDue}
use Rattle.due_times.proofs.times.DueTimes.first_due.Given as goal

-- none of those that were passed has come
abbrev pub invariant-loop-place : goal.invariant-loop-place
invariant-loop-place g l = (l.from ≤ l.place) × NoneIsDue l.from l.place l.now l.self

abbrev pub decreases-loop-place : goal.decreases-loop-place
decreases-loop-place g l = length l.self - l.place
