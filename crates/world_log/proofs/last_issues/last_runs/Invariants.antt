use Rattle.std.proofs.Common.{◌≡◌, ◌≤◌, ◌++◌, drop, length, take}
use Rattle.world_log.proofs.IssueLaws.{filled}
use Rattle.world_log.proofs.last_issues.last_runs.Given as goal
use Rattle.world_log.specs.Issues.{KeepsKeys, keys_in}

-- those that are left, behind so many that are forgotten, stand behind those that are kept
abbrev pub invariant-loop-run : goal.invariant-loop-run
invariant-loop-run g l = (l.number ≡ length (keys_in (take l.run-index l.runs)))
    × (l.gap ≤ l.number)
    × KeepsKeys (keys_in l.runs) (keys_in l.kept.items ++ filled l.gap (drop l.run-index l.runs))
