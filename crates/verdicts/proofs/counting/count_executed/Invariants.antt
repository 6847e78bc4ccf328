use Rattle.std.proofs.Common.{◌≡◌, ◌≤◌, ◌+◌, drop}
use Rattle.history.specs.Legal.{executes}
use Rattle.history.specs.Lists.{count}
use Rattle.verdicts.proofs.counting.count_executed.Given as goal

abbrev pub invariant-loop-entry : goal.invariant-loop-entry
invariant-loop-entry g l =
    (l.times + count (executes l.number) (drop l.entry-index l.history) ≡ count (executes l.number) l.history)
    × (l.times ≤ l.entry-index)
