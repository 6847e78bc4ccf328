use Rattle.std.proofs.Common.{◌≡◌, ◌≤◌, ◌+◌, drop}
use Rattle.site_storm.specs.Counting.{count}
use Rattle.site_storm.proofs.counts.count.Given as goal

abbrev pub invariant-loop-entry : goal.invariant-loop-entry
invariant-loop-entry g l =
    (l.number + count l.kind (drop l.entry-index l.history) ≡ count l.kind l.history) × (l.number ≤ l.entry-index)
