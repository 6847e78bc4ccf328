use Rattle.std.proofs.Common.{◌≡◌, ◌≤◌, ◌+◌, drop}
use Rattle.last_hop.specs.Issues.{count_of}
use Rattle.last_hop.proofs.issues.count_of.Given as goal

abbrev pub invariant-loop-entry : goal.invariant-loop-entry
invariant-loop-entry g l =
    (l.count + count_of l.client (drop l.entry-index l.entries) ≡ count_of l.client l.entries)
    × (l.count ≤ l.entry-index)
