use Rattle.std.proofs.Common.{◌≡◌, ◌≤◌, ◌+◌, drop}
use Rattle.site_storm.specs.Counting.{count_said}
use Rattle.site_storm.proofs.counts.count_said.Given as goal

abbrev pub invariant-loop-message : goal.invariant-loop-message
invariant-loop-message g l =
    (l.number + count_said l.pdu_type (drop l.message-index l.said) ≡ count_said l.pdu_type l.said)
    × (l.number ≤ l.message-index)
