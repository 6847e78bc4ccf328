use Rattle.std.proofs.Common.{◌≡◌, ◌+◌, ◌≤◌, drop, length}
use Rattle.std.specs.Prelude.{filter}
use Rattle.server_answers.specs.Gathering.{gathers_still}
use Rattle.server_tsm.proofs.gatherings.is_crowded.Given as goal

-- those counted, and those of the rest, are all
abbrev pub invariant-loop-gathering : goal.invariant-loop-gathering
invariant-loop-gathering g l =
    (l.living ≤ l.gathering-index)
    × (l.living + length (filter (gathers_still l.now) (drop l.gathering-index l.gatherings)) ≡ length (filter (gathers_still l.now) l.gatherings))
