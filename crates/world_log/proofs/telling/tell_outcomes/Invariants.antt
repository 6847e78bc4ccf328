use Rattle.std.proofs.Common.{◌≡◌, ◌≤◌, ◌+◌, length}
use Rattle.std.specs.Vec.{vec_capacity, vec_len}
use Rattle.carry_ends.specs.carry_world.PlainWorld.{outcomes_told}
use Rattle.world_log.proofs.telling.tell_outcomes.Given as goal

-- what is left is told next
abbrev pub invariant-loop-told : goal.invariant-loop-told
invariant-loop-told g l =
    (outcomes_told l.client l.now l.keys.keys l.told-iterator.rest.items l.history.items
    ≡ outcomes_told l.client l.now l.keys.keys l.fn.outcomes l.fn.history.items)
    × (vec_len l.history + length l.told-iterator.rest.items ≤ vec_capacity l.history)
