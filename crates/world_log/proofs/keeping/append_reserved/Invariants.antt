use Rattle.std.proofs.Common.{◌≡◌, ◌≤◌, ◌+◌, ◌++◌, length}
use Rattle.std.specs.Vec.{vec_capacity, vec_len}
use Rattle.world_log.proofs.keeping.append_reserved.Given as goal

-- what is left stands behind
abbrev pub invariant-loop-value : goal.invariant-loop-value
invariant-loop-value g l =
    (l.list.items ++ l.value-iterator.rest.items ≡ l.fn.list.items ++ l.fn.more.items)
    × (vec_len l.list + length l.value-iterator.rest.items ≡ vec_len l.fn.list + length l.fn.more.items)
    × (vec_capacity l.fn.list ≤ vec_capacity l.list)
