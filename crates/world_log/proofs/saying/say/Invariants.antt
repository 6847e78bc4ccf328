use Rattle.std.proofs.Common.{◌≤◌, ◌+◌, length}
use Rattle.std.specs.Vec.{vec_capacity, vec_len}
use Rattle.carry_ends.specs.carry_world.carry_said.Said.{HasInsides}
use Rattle.world_log.proofs.SaidLaws.{GoesOnTo}
use Rattle.world_log.proofs.saying.say.Given as goal

-- what is left is said next
abbrev pub invariant-loop-parcel : goal.invariant-loop-parcel
invariant-loop-parcel g l = (vec_len l.list + length l.parcel-iterator.rest.items ≤ vec_capacity l.list)
    × HasInsides l.net l.parcel-iterator.rest.items
    × GoesOnTo l.net l.parcel-iterator.rest.items l.list.items l.fn.parcels l.fn.list.items
