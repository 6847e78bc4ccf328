use Rattle.std.proofs.Common.{◌≡◌, ◌≤◌, ◌-◌, ◌++◌, take, drop, length}
use Rattle.std.specs.Prelude.{vec_capacity, vec_len}
use Rattle.server_tsm.specs.Server.{still_gathered}
use Rattle.server_tsm.proofs.gatherings.keep_gathered.Given as goal

abbrev pub decreases-loop-place : goal.decreases-loop-place
decreases-loop-place g l = length l.gatherings.items - l.place

-- those before the place, and what is kept of the others, are what is kept of all
abbrev pub invariant-loop-place : goal.invariant-loop-place
invariant-loop-place g l =
    (l.place ≤ length l.gatherings.items)
    × (take l.place l.gatherings.items ++ still_gathered l.now l.except (drop l.place l.gatherings.items) ≡ still_gathered l.now l.except l.fn.gatherings.items)
    × (vec_len l.gatherings ≤ vec_len l.fn.gatherings)
    × (vec_capacity l.gatherings ≡ vec_capacity l.fn.gatherings)
