use Rattle.std.proofs.Common.{◌≡◌, ◌++◌, drop, flat_map}
use Rattle.client_tsm.specs.Waking.{said_of, told_of}
use Rattle.client_tsm.proofs.client.ClientTsm.plan_tick.Given as goal

-- what was said and told so far, with that of the rest, is that of all
abbrev pub invariant-loop-transaction : goal.invariant-loop-transaction
invariant-loop-transaction g l =
    (l.said ++ flat_map (said_of l.now) (drop l.transaction-index l.transaction-items) ≡ flat_map (said_of l.now) l.transaction-items)
    × (l.told ++ flat_map (told_of l.now) (drop l.transaction-index l.transaction-items) ≡ flat_map (told_of l.now) l.transaction-items)
