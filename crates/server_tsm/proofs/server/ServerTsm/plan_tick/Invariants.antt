use Rattle.std.proofs.Common.{◌≡◌, ◌++◌, drop, flat_map}
use Rattle.server_tsm.specs.Waking.{said_on_wake, saying_on_wake}
use Rattle.server_tsm.proofs.server.ServerTsm.plan_tick.Given as goal

-- what was said so far, with that of the rest, is that of all
abbrev pub invariant-loop-place : goal.invariant-loop-place
invariant-loop-place g l =
    (l.said ++ flat_map (said_on_wake l.now) (drop l.place l.self.records) ≡ flat_map (said_on_wake l.now) l.self.records)
    × (l.sayings ++ flat_map (saying_on_wake l.now) (drop l.place l.self.records) ≡ flat_map (saying_on_wake l.now) l.self.records)
