use Rattle.std.proofs.Common.{◌≡◌, drop}
use Rattle.server_tsm.specs.Waking.{after_sayings}
use Rattle.server_tsm.proofs.server.say_all.Given as goal

-- the rest, said of what there is, leads where all leads
abbrev pub invariant-loop-saying : goal.invariant-loop-saying
invariant-loop-saying g l = after_sayings (drop l.saying-index l.sayings) l.records ≡ after_sayings l.sayings l.fn.records
