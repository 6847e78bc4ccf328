use Rattle.std.proofs.Common.{◌≡◌, drop}
use Rattle.site_storm.specs.Waits.{all_waits}
use Rattle.site_storm.proofs.waits.Waits.count.Given as goal

-- what is left leads where all leads
abbrev pub invariant-loop-entry : goal.invariant-loop-entry
invariant-loop-entry g l = all_waits (drop l.entry-index l.entries) l.self ≡ all_waits l.entries l.fn.self
