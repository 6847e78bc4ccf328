use Rattle.std.proofs.Common.{◌≡◌, length}
use Rattle.remembered.specs.Records.{forgotten}
use Rattle.remembered.proofs.list.ListRecordsRecords.forget_dead.Given as goal

abbrev pub invariant-loop-self : goal.invariant-loop-self
invariant-loop-self g l = forgotten l.now l.self.list.items ≡ forgotten l.now l.fn.self.list.items

abbrev pub decreases-loop-self : goal.decreases-loop-self
decreases-loop-self g l = length l.self.list.items
