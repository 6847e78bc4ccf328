use Rattle.std.proofs.Common.{◌≡◌, length}
use Rattle.remembered.specs.Records.{forgotten}
use Rattle.remembered.proofs.slab_records.SlabRecordsRecords.forget_dead.Given as goal

abbrev pub invariant-loop-self : goal.invariant-loop-self
invariant-loop-self g l = forgotten l.now l.self ≡ forgotten l.now l.fn.self

abbrev pub decreases-loop-self : goal.decreases-loop-self
decreases-loop-self g l = length l.self
