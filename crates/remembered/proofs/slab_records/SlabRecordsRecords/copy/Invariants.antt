use Rattle.std.proofs.Common.{◌≡◌, take}
use Rattle.remembered.proofs.slab_records.SlabRecordsRecords.copy.Given as goal

abbrev pub invariant-loop-place : goal.invariant-loop-place
invariant-loop-place g l = l.copy ≡ take l.place l.self
