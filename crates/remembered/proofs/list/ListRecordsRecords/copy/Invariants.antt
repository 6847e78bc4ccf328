use Rattle.std.proofs.Common.{◌≡◌, take}
use Rattle.remembered.proofs.list.ListRecordsRecords.copy.Given as goal

abbrev pub invariant-loop-place : goal.invariant-loop-place
invariant-loop-place g l = l.copy.list.items ≡ take l.place l.self.list.items
