use Rattle.std.proofs.Common.{◌≡◌, take}
use Rattle.remembered.specs.Keeping.{newest_place}
use Rattle.remembered.proofs.list.ListRecords.place_of.Given as goal

abbrev pub invariant-loop-place : goal.invariant-loop-place
invariant-loop-place g l = l.newest ≡ newest_place l.asker (take l.place l.self.list.items)
