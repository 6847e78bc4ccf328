use Rattle.std.proofs.Common.{◌≡◌, take}
use Rattle.buses.proofs.Places.{AreOther}
use Rattle.buses.proofs.buses.put_at.Given as goal

-- those that were looked at have other numbers
abbrev pub invariant-loop-place : goal.invariant-loop-place
invariant-loop-place g l = (l.buses ≡ l.fn.buses) × AreOther l.net (take l.place l.buses)
