use Rattle.std.proofs.Common.{◌≡◌, length, map}
use Rattle.bus_traffic.specs.Bus.{bus_of}
use Rattle.buses.proofs.ForgetLaws.{LeftFirst}
use Rattle.buses.proofs.buses.forget_each.Given as goal

-- the buses that were looked at have forgotten
abbrev pub invariant-loop-place : goal.invariant-loop-place
invariant-loop-place g l =
    (length l.buses ≡ length l.fn.buses)
    × LeftFirst l.now l.place (map (λ o. bus_of o) l.fn.buses) (map (λ o. bus_of o) l.buses)
