use Rattle.std.proofs.Common.{◌≡◌, ℕ}
use Rattle.bus_traffic.specs.Bus.{HasRoom, bus_of}
use Rattle.buses.proofs.RestartLaws.{partly_on}
use Rattle.buses.proofs.buses.restart_on.Given as goal

-- the ears that were looked at are made anew
abbrev pub invariant-loop-place : goal.invariant-loop-place
invariant-loop-place g l =
    (bus_of l.bus ≡ partly_on l.now l.address l.place (bus_of l.fn.bus))
    × ((n : ℕ) → HasRoom n l.fn.bus → HasRoom n l.bus)
