use Rattle.std.proofs.Common.{◌≡◌, ℕ, length, map}
use Rattle.std.specs.List.{AllByRecursion}
use Rattle.bus_traffic.specs.Bus.{HasRoom, bus_of}
use Rattle.buses.proofs.RestartLaws.{partly_at}
use Rattle.buses.proofs.buses.restart_each.Given as goal

-- on the buses that were looked at the ears are made anew
abbrev pub invariant-loop-place : goal.invariant-loop-place
invariant-loop-place g l =
    (map (λ o. bus_of o) l.buses ≡ partly_at l.now l.net l.address l.place (map (λ o. bus_of o) l.fn.buses))
    × (length l.buses ≡ length l.fn.buses)
    × ((n : ℕ) → AllByRecursion (λ o. HasRoom n o) l.fn.buses → AllByRecursion (λ o. HasRoom n o) l.buses)
