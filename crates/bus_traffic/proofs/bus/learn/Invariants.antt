use Rattle.std.proofs.Common.{◌≡◌, ◌++◌, take, drop}
use Rattle.bus_traffic.specs.Sendings.{learned}
use Rattle.bus_traffic.proofs.bus.learn.Given as goal

-- what is learned by the rest is learned by all
abbrev pub invariant-loop-place : goal.invariant-loop-place
invariant-loop-place g l =
    (l.known ≡ l.fn.known)
    × (take l.place l.known.items ++ learned l.new (drop l.place l.known.items) ≡ learned l.new l.known.items)
