use Rattle.wire.specs.Wires.{KeepsCounts}
use Rattle.wire.proofs.udp.UdpWire.receive.Given as goal

-- nothing was counted so far
abbrev pub invariant-loop : goal.invariant-loop
invariant-loop g l = KeepsCounts l.fn.self l.self
