use Rattle.std.proofs.Common.{◌≡◌, ◌++◌, map}
use Rattle.link.specs.Step.{PortSent}
use Rattle.console.proofs.builtin.put_octets.Given as goal

-- the octets so far, with those of the rest, are those of all
abbrev pub invariant-loop-sent : goal.invariant-loop-sent
invariant-loop-sent g l =
    l.said ++ map (λ (s : PortSent _). s.sent.octets) l.sent-iterator.rest.items ≡ l.fn.said ++ map (λ (s : PortSent _). s.sent.octets) l.fn.out
