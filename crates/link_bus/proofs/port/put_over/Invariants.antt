use Rattle.std.proofs.Common.{◌≡◌, ◌++◌}
use Rattle.link.specs.Step.{PutsOver, over_port}
use Rattle.link_bus.proofs.port.put_over.Given as goal

-- those so far, with those that are left, are all
abbrev pub invariant-loop-sent : goal.invariant-loop-sent
invariant-loop-sent g l = PutsOver l.port l.fn.out l.out
    × (l.out ++ over_port l.port l.sent-iterator.rest.items ≡ l.fn.out ++ over_port l.port l.fn.all)
