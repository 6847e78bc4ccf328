use Rattle.tags.specs.Canonical.{Extends}
use Rattle.captures.proofs.writing.put_buses.Given as goal

abbrev pub invariant-loop-net : goal.invariant-loop-net
invariant-loop-net g l = Extends l.fn.out.items l.out.items
