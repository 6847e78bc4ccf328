use Rattle.tags.specs.Canonical.{Extends}
use Rattle.captures.proofs.writing.put_numbers.Given as goal

abbrev pub invariant-loop-number : goal.invariant-loop-number
invariant-loop-number g l = Extends l.fn.out.items l.out.items
