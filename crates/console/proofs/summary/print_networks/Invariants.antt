use Rattle.std.proofs.Common.{length}
use Rattle.std.specs.Io.KnownBytes.{Appends}
use Rattle.console.specs.Answer.{Known}
use Rattle.console.specs.Summary.{networks}
use Rattle.console.proofs.summary.print_networks.Given as goal

abbrev pub invariant-loop-left : goal.invariant-loop-left
invariant-loop-left g l =
    (new : Known) → Appends (g.W.Write.contents l.out) new (networks l.left) →
    Appends (g.W.Write.contents l.initial.out) new (networks l.octets)

abbrev pub decreases-loop-left : goal.decreases-loop-left
decreases-loop-left g l = length l.left
