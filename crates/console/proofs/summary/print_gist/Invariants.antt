use Rattle.std.proofs.Common.{length}
use Rattle.parameters.specs.Position.{start}
use Rattle.console.specs.Answer.{Known}
use Rattle.console.specs.Summary.{PrintsGist}
use Rattle.console.proofs.summary.print_gist.Given as goal

abbrev pub invariant-loop-tag : goal.invariant-loop-tag
invariant-loop-tag g l =
    (new : Known) → PrintsGist l.rows l.position l.reader (g.W.Write.contents l.out) new →
    PrintsGist l.rows start l.octets (g.W.Write.contents l.initial.out) new

abbrev pub decreases-loop-tag : goal.decreases-loop-tag
decreases-loop-tag g l = length l.reader
