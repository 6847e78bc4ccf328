use Rattle.std.proofs.Common.{◌≡◌, ◌++◌, length}
use Rattle.octet_texts.specs.Pairs.{pairs_of}
use Rattle.octet_texts.proofs.pairs.push_pairs.Given as goal

abbrev pub invariant-loop-left : goal.invariant-loop-left
invariant-loop-left g l = l.out.items ++ pairs_of l.left ≡ l.fn.out.items ++ pairs_of l.octets

abbrev pub decreases-loop-left : goal.decreases-loop-left
decreases-loop-left g l = length l.left
