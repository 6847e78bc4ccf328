use Rattle.std.proofs.Common.{◌≡◌, ◌++◌, length, true}
use Rattle.octet_texts.specs.Lists.{listed}
use Rattle.octet_texts.proofs.lists.plain.Given as goal

abbrev pub invariant-loop-left : goal.invariant-loop-left
invariant-loop-left g l = l.pairs.items ++ listed l.may_begin l.left ≡ listed true l.text

abbrev pub decreases-loop-left : goal.decreases-loop-left
decreases-loop-left g l = length l.left
