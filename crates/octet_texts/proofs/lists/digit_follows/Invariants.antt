use Rattle.std.proofs.Common.{◌≡◌, length}
use Rattle.octet_texts.specs.Lists.{digit_follows}
use Rattle.octet_texts.proofs.lists.digit_follows.Given as goal

abbrev pub invariant-loop-left : goal.invariant-loop-left
invariant-loop-left l = digit_follows l.left ≡ digit_follows l.text

abbrev pub decreases-loop-left : goal.decreases-loop-left
decreases-loop-left l = length l.left
