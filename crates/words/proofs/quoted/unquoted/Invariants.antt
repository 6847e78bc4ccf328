use Rattle.std.proofs.Common.{◌≡◌, Some, length}
use Rattle.words.specs.Quoted.{unquoted, with_all}
use Rattle.words.proofs.quoted.unquoted.Given as goal

-- what is left makes of what is said so far what all the words make
abbrev pub invariant-loop-left : goal.invariant-loop-left
invariant-loop-left g l = with_all (Some (l.said.items, l.place)) l.left ≡ unquoted l.words

abbrev pub decreases-loop-left : goal.decreases-loop-left
decreases-loop-left g l = length l.left
