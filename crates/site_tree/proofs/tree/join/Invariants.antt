use Rattle.std.proofs.Common.{ℕ, List, length}
use Rattle.site_tree.specs.Tree.{IsBetween, ArePortsThere}
use Rattle.site_tree.proofs.tree.join.Given as goal

abbrev pub invariant-loop-place : goal.invariant-loop-place
invariant-loop-place g l = (first : ℕ) (ns : List ℕ) → ArePortsThere ns l.stations → IsBetween first ns l.stations l.fn.apart.items → IsBetween first ns l.stations l.apart.items

abbrev pub decreases-loop-place : goal.decreases-loop-place
decreases-loop-place g l = length l.apart.items
