use Rattle.std.proofs.Common.{◌≡◌, length}
use Rattle.std.specs.Prelude.{option_map}
use Rattle.history.specs.Lists.{first_of, last_of_those}
use Rattle.verdicts.specs.Verdicts.{is_sought}
use Rattle.verdicts.proofs.told.last_sought.Given as goal

abbrev pub decreases-loop-left : goal.decreases-loop-left
decreases-loop-left g l = length l.left

-- the last one in what is left, or else the one before
abbrev pub invariant-loop-left : goal.invariant-loop-left
invariant-loop-left g l =
    first_of (last_of_those (is_sought l.sought l.number) l.left) (option_map (λ e. e.now) l.last)
    ≡ last_of_those (is_sought l.sought l.number) l.history
