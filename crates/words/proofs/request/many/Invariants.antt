use Rattle.std.proofs.Common.{option_map, Some}
use Rattle.words.proofs.Lists.{ReadsMany, left_in}
use Rattle.words.proofs.request.many.Given as goal

abbrev pub invariant-loop-rest : goal.invariant-loop-rest
invariant-loop-rest g l = ReadsMany (Some l.words) l.groups (option_map (λ w. w.now) l.rest)

abbrev pub decreases-loop-rest : goal.decreases-loop-rest
decreases-loop-rest g l = left_in (option_map (λ w. w.now) l.rest)
