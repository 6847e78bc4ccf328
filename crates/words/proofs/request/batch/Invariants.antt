use Rattle.std.proofs.Common.{option_map, Some}
use Rattle.words.specs.Requests.{AreGrouped, all_writes}
use Rattle.words.proofs.Lists.{ReadsWrites, left_in}
use Rattle.words.proofs.request.batch.Given as goal

abbrev pub invariant-loop-rest : goal.invariant-loop-rest
invariant-loop-rest g l = ReadsWrites (Some l.words) (all_writes l.groups.items) (option_map (λ w. w.now) l.rest) × AreGrouped l.groups.items

abbrev pub decreases-loop-rest : goal.decreases-loop-rest
decreases-loop-rest g l = left_in (option_map (λ w. w.now) l.rest)
