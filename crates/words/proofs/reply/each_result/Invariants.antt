use Rattle.std.proofs.Common.{option_map}
use Rattle.words.proofs.Lists.{left_in}
use Rattle.words.proofs.Replies.{ReadsEach}
use Rattle.words.proofs.reply.each_result.Given as goal

abbrev pub invariant-loop-rest : goal.invariant-loop-rest
invariant-loop-rest g l = ReadsEach (option_map (λ w. w.now) l.words) l.all (option_map (λ w. w.now) l.rest)

abbrev pub decreases-loop-rest : goal.decreases-loop-rest
decreases-loop-rest g l = left_in (option_map (λ w. w.now) l.rest)
