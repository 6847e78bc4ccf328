use Rattle.std.proofs.Common.{◌≡◌, ◌↔◌, map, length}
use Rattle.objects.specs.primitives.Answers.{read_reference}
use Rattle.answers.proofs.answers.are_of.Given as goal

abbrev pub invariant-loop-results_left : goal.invariant-loop-results_left
invariant-loop-results_left g l = (map read_reference l.results_left ≡ l.asked_left) ↔ (map read_reference l.results ≡ l.asked)

abbrev pub decreases-loop-results_left : goal.decreases-loop-results_left
decreases-loop-results_left g l = length l.results_left
