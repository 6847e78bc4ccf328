use Rattle.std.proofs.Common.{◌↔◌, length}
use Rattle.objects.specs.primitives.Answers.{AnswersAll}
use Rattle.answers.proofs.answers.answers_all.Given as goal

abbrev pub invariant-loop-asked_left : goal.invariant-loop-asked_left
invariant-loop-asked_left g l = AnswersAll l.asked_left l.read_left ↔ AnswersAll l.asked l.read

abbrev pub decreases-loop-asked_left : goal.decreases-loop-asked_left
decreases-loop-asked_left g l = length l.asked_left
