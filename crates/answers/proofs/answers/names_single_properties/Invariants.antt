use Rattle.std.proofs.Common.{◌↔◌, length}
use Rattle.std.specs.List.{AllByRecursion}
use Rattle.objects.specs.primitives.Answers.{IsOneProperty}
use Rattle.answers.proofs.answers.names_single_properties.Given as goal

abbrev pub invariant-loop-left : goal.invariant-loop-left
invariant-loop-left l = AllByRecursion IsOneProperty l.left ↔ AllByRecursion IsOneProperty l.references

abbrev pub decreases-loop-left : goal.decreases-loop-left
decreases-loop-left l = length l.left
