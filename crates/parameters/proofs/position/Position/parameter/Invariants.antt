use Rattle.std.proofs.Common.{◌≡◌, length}
use Rattle.tags.specs.Tag.{plain_tag}
use Rattle.parameters.specs.Position as spec
use Rattle.parameters.proofs.position.Position.parameter.Given as goal

-- the parameter is sought in what is left
abbrev pub invariant-loop-left : goal.invariant-loop-left
invariant-loop-left l =
    spec.parameter_of l.left l.self (plain_tag l.tag) ≡ spec.parameter_of l.rows l.self (plain_tag l.tag)

abbrev pub decreases-loop-left : goal.decreases-loop-left
decreases-loop-left l = length l.left
