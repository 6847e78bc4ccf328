use Rattle.std.specs.Prelude.{option_map}
use Rattle.script.specs.Lines.{size_left}
use Rattle.script.specs.Reading.{HasRead}
use Rattle.script.proofs.script.script_of.Given as goal

abbrev pub decreases-loop-left : goal.decreases-loop-left
decreases-loop-left g l = size_left (option_map (λ r. r.now) l.left)

abbrev pub invariant-loop-left : goal.invariant-loop-left
invariant-loop-left g l = HasRead l.text l.steps l.number (option_map (λ r. r.now) l.left)
