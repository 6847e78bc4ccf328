use Rattle.script.specs.Reading.{HasNoFeed}
use Rattle.script.proofs.script.cut_line.Given as goal

abbrev pub invariant-loop-end : goal.invariant-loop-end
invariant-loop-end l = HasNoFeed l.text l.end
