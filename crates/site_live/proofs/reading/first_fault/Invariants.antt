use Rattle.std.proofs.Common.{option_map}
use Rattle.script.specs.Lines.{size_left}
use Rattle.site_live.proofs.reading.first_fault.Given as goal

abbrev pub decreases-loop-left : goal.decreases-loop-left
decreases-loop-left g l = size_left (option_map (λ r. r.now) l.left)
