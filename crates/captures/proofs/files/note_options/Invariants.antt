use Rattle.std.proofs.Common.{length}
use Rattle.captures.proofs.files.note_options.Given as goal

abbrev pub decreases-loop-code : goal.decreases-loop-code
decreases-loop-code l = length l.left
