use Rattle.std.proofs.Common.{length}
use Rattle.words.specs.HexText.{HasSpacesBefore}
use Rattle.words.proofs.hex_text.without_spaces.Given as goal

abbrev pub invariant-loop-rest : goal.invariant-loop-rest
invariant-loop-rest l = HasSpacesBefore l.text l.rest

abbrev pub decreases-loop-rest : goal.decreases-loop-rest
decreases-loop-rest l = length l.rest
