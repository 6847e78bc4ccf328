use Rattle.std.proofs.Common.{◌≡◌, ◌++◌}
use Rattle.std.specs.Prelude.{map, None}
use Rattle.remembered.specs.Records.{said_on}
use Rattle.segments.specs.Pieces.{piece_of}
use Rattle.server_answers.specs.Answering.{answer_segment}
use Rattle.server_answers.proofs.answering.push_answer.Given as goal

-- the pieces so far are said
abbrev pub invariant-loop-piece : goal.invariant-loop-piece
invariant-loop-piece g l = l.said ≡ l.fn.said ++ map (answer_segment (said_on l.way None l.entry)) (map piece_of l.yielded)
