use Rattle.std.proofs.Common.{◌≡◌, ◌++◌}
use Rattle.std.specs.Prelude.{map}
use Rattle.segments.specs.Pieces.{piece_of}
use Rattle.client_tsm.specs.Asking.{piece_said}
use Rattle.client_tsm.proofs.transaction.Transaction.ask.Given as goal

-- the pieces so far are said
abbrev pub invariant-loop-piece : goal.invariant-loop-piece
invariant-loop-piece g l = l.said ≡ l.fn.said ++ map (piece_said l.self) (map piece_of l.yielded)
