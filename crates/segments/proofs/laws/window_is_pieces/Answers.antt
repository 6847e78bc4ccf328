use Rattle.segments.proofs.PieceLaws as laws
use Rattle.segments.proofs.laws.window_is_pieces.Goals as goal

pub returns : goal.returns
returns c = laws.window_is_pieces
