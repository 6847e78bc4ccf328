use Rattle.segments.proofs.PieceLaws as laws
use Rattle.segments.proofs.laws.pieces_join.Goals as goal

pub returns-clause-joined : goal.returns-clause-joined
returns-clause-joined c = laws.pieces_join

pub returns-clause-fewest : goal.returns-clause-fewest
returns-clause-fewest c = laws.fewest

pub returns-clause-in_order : goal.returns-clause-in_order
returns-clause-in_order c = laws.in_order

pub returns-clause-full : goal.returns-clause-full
returns-clause-full c = laws.full
