use Rattle.wire.specs.Turns.{MayHaveMore}
use Rattle.wire.proofs.receiving.mark_all.Given as goal

-- some were told of so far
abbrev pub invariant-loop-event : goal.invariant-loop-event
invariant-loop-event g l = MayHaveMore l.fn.turns l.turns
