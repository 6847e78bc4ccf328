use Rattle.std.proofs.Common.{[]}
use Rattle.site_live.specs.Running.{Lives}
use Rattle.site_live.proofs.live.Live.receive.Given as goal

-- so far
abbrev pub invariant-loop-count : goal.invariant-loop-count
invariant-loop-count g l = Lives l.spelling [] l.fn.self l.self (g.O.Write.contents l.fn.out) (g.O.Write.contents l.out)
