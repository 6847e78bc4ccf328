use Rattle.std.proofs.Common.{◌≡◌, ◌++◌}
use Rattle.buses.proofs.puts.Puts.new.Given as goal

-- what is left stands behind
abbrev pub invariant-loop-frame : goal.invariant-loop-frame
invariant-loop-frame g l = l.puts.items ++ l.frame-iterator.rest.items ≡ l.fn.frames.items
