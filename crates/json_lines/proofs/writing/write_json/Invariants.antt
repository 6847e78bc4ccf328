use Rattle.std.proofs.Common.{length, ◌≡◌, []}
use Rattle.json_lines.proofs.writing.write_json.Given as goal

-- where there is no line, nothing is left and nothing was written
abbrev pub invariant-loop-line : goal.invariant-loop-line
invariant-loop-line g l = l.fn.lines ≡ [] → (l.rest ≡ []) × (g.W.Write.contents l.out ≡ g.W.Write.contents l.fn.out)

abbrev pub decreases-loop-line : goal.decreases-loop-line
decreases-loop-line g l = length l.rest
