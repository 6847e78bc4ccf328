use Rattle.std.proofs.Common.{rules, arith, ◌≡◌, ◌+◌, ◌-◌, length, take, drop}
use Rattle.std.proofs.lemmas.List.{length-drop, take_all}
use Rattle.script.proofs.LineLaws.{line_at}
use Rattle.script.proofs.script.cut_line.Goals as goal

pub returns-then-octet-eq10-clause-parts : goal.returns-then-octet-eq10-clause-parts
returns-then-octet-eq10-clause-parts c =
    let text = c.args.text.now in
    let end = c.loop-end.end in
    let tail : take (length text - (end + 1)) (drop (end + 1) text) ≡ drop (end + 1) text =
    take_all (length text - (end + 1)) (drop (end + 1) text) (omega (arith, length-drop (end + 1) text)) in
    rw (tail, c.without_return.ensures) (line_at text end (search rules) (search rules) c.loop-end.invariant)
