use Rattle.std.proofs.Common.{◌≡◌, ◌+◌, ◌≤◌, ◌^◌, option_map}
use Rattle.script.specs.Lines.{lines_left, size_left}
use Rattle.script.specs.Numbers.{numbers_from}
use Rattle.script.proofs.numbers.LineNumbers.next.Given as goal

-- the lines behind those that are skipped have the same numbers
abbrev pub invariant-loop-self : goal.invariant-loop-self
invariant-loop-self l =
    (numbers_from l.self-inside.number (lines_left (option_map (λ r. r.now) l.self-inside.left)) ≡ l.fn.self)
    × (l.self-inside.number + size_left (option_map (λ r. r.now) l.self-inside.left) ≤ 2 ^ 63 + 2)

abbrev pub decreases-loop-self : goal.decreases-loop-self
decreases-loop-self l = size_left (option_map (λ r. r.now) l.self-inside.left)
