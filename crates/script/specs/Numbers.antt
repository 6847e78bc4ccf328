-- The numbers of the lines that say steps.
use Rattle.std.specs.Prelude.{ℕ, ◌+◌, List, [], ◌∷◌, if◌then◌else◌}
use Rattle.script.specs.Lines.{is_skipped, lines}

-- the numbers of the lines that are neither empty nor comments, where the first line has this number
abbrev pub numbers_from : ℕ → List (List ℕ) → List ℕ
numbers_from n [] = []
numbers_from n (l ∷ ls) = if is_skipped l then numbers_from (n + 1) ls else n ∷ numbers_from (n + 1) ls

-- the numbers of the lines of a script that say its steps, in their order; the first line is 1
abbrev pub line_numbers : List ℕ → List ℕ
line_numbers text = numbers_from 1 (lines text)
