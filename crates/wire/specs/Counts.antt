-- Counts of what a wire did, which stay at the greatest number.
use Rattle.std.specs.Prelude.{◌≡◌, ◌⊎◌, ◌<◌, ◌+◌, ◌-◌, ◌^◌, ℕ, min}

-- a count's greatest number
abbrev pub MAX_COUNT : ℕ
MAX_COUNT = 2 ^ 64 - 1

-- a count after so many more
abbrev pub raised : (count by : ℕ) → ℕ
raised count by = min (count + by) MAX_COUNT

-- a count has risen; at its greatest number it stays, and a further rise counts as having happened
abbrev pub IsRisen : (before after : ℕ) → Type 0
IsRisen before after = (before < after) ⊎ (before ≡ MAX_COUNT)
