-- Octets printed as pairs of hexadecimal digits.
use Rattle.std.specs.Prelude.{ℕ, ◌+◌, ◌/◌, ◌%◌, List, [], ◌∷◌, ◌++◌, nat_lt, if◌then◌else◌}

-- a digit, from A on in upper case
abbrev pub digit : ℕ → ℕ
digit n = if nat_lt n 10 then 48 + n else 55 + n

-- an octet as two digits
abbrev pub pair_of : ℕ → List ℕ
pair_of o = digit (o / 16) ∷ digit (o % 16) ∷ []

-- octets as pairs of digits with single spaces between them
abbrev pub pairs_of : List ℕ → List ℕ
pairs_of [] = []
pairs_of (o ∷ []) = pair_of o
pairs_of (o ∷ p ∷ os) = pair_of o ++ 32 ∷ pairs_of (p ∷ os)
