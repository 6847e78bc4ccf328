-- Names by their numbers, and numbers by their names.
use Rattle.std.specs.Prelude.{◌≡◌, ℕ, ◌==◌, nat_eq, if◌then◌else◌, List, [], ◌∷◌, Option, Some, None}
use Rattle.std.specs.Cmp.Lexicographic.{pointwise}
use Rattle.std.specs.List.{AllByRecursion}

-- the name of a number, in a table of names
abbrev pub name_in : List (ℕ × List ℕ) → ℕ → Option (List ℕ)
name_in [] n = None
name_in (row ∷ rows) n = if row.0 == n then Some row.1 else name_in rows n

-- the number that has this name, in a table of names
abbrev pub number_in : List (ℕ × List ℕ) → List ℕ → Option ℕ
number_in [] name = None
number_in (row ∷ rows) name = if pointwise nat_eq row.1 name then Some row.0 else number_in rows name

-- in a table a number leads to its name, and a name to its number
abbrev pub LeadsBack : List (ℕ × List ℕ) → Type 0
LeadsBack table = AllByRecursion
    (λ row. (name_in table row.0 ≡ Some row.1) × (number_in table row.1 ≡ Some row.0)) table
