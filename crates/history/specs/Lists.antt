-- What stands in a list, and how often.
use Rattle.std.specs.Prelude.{◌≡◌, ℕ, ◌+◌, Bool, cond, List, [], ◌∷◌, Option, Some, None, slice_get}

-- it stands at some place of the list
pub record Has {X : Type 0} (xs : List X) (x : X) : Type 0 where
  pub place : ℕ
  pub at_place : slice_get xs place ≡ Some x

-- how many of the list pass the test
abbrev pub count : {X : Type 0} → (X → Bool) → List X → ℕ
count test [] = 0
count test (x ∷ xs) = cond (test x) 1 0 + count test xs

-- the first of them if there is one, else the second
abbrev pub first_of : {X : Type 0} → Option X → Option X → Option X
first_of (Some x) other = Some x
first_of None other = other

-- the last of the list that passes the test
abbrev pub last_of_those : {X : Type 0} → (X → Bool) → List X → Option X
last_of_those test [] = None
last_of_those test (x ∷ xs) = first_of (last_of_those test xs) (cond (test x) (Some x) None)
