-- Lists in which nothing stands twice.
use Rattle.std.specs.Prelude.{◌≢◌, List, [], ◌∷◌}
use Rattle.std.specs.List.{AllByRecursion}

-- two that differ
pub record IsOther {X : Type 0} (x y : X) : Type 0 where
  pub other : x ≢ y

-- nothing stands twice in a list
abbrev pub AreApart : {X : Type 0} → List X → Type 0
AreApart [] = Unit {0}
AreApart (x ∷ xs) = AllByRecursion (IsOther x) xs × AreApart xs
