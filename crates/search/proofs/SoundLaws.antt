-- Events that are sound.
use Rattle.std.proofs.Common.{List, [], ◌∷◌, ◌++◌}
use Rattle.std.specs.List.{AllByRecursion}

-- one more
pub all_more : {X : Type 0} (P : X → Type 0) (xs : List X) (y : X) → AllByRecursion P xs → P y →
    AllByRecursion P (xs ++ y ∷ [])
all_more P [] y all one = (one, tt)
all_more P (x ∷ xs) y all one = (all.0, all_more P xs y all.1 one)

pub ruleset sound_rules = (all_more)
