-- Lemmas on lists of which one is replaced.
use Rattle.std.proofs.Common.{◌≡◌, sym, subst, ℕ, zero, suc, List, [], ◌∷◌, Option, Some, None}
use Rattle.std.specs.Prelude.{slice_set}
use Rattle.std.specs.List.{AllByRecursion}
use Rattle.carry_said.specs.headline_site.AllStations.{AllStations, to_one}

-- one is replaced in a list of which something holds
pub all_set : {X : Type 0} (P : X → Type 0) (xs : List X) (place : ℕ) (y : X) → AllByRecursion P xs → P y → AllByRecursion P (slice_set xs place y)
all_set P [] place y all h = all
all_set P (x ∷ xs) zero y all h = (h, all.1)
all_set P (x ∷ xs) (suc place) y all h = (all.0, all_set P xs place y all.1 h)

-- by whether there is one at a place
pub by_one : {A X : Type 0} (P : AllStations A → Type 0) (f : X → AllStations A → AllStations A) (w : AllStations A) (o l : Option X) → l ≡ o → P w →
    ((x : X) → l ≡ Some x → P (f x w)) → P (to_one o f w)
by_one P f w None l e none one = none
by_one P f w (Some x) l e none one = one x e

-- where there is one
pub at_one : {A X : Type 0} (P : AllStations A → Type 0) (f : X → AllStations A → AllStations A) (w : AllStations A) (o : Option X) (x : X) → o ≡ Some x →
    P (f x w) → P (to_one o f w)
at_one {A} {X} P f w o x e h = subst (λ (z : Option X). P (to_one z f w)) (sym e) h
