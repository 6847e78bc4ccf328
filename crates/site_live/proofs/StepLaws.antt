-- One step more.
use Rattle.std.proofs.Common.{◌≡◌, sym, subst, append_assoc, List, [], ◌∷◌, ◌++◌}
use Rattle.std.specs.List.{AllByRecursion}
use Rattle.script.specs.declared.step.Step.{Step}
use Rattle.site_live.specs.Steps.{AreLive, IsLive}

-- what holds of all, and of one behind them, holds of all of these
pub all_and_one : {X : Type 0} (P : X → Type 0) (xs : List X) (x : X) → AllByRecursion P xs → P x →
    AllByRecursion P (xs ++ x ∷ [])
all_and_one P [] x all one = (one, tt)
all_and_one P (y ∷ ys) x all one = (all.0, all_and_one P ys x (all.1) one)

-- what a step and others ask for, behind what was asked for
pub live_before : {A : Type 0} (s : Step A) (ss all : List (Step A)) (x : Step A) (old new more : List (Step A)) →
    IsLive s x → new ≡ old ++ x ∷ [] →
    ((m : List (Step A)) → AreLive (s ∷ ss) m → AreLive all (old ++ m)) → AreLive ss more → AreLive all (new ++ more)
live_before s ss all x old new more live put before rest =
    subst (λ (l : List (Step _)). AreLive all (l ++ more)) (sym put)
    (subst (λ (l : List (Step _)). AreLive all l) (sym (append_assoc old (x ∷ []) more))
    (before (x ∷ more) (live, rest)))

pub ruleset step_laws = (all_and_one, live_before)
