-- Things of a kind one after another.
use Rattle.std.proofs.Common.{ℕ, List, [], ◌∷◌, ◌++◌, refl, sym, subst}
use Rattle.std.specs.List.{AllByRecursion}
use Rattle.services.specs.Fields.{TakesEach}

-- one more
pub takes_more : {X : Type 0} (Takes : List ℕ → X → List ℕ → Type 0) (octets at next : List ℕ) (xs : List X) (x : X) → TakesEach Takes octets xs at →
    Takes at x next → TakesEach Takes octets (xs ++ x ∷ []) next
takes_more Takes octets at next [] x e taken = (next, subst (λ (z : List ℕ). Takes z x next) (sym e) taken, refl)
takes_more Takes octets at next (w ∷ xs) x all taken = (all.0, all.1, takes_more Takes all.0 at next xs x all.2 taken)

pub all_more : {X : Type 0} (Holds : X → Type 0) (xs : List X) (x : X) → AllByRecursion Holds xs → Holds x → AllByRecursion Holds (xs ++ x ∷ [])
all_more Holds [] x h s = (s, tt)
all_more Holds (w ∷ xs) x h s = (h.0, all_more Holds xs x h.1 s)
