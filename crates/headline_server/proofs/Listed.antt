-- Lemmas on lists: what holds of each of several.
use Rattle.std.proofs.Common.{refl, ℕ, List, [], ◌∷◌, ◌++◌}
use Rattle.std.specs.List.{AllByRecursion, flat_map}
use Rattle.history.specs.Lists.{Has}
use Rattle.history.proofs.Lists.{has, has_next}

module _ {X : Type 0} where
  -- of two lists one behind the other
  pub all_both : (P : X → Type 0) (xs ys : List X) → AllByRecursion P xs → AllByRecursion P ys → AllByRecursion P (xs ++ ys)
  all_both P [] ys g h = h
  all_both P (x ∷ xs) ys g h = (g.0, all_both P xs ys g.1 h)

  -- what follows from what holds of each
  pub all_so : (P Q : X → Type 0) (xs : List X) → ((x : X) → P x → Q x) → AllByRecursion P xs → AllByRecursion Q xs
  all_so P Q [] f h = tt
  all_so P Q (x ∷ xs) f h = (f x h.0, all_so P Q xs f h.1)

module _ {X Y : Type 0} where
  -- of all that comes of each
  pub all_flat : (P : Y → Type 0) (f : X → List Y) (xs : List X) → ((x : X) → Has xs x → AllByRecursion P (f x)) → AllByRecursion P (flat_map f xs)
  all_flat P f [] h = tt
  all_flat P f (x ∷ xs) h = all_both P (f x) (flat_map f xs) (h x (has 0 refl)) (all_flat P f xs (λ y there. h y (has_next x xs there)))
