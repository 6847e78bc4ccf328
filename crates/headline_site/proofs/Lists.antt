-- Lists of stations' states, of which one is replaced.
use Rattle.std.proofs.Common.{◌≡◌, ◌≢◌, sym, ap, subst, ◌∙◌, ℕ, zero, suc, List, [], ◌∷◌, map, Some}
use Rattle.std.specs.Prelude.{slice_get, slice_set}
use Rattle.std.specs.List.{AllByRecursion}
use Rattle.headline_device.specs.remembered.Records.{AreDistinct}

module _ {X Y : Type 0} (f : X → Y) where
  same_some : (x y : X) → Some x ≡ Some y → x ≡ y
  same_some x y e = cc e

  -- what is replaced by one at the same station leaves the stations
  pub stations_stay : (xs : List X) (place : ℕ) (x y : X) → slice_get xs place ≡ Some x → f y ≡ f x → map f (slice_set xs place y) ≡ map f xs
  stations_stay [] place x y e same = absurd (cc e)
  stations_stay (z ∷ zs) zero x y e same = ap (λ (k : Y). k ∷ map f zs) (same ∙ ap f (sym (same_some z x e)))
  stations_stay (z ∷ zs) (suc place) x y e same = ap (λ (l : List Y). f z ∷ l) (stations_stay zs place x y e same)

  apart_at : (xs : List X) (place : ℕ) (x : X) (k : Y) → slice_get xs place ≡ Some x → AllByRecursion (λ y. y ≢ k) (map f xs) → f x ≢ k
  apart_at [] place x k e h = absurd (cc e)
  apart_at (z ∷ zs) zero x k e h = subst (λ (q : X). f q ≢ k) (same_some z x e) h.0
  apart_at (z ∷ zs) (suc place) x k e h = apart_at zs place x k e h.1

  others_all : (P P' : X → Type 0) (xs : List X) (x : X) → AllByRecursion (λ y. y ≢ f x) (map f xs) → AllByRecursion P xs →
      ((z : X) → f z ≢ f x → P z → P' z) → AllByRecursion P' xs
  others_all P P' [] x apart all others = tt
  others_all P P' (z ∷ zs) x apart all others = (others z apart.0 all.0, others_all P P' zs x apart.1 all.1 others)

  -- one is replaced, and all others stay as they are
  pub all_replaced : (P P' : X → Type 0) (xs : List X) (place : ℕ) (x y : X) → slice_get xs place ≡ Some x → AreDistinct (map f xs) → AllByRecursion P xs →
      ((z : X) → f z ≢ f x → P z → P' z) → P' y → AllByRecursion P' (slice_set xs place y)
  all_replaced P P' [] place x y e apart all others mine = absurd (cc e)
  all_replaced P P' (z ∷ zs) zero x y e apart all others mine =
      let same = same_some z x e in
      (mine, others_all P P' zs x (subst (λ (q : X). AllByRecursion (λ k. k ≢ f q) (map f zs)) same apart.0) all.1 others)
  all_replaced P P' (z ∷ zs) (suc place) x y e apart all others mine =
      let there : f x ≢ f z = apart_at zs place x (f z) e apart.0 in
      (others z (λ g. there (sym g)) all.0, all_replaced P P' zs place x y e apart.1 all.1 others mine)
