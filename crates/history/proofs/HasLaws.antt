-- What stands in a list that was made of others, and what holds of each that stands in one.
use Rattle.std.proofs.Common.{◌≡◌, ⊎_elim, refl, ap, subst, ℕ, zero, suc, List, [], ◌∷◌, map, Some}
use Rattle.std.specs.Prelude.{slice_get}
use Rattle.std.specs.List.{AllByRecursion, flat_map}
use Rattle.history.specs.Lists.{Has}
use Rattle.history.proofs.Lists.{has, has_either, has_next, none_has}

module _ {X Y : Type 0} where
  map_at : (f : X → Y) (xs : List X) (k : ℕ) (x : X) → slice_get xs k ≡ Some x → slice_get (map f xs) k ≡ Some (f x)
  map_at f [] k x e = absurd (cc)
  map_at f (y ∷ xs) zero x e = let same : y ≡ x = cc in ap (λ z. Some (f z)) same
  map_at f (y ∷ xs) (suc k) x e = map_at f xs k x e

  -- what stands in a list stands in its map
  pub has_map : (f : X → Y) (xs : List X) (x : X) → Has xs x → Has (map f xs) (f x)
  has_map f xs x h = has h.place (map_at f xs h.place x h.at_place)

  map_has_at : (f : X → Y) (xs : List X) (k : ℕ) (y : Y) → slice_get (map f xs) k ≡ Some y → (x : X) × Has xs x × (f x ≡ y)
  map_has_at f [] k y e = absurd (cc)
  map_has_at f (x ∷ xs) zero y e = (x, has 0 refl, (cc))
  map_has_at f (x ∷ xs) (suc k) y e = let found = map_has_at f xs k y e in (found.0, has_next x xs found.1, found.2)

  -- what stands among the images is the image of one that stands there
  pub map_has : (f : X → Y) (xs : List X) (y : Y) → Has (map f xs) y → (x : X) × Has xs x × (f x ≡ y)
  map_has f xs y h = map_has_at f xs h.place y h.at_place

  -- what stands in all that comes of each comes of one that stands there
  pub flat_has : (f : X → List Y) (xs : List X) (y : Y) → Has (flat_map f xs) y → (x : X) × Has xs x × Has (f x) y
  flat_has f [] y h = absurd (none_has h)
  flat_has f (x ∷ xs) y h = ⊎_elim
      (λ (here : Has (f x) y). (x, has 0 refl, here))
      (λ (there : Has (flat_map f xs) y). let found = flat_has f xs y there in (found.0, has_next x xs found.1, found.2))
      (has_either (f x) (flat_map f xs) h)

module _ {X : Type 0} where
  all_at : (P : X → Type 0) (xs : List X) (k : ℕ) (x : X) → AllByRecursion P xs → slice_get xs k ≡ Some x → P x
  all_at P [] k x h e = absurd (cc)
  all_at P (y ∷ xs) zero x h e = let same : y ≡ x = cc in subst P same h.0
  all_at P (y ∷ xs) (suc k) x h e = all_at P xs k x h.1 e

  -- what holds of each holds of one that stands there
  pub all_has : (P : X → Type 0) (xs : List X) (x : X) → AllByRecursion P xs → Has xs x → P x
  all_has P xs x h there = all_at P xs there.place x h there.at_place

  -- what holds of each that stands there holds of all
  pub has_all : (P : X → Type 0) (xs : List X) → ((x : X) → Has xs x → P x) → AllByRecursion P xs
  has_all P [] h = tt
  has_all P (x ∷ xs) h = (h x (has 0 refl), has_all P xs (λ y there. h y (has_next x xs there)))
