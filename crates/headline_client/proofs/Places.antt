-- Lists at a place: what stands before it, at it and behind it; and what holds of each of a list.
use Rattle.std.proofs.Common.{◌≡◌, refl, ap, subst, ◌∙◌, ℕ, zero, suc, List, [], ◌∷◌, ◌++◌, take, drop, map, Option, Some}
use Rattle.std.specs.Prelude.{option_map, slice_get, slice_set}
use Rattle.std.specs.List.{AllByRecursion}
use Rattle.std.proofs.lemmas.List.{map-append}
use Rattle.std.proofs.lemmas.Option.{slice_get-map}
use Rattle.history.specs.Lists.{Has}

module _ {X : Type 0} where
  same_some : (x y : X) → Some x ≡ Some y → x ≡ y
  same_some x y e = cc e

  -- a list is what stands before a place, at it and behind it
  pub split_at : (xs : List X) (place : ℕ) (x : X) → slice_get xs place ≡ Some x → xs ≡ take place xs ++ x ∷ drop (suc place) xs
  split_at [] place x e = absurd (cc e)
  split_at (y ∷ ys) zero x e = ap (λ (z : X). z ∷ ys) (same_some y x e)
  split_at (y ∷ ys) (suc place) x e = ap (λ (zs : List X). y ∷ zs) (split_at ys place x e)

  -- another is put at a place: between those before and those behind
  pub set_at : (xs : List X) (place : ℕ) (x v : X) → slice_get xs place ≡ Some x → slice_set xs place v ≡ take place xs ++ v ∷ drop (suc place) xs
  set_at [] place x v e = absurd (cc e)
  set_at (y ∷ ys) zero x v e = refl
  set_at (y ∷ ys) (suc place) x v e = ap (λ (zs : List X). y ∷ zs) (set_at ys place x v e)

  -- what holds of each holds of each before a place, and behind it
  pub all_front : (P : X → Type 0) (xs ys : List X) → AllByRecursion P (xs ++ ys) → AllByRecursion P xs
  all_front P [] ys h = tt
  all_front P (x ∷ xs) ys h = (h.0, all_front P xs ys h.1)

  pub all_back : (P : X → Type 0) (xs ys : List X) → AllByRecursion P (xs ++ ys) → AllByRecursion P ys
  all_back P [] ys h = h
  all_back P (x ∷ xs) ys h = all_back P xs ys h.1

  pub all_join : (P : X → Type 0) (xs ys : List X) → AllByRecursion P xs → AllByRecursion P ys → AllByRecursion P (xs ++ ys)
  all_join P [] ys h g = g
  all_join P (x ∷ xs) ys h g = (h.0, all_join P xs ys h.1 g)

  -- what holds of all holds of the one at a place
  pub all_at : (P : X → Type 0) (xs : List X) (place : ℕ) (x : X) → AllByRecursion P xs → slice_get xs place ≡ Some x → P x
  all_at P [] place x h e = absurd (cc e)
  all_at P (y ∷ ys) zero x h e = subst P (same_some y x e) h.0
  all_at P (y ∷ ys) (suc place) x h e = all_at P ys place x h.1 e

-- what stands in a list, seen through a function, stands in the list so seen
pub has_map : {X Y : Type 0} (f : X → Y) (xs : List X) (place : ℕ) (x : X) → slice_get xs place ≡ Some x → Has (map f xs) (f x)
has_map {X} f xs place x e = record { place = place; at_place = slice_get-map f xs place ∙ ap (λ (o : Option X). option_map f o) e }

-- the same of each, where it is seen through a function
pub all_map : {X Y : Type 0} (P : Y → Type 0) (f : X → Y) (xs : List X) → AllByRecursion (λ x. P (f x)) xs → AllByRecursion P (map f xs)
all_map P f [] h = tt
all_map P f (x ∷ xs) h = (h.0, all_map P f xs h.1)

pub all_weaken : {X : Type 0} (P Q : X → Type 0) (xs : List X) → ((x : X) → P x → Q x) → AllByRecursion P xs → AllByRecursion Q xs
all_weaken P Q [] f h = tt
all_weaken P Q (x ∷ xs) f h = (f x h.0, all_weaken P Q xs f h.1)

-- a list at a place, seen through a function
pub split_map : {X Y : Type 0} (f : X → Y) (xs front rest : List X) (x : X) → xs ≡ front ++ x ∷ rest → map f xs ≡ map f front ++ f x ∷ map f rest
split_map {X} f xs front rest x e = ap (λ (l : List X). map f l) e ∙ map-append f front (x ∷ rest)

pub has_seen : {X Y : Type 0} (f : X → Y) (xs : List X) (x : X) → Has xs x → Has (map f xs) (f x)
has_seen f xs x h = has_map f xs h.place x h.at_place

-- what holds of each holds of one of them
pub all_has : {X : Type 0} (P : X → Type 0) (xs : List X) (x : X) → AllByRecursion P xs → Has xs x → P x
all_has P xs x h g = all_at P xs g.place x h g.at_place
