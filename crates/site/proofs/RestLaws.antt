-- What is told of the rest of a list is told of all, where its first element passes.
use Rattle.std.proofs.Common.{◌≤◌, ◌-◌, length, take, drop, get_or, map, arith, ◌≡◌, sym, subst, List, [], ◌∷◌, ℕ}
use Rattle.std.proofs.lemmas.List.{take_all}
use Rattle.std.specs.Prelude.{◌↔◌}
use Rattle.std.specs.List.{AllByRecursion}
use Rattle.site_parts.specs.declared.parts.Station.{Station}
use Rattle.site.specs.Apart.{AreApart, IsOther}
use Rattle.site.specs.Roles.{AreInOrder, rank}

rest_is : {X : Type 0} (x : X) (xs : List X) → take (length (x ∷ xs) - 1) (drop 1 (x ∷ xs)) ≡ xs
rest_is x xs = take_all (length (x ∷ xs) - 1) xs (omega arith)

pub rest_told : {X : Type 0} (P : X → Type 0) (T : Type 0) (d : X) (xs : List X) (x : X) → x ≡ get_or xs 0 d → 1 ≤ length xs → P x →
    (AllByRecursion P xs ↔ T) → (AllByRecursion P (take (length xs - 1) (drop 1 xs)) ↔ T)
rest_told P T d [] y is some here told = absurd (omega (arith, some))
rest_told {X} P T d (x ∷ xs) y is some here told = subst (λ (ys : List X). AllByRecursion P ys ↔ T) (sym (rest_is x xs))
    (λ each. told.0 (subst P is here, each), λ t. (told.1 t).1)

pub rest_told_map : {X Y : Type 0} (P : Y → Type 0) (f : X → Y) (T : Type 0) (d : X) (xs : List X) (x : X) → x ≡ get_or xs 0 d → 1 ≤ length xs → P (f x) →
    (AllByRecursion P (map f xs) ↔ T) → (AllByRecursion P (map f (take (length xs - 1) (drop 1 xs))) ↔ T)
rest_told_map P f T d [] y is some here told = absurd (omega (arith, some))
rest_told_map {X} P f T d (x ∷ xs) y is some here told = subst (λ (ys : List X). AllByRecursion P (map f ys) ↔ T) (sym (rest_is x xs))
    (λ each. told.0 (subst (λ (z : X). P (f z)) is here, each), λ t. (told.1 t).1)

pub order_told : {A : Type 0} (T : Type 0) (least : ℕ) (d : Station A) (xs : List (Station A)) (x : Station A) → x ≡ get_or xs 0 d → 1 ≤ length xs → least ≤ rank x.role →
    (AreInOrder least xs ↔ T) → (AreInOrder (rank x.role) (take (length xs - 1) (drop 1 xs)) ↔ T)
order_told T least d [] y is some here told = absurd (omega (arith, some))
order_told {A} T least d (x ∷ xs) y is some here told = subst (λ (ys : List (Station A)). AreInOrder (rank y.role) ys ↔ T) (sym (rest_is x xs)) (
  λ each. told.0 (subst (λ (z : Station A). least ≤ rank z.role) is here, subst (λ (z : Station A). AreInOrder (rank z.role) xs) is each),
  λ t. subst (λ (z : Station A). AreInOrder (rank z.role) xs) (sym is) (told.1 t).1,
)

-- who doesn't pass is told of all
pub none_told_map : {X Y : Type 0} (P : Y → Type 0) (f : X → Y) (T : Type 0) (d : X) (xs : List X) (x : X) → x ≡ get_or xs 0 d → 1 ≤ length xs → (P (f x) → ⊥) →
    (AllByRecursion P (map f xs) ↔ T) → T → ⊥
none_told_map P f T d [] y is some here told t = absurd (omega (arith, some))
none_told_map {X} P f T d (x ∷ xs) y is some here told t = here (subst (λ (z : X). P (f z)) (sym is) (told.1 t).0)

pub apart_told_map : {X Y : Type 0} (f : X → Y) (T : Type 0) (d : X) (xs : List X) (x : X) → x ≡ get_or xs 0 d → 1 ≤ length xs →
    AllByRecursion (IsOther (f x)) (map f (take (length xs - 1) (drop 1 xs))) →
    (AreApart (map f xs) ↔ T) → (AreApart (map f (take (length xs - 1) (drop 1 xs))) ↔ T)
apart_told_map f T d [] y is some here told = absurd (omega (arith, some))
apart_told_map {X} f T d (x ∷ xs) y is some here told = subst (λ (ys : List X). AreApart (map f ys) ↔ T) (sym (rest_is x xs)) (
  λ each. told.0 (
    subst (λ (z : X). AllByRecursion (IsOther (f z)) (map f xs)) is
        (subst (λ (ys : List X). AllByRecursion (IsOther (f y)) (map f ys)) (rest_is x xs) here),
    each,
  ),
  λ t. (told.1 t).1,
)
