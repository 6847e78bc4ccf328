-- Lists that stand, in their order, within others.
use Rattle.std.proofs.Common.{◌≡◌, ◌∙◌, ◌⊎◌, inl, inr, refl, sym, ap, subst, List, [], ◌∷◌, ◌++◌, map}
use Rattle.std.proofs.lemmas.List.{map-append}
use Rattle.std.specs.List.{AllByRecursion, flat_map}
use Rattle.site.specs.Apart.{AreApart, IsOther}

-- a list stands within another
abbrev pub IsPart : {X : Type 0} → List X → List X → Type 0
IsPart [] ys = Unit {0}
IsPart (x ∷ xs) [] = ⊥
IsPart (x ∷ xs) (y ∷ ys) = ((x ≡ y) × IsPart xs ys) ⊎ IsPart (x ∷ xs) ys

pub part_skip : {X : Type 0} (xs : List X) (y : X) (ys : List X) → IsPart xs ys → IsPart xs (y ∷ ys)
part_skip [] y ys p = tt
part_skip (x ∷ xs) y ys p = inr p

pub part_same : {X : Type 0} (x : X) (xs ys : List X) → IsPart xs ys → IsPart (x ∷ xs) (x ∷ ys)
part_same x xs ys p = inl (refl, p)

pub part_behind : {X : Type 0} (xs ys zs : List X) → IsPart xs zs → IsPart xs (ys ++ zs)
part_behind xs [] zs p = p
part_behind xs (y ∷ ys) zs p = part_skip xs y (ys ++ zs) (part_behind xs ys zs p)

pub part_both : {X : Type 0} (ps qs xs ys : List X) → IsPart ps xs → IsPart qs ys → IsPart (ps ++ qs) (xs ++ ys)
part_both [] qs xs ys p q = part_behind qs xs ys q
part_both (a ∷ ps) qs [] ys p q = absurd p
part_both (a ∷ ps) qs (x ∷ xs) ys p q = elim p [
  | inl e ↦ inl (e.0, part_both ps qs xs ys e.1 q)
  | inr e ↦ inr (part_both (a ∷ ps) qs xs ys e q)
]

pub part_all : {X : Type 0} (P : X → Type 0) (xs ys : List X) → IsPart xs ys → AllByRecursion P ys → AllByRecursion P xs
part_all P [] ys p each = tt
part_all P (x ∷ xs) [] p each = absurd p
part_all P (x ∷ xs) (y ∷ ys) p each = elim p [
  | inl e ↦ (subst P (sym e.0) each.0, part_all P xs ys e.1 each.1)
  | inr e ↦ part_all P (x ∷ xs) ys e each.1
]

-- where nothing stands twice, nothing does within
pub part_apart : {X : Type 0} (xs ys : List X) → IsPart xs ys → AreApart ys → AreApart xs
part_apart [] ys p each = tt
part_apart (x ∷ xs) [] p each = absurd p
part_apart (x ∷ xs) (y ∷ ys) p each = elim p [
  | inl e ↦ (subst (λ z. AllByRecursion (IsOther z) xs) (sym e.0) (part_all (IsOther y) xs ys e.1 each.0), part_apart xs ys e.1 each.1)
  | inr e ↦ part_apart (x ∷ xs) ys e each.1
]

pub part_flat : {X Y : Type 0} (f g : X → List Y) → ((x : X) → IsPart (f x) (g x)) → (xs : List X) → IsPart (flat_map f xs) (flat_map g xs)
part_flat f g each [] = tt
part_flat f g each (x ∷ xs) = part_both (f x) (flat_map f xs) (g x) (flat_map g xs) (each x) (part_flat f g each xs)

others_of_map : {X Y : Type 0} (h : X → Y) (x : X) (xs : List X) → AllByRecursion (IsOther (h x)) (map h xs) → AllByRecursion (IsOther x) xs
others_of_map h x [] each = tt
others_of_map h x (y ∷ ys) each = (record { other = λ e. each.0.other (ap h e) }, others_of_map h x ys each.1)

-- what is apart behind a function is apart
pub apart_of_map : {X Y : Type 0} (h : X → Y) (xs : List X) → AreApart (map h xs) → AreApart xs
apart_of_map h [] each = tt
apart_of_map h (x ∷ xs) each = (others_of_map h x xs each.0, apart_of_map h xs each.1)

pub map_flat : {X Y Z : Type 0} (h : Y → Z) (f : X → List Y) (xs : List X) → map h (flat_map f xs) ≡ flat_map (λ x. map h (f x)) xs
map_flat h f [] = refl
map_flat {X} {Y} {Z} h f (x ∷ xs) = map-append h (f x) (flat_map f xs) ∙ ap (λ (zs : List Z). map h (f x) ++ zs) (map_flat h f xs)

pub map_map : {X Y Z : Type 0} (h : Y → Z) (f : X → Y) (xs : List X) → map h (map f xs) ≡ map (λ x. h (f x)) xs
map_map h f [] = refl
map_map {X} {Y} {Z} h f (x ∷ xs) = ap (λ (zs : List Z). h (f x) ∷ zs) (map_map h f xs)
