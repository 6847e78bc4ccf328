-- Lists that are made of others, and what holds of each of them.
use Rattle.std.proofs.Common.{append_assoc, append-nil, ◌≡◌, ◌≢◌, ◌∙◌, ◌<◌, ◌≤◌, ◌-◌, arith, refl, sym, ap, subst, length, get_or, take, drop, List, [], ◌∷◌, ◌++◌, map}
use Rattle.std.proofs.lemmas.Grind.{flat_map-append}
use Rattle.std.proofs.lemmas.List.{take_all}
use Rattle.std.specs.Prelude.{◌↔◌}
use Rattle.std.specs.List.{AllByRecursion, flat_map}
use Rattle.remembered.specs.Records.{AreDistinct}
use Rattle.site.specs.Apart.{AreApart, IsOther}

module _ {X : Type 0} where
  others : (x : X) (xs : List X) → AllByRecursion (IsOther x) xs → AllByRecursion (λ y. y ≢ x) xs
  others x [] a = tt
  others x (y ∷ ys) a = ((λ e. a.0.other (sym e)), others x ys a.1)

  -- what is apart is distinct
  pub distinct_of_apart : (xs : List X) → AreApart xs → AreDistinct xs
  distinct_of_apart [] a = tt
  distinct_of_apart (x ∷ xs) a = (others x xs a.0, distinct_of_apart xs a.1)

  -- what holds of each holds of all
  pub all_are : (P : X → Type 0) → ((x : X) → P x) → (xs : List X) → AllByRecursion P xs
  all_are P each [] = tt
  all_are P each (x ∷ xs) = (each x, all_are P each xs)

  pub all_leads : (P Q : X → Type 0) → ((x : X) → P x → Q x) → (xs : List X) → AllByRecursion P xs → AllByRecursion Q xs
  all_leads P Q leads [] h = tt
  all_leads P Q leads (x ∷ xs) h = (leads x h.0, all_leads P Q leads xs h.1)

  pub all_both : (P : X → Type 0) (xs ys : List X) → AllByRecursion P xs → AllByRecursion P ys →
      AllByRecursion P (xs ++ ys)
  all_both P [] ys a b = b
  all_both P (x ∷ xs) ys a b = (a.0, all_both P xs ys a.1 b)

  -- what is told of the rest of a list is told of all, where the rest is none
  pub none_left : (P : X → Type 0) (T : Type 0) (xs : List X) → length xs < 1 → (AllByRecursion P xs ↔ T) → T
  none_left P T [] few told = told.0 tt
  none_left P T (x ∷ xs) few told = absurd (omega (arith, few))

  -- what holds of all holds of the first
  pub holds_first : (P : X → Type 0) (d : X) (xs : List X) (x : X) → x ≡ get_or xs 0 d → 1 ≤ length xs →
      AllByRecursion P xs → P x
  holds_first P d [] x is some h = absurd (omega (arith, some))
  holds_first P d (y ∷ ys) x is some h = subst P (sym is) h.0

module _ {X Y : Type 0} where
  -- what comes of the first of a list stands before what comes of the rest
  pub one_further : (f : X → List Y) (P : X → Type 0) (out new all : List Y) (d : X) (xs : List X) (x : X) →
      x ≡ get_or xs 0 d → 1 ≤ length xs → new ≡ out ++ f x →
      (out ++ flat_map f xs ≡ all) × AllByRecursion P xs →
      (new ++ flat_map f (take (length xs - 1) (drop 1 xs)) ≡ all) × AllByRecursion P (take (length xs - 1) (drop 1 xs))
  one_further f P out new all d [] x is some e h = absurd (omega (arith, some))
  one_further f P out new all d (y ∷ ys) x is some e h =
      let rest : take (length (y ∷ ys) - 1) (drop 1 (y ∷ ys)) ≡ ys = take_all (length (y ∷ ys) - 1) ys (omega arith) in
      subst (λ (zs : List X). (new ++ flat_map f zs ≡ all) × AllByRecursion P zs) (sym rest) (
        ap (λ (zs : List Y). zs ++ flat_map f ys) (e ∙ ap (λ (z : X). out ++ f z) is)
            ∙ append_assoc out (f y) (flat_map f ys) ∙ h.0,
        h.1.1,
      )

  -- at the end all has come
  pub all_done : (f : X → List Y) (out all : List Y) (xs : List X) → length xs < 1 → out ++ flat_map f xs ≡ all →
      out ≡ all
  all_done f out all [] few e = sym (append-nil out) ∙ e
  all_done f out all (x ∷ xs) few e = absurd (omega (arith, few))

  pub all_mapped : (f : X → Y) (P : Y → Type 0) (xs : List X) → AllByRecursion (λ x. P (f x)) xs →
      AllByRecursion P (map f xs)
  all_mapped f P [] h = tt
  all_mapped f P (x ∷ xs) h = (h.0, all_mapped f P xs h.1)

  pub all_flat : (f : X → List Y) (P : Y → Type 0) (xs : List X) → AllByRecursion (λ x. AllByRecursion P (f x)) xs →
      AllByRecursion P (flat_map f xs)
  all_flat f P [] h = tt
  all_flat f P (x ∷ xs) h = all_both P (f x) (flat_map f xs) h.0 (all_flat f P xs h.1)

  -- of each the same comes
  pub flat_same : (f g : X → List Y) (xs : List X) → AllByRecursion (λ x. f x ≡ g x) xs → flat_map f xs ≡ flat_map g xs
  flat_same f g [] h = refl
  flat_same f g (x ∷ xs) h =
      ap (λ (ys : List Y). ys ++ flat_map f xs) h.0 ∙ ap (λ (ys : List Y). g x ++ ys) (flat_same f g xs h.1)

pub flat_flat : {X Y Z : Type 0} (h : Y → List Z) (f : X → List Y) (xs : List X) →
    flat_map h (flat_map f xs) ≡ flat_map (λ x. flat_map h (f x)) xs
flat_flat h f [] = refl
flat_flat {X} {Y} {Z} h f (x ∷ xs) =
    flat_map-append h (f x) (flat_map f xs) ∙ ap (λ (zs : List Z). flat_map h (f x) ++ zs) (flat_flat h f xs)
