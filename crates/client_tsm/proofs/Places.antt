-- Lists that are walked from their first place on.
use Rattle.std.proofs.Common.{◌≡◌, ◌∙◌, sym, ap, ℕ, ◌+◌, ◌<◌, List, [], ◌∷◌, ◌++◌, length, get_or, take, drop, append_assoc}
use Rattle.std.specs.List.{flat_map}
use Rattle.std.proofs.lemmas.List.{drop_more, take_more}

module _ {X : Type 0} (xs : List X) (i : ℕ) (x : X) (within : i < length xs) (is : x ≡ get_or xs i x) where
  here : drop i xs ≡ x ∷ drop (i + 1) xs
  here = drop_more xs i x within ∙ ap (λ (y : X). y ∷ drop (i + 1) xs) (sym is)

  pub more : {Y : Type 0} (f : X → List Y) (so_far now : List Y) → now ≡ so_far ++ f x → now ++ flat_map f (drop (i + 1) xs) ≡ so_far ++ flat_map f (drop i xs)
  more f so_far now e =
      ap (λ (ys : List _). ys ++ flat_map f (drop (i + 1) xs)) e
      ∙ append_assoc so_far (f x) (flat_map f (drop (i + 1) xs))
      ∙ sym (ap (λ (zs : List X). so_far ++ flat_map f zs) here)

  pub taken_next : take (i + 1) xs ≡ take i xs ++ x ∷ []
  taken_next = take_more xs i x within ∙ ap (λ (y : X). take i xs ++ y ∷ []) (sym is)
