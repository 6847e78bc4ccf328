-- The place of the first that passes a test, where a list is gone through by places.
use Rattle.std.proofs.Common.{◌≡◌, ◌∙◌, refl, sym, ap, arith, ℕ, zero, suc, ◌+◌, ◌<◌, ◌≤◌, Bool, true, false, List, [], ◌∷◌, Option, Some, None, length, drop}
use Rattle.std.specs.Prelude.{if◌then◌else◌, slice_get}
use Rattle.world_sites.specs.Finding.{passes, place_from}

-- one is got at its place
pub got_at : {X : Type 0} (xs : List X) (i : ℕ) (x : X) → slice_get xs i ≡ Some x → drop i xs ≡ x ∷ drop (suc i) xs
got_at [] i x e = absurd (cc e)
got_at (y ∷ ys) zero x e = let same : y ≡ x = cc in ap (λ (z : _). z ∷ ys) same
got_at (y ∷ ys) (suc i) x e = got_at ys i x e

pub past_end : {X : Type 0} (xs : List X) (i : ℕ) → length xs ≤ i → drop i xs ≡ []
past_end [] zero le = refl
past_end [] (suc i) le = refl
past_end (y ∷ ys) zero le = absurd (omega (arith, le))
past_end (y ∷ ys) (suc i) le = past_end ys i (omega (arith, le))

pub no_none : {X : Type 0} (xs : List X) (i : ℕ) → i < length xs → None ≡ slice_get xs i → ⊥
no_none [] i lt e = absurd (omega (arith, lt))
no_none (y ∷ ys) zero lt e = cc e
no_none (y ∷ ys) (suc i) lt e = no_none ys i (omega (arith, lt)) e

module _ {X : Type 0} (test : X → Bool) (xs : List X) (i : ℕ) (r : Option ℕ)
    (so_far : place_from i test (drop i xs) ≡ r) where
  -- it is here
  pub found_here : (o : Option X) → o ≡ slice_get xs i → passes test o ≡ true → Some i ≡ r
  found_here None e t = absurd (cc t)
  found_here (Some x) e t =
      sym (ap (λ (b : Bool). if b then Some i else place_from (i + 1) test (drop (suc i) xs)) t)
      ∙ sym (ap (λ (ys : List X). place_from i test ys) (got_at xs i x (sym e))) ∙ so_far

  -- it is behind, if there is one
  pub found_later : (o : Option X) → o ≡ slice_get xs i → i < length xs → passes test o ≡ false →
      place_from (i + 1) test (drop (i + 1) xs) ≡ r
  found_later None e lt t = absurd (no_none xs i lt e)
  found_later (Some x) e lt t =
      let next : i + 1 ≡ suc i = omega arith in
      ap (λ (m : ℕ). place_from (i + 1) test (drop m xs)) next
      ∙ sym (ap (λ (b : Bool). if b then Some i else place_from (i + 1) test (drop (suc i) xs)) t)
      ∙ sym (ap (λ (ys : List X). place_from i test ys) (got_at xs i x (sym e))) ∙ so_far

  -- there is none
  pub found_none : length xs ≤ i → None ≡ r
  found_none le = sym (ap (λ (ys : List X). place_from i test ys) (past_end xs i le)) ∙ so_far
