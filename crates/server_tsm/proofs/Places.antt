-- What is kept of a list, one place after another.
use Rattle.std.proofs.Common.{◌≡◌, ◌∙◌, refl, sym, ap, subst, ℕ, ◌+◌, ◌<◌, length, Bool, true, false, List, [], ◌∷◌, ◌++◌, take, drop, arith}
use Rattle.std.proofs.lemmas.List.{append_assoc}
use Rattle.std.specs.List.{find, flat_map}
use Rattle.std.specs.Prelude.{OnOk, IfSome, Option, Some, None, Result, Ok, Err, cond, zero, suc, filter, remove, slice_get, slice_index_or, slice_set}
use Rattle.server_answers.specs.remembered.declared.record.Asker.{Asker}
use Rattle.server_answers.specs.Gathering.{is_for, still}
use Rattle.server_answers.specs.declared.gathering.RequestGathering.{RequestGathering}
use Rattle.server_tsm.specs.Places.{IsPlaceOf}

module _ {X : Type 0} where
  same_one : (y x : X) → Some y ≡ Some x → y ≡ x
  same_one y x e = cc e

  -- the test at the first place
  first_test : (p : X → Bool) (y x : X) (b : Bool) → Some y ≡ Some x → p x ≡ b → p y ≡ b
  first_test p y x b e is = ap p (same_one y x e) ∙ is

  -- one that passes stays
  pub filter_keeps : (p : X → Bool) (xs : List X) (i : ℕ) (x : X) → slice_get xs i ≡ Some x → p x ≡ true →
      take (suc i) xs ++ filter p (drop (suc i) xs) ≡ take i xs ++ filter p (drop i xs)
  filter_keeps p [] i x e is = absurd (cc e)
  filter_keeps p (y ∷ xs) zero x e is = rw (first_test p y x true e is) refl
  filter_keeps p (y ∷ xs) (suc i) x e is = ap (λ (zs : List X). y ∷ zs) (filter_keeps p xs i x e is)

  -- one that doesn't is removed
  pub filter_removes : (p : X → Bool) (xs : List X) (i : ℕ) (x : X) → slice_get xs i ≡ Some x → p x ≡ false →
      take i (remove xs i) ++ filter p (drop i (remove xs i)) ≡ take i xs ++ filter p (drop i xs)
  filter_removes p [] i x e is = absurd (cc e)
  filter_removes p (y ∷ xs) zero x e is = rw (first_test p y x false e is) refl
  filter_removes p (y ∷ xs) (suc i) x e is = ap (λ (zs : List X). y ∷ zs) (filter_removes p xs i x e is)

  -- one that doesn't pass is taken away
  pub filter_without : (p : X → Bool) (xs : List X) (i : ℕ) (x : X) → slice_get xs i ≡ Some x → p x ≡ false → filter p (remove xs i) ≡ filter p xs
  filter_without p [] i x e is = absurd (cc e)
  filter_without p (y ∷ xs) zero x e is = rw (first_test p y x false e is) refl
  filter_without p (y ∷ xs) (suc i) x e is = ap (λ (zs : List X). cond (p y) (y ∷ zs) zs) (filter_without p xs i x e is)

  -- one that was changed is taken away
  pub remove_changed : (xs : List X) (i : ℕ) (y : X) → remove (slice_set xs i y) i ≡ remove xs i
  remove_changed [] i y = refl
  remove_changed (x ∷ xs) zero y = refl
  remove_changed (x ∷ xs) (suc i) y = ap (λ (zs : List X). x ∷ zs) (remove_changed xs i y)

  -- the one at a place, and those behind it
  pub drop_one : (xs : List X) (i : ℕ) (x : X) → slice_get xs i ≡ Some x → drop i xs ≡ x ∷ drop (suc i) xs
  drop_one [] i x e = absurd (cc e)
  drop_one (y ∷ xs) zero x e = ap (λ (z : X). z ∷ xs) (same_one y x e)
  drop_one (y ∷ xs) (suc i) x e = drop_one xs i x e

  pub drop_none : (xs : List X) (i : ℕ) → slice_get xs i ≡ None → drop i xs ≡ []
  drop_none [] zero e = refl
  drop_none [] (suc i) e = refl
  drop_none (y ∷ xs) zero e = absurd (cc e)
  drop_none (y ∷ xs) (suc i) e = drop_none xs i e

  pub drop_more : (xs : List X) (i : ℕ) → slice_get xs i ≡ None → drop (suc i) xs ≡ []
  drop_more [] i e = refl
  drop_more (y ∷ xs) zero e = absurd (cc e)
  drop_more (y ∷ xs) (suc i) e = drop_more xs i e

module _ {X Y : Type 0} where
  -- what the next one gives, and those behind it
  pub flat_step : (f : X → List Y) (before : List Y) (xs : List X) (i : ℕ) (x : X) → slice_get xs i ≡ Some x →
      (before ++ f x) ++ flat_map f (drop (i + 1) xs) ≡ before ++ flat_map f (drop i xs)
  flat_step f before xs i x e =
      let next : suc i ≡ i + 1 = omega arith in
      rw (← next) (append_assoc before (f x) (flat_map f (drop (suc i) xs)) ∙ ap (λ (zs : List X). before ++ flat_map f zs) (sym (drop_one xs i x e)))

  pub flat_step_ok : {U F : Type 0} (r : Result U F) (f : X → List Y) (before after : List Y) (xs : List X) (i : ℕ) (x : X) → slice_get xs i ≡ Some x →
      OnOk r (after ≡ before ++ f x) → OnOk r (after ++ flat_map f (drop (i + 1) xs) ≡ before ++ flat_map f (drop i xs))
  flat_step_ok (Ok u) f before after xs i x e is = ap (λ (zs : List Y). zs ++ flat_map f (drop (i + 1) xs)) is ∙ flat_step f before xs i x e
  flat_step_ok (Err v) f before after xs i x e is = tt

  -- nothing where there is none
  pub flat_none : (f : X → List Y) (before : List Y) (xs : List X) (i : ℕ) → slice_get xs i ≡ None →
      before ++ flat_map f (drop (i + 1) xs) ≡ before ++ flat_map f (drop i xs)
  flat_none f before xs i e =
      let next : suc i ≡ i + 1 = omega arith in
      rw (← next) (ap (λ (zs : List X). before ++ flat_map f zs) (drop_more xs i e ∙ sym (drop_none xs i e)))

module _ {X : Type 0} where
  at_place : (xs : List X) (i : ℕ) (x : X) → i < length xs → x ≡ slice_index_or xs i x → slice_get xs i ≡ Some x
  at_place [] i x l e = absurd (omega (arith, l))
  at_place (y ∷ xs) zero x l e = ap (λ (z : X). Some z) (sym e)
  at_place (y ∷ xs) (suc i) x l e = at_place xs i x (omega (arith, l)) e

  found_first : (p : X → Bool) (x : X) (xs : List X) → p x ≡ true → find p (x ∷ xs) ≡ Some x
  found_first p x xs e = rw e refl

  found_at : (p : X → Bool) (xs : List X) (i : ℕ) (x : X) → slice_get xs i ≡ Some x → p x ≡ true → find p (drop i xs) ≡ find p xs → find p xs ≡ Some x
  found_at p xs i x there e rest = sym rest ∙ ap (λ (zs : List X). find p zs) (drop_one xs i x there) ∙ found_first p x (drop (suc i) xs) e

module _ {A : Type 0} where
  -- the first that is of an asker, where it is still gathered
  pub place_is : (now : ℕ) (asker : Asker) (xs : List (RequestGathering A)) (i : ℕ) (x y : RequestGathering A) (o : Option ℕ) → i < length xs →
      x ≡ slice_index_or xs i x → y ≡ slice_index_or xs i y → is_for asker x ≡ true → find (is_for asker) (drop i xs) ≡ find (is_for asker) xs →
      IfSome o (λ found. (found ≡ i) × (still now (Some y) ≡ Some y)) → IfSome o (λ place. IsPlaceOf now asker xs place)
  place_is now asker xs i x y None l e f t rest h = tt
  place_is now asker xs i x y (Some found) l e f t rest h =
      let there = at_place xs i y l f in
      let same : x ≡ y = same_one x y (sym (at_place xs i x l e) ∙ there) in
      let for_it : is_for asker y ≡ true = ap (is_for asker) (sym same) ∙ t in
      subst (λ (k : ℕ). IsPlaceOf now asker xs k) (sym h.0) (record {
        a = y;
        there = there;
        for_it = for_it;
        is = ap (λ (z : Option (RequestGathering A)). still now z) (found_at (is_for asker) xs i y there for_it rest) ∙ h.1;
      })

pub ruleset place_rules = (filter_keeps, filter_removes)

pub ruleset join_rules = (filter_without, remove_changed)

pub ruleset map_rules = (flat_none)
