-- Nothing is remembered of an asker whose records are all dead.
use Rattle.std.proofs.Common.{◌≡◌, refl, ap, subst, ℕ, Bool, true, false, List, [], ◌∷◌, Option, Some, None}
use Rattle.history.proofs.Lists.{has, has_next}
use Rattle.history.specs.Lists.{Has}
use Rattle.remembered.specs.Records.{is_of, later_or, lives, living, newest, remembered, some_if}
use Rattle.remembered.specs.declared.record.Asker.{Asker}
use Rattle.remembered.specs.declared.record.Record.{Record}

module _ {A : Type 0} where
  -- the newest record of an asker stands among all, and is of it
  record Stands (a : Asker) (rs : List (Record A)) (x : Record A) : Type 0 where
    there : Has rs x
    is : is_of a x ≡ true

  same_some : (x y : Record A) → Some x ≡ Some y → x ≡ y
  same_some x y e = cc e

  here_if : (a : Asker) (r : Record A) (rs : List (Record A)) (x : Record A) (b : Bool) → is_of a r ≡ b → some_if b r ≡ Some x → Stands a (r ∷ rs) x
  here_if a r rs x true is e =
      let same = same_some r x e in
      record { there = subst (λ (z : Record A). Has (r ∷ rs) z) same (has 0 refl); is = subst (λ (z : Record A). is_of a z ≡ true) same is }
  here_if a r rs x false is e = absurd (cc e)

  stands_by : (a : Asker) (r : Record A) (rs : List (Record A)) (x : Record A) (o : Option (Record A)) → (o ≡ Some x → Stands a rs x) →
      later_or o (some_if (is_of a r) r) ≡ Some x → Stands a (r ∷ rs) x
  stands_by a r rs x (Some y) ih e = let k = ih e in record { there = has_next r rs k.there; is = k.is }
  stands_by a r rs x None ih e = here_if a r rs x (is_of a r) refl e

  stands : (a : Asker) (rs : List (Record A)) (x : Record A) → newest a rs ≡ Some x → Stands a rs x
  stands a [] x e = absurd (cc e)
  stands a (r ∷ rs) x e = stands_by a r rs x (newest a rs) (λ f. stands a rs x f) e

  dead : (now : ℕ) (x : Record A) → lives now x ≡ false → some_if (lives now x) x ≡ None
  dead now x e = ap (λ b. some_if b x) e

  none_by : (now : ℕ) (a : Asker) (rs : List (Record A)) → ((x : Record A) → Has rs x → is_of a x ≡ true → lives now x ≡ false) → (o : Option (Record A)) →
      newest a rs ≡ o → living now o ≡ None
  none_by now a rs all None e = refl
  none_by now a rs all (Some x) e = let k = stands a rs x e in dead now x (all x k.there k.is)

  pub none_remembered : (now : ℕ) (a : Asker) (rs : List (Record A)) →
      ((x : Record A) → Has rs x → is_of a x ≡ true → lives now x ≡ false) → remembered now a rs ≡ None
  none_remembered now a rs all = none_by now a rs all (newest a rs) refl
