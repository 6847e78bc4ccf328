-- Lemmas on records in order of execution.
use Rattle.std.proofs.Common.{◌≡◌, ℕ, ◌+◌, ◌≤◌, Bool, true, false, cond, ◌&&◌, List, [], ◌∷◌, Some, None, refl, sym, ap, ◌∙◌, subst, arith}
use Rattle.std.specs.Prelude.{Option}
use Rattle.std.proofs.lemmas.Bool.{eq-eqb, and_parts, and_from, le-leb, leb-true, false_from_ne_true}
use Rattle.profile.specs.Times.{KEEP_MS}
use Rattle.history.specs.Lists.{Has, first_of, last_of_those}
use Rattle.history.specs.Tests.{IsTest}
use Rattle.history.proofs.Lists.{last_none}
use Rattle.headline.specs.Stations.{Record}
use Rattle.headline.specs.Records.{lives, is_of, is_remembered, newest, if_lives, AreAscending}

-- what was executed earlier than a record that doesn't live doesn't live either
dead_before : {S : Type 0} (same : S → S → Bool) (now : ℕ) (c : S) (id : ℕ) (r y : Record S) → r.moment ≤ y.moment → lives now y ≡ false →
    is_remembered same now c id r ≡ false
dead_before same now c id r y early dead = false_from_ne_true _ (λ t.
    let lively = leb-true now (r.moment + KEEP_MS) (and_parts _ _ t).1 in
    let alive : lives now y ≡ true = le-leb now (y.moment + KEEP_MS) (omega arith) in
    cc)

for_it_by : {S : Type 0} (r : Record S) (a e : Bool) → cond (a && e) (Some r) None ≡ cond a (cond e (Some r) None) None
for_it_by r true true = refl
for_it_by r true false = refl
for_it_by r false e = refl

if_by : {S : Type 0} (now : ℕ) (r : Record S) (t : Bool) → if_lives now (cond t (Some r) None) ≡ cond t (cond (lives now r) (Some r) None) None
if_by now r true = refl
if_by now r false = refl

at_least : {S : Type 0} (same : S → S → Bool) (c : S) (id t : ℕ) (rs : List (Record S)) (y : Record S) → AreAscending t rs → newest same c id rs ≡ Some y →
    t ≤ y.moment
at_least same c id t [] y h e = absurd (cc)
at_least {S} same c id t (r ∷ rs) y h e = by_rest (λ g. at_least same c id r.moment rs y h.1 g) (newest same c id rs) refl e
  where
    here : (b : Bool) → cond b (Some r) None ≡ Some y → t ≤ y.moment
    here true e = subst (λ (z : Record S). t ≤ z.moment) (same_one e) h.0
      where
        same_one : Some r ≡ Some y → r ≡ y
        same_one e = cc
    here false e = absurd (cc)

    by_rest : (newest same c id rs ≡ Some y → r.moment ≤ y.moment) → (o : Option (Record S)) → newest same c id rs ≡ o →
        first_of o (cond (is_of same c id r) (Some r) None) ≡ Some y → t ≤ y.moment
    by_rest ih (Some z) q e = let m = ih (q ∙ e) in let n = h.0 in omega arith
    by_rest ih None q e = here (is_of same c id r) e

-- the last living record of an asker is its newest one, if that lives
pub newest_lives : {S : Type 0} (same : S → S → Bool) (now : ℕ) (c : S) (id t : ℕ) (rs : List (Record S)) → AreAscending t rs →
    last_of_those (is_remembered same now c id) rs ≡ if_lives now (newest same c id rs)
newest_lives same now c id t [] h = refl
newest_lives {S} same now c id t (r ∷ rs) h =
    ap (λ o. first_of o (cond (is_remembered same now c id r) (Some r) None)) (newest_lives same now c id r.moment rs h.1) ∙ by_rest (newest same c id rs) refl
  where
    by_life : (y : Record S) → newest same c id rs ≡ Some y → (b : Bool) → lives now y ≡ b →
        first_of (cond b (Some y) None) (cond (is_remembered same now c id r) (Some r) None) ≡ cond b (Some y) None
    by_life y q true u = refl
    by_life y q false u = ap (λ b. cond b (Some r) None) (dead_before same now c id r y (at_least same c id r.moment rs y h.1 q) u)

    by_rest : (o : Option (Record S)) → newest same c id rs ≡ o → first_of (if_lives now o) (cond (is_remembered same now c id r) (Some r) None)
        ≡ if_lives now (first_of o (cond (is_of same c id r) (Some r) None))
    by_rest (Some y) q = by_life y q (lives now y) refl
    by_rest None q = for_it_by r (is_of same c id r) (lives now r) ∙ sym (if_by now r (is_of same c id r))

-- where the newest one doesn't live, none does
pub none_remembered : {S : Type 0} {same : S → S → Bool} (l : IsTest same) (now : ℕ) (c : S) (id t : ℕ) (rs : List (Record S)) → AreAscending t rs →
    if_lives now (newest same c id rs) ≡ None → (k : Record S) → Has rs k → k.client ≡ c → k.invoke_id ≡ id → now ≤ k.moment + KEEP_MS → ⊥
none_remembered {S} {same} l now c id t rs h none k there is_c is_id living =
    let test : is_remembered same now c id k ≡ true =
    and_from _ _ (and_from _ _ (subst (λ z. same k.client z ≡ true) is_c (l.itself k.client)) (eq-eqb k.invoke_id id is_id))
    (le-leb now (k.moment + KEEP_MS) living) in
    last_none (is_remembered same now c id) rs k (newest_lives same now c id t rs h ∙ none) there test
