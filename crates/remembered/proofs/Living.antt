-- Of records in order of execution, those that are forgotten are the dead ones.
use Rattle.std.proofs.Common.{◌≡◌, ◌∙◌, refl, sym, ap, subst, ℕ, ◌<◌, ◌≤◌, Bool, true, false, List, [], ◌∷◌, arith}
use Rattle.std.specs.Prelude.{◌+◌, nat_le, ◌&&◌, length, filter, Option, Some, None}
use Rattle.std.proofs.lemmas.Bool.{leb-true, le-leb}
use Rattle.profile.specs.Ages as age
use Rattle.profile.specs.Limits.{MAX_REMEMBERED}
use Rattle.profile.specs.Times.{KEEP_MS}
use Rattle.remembered.specs.declared.record.Asker.{Asker}
use Rattle.remembered.specs.declared.record.Record.{Record}
use Rattle.remembered.specs.Records.{AreFrom, forgotten, is_full, is_of, later_or, lives, living, newest, remembered, some_if}
use Rattle.remembered.specs.Laws.{ForgottenAreDead, FullIsLiving, NewestLives}

-- the first lives, and all others are executed at that moment or later
lives_later : {A : Type 0} (now moment : ℕ) (r : Record A) → age.lives moment now ≡ true → moment ≤ r.at → lives now r ≡ true
lives_later now moment r e l = le-leb now (r.at + KEEP_MS) (omega (arith, l, leb-true now (moment + KEEP_MS) e))

kept_first : {A : Type 0} (now : ℕ) (r : Record A) (rs : List (Record A)) → lives now r ≡ true → filter (lives now) rs ≡ rs →
    filter (lives now) (r ∷ rs) ≡ r ∷ rs
kept_first now r rs e same = rw (e, same) refl

all_live : {A : Type 0} (now moment : ℕ) (rs : List (Record A)) → age.lives moment now ≡ true → AreFrom moment rs → filter (lives now) rs ≡ rs
all_live now moment [] e from = refl
all_live now moment (r ∷ rs) e from = kept_first now r rs (lives_later now moment r e from.0) (all_live now moment rs e from.1)

forgotten_by : {A : Type 0} (now : ℕ) (r : Record A) (rs : List (Record A)) (b : Bool) → lives now r ≡ b → AreFrom r.at rs →
    forgotten now rs ≡ filter (lives now) rs → forgotten now (r ∷ rs) ≡ filter (lives now) (r ∷ rs)
forgotten_by now r rs true e from same = rw e (ap (λ (xs : List (Record _)). r ∷ xs) (sym (all_live now r.at rs e from)))
forgotten_by now r rs false e from same = rw e same

pub forgotten_are_dead : {A : Type 0} → ForgottenAreDead A
forgotten_are_dead now [] ascending = refl
forgotten_are_dead now (r ∷ rs) ascending = forgotten_by now r rs (lives now r) refl ascending.0 (forgotten_are_dead now rs ascending.1)

fewer_by : {A : Type 0} (now : ℕ) (r : Record A) (rs : List (Record A)) (b : Bool) → lives now r ≡ b → length (filter (lives now) rs) ≤ length rs →
    length (filter (lives now) (r ∷ rs)) ≤ length (r ∷ rs)
fewer_by now r rs true e l = rw e (omega (arith, l))
fewer_by now r rs false e l = rw e (omega (arith, l))

fewer : {A : Type 0} (now : ℕ) (rs : List (Record A)) → length (filter (lives now) rs) ≤ length rs
fewer now [] = omega arith
fewer now (r ∷ rs) = fewer_by now r rs (lives now r) refl (fewer now rs)

not_le : (m n : ℕ) → n < m → nat_le m n ≡ false
not_le m n l = by_test (nat_le m n) refl
  where
    by_test : (b : Bool) → nat_le m n ≡ b → b ≡ false
    by_test true e = absurd (omega (arith, l, leb-true m n e))
    by_test false e = refl

full_by : {A : Type 0} (now : ℕ) (r : Record A) (rs : List (Record A)) (b : Bool) → lives now r ≡ b → AreFrom r.at rs → length (r ∷ rs) ≤ MAX_REMEMBERED →
    is_full now (r ∷ rs) ≡ nat_le MAX_REMEMBERED (length (filter (lives now) (r ∷ rs)))
full_by now r rs true e from few =
    rw e (and_true (nat_le MAX_REMEMBERED (length (r ∷ rs)))
    ∙ ap (λ (xs : List (Record _)). nat_le MAX_REMEMBERED (length (r ∷ xs))) (sym (all_live now r.at rs e from)))
  where
    and_true : (b : Bool) → (b && true) ≡ b
    and_true true = refl
    and_true false = refl
full_by now r rs false e from few =
    rw e (and_false (nat_le MAX_REMEMBERED (length (r ∷ rs))) ∙ sym (not_le MAX_REMEMBERED (length (filter (lives now) rs)) (omega (arith, few, fewer now rs))))
  where
    and_false : (b : Bool) → (b && false) ≡ false
    and_false true = refl
    and_false false = refl

pub full_is_living : {A : Type 0} → FullIsLiving A
full_is_living now [] ascending few = refl
full_is_living now (r ∷ rs) ascending few = full_by now r rs (lives now r) refl ascending.0 few

-- no living record of the asker stands among dead ones
the_same : {A : Type 0} (r x : Record A) → Some r ≡ Some x → r ≡ x
the_same r x e = cc e

newest_from_by : {A : Type 0} (a : Asker) (moment : ℕ) (r x : Record A) (o : Option (Record A)) (b : Bool) → moment ≤ r.at → (o ≡ Some x → moment ≤ x.at) →
    later_or o (some_if b r) ≡ Some x → moment ≤ x.at
newest_from_by a moment r x (Some y) b here others e = others e
newest_from_by {A} a moment r x None true here others e = subst (λ (z : Record A). moment ≤ z.at) (the_same r x e) here
newest_from_by a moment r x None false here others e = absurd (cc e)

newest_from : {A : Type 0} (a : Asker) (moment : ℕ) (rs : List (Record A)) (x : Record A) → AreFrom moment rs → newest a rs ≡ Some x → moment ≤ x.at
newest_from a moment [] x from e = absurd (cc e)
newest_from a moment (r ∷ rs) x from e = newest_from_by a moment r x (newest a rs) (is_of a r) from.0 (λ is. newest_from a moment rs x from.1 is) e

living_some : {A : Type 0} (now : ℕ) (x : Record A) → lives now x ≡ true → living now (Some x) ≡ Some x
living_some now x e = rw e refl

-- the newest of records that all live
newest_live : {A : Type 0} (now : ℕ) (a : Asker) (moment : ℕ) (rs : List (Record A)) (o : Option (Record A)) → newest a rs ≡ o → age.lives moment now ≡ true →
    AreFrom moment rs → living now o ≡ o
newest_live now a moment rs None is e from = refl
newest_live now a moment rs (Some x) is e from = living_some now x (lives_later now moment x e (newest_from a moment rs x from is))

live_first : {A : Type 0} (now : ℕ) (r : Record A) (o : Option (Record A)) (b : Bool) → lives now r ≡ true → living now o ≡ o →
    living now (later_or o (some_if b r)) ≡ later_or o (some_if b r)
live_first now r (Some x) b e same = same
live_first now r None true e same = living_some now r e
live_first now r None false e same = refl

dead_first : {A : Type 0} (now : ℕ) (r : Record A) (o : Option (Record A)) (b : Bool) → lives now r ≡ false →
    living now (later_or o (some_if b r)) ≡ living now o
dead_first now r (Some x) b e = refl
dead_first now r None true e = rw e refl
dead_first now r None false e = refl

newest_by : {A : Type 0} (now : ℕ) (a : Asker) (r : Record A) (rs : List (Record A)) (b : Bool) → lives now r ≡ b → AreFrom r.at rs →
    remembered now a rs ≡ newest a (filter (lives now) rs) → remembered now a (r ∷ rs) ≡ newest a (filter (lives now) (r ∷ rs))
newest_by now a r rs true e from same =
    live_first now r (newest a rs) (is_of a r) e (newest_live now a r.at rs (newest a rs) refl e from)
    ∙ ap (newest a) (sym (kept_first now r rs e (all_live now r.at rs e from)))
newest_by now a r rs false e from same = dead_first now r (newest a rs) (is_of a r) e ∙ same ∙ rw e refl

pub newest_lives : {A : Type 0} → NewestLives A
newest_lives now a [] ascending = refl
newest_lives now a (r ∷ rs) ascending = newest_by now a r rs (lives now r) refl ascending.0 (newest_lives now a rs ascending.1)
