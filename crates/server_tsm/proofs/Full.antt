-- Where there is no place for another answer, so many live.
use Rattle.std.proofs.Common.{◌≡◌, ◌∙◌, refl, sym, ℕ, ◌≤◌, Bool, true, false, List, [], ◌∷◌}
use Rattle.std.specs.Prelude.{◌&&◌, nat_le, not, length, filter}
use Rattle.std.proofs.lemmas.Bool.{leb-true}
use Rattle.server_answers.proofs.remembered.Living.{forgotten_are_dead}
use Rattle.server_answers.specs.remembered.Records.{AreAscending, forgotten, is_full, lives}
use Rattle.server_answers.specs.remembered.declared.record.Record.{Record}
use Rattle.profile.specs.Limits.{MAX_REMEMBERED}

both : (a b : Bool) → (a && b) ≡ true → (a ≡ true) × (b ≡ true)
both true true e = (refl, refl)
both true false e = absurd (cc e)
both false b e = absurd (cc e)

not_not : (b : Bool) → not (not b) ≡ true → b ≡ true
not_not true e = refl
not_not false e = absurd (cc e)

module _ {A : Type 0} where
  none_forgotten : (now : ℕ) (r : Record A) (rs : List (Record A)) → lives now r ≡ true → forgotten now (r ∷ rs) ≡ r ∷ rs
  none_forgotten now r rs e = rw e refl

  pub full_is_living : (now : ℕ) (rs : List (Record A)) → AreAscending rs → is_full now rs ≡ true → MAX_REMEMBERED ≤ length (filter (lives now) rs)
  full_is_living now [] up e = absurd (cc e)
  full_is_living now (r ∷ rs) up e =
      let p = both (nat_le MAX_REMEMBERED (length (r ∷ rs))) (not (not (lives now r))) e in
      let all : filter (lives now) (r ∷ rs) ≡ r ∷ rs = sym (forgotten_are_dead now (r ∷ rs) up) ∙ none_forgotten now r rs (not_not (lives now r) p.1) in
      rw all (leb-true MAX_REMEMBERED (length (r ∷ rs)) p.0)
