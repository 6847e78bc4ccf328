-- Why they are not.
use Rattle.std.proofs.Common.{◌≡◌, ⊎_elim, refl, ℕ, [], ◌∷◌}
use Rattle.history.proofs.Lists.{has, has_cons, none_has}
use Rattle.history.specs.Lists.{Has}
use Rattle.history.specs.declared.Entry.{Entry}
use Rattle.history.specs.declared.Entry.TheVariants.{Answered, Executed, Issue}
use Rattle.npdu.specs.declared.mac.Station.{Station}
use Rattle.primitives.specs.declared.plain_data.Reply.{Reply}
use Rattle.primitives.specs.declared.plain_data.Request.{Request}
use Rattle.carry_runs.specs.Crossing.{asker}
use Rattle.carry_runs.specs.Illegal.{NoneIsMissing, NoneIsStrange, strange}
use Rattle.headline_site_runs.specs.Small.{reads_name}

only_ten : (n : ℕ) → Has (10 ∷ []) n → 10 ≡ n
only_ten n there = ⊎_elim (λ (e : 10 ≡ n). e) (λ (no : Has [] n). absurd (none_has no)) (has_cons 10 [] there)

module _ {A : Type 0} where
  abbrev issue : Station → ℕ → Request A → ℕ → Entry Station (Request A) (Reply A)
  issue c n q moment = Issue 0 c n q moment

  abbrev execution : Reply A → ℕ → Entry Station (Request A) (Reply A)
  execution r moment = Executed 0 r moment

  abbrev answer : Reply A → ℕ → Entry Station (Request A) (Reply A)
  answer r moment = Answered 0 r moment

  same_instance : (c d : Station) (m n : ℕ) (q p : Request A) (t u : ℕ) → issue c m q t ≡ issue d n p u → m ≡ n
  same_instance c d m n q p t u e = cc e

  no_execution : (c : Station) (n : ℕ) (q : Request A) (t : ℕ) (r : Reply A) (u : ℕ) → execution r u ≡ issue c n q t → ⊥
  no_execution c n q t r u e = cc e

  no_answer : (c : Station) (n : ℕ) (q : Request A) (t : ℕ) (r : Reply A) (u : ℕ) → answer r u ≡ issue c n q t → ⊥
  no_answer c n q t r u e = cc e

  names_99 : (r : Reply A) (c : Station) (n : ℕ) (q : Request A) (t : ℕ) → Has (strange r) (issue c n q t) → 99 ≡ n
  names_99 r c n q t there = ⊎_elim
      (λ (e : issue asker 99 reads_name 0 ≡ issue c n q t). same_instance asker c 99 n reads_name q 0 t e)
      (λ (more : Has (execution r 1 ∷ answer r 2 ∷ []) (issue c n q t)). ⊎_elim
      (λ (e : execution r 1 ≡ issue c n q t). absurd (no_execution c n q t r 1 e))
      (λ (last : Has (answer r 2 ∷ []) (issue c n q t)). ⊎_elim
      (λ (e : answer r 2 ≡ issue c n q t). absurd (no_answer c n q t r 2 e))
      (λ (no : Has [] (issue c n q t)). absurd (none_has no))
      (has_cons (answer r 2) [] last))
      (has_cons (execution r 1) (answer r 2 ∷ []) more))
      (has_cons (issue asker 99 reads_name 0) (execution r 1 ∷ answer r 2 ∷ []) there)

  pub none_is_strange : NoneIsStrange A
  none_is_strange r devices legal =
      let named = legal.named 0 r 1 (has 1 refl) in
      let ten = only_ten named.instance named.one in
      let nine = names_99 r named.client named.instance named.request named.moment named.issue in
      cc (ten, nine)

  pub none_is_missing : NoneIsMissing A
  none_is_missing h legal = let none = legal.all in cc none
