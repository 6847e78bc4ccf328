-- Lemmas on what a server remembers, as safety sees it.
use Rattle.std.proofs.Common.{◌≡◌, ◌∙◌, refl, sym, ap, subst, ℕ, zero, suc, ◌+◌, ◌≤◌, Bool, true, false, List, [], ◌∷◌, map, Some, None, arith}
use Rattle.std.specs.Prelude.{Option, filter, slice_get, if◌then◌else◌}
use Rattle.std.specs.Ordering.{is_eq}
use Rattle.std.proofs.lemmas.Bool.{both_ways, le-leb, leb-true}
use Rattle.history.specs.Lists.{Has}
use Rattle.profile.specs.Times.{KEEP_MS}
use Rattle.history.proofs.Lists.{has, has_next, has_filter}
use Rattle.npdu.specs.declared.mac.Way.{Way}
use Rattle.server_tsm.proofs.remembered.Keeping.{one_asker}
use Rattle.server_tsm.proofs.remembered.Living.{newest_lives}
use Rattle.server_tsm.proofs.remembered.Ordering.{itself}
use Rattle.server_tsm.specs.remembered.Records.{AreAscending, asker_cmp, forgotten, is_of, later_or, lives, living, newest, remembered, said_again, said_by, some_if}
use Rattle.server_tsm.specs.remembered.declared.record.Asker.{Asker}
use Rattle.server_tsm.specs.remembered.declared.record.Record.{Record}
use Rattle.segments.specs.Sender.{SenderState}
use Rattle.headline_server.specs.Safe.{safe_record}
use Rattle.server_tsm.specs.Waking.{after_sayings, after_saying}
use Rattle.headline_bacnet.specs.server_answers.declared.plan.Saying.{Saying}

-- a record lives for the server as it does for the promise
pub lives_so : {A : Type 0} (now : ℕ) (r : Record A) → lives now r ≡ true → now ≤ r.at + KEEP_MS
lives_so now r t = let l = leb-true now (r.at + KEEP_MS) t in omega (arith, l)

pub so_lives : {A : Type 0} (now : ℕ) (r : Record A) → now ≤ r.at + KEEP_MS → lives now r ≡ true
so_lives now r l = le-leb now (r.at + KEEP_MS) (omega (arith, l))

module _ {A : Type 0} where
  pub is_of_it : (a : Asker) (r : Record A) → r.asker ≡ a → is_of a r ≡ true
  is_of_it a r e = subst (λ z. is_eq (asker_cmp z a) ≡ true) (sym e) (itself a)

  -- another sending changes nothing that safety sees
  safe_said_by : (o : Option (Record A)) (b : Bool) (way : Way) (sending : Option SenderState) (r : Record A) (rs rest : List (Record A)) →
      map safe_record rest ≡ map safe_record rs → map safe_record (said_by o b way sending r rs rest) ≡ safe_record r ∷ map safe_record rs
  safe_said_by (Some x) b way sending r rs rest e = ap (λ l. safe_record r ∷ l) e
  safe_said_by None true way sending r rs rest e = refl
  safe_said_by None false way sending r rs rest e = refl

  pub safe_said : (a : Asker) (way : Way) (sending : Option SenderState) (rs : List (Record A)) →
      map safe_record (said_again a way sending rs) ≡ map safe_record rs
  safe_said a way sending [] = refl
  safe_said a way sending (r ∷ rs) = safe_said_by (newest a rs) (is_of a r) way sending r rs (said_again a way sending rs) (safe_said a way sending rs)

  pub safe_all_said : (xs : List Saying) (rs : List (Record A)) → map safe_record (after_sayings xs rs) ≡ map safe_record rs
  safe_all_said [] rs = refl
  safe_all_said (x ∷ xs) rs = safe_all_said xs (after_saying x rs) ∙ safe_said x.asker x.way x.sending rs

  -- what is left of records, and what lives of them
  forgotten_at : (now : ℕ) (rs : List (Record A)) (k : ℕ) (x : Record A) → slice_get (forgotten now rs) k ≡ Some x → Has rs x
  forgotten_at now [] k x e = absurd (cc)
  forgotten_at now (r ∷ rs) k x e = by_test (λ j g. forgotten_at now rs j x g) (lives now r) e
    where
      by_test : ((j : ℕ) → slice_get (forgotten now rs) j ≡ Some x → Has rs x) → (b : Bool) → slice_get (if b then r ∷ rs else forgotten now rs) k ≡ Some x →
          Has (r ∷ rs) x
      by_test ih true g = has k g
      by_test ih false g = has_next r rs (ih k g)

  pub forgotten_has : (now : ℕ) (rs : List (Record A)) (x : Record A) → Has (forgotten now rs) x → Has rs x
  forgotten_has now rs x h = forgotten_at now rs h.place x h.at_place

  kept_at : (now : ℕ) (rs : List (Record A)) (k : ℕ) (x : Record A) → slice_get rs k ≡ Some x → lives now x ≡ true → Has (forgotten now rs) x
  kept_at now [] k x e t = absurd (cc)
  kept_at now (r ∷ rs) k x e t = by_test (λ j g. kept_at now rs j x g t) (lives now r) refl k e
    where
      by_test : ((j : ℕ) → slice_get rs j ≡ Some x → Has (forgotten now rs) x) → (b : Bool) → lives now r ≡ b → (j : ℕ) → slice_get (r ∷ rs) j ≡ Some x →
          Has (if b then r ∷ rs else forgotten now rs) x
      by_test ih true u j g = has j g
      by_test ih false u zero g = let same : r ≡ x = cc in absurd (both_ways _ u (subst (λ z. lives now z ≡ true) (sym same) t))
      by_test ih false u (suc j) g = ih j g

  pub kept_has : (now : ℕ) (rs : List (Record A)) (x : Record A) → Has rs x → lives now x ≡ true → Has (forgotten now rs) x
  kept_has now rs x h t = kept_at now rs h.place x h.at_place t

  -- what is remembered for an asker
  pub record IsRemembered (now : ℕ) (a : Asker) (rs : List (Record A)) (r : Record A) : Type 0 where
    pub there : Has rs r
    pub asker : r.asker ≡ a
    pub living : now ≤ r.at + KEEP_MS

  newest_by : (a : Asker) (x : Record A) (rs : List (Record A)) (r : Record A) → (newest a rs ≡ Some r → Has rs r × (is_of a r ≡ true)) →
      (o : Option (Record A)) → newest a rs ≡ o → (b : Bool) → is_of a x ≡ b → later_or o (some_if b x) ≡ Some r → Has (x ∷ rs) r × (is_of a r ≡ true)
  newest_by a x rs r ih (Some y) t b u g = let found = ih (t ∙ g) in (has_next x rs found.0, found.1)
  newest_by a x rs r ih None t true u g = let same : x ≡ r = cc in (has 0 g, subst (λ z. is_of a z ≡ true) same u)
  newest_by a x rs r ih None t false u g = absurd (cc)

  newest_has : (a : Asker) (rs : List (Record A)) (r : Record A) → newest a rs ≡ Some r → Has rs r × (is_of a r ≡ true)
  newest_has a [] r e = absurd (cc)
  newest_has a (x ∷ rs) r e = newest_by a x rs r (newest_has a rs r) (newest a rs) refl (is_of a x) refl e

  living_by : (now : ℕ) (x r : Record A) (b : Bool) → lives now x ≡ b → some_if b x ≡ Some r → (Some x ≡ Some r) × (lives now r ≡ true)
  living_by now x r true t e = let same : x ≡ r = cc in (e, subst (λ z. lives now z ≡ true) same t)
  living_by now x r false t e = absurd (cc)

  living_is : (now : ℕ) (o : Option (Record A)) (r : Record A) → living now o ≡ Some r → (o ≡ Some r) × (lives now r ≡ true)
  living_is now None r e = absurd (cc)
  living_is now (Some x) r e = living_by now x r (lives now x) refl e

  pub remembered_is : (now : ℕ) (a : Asker) (rs : List (Record A)) (r : Record A) → remembered now a rs ≡ Some r → IsRemembered now a rs r
  remembered_is now a rs r e =
      let one = living_is now (newest a rs) r e in
      let found = newest_has a rs r one.0 in
      record { there = found.0; asker = one_asker r.asker a found.1; living = lives_so now r one.1 }

  -- where nothing is remembered of an asker, no record of it lives
  none_by : (a : Asker) (r x : Record A) (o : Option (Record A)) → (o ≡ None → ⊥) → later_or o (some_if (is_of a r) r) ≡ None → ⊥
  none_by a r x (Some y) not e = absurd (cc)
  none_by a r x None not e = not refl

  first_of_it : (a : Asker) (r : Record A) (o : Option (Record A)) → is_of a r ≡ true → later_or o (some_if (is_of a r) r) ≡ None → ⊥
  first_of_it a r (Some y) t e = absurd (cc)
  first_of_it a r None t e = absurd (cc (sym (ap (λ b. some_if b r) t) ∙ e))

  newest_none_at : (a : Asker) (rs : List (Record A)) (k : ℕ) (x : Record A) → newest a rs ≡ None → slice_get rs k ≡ Some x → is_of a x ≡ true → ⊥
  newest_none_at a [] k x n e t = absurd (cc)
  newest_none_at a (r ∷ rs) zero x n e t = let same : r ≡ x = cc in first_of_it a r (newest a rs) (subst (λ z. is_of a z ≡ true) (sym same) t) n
  newest_none_at a (r ∷ rs) (suc k) x n e t = none_by a r x (newest a rs) (λ m. newest_none_at a rs k x m e t) n

  pub none_living : (now : ℕ) (a : Asker) (rs : List (Record A)) (x : Record A) → AreAscending rs → remembered now a rs ≡ None → Has rs x → x.asker ≡ a →
      now ≤ x.at + KEEP_MS → ⊥
  none_living now a rs x up none there asker young =
      let stays = has_filter (lives now) rs x there (so_lives now x young) in
      newest_none_at a (filter (lives now) rs) stays.place x (sym (newest_lives now a rs up) ∙ none) stays.at_place (is_of_it a x asker)
