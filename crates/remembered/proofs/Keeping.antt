-- Keys and records.
use Rattle.std.proofs.Common.{◌≡◌, ◌∙◌, refl, sym, ap, subst, ℕ, ◌+◌, ◌<◌, Bool, true, false, List, [], ◌∷◌, ◌++◌, arith}
use Rattle.std.specs.Prelude.{◌≢◌, cond, if◌then◌else◌, Option, Some, None, drop, take, length, zero, suc, not, slice_get, slice_set}
use Rattle.std.specs.List.{AllByRecursion}
use Rattle.std.specs.declared.cmp.Ordering.{Ordering}
use Rattle.std.specs.Ordering.{is_eq}
use Rattle.std.specs.Prelude.{◌==◌}
use Rattle.std.proofs.lemmas.Bool.{eqb-true, eq-eqb}
use Rattle.std.proofs.lemmas.List.{get_or-set_other, get_or-set_same}
use Rattle.npdu.specs.declared.mac.Way.{Way}
use Rattle.segments.specs.Sender.{SenderState}
use Rattle.remembered.specs.declared.record.Asker.{Asker}
use Rattle.remembered.specs.declared.record.Record.{Record}
use Rattle.remembered.specs.Records.{AreDistinct, asker_cmp, later_or, some_if, is_of, lives, newest, said_on, said_again, said_by, begins_dead, forgotten}
use Rattle.remembered.proofs.Ordering.{exact_asker, is_equal, one_order}
use Rattle.remembered.specs.Keeping.{cons_some, at, listed, is_at, key_of, IsFilled, IsKept, IsSet, IsDropped, IsForgotten, Keys, get, first}

pub one_asker : (a b : Asker) → is_eq (asker_cmp a b) ≡ true → a ≡ b
one_asker a b e = exact_asker a b (is_equal (asker_cmp a b) e)

true_is_not : false ≡ true → ⊥
true_is_not e = cc e

-- ---- options
later_assoc : {X : Type 0} (a b c : Option X) → later_or (later_or a b) c ≡ later_or a (later_or b c)
later_assoc None b c = refl
later_assoc (Some x) b c = refl

pub later_none : {X : Type 0} (o : Option X) → later_or o None ≡ o
later_none None = refl
later_none (Some x) = refl

later_cond : {X : Type 0} (b : Bool) (x : X) (o : Option X) → later_or (some_if b x) o ≡ cond b (Some x) o
later_cond true x o = refl
later_cond false x o = refl

-- one key has this, and each other what it had
pub record Updated {X : Type 0} (held now : List (Option X)) (k : ℕ) (o : Option X) : Type 0 where
  pub changed : at now k ≡ o
  pub others : (j : ℕ) → j ≢ k → at now j ≡ at held j

within_by : {X : Type 0} (held : List (Option X)) (k : ℕ) (x : X) → at held k ≡ Some x → k < length held
within_by [] k x e = absurd (cc e)
within_by (o ∷ held) zero x e = omega arith
within_by (o ∷ held) (suc k) x e = let l = within_by held k x e in omega (arith, l)

-- what a key has is changed in its place
pub updated_set : {X : Type 0} (held : List (Option X)) (k : ℕ) (x y : X) → at held k ≡ Some x → Updated held (slice_set held k (Some y)) k (Some y)
updated_set held k x y e = record {
  changed = get_or-set_same held k (Some y) None (within_by held k x e);
  others = λ j other. get_or-set_other held k j (Some y) None other;
}

-- one more that doesn't stand there
others_more : {X : Type 0} (y x : X) (xs : List X) → AllByRecursion (λ z. z ≢ x) xs → y ≢ x → AllByRecursion (λ z. z ≢ x) (xs ++ y ∷ [])
others_more y x [] all one = (one, tt)
others_more y x (z ∷ xs) all one = (all.0, others_more y x xs all.1 one)

pub distinct_more : {X : Type 0} (xs : List X) (y : X) → AreDistinct xs → AllByRecursion (λ z. z ≢ y) xs → AreDistinct (xs ++ y ∷ [])
distinct_more [] y distinct new = (tt, tt)
distinct_more (x ∷ xs) y distinct new = (others_more y x xs distinct.0 (λ e. new.0 (sym e)), distinct_more xs y distinct.1 new.1)

found_removed : (o w : Option ℕ) (b : Bool) (k : ℕ) → (b ≡ true → o ≡ None) → w ≡ later_or o (some_if b k) → cond b None w ≡ o
found_removed o w true k none e = sym (none refl)
found_removed o w false k none e = e ∙ later_none o

found_left : (o w : Option ℕ) (b : Bool) (k : ℕ) → (b ≡ true → w ≡ Some k → ⊥) → w ≡ later_or o (some_if b k) → w ≡ o
found_left (Some j) w b k other e = e
found_left None w true k other e = absurd (other refl e)
found_left None w false k other e = e

none_behind : (o : Option ℕ) (b : Bool) (k : ℕ) → (o ≡ Some k → ⊥) → later_or o (some_if b k) ≡ Some k → o ≡ None
none_behind None b k not e = refl
none_behind (Some j) b k not e = absurd (not e)

module _ {A : Type 0} where
  abbrev pub and_get : List (Option (Record A)) → Option ℕ → Option (Record A)
  and_get held None = None
  and_get held (Some k) = at held k

  -- a key that was found has a record
  abbrev HasRecord : List (Option (Record A)) → Option ℕ → Type 0
  HasRecord held None = Unit {0}
  HasRecord held (Some k) = IsFilled held k

  abbrev IsNewest : List (Option (Record A)) → Option (Record A) → Option ℕ → Type 0
  IsNewest held n o = (n ≡ and_get held o) × HasRecord held o

  step_by : (held : List (Option (Record A))) (k : ℕ) (b : Bool) (r : Record A) (n : Option (Record A)) (o : Option ℕ) → at held k ≡ Some r →
      IsNewest held n o → IsNewest held (later_or n (some_if b r)) (later_or o (some_if b k))
  step_by held k true r None None is e = (sym is, record { r = r; is = is })
  step_by held k false r None None is e = (refl, tt)
  step_by held k b r (Some x) None is e = absurd (cc e.0)
  step_by held k b r (Some x) (Some j) is e = e
  step_by held k b r None (Some j) is e = absurd (let gone : at held j ≡ None = sym e.0 in let there : at held j ≡ Some e.1.r = e.1.is in cc (sym gone ∙ there))

  step_at : (held : List (Option (Record A))) (a : Asker) (k : ℕ) (here : Option (Record A)) (rs : List (Record A)) (o : Option ℕ) → at held k ≡ here →
      IsNewest held (newest a rs) o → IsNewest held (newest a (cons_some here rs)) (later_or o (some_if (is_at a here) k))
  step_at held a k None rs o is e = rw (later_none o) e
  step_at held a k (Some r) rs o is e = step_by held k (is_of a r) r (newest a rs) o is e

  newest_at : (held : List (Option (Record A))) (a : Asker) (ks : List ℕ) → IsNewest held (newest a (listed held ks)) (key_of held a ks)
  newest_at held a [] = (refl, tt)
  newest_at held a (k ∷ ks) = step_at held a k (at held k) (listed held ks) (key_of held a ks) refl (newest_at held a ks)

  pub newest_listed : (held : List (Option (Record A))) (a : Asker) (ks : List ℕ) → newest a (listed held ks) ≡ and_get held (key_of held a ks)
  newest_listed held a ks = (newest_at held a ks).0

  -- ---- slabs with the same at some keys
  listed_same : (held now : List (Option (Record A))) (ks : List ℕ) → AllByRecursion (λ j. at now j ≡ at held j) ks → listed now ks ≡ listed held ks
  listed_same held now [] all = refl
  listed_same held now (k ∷ ks) all = rw (all.0, listed_same held now ks all.1) refl

  key_same : (held now : List (Option (Record A))) (a : Asker) (ks : List ℕ) → AllByRecursion (λ j. at now j ≡ at held j) ks →
      key_of now a ks ≡ key_of held a ks
  key_same held now a [] all = refl
  key_same held now a (k ∷ ks) all = rw (all.0, key_same held now a ks all.1) refl

  filled_same : (held now : List (Option (Record A))) (ks : List ℕ) → AllByRecursion (λ j. at now j ≡ at held j) ks → AllByRecursion (IsFilled held) ks →
      AllByRecursion (IsFilled now) ks
  filled_same held now [] all filled = tt
  filled_same held now (k ∷ ks) all filled = (record { r = filled.0.r; is = all.0 ∙ filled.0.is }, filled_same held now ks all.1 filled.1)

  others : (held now : List (Option (Record A))) (k : ℕ) (o : Option (Record A)) (ks : List ℕ) → Updated held now k o → AllByRecursion (λ j. j ≢ k) ks →
      AllByRecursion (λ j. at now j ≡ at held j) ks
  others held now k o [] up apart = tt
  others held now k o (j ∷ ks) up apart = (up.others j apart.0, others held now k o ks up apart.1)

  vacant_apart : (held : List (Option (Record A))) (k : ℕ) (ks : List ℕ) → at held k ≡ None → AllByRecursion (IsFilled held) ks → AllByRecursion (λ j. j ≢ k) ks
  vacant_apart held k [] none filled = tt
  vacant_apart held k (j ∷ ks) none filled = ((λ e. cc (sym none ∙ ap (at held) (sym e) ∙ filled.0.is)), vacant_apart held k ks none filled.1)

  -- ---- one key more
  listed_push : (held : List (Option (Record A))) (ks : List ℕ) (k : ℕ) (r : Record A) → at held k ≡ Some r →
      listed held (ks ++ k ∷ []) ≡ listed held ks ++ r ∷ []
  listed_push held [] k r is = rw is refl
  listed_push held (j ∷ ks) k r is = rw (listed_push held ks k r is) (cons_append (at held j) (listed held ks) r)
    where
      cons_append : (o : Option (Record A)) (xs : List (Record A)) (r : Record A) → cons_some o (xs ++ r ∷ []) ≡ cons_some o xs ++ r ∷ []
      cons_append None xs r = refl
      cons_append (Some x) xs r = refl

  key_push : (held : List (Option (Record A))) (a : Asker) (ks : List ℕ) (k : ℕ) (r : Record A) → at held k ≡ Some r →
      key_of held a (ks ++ k ∷ []) ≡ later_or (some_if (is_of a r) k) (key_of held a ks)
  key_push held a [] k r is = rw is (sym (later_none (some_if (is_of a r) k)))
  key_push held a (j ∷ ks) k r is = rw (key_push held a ks k r is) (later_assoc (some_if (is_of a r) k) (key_of held a ks) (some_if (is_at a (at held j)) j))

  filled_push : (held : List (Option (Record A))) (ks : List ℕ) (k : ℕ) → AllByRecursion (IsFilled held) ks → IsFilled held k →
      AllByRecursion (IsFilled held) (ks ++ k ∷ [])
  filled_push held [] k all one = (one, tt)
  filled_push held (j ∷ ks) k all one = (all.0, filled_push held ks k all.1 one)

  pub kept_pushed : (held now : List (Option (Record A))) (keys mapped : Keys) (ks : List ℕ) (k : ℕ) (r : Record A) → IsKept held keys ks → at held k ≡ None →
      Updated held now k (Some r) → IsSet r.asker k keys mapped → IsKept now mapped (ks ++ k ∷ [])
  kept_pushed held now keys mapped ks k r kept none up put =
      let apart = vacant_apart held k ks none kept.filled in
      let same = others held now k (Some r) ks up apart in
      record {
        filled = filled_push now ks k (filled_same held now ks same kept.filled) (record { r = r; is = up.changed });
        apart = distinct_more ks k kept.apart apart;
        found = λ a. put a ∙ ap (λ (o : Ordering). cond (is_eq o) (Some k) (get keys a)) (one_order r.asker a)
            ∙ ap (cond (is_eq (asker_cmp r.asker a)) (Some k)) (kept.found a ∙ sym (key_same held now a ks same))
            ∙ sym (key_push now a ks k r up.changed ∙ later_cond (is_of a r) k (key_of now a ks));
      }

  pub listed_pushed : (held now : List (Option (Record A))) (keys : Keys) (ks : List ℕ) (k : ℕ) (r : Record A) → IsKept held keys ks → at held k ≡ None →
      Updated held now k (Some r) → listed now (ks ++ k ∷ []) ≡ listed held ks ++ r ∷ []
  listed_pushed held now keys ks k r kept none up =
      listed_push now ks k r up.changed ∙ ap (λ (rs : List (Record A)). rs ++ r ∷ [])
      (listed_same held now ks (others held now k (Some r) ks up (vacant_apart held k ks none kept.filled)))

  -- ---- one key less
  pub listed_popped : (held now : List (Option (Record A))) (k : ℕ) (ks : List ℕ) → AreDistinct (k ∷ ks) → Updated held now k None → IsFilled held k →
      listed now ks ≡ drop 1 (listed held (k ∷ ks))
  listed_popped held now k ks apart up filled = rw (filled.is) (listed_same held now ks (others held now k None ks up apart.0))

  key_among : (held : List (Option (Record A))) (a : Asker) (k : ℕ) (ks : List ℕ) → AllByRecursion (λ j. j ≢ k) ks → key_of held a ks ≡ Some k → ⊥
  key_among held a k [] apart e = cc e
  key_among held a k (j ∷ ks) apart e = key_among_by (key_of held a ks) (is_at a (at held j)) (key_among held a k ks apart.1) e
    where
      key_among_by : (o : Option ℕ) (b : Bool) → (o ≡ Some k → ⊥) → later_or o (some_if b j) ≡ Some k → ⊥
      key_among_by (Some i) b not e = not e
      key_among_by None true not e = apart.0 (cc e)
      key_among_by None false not e = cc e

  key_first : (held : List (Option (Record A))) (keys : Keys) (k : ℕ) (ks : List ℕ) (r : Record A) (a : Asker) → IsKept held keys (k ∷ ks) →
      at held k ≡ Some r → get keys a ≡ later_or (key_of held a ks) (some_if (is_of a r) k)
  key_first held keys k ks r a kept is = kept.found a ∙ ap (λ (o : Option (Record A)). later_or (key_of held a ks) (some_if (is_at a o) k)) is

  kept_removed : (held now : List (Option (Record A))) (keys mapped : Keys) (k : ℕ) (ks : List ℕ) (r : Record A) → IsKept held keys (k ∷ ks) →
      at held k ≡ Some r → Updated held now k None → get keys r.asker ≡ Some k → IsDropped r.asker keys mapped → IsKept now mapped ks
  kept_removed held now keys mapped k ks r kept is up mine removed =
      let same = others held now k None ks up kept.apart.0 in
      record {
        filled = filled_same held now ks same kept.filled.1;
        apart = kept.apart.1;
        found = λ a.
            removed a ∙ ap (λ (o : Ordering). cond (is_eq o) None (get keys a)) (one_order r.asker a)
            ∙ found_removed (key_of held a ks) (get keys a) (is_of a r) k
            (λ b. none_behind (key_of held a ks) (is_of a r) k (key_among held a k ks kept.apart.0)
            (sym (key_first held keys k ks r a kept is) ∙ ap (get keys) (sym (exact_asker r.asker a (is_equal _ b))) ∙ mine))
            (key_first held keys k ks r a kept is)
            ∙ sym (key_same held now a ks same);
      }

  kept_left : (held now : List (Option (Record A))) (keys : Keys) (k : ℕ) (ks : List ℕ) (r : Record A) → IsKept held keys (k ∷ ks) → at held k ≡ Some r →
      Updated held now k None → (get keys r.asker ≡ Some k → ⊥) → IsKept now keys ks
  kept_left held now keys k ks r kept is up other =
      let same = others held now k None ks up kept.apart.0 in
      record {
        filled = filled_same held now ks same kept.filled.1;
        apart = kept.apart.1;
        found = λ a.
            found_left (key_of held a ks) (get keys a) (is_of a r) k
            (λ b e. other (ap (get keys) (exact_asker r.asker a (is_equal _ b)) ∙ e))
            (key_first held keys k ks r a kept is)
            ∙ sym (key_same held now a ks same);
      }

  pub kept_forgotten : (held now : List (Option (Record A))) (keys mapped : Keys) (k : ℕ) (ks : List ℕ) (r : Record A) → IsKept held keys (k ∷ ks) →
      at held k ≡ Some r → Updated held now k None → IsForgotten r.asker k keys mapped → IsKept now mapped ks
  kept_forgotten held now keys mapped k ks r kept is up f = by_key (get keys r.asker) refl
    where
      other : (get keys r.asker ≡ Some k → ⊥) → IsKept now mapped ks
      other not = subst (λ (m : Keys). IsKept now m ks) (sym (f.left not)) (kept_left held now keys k ks r kept is up not)

      by_test : (j : ℕ) (b : Bool) → (j == k) ≡ b → get keys r.asker ≡ Some j → IsKept now mapped ks
      by_test j true t e = let mine : get keys r.asker ≡ Some k = e ∙ ap Some (eqb-true j k t) in
          kept_removed held now keys mapped k ks r kept is up mine (f.dropped mine)
      by_test j false t e = other (λ mine. true_is_not (sym t ∙ eq-eqb j k (cc (sym e ∙ mine))))

      by_key : (o : Option ℕ) → get keys r.asker ≡ o → IsKept now mapped ks
      by_key None e = other (λ mine. cc (sym e ∙ mine))
      by_key (Some j) e = by_test j (j == k) refl e

  pub length_listed : (held : List (Option (Record A))) (ks : List ℕ) → AllByRecursion (IsFilled held) ks → length (listed held ks) ≡ length ks
  length_listed held [] all = refl
  length_listed held (k ∷ ks) all = rw (all.0.is) (ap suc (length_listed held ks all.1))

  -- the first of what is listed is under the first key
  pub first_listed : (held : List (Option (Record A))) (ks : List ℕ) → AllByRecursion (IsFilled held) ks →
      first (listed held ks) ≡ and_get held (slice_get ks 0)
  first_listed held [] all = refl
  first_listed held (k ∷ ks) all = rw (all.0.is) refl

  -- forgetting one that is dead
  pub forgotten_next : (now : ℕ) (rs : List (Record A)) → begins_dead now rs ≡ true → forgotten now (drop 1 rs) ≡ forgotten now rs
  forgotten_next now [] e = refl
  forgotten_next now (r ∷ rs) e = by_life (lives now r) e
    where
      by_life : (b : Bool) → not b ≡ true → forgotten now rs ≡ if b then r ∷ rs else forgotten now rs
      by_life true e = absurd (cc e)
      by_life false e = refl

  pub forgotten_done : (now : ℕ) (rs : List (Record A)) → begins_dead now rs ≡ false → forgotten now rs ≡ rs
  forgotten_done now [] e = refl
  forgotten_done now (r ∷ rs) e = by_life (lives now r) e
    where
      by_life : (b : Bool) → not b ≡ false → (if b then r ∷ rs else forgotten now rs) ≡ r ∷ rs
      by_life true e = refl
      by_life false e = absurd (cc e)

  pub shorter : (now : ℕ) (rs : List (Record A)) → begins_dead now rs ≡ true → length (drop 1 rs) < length rs
  shorter now [] e = absurd (cc e)
  shorter now (r ∷ rs) e = omega arith

  -- each record is under the key at its place
  pub listed_at : (held : List (Option (Record A))) (ks : List ℕ) (i : ℕ) → AllByRecursion (IsFilled held) ks →
      slice_get (listed held ks) i ≡ and_get held (slice_get ks i)
  listed_at held [] i all = refl
  listed_at held (k ∷ ks) zero all = rw (all.0.is) refl
  listed_at held (k ∷ ks) (suc i) all = rw (all.0.is) (listed_at held ks i all.1)

  pub take_next : (xs : List (Record A)) (i : ℕ) (x : Record A) → slice_get xs i ≡ Some x → take (i + 1) xs ≡ take i xs ++ x ∷ []
  take_next [] i x e = absurd (cc e)
  take_next (y ∷ xs) zero x e = cc e
  take_next (y ∷ xs) (suc i) x e =
      let next : suc i + 1 ≡ suc (i + 1) = omega arith in
      ap (λ n. take n (y ∷ xs)) next ∙ ap (λ (zs : List (Record A)). y ∷ zs) (take_next xs i x e)

  -- ---- said on another way
  key_askers : (held now : List (Option (Record A))) (a : Asker) → ((j : ℕ) → is_at a (at now j) ≡ is_at a (at held j)) → (ks : List ℕ) →
      key_of now a ks ≡ key_of held a ks
  key_askers held now a same [] = refl
  key_askers held now a same (k ∷ ks) = rw (same k, key_askers held now a same ks) refl

  same_asker_at : (held now : List (Option (Record A))) (k : ℕ) (w : Way) (s : Option SenderState) (r : Record A) → at held k ≡ Some r →
      Updated held now k (Some (said_on w s r)) → (a : Asker) (j : ℕ) → is_at a (at now j) ≡ is_at a (at held j)
  same_asker_at held now k w s r is up a j = by_test (j == k) refl
    where
      by_test : (b : Bool) → (j == k) ≡ b → is_at a (at now j) ≡ is_at a (at held j)
      by_test true e =
          let same : j ≡ k = eqb-true j k e in
          ap (is_at a) (ap (at now) same ∙ up.changed) ∙ sym (ap (is_at a) (ap (at held) same ∙ is))
      by_test false e = ap (is_at a) (up.others j (λ same. true_is_not (sym e ∙ eq-eqb j k same)))

  filled_sent : (held now : List (Option (Record A))) (k : ℕ) (w : Way) (s : Option SenderState) (r : Record A) → at held k ≡ Some r →
      Updated held now k (Some (said_on w s r)) → (ks : List ℕ) → AllByRecursion (IsFilled held) ks → AllByRecursion (IsFilled now) ks
  filled_sent held now k w s r is up [] all = tt
  filled_sent held now k w s r is up (j ∷ ks) all = (by_test (j == k) refl, filled_sent held now k w s r is up ks all.1)
    where
      by_test : (b : Bool) → (j == k) ≡ b → IsFilled now j
      by_test true e = record { r = said_on w s r; is = ap (at now) (eqb-true j k e) ∙ up.changed }
      by_test false e = record { r = all.0.r; is = up.others j (λ same. true_is_not (sym e ∙ eq-eqb j k same)) ∙ all.0.is }

  pub kept_sent : (held now : List (Option (Record A))) (keys : Keys) (ks : List ℕ) (k : ℕ) (w : Way) (s : Option SenderState) (r : Record A) →
      IsKept held keys ks → at held k ≡ Some r → Updated held now k (Some (said_on w s r)) → IsKept now keys ks
  kept_sent held now keys ks k w s r kept is up =
      record {
        filled = filled_sent held now k w s r is up ks kept.filled;
        apart = kept.apart;
        found = λ a. kept.found a ∙ sym (key_askers held now a (same_asker_at held now k w s r is up a) ks);
      }

  sent_by : (held now : List (Option (Record A))) (a : Asker) (k : ℕ) (w : Way) (s : Option SenderState) (j : ℕ) (ks : List ℕ) (r : Record A) (x : Record A)
      (o : Option ℕ) (n : Option (Record A)) (b : Bool) → at held k ≡ Some r → Updated held now k (Some (said_on w s r)) → AllByRecursion (λ i. i ≢ j) ks →
      at held j ≡ Some x → is_of a x ≡ b → key_of held a ks ≡ o → IsNewest held n o → later_or o (some_if b j) ≡ Some k →
      (o ≡ Some k → listed now ks ≡ said_again a w s (listed held ks)) →
      cons_some (at now j) (listed now ks) ≡ said_by n b w s x (listed held ks) (said_again a w s (listed held ks))
  sent_by held now a k w s j ks r x (Some i) None b is up apart here test key new e next = absurd (cc (new.0 ∙ new.1.is))
  sent_by held now a k w s j ks r x (Some i) (Some y) b is up apart here test key new e next =
      let other : at now j ≡ at held j = up.others j (λ same. key_among held a j ks apart (key ∙ e ∙ ap Some (sym same))) in
      rw (other, here, next e) refl
  sent_by held now a k w s j ks r x None (Some y) b is up apart here test key new e next = absurd (cc new.0)
  sent_by held now a k w s j ks r x None None false is up apart here test key new e next = absurd (cc e)
  sent_by held now a k w s j ks r x None None true is up apart here test key new e next =
      let same : j ≡ k = cc e in
      let one : Some x ≡ Some r = sym here ∙ ap (at held) same ∙ is in
      let record_is : x ≡ r = cc one in
      rw (
        ap (at now) same ∙ up.changed,
        record_is,
        listed_same held now ks (others held now k (Some (said_on w s r)) ks up (subst (λ (i : ℕ). AllByRecursion (λ l. l ≢ i) ks) same apart)),
      ) refl

  pub listed_sent : (held now : List (Option (Record A))) (a : Asker) (k : ℕ) (w : Way) (s : Option SenderState) (r : Record A) → at held k ≡ Some r →
      Updated held now k (Some (said_on w s r)) → (ks : List ℕ) → AreDistinct ks → AllByRecursion (IsFilled held) ks → key_of held a ks ≡ Some k →
      listed now ks ≡ said_again a w s (listed held ks)
  listed_sent held now a k w s r is up [] apart filled e = absurd (cc e)
  listed_sent held now a k w s r is up (j ∷ ks) apart filled e =
      rw (filled.0.is) (sent_by held now a k w s j ks r filled.0.r (key_of held a ks) (newest a (listed held ks)) (is_of a filled.0.r) is up apart.0
      filled.0.is refl refl (newest_at held a ks)
      (ap (λ (o : Option (Record A)). later_or (key_of held a ks) (some_if (is_at a o) j)) (sym filled.0.is) ∙ e)
      (λ found. listed_sent held now a k w s r is up ks apart.1 filled.1 found))

  pub not_sent : (a : Asker) (w : Way) (s : Option SenderState) (rs : List (Record A)) → newest a rs ≡ None → said_again a w s rs ≡ rs
  not_sent a w s [] e = refl
  not_sent a w s (r ∷ rs) e = by_newest (newest a rs) (is_of a r) e
    where
      by_newest : (o : Option (Record A)) (b : Bool) → later_or o (some_if b r) ≡ None → said_by o b w s r rs (said_again a w s rs) ≡ r ∷ rs
      by_newest (Some x) b e = absurd (cc e)
      by_newest None true e = absurd (cc e)
      by_newest None false e = refl

pub ruleset keeping_rules = (newest_listed, length_listed, first_listed, forgotten_next, forgotten_done, shorter, take_next)
