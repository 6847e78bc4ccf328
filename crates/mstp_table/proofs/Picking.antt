-- What waits, and is young, or is picked for a station.
use Rattle.std.proofs.Common.{◌≡◌, ◌⊎◌, ⊎_elim, inl, inr, refl, ap, ℕ, Bool, true, false, cond, List, [], ◌∷◌, Some, None}
use Rattle.std.specs.Prelude.{Option}
use Rattle.history.proofs.Lists.{filter_has, has, has_cons, has_filter, has_next}
use Rattle.history.specs.Lists.{Has}
use Rattle.profile.specs.Ages.{is_heard_in_time}
use Rattle.mstp_table.specs.Node.{Picked, first_to, is_to, with_front, young}
use Rattle.mstp_table.specs.declared.waiting.Waiting.{Waiting}

module _ {A : Type 0} where
  pub in_young : (ws : List (Waiting A)) (now : ℕ) (w : Waiting A) → Has (young ws now) w → Has ws w × (is_heard_in_time w.stamp now ≡ true)
  in_young ws now w h = filter_has (λ x. is_heard_in_time x.stamp now) ws w h

  pub stays_young : (ws : List (Waiting A)) (now : ℕ) (w : Waiting A) → Has ws w →
      Has (young ws now) w ⊎ (is_heard_in_time w.stamp now ≡ false)
  stays_young ws now w h = by_age (is_heard_in_time w.stamp now) refl
    where
      by_age : (b : Bool) → is_heard_in_time w.stamp now ≡ b → Has (young ws now) w ⊎ (is_heard_in_time w.stamp now ≡ false)
      by_age true e = inl (has_filter (λ x. is_heard_in_time x.stamp now) ws w h e)
      by_age false e = inr e

  -- what is picked is one of them, to the asker, and what is left are the others
  abbrev pub Picks : (asker : ℕ) → List (Waiting A) → Option (Picked A) → Type 0
  Picks asker ws None = Unit {0}
  Picks asker ws (Some x) = Has ws x.picked × (is_to asker x.picked ≡ true) ×
      ((w : Waiting A) → Has ws w → (x.picked ≡ w) ⊎ Has x.rest w) × ((w : Waiting A) → Has x.rest w → Has ws w)

  still_or : (w v y : Waiting A) (ws rest : List (Waiting A)) → ((x : Waiting A) → Has ws x → (y ≡ x) ⊎ Has rest x) →
      Has (w ∷ ws) v → (y ≡ v) ⊎ Has (w ∷ rest) v
  still_or w v y ws rest h there = ⊎_elim (λ (same : w ≡ v). inr (has 0 (ap (λ z. Some z) same)))
      (λ (behind : Has ws v). ⊎_elim (λ (same : y ≡ v). inl same) (λ (left : Has rest v). inr (has_next w rest left)) (h v behind))
      (has_cons w ws there)

  was_there : (w v : Waiting A) (ws rest : List (Waiting A)) → ((x : Waiting A) → Has rest x → Has ws x) →
      Has (w ∷ rest) v → Has (w ∷ ws) v
  was_there w v ws rest h there = ⊎_elim (λ (same : w ≡ v). has 0 (ap (λ z. Some z) same))
      (λ (left : Has rest v). has_next w ws (h v left)) (has_cons w rest there)

  picks_front : (asker : ℕ) (w : Waiting A) (ws : List (Waiting A)) (o : Option (Picked A)) → Picks asker ws o →
      Picks asker (w ∷ ws) (with_front w o)
  picks_front asker w ws None k = tt
  picks_front asker w ws (Some x) k = (
    has_next w ws k.0,
    k.1,
    (λ v h. still_or w v x.picked ws x.rest k.2 h),
    (λ v h. was_there w v ws x.rest k.3 h),
  )

  picks_if : (asker : ℕ) (b : Bool) (w : Waiting A) (ws : List (Waiting A)) (o : Option (Picked A)) → is_to asker w ≡ b →
      Picks asker (w ∷ ws) o → Picks asker (w ∷ ws) (cond b (Some (record { picked = w; rest = ws })) o)
  picks_if asker true w ws o e k = (has 0 refl, e, (λ v h. has_cons w ws h), (λ v h. has_next w ws h))
  picks_if asker false w ws o e k = k

  pub picks : (asker : ℕ) (ws : List (Waiting A)) → Picks asker ws (first_to asker ws)
  picks asker [] = tt
  picks asker (w ∷ ws) = picks_if asker (is_to asker w) w ws (with_front w (first_to asker ws)) refl
      (picks_front asker w ws (first_to asker ws) (picks asker ws))
