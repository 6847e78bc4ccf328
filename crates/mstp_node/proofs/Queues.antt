-- What waits fits still, where some are dropped, queued or picked.
use Rattle.std.proofs.Common.{◌≡◌, subst, ℕ, Bool, true, false, cond, List, [], ◌∷◌, ◌++◌, Some, None}
use Rattle.std.specs.Prelude.{Option}
use Rattle.profile.specs.Ages.{is_heard_in_time}
use Rattle.mstp_table.specs.Node.{Picked, first_to, is_to, with_front, young}
use Rattle.mstp_table.specs.declared.waiting.Waiting.{Waiting}
use Rattle.mstp_node.specs.Queue.{AllFit, Fits}

-- with these in front of those that are left
abbrev pub with_all : {A : Type 0} → List (Waiting A) → Option (Picked A) → Option (Picked A)
with_all front None = None
with_all front (Some x) = Some (record { picked = x.picked; rest = front ++ x.rest })

module _ {A : Type 0} where
  kept_if : (b : Bool) (w : Waiting A) (ws : List (Waiting A)) → Fits w → AllFit ws → AllFit (cond b (w ∷ ws) ws)
  kept_if true w ws h k = (h, k)
  kept_if false w ws h k = k

  pub young_fit : (ws : List (Waiting A)) (now : ℕ) → AllFit ws → AllFit (young ws now)
  young_fit [] now h = tt
  young_fit (w ∷ ws) now h = kept_if (is_heard_in_time w.stamp now) w (young ws now) h.0 (young_fit ws now h.1)

  pub one_more_fits : (ws : List (Waiting A)) (w : Waiting A) → AllFit ws → Fits w → AllFit (ws ++ w ∷ [])
  one_more_fits [] w h k = (k, tt)
  one_more_fits (v ∷ ws) w h k = (h.0, one_more_fits ws w h.1 k)

  -- the one picked and those left fit
  abbrev PickedFits : Option (Picked A) → Type 0
  PickedFits None = Unit {0}
  PickedFits (Some x) = Fits x.picked × AllFit x.rest

  picks_front : (w : Waiting A) (o : Option (Picked A)) → Fits w → PickedFits o → PickedFits (with_front w o)
  picks_front w None h k = tt
  picks_front w (Some x) h k = (k.0, (h, k.1))

  picks_if : (b : Bool) (w : Waiting A) (ws : List (Waiting A)) (o : Option (Picked A)) → Fits w → AllFit ws → PickedFits o →
      PickedFits (cond b (Some (record { picked = w; rest = ws })) o)
  picks_if true w ws o h k l = (h, k)
  picks_if false w ws o h k l = l

  picks : (address : ℕ) (ws : List (Waiting A)) → AllFit ws → PickedFits (first_to address ws)
  picks address [] h = tt
  picks address (w ∷ ws) h = picks_if (is_to address w) w ws (with_front w (first_to address ws)) h.0 h.1
      (picks_front w (first_to address ws) h.0 (picks address ws h.1))

  pub picked_fits : (address : ℕ) (ws rest : List (Waiting A)) (w : Waiting A) → AllFit ws →
      first_to address ws ≡ Some (record { picked = w; rest = rest }) → Fits w
  picked_fits address ws rest w h e = (subst (λ (o : Option (Picked A)). PickedFits o) e (picks address ws h)).0

  pub rest_fits : (address : ℕ) (ws rest : List (Waiting A)) (w : Waiting A) → AllFit ws →
      first_to address ws ≡ Some (record { picked = w; rest = rest }) → AllFit rest
  rest_fits address ws rest w h e = (subst (λ (o : Option (Picked A)). PickedFits o) e (picks address ws h)).1

pub ruleset queue_rules = (young_fit, one_more_fits, picked_fits, rest_fits)
