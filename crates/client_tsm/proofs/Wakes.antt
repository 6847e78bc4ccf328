-- What is left of transactions when a client wakes, one after another in their places.
use Rattle.std.proofs.Common.{◌≡◌, ◌∙◌, sym, ap, ℕ, List, [], ◌∷◌, ◌++◌, take, drop}
use Rattle.std.specs.Prelude.{Some, zero, suc, remove, slice_get, slice_set}
use Rattle.segments.specs.declared.step.Turn.{Turn}
use Rattle.segments.specs.declared.step.Turn.TheVariants.{Waits, Sends, Ends}
use Rattle.client_tsm.specs.Open.{Open}
use Rattle.client_tsm.specs.Waking.{again, all_left, left_by, turn_of}

module _ {A : Type 0} where
  one_open : (y x : Open A) → Some y ≡ Some x → y ≡ x
  one_open y x e = cc e

  -- the turn of the first is that of the one at place 0
  first_turn : (now : ℕ) (y x : Open A) (t : Turn) → Some y ≡ Some x → turn_of now x ≡ t → turn_of now y ≡ t
  first_turn now y x t e is = ap (λ (o : Open A). turn_of now o) (one_open y x e) ∙ is

  -- one that waits stays
  pub left_waits : (now : ℕ) (os : List (Open A)) (i : ℕ) (x : Open A) → slice_get os i ≡ Some x → turn_of now x ≡ Waits →
      take (suc i) os ++ all_left now (drop (suc i) os) ≡ take i os ++ all_left now (drop i os)
  left_waits now [] i x e is = absurd (cc e)
  left_waits now (y ∷ os) zero x e is = sym (ap (λ (t : Turn). left_by t now y ++ all_left now os) (first_turn now y x Waits e is))
  left_waits now (y ∷ os) (suc i) x e is = ap (λ (zs : List (Open A)). y ∷ zs) (left_waits now os i x e is)

  -- one that is said again changes in its place
  pub left_sends : (now : ℕ) (os : List (Open A)) (i : ℕ) (x : Open A) → slice_get os i ≡ Some x → turn_of now x ≡ Sends →
      take (suc i) (slice_set os i (again now x)) ++ all_left now (drop (suc i) (slice_set os i (again now x))) ≡ take i os ++ all_left now (drop i os)
  left_sends now [] i x e is = absurd (cc e)
  left_sends now (y ∷ os) zero x e is =
      ap (λ (o : Open A). again now o ∷ all_left now os) (sym (one_open y x e))
      ∙ sym (ap (λ (t : Turn). left_by t now y ++ all_left now os) (first_turn now y x Sends e is))
  left_sends now (y ∷ os) (suc i) x e is = ap (λ (zs : List (Open A)). y ∷ zs) (left_sends now os i x e is)

  -- one that ends is removed
  pub left_ends : (now : ℕ) (os : List (Open A)) (i : ℕ) (x : Open A) → slice_get os i ≡ Some x → turn_of now x ≡ Ends →
      take i (remove os i) ++ all_left now (drop i (remove os i)) ≡ take i os ++ all_left now (drop i os)
  left_ends now [] i x e is = absurd (cc e)
  left_ends now (y ∷ os) zero x e is = sym (ap (λ (t : Turn). left_by t now y ++ all_left now os) (first_turn now y x Ends e is))
  left_ends now (y ∷ os) (suc i) x e is = ap (λ (zs : List (Open A)). y ∷ zs) (left_ends now os i x e is)

pub ruleset wake_rules = (left_waits, left_sends, left_ends)
