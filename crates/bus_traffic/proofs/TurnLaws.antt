-- The order of the places of frames, as these are put out and delivered.
use Rattle.std.proofs.Common.{◌≡◌, refl, sym, ap, subst, ℕ, zero, suc, ◌<◌, Bool, true, false, List, [], ◌∷◌, ◌++◌, length, get_or}
use Rattle.std.proofs.lemmas.List.Kept.{IsNonDecreasingBy-filter}
use Rattle.std.proofs.lemmas.List.Sorted.{IsNonDecreasingBy-push}
use Rattle.bus_traffic.proofs.RememberLaws.{delivered_next}
use Rattle.bus_traffic.proofs.Places.{delivered_first}
use Rattle.bus_traffic.specs.Sendings.{AreInTurn, IsBehindLast, delivered, is_due_at, is_young, marked, turn_of, young}
use Rattle.bus_traffic.specs.declared.sending.Recent.{Recent}

pub turns_followed : {A : Type 0} (now : ℕ) (new : Recent A) (rs : List (Recent A)) → AreInTurn rs
    → IsBehindLast new (young now rs) → AreInTurn (young now rs ++ new ∷ [])
turns_followed now new rs turns last = IsNonDecreasingBy-push turn_of (young now rs) new
    (IsNonDecreasingBy-filter turn_of (λ r. is_young now r.sending) rs turns) last

marked_turn : {A : Type 0} (address : ℕ) (x : Recent A) (rs : List (Recent A)) (k : ℕ) (d : Recent A)
    → turn_of (get_or (marked address x ∷ rs) k d) ≡ turn_of (get_or (x ∷ rs) k d)
marked_turn address x rs zero d = refl
marked_turn address x rs (suc k) d = refl

next_turn : {A : Type 0} (x : Recent A) (ys rs : List (Recent A))
    → ((k : ℕ) (d : Recent A) → turn_of (get_or ys k d) ≡ turn_of (get_or rs k d)) → (k : ℕ) (d : Recent A)
    → turn_of (get_or (x ∷ ys) k d) ≡ turn_of (get_or (x ∷ rs) k d)
next_turn x ys rs same zero d = refl
next_turn x ys rs same (suc k) d = same k d

-- each stands where it stood, in the same turn
pub record KeepsTurns {A : Type 0} (ys rs : List (Recent A)) : Type 0 where
  pub long : length ys ≡ length rs
  pub turns : (k : ℕ) (d : Recent A) → turn_of (get_or ys k d) ≡ turn_of (get_or rs k d)

keeps_by : {A : Type 0} (now address : ℕ) (octets : List ℕ) (x : Recent A) (rs : List (Recent A)) (b : Bool)
    → is_due_at now address octets x ≡ b → KeepsTurns (delivered now address octets rs) rs
    → KeepsTurns (delivered now address octets (x ∷ rs)) (x ∷ rs)
keeps_by now address octets x rs true e rest = subst (λ ys. KeepsTurns ys (x ∷ rs))
    (sym (delivered_first now address octets x rs e)) (record { long = refl; turns = marked_turn address x rs })
keeps_by now address octets x rs false e rest = subst (λ ys. KeepsTurns ys (x ∷ rs))
    (sym (delivered_next now address octets x rs e))
    (record { long = ap suc rest.long; turns = next_turn x (delivered now address octets rs) rs rest.turns })

pub keeps_turns : {A : Type 0} (now address : ℕ) (octets : List ℕ) (rs : List (Recent A))
    → KeepsTurns (delivered now address octets rs) rs
keeps_turns now address octets [] = record { long = refl; turns = λ k d. refl }
keeps_turns now address octets (x ∷ rs) =
    keeps_by now address octets x rs (is_due_at now address octets x) refl (keeps_turns now address octets rs)

pub turns_delivered : {A : Type 0} (now address : ℕ) (octets : List ℕ) (rs : List (Recent A)) → AreInTurn rs
    → AreInTurn (delivered now address octets rs)
turns_delivered now address octets rs turns =
    let kept = keeps_turns now address octets rs in
    λ i j d le lt. rw (kept.turns i d, kept.turns j d) (turns i j d le (subst (λ n. j < n) kept.long lt))

pub ruleset turn_laws = (turns_followed)
