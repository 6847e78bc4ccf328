-- What is heard goes on as it began.
use Rattle.std.proofs.Common.{◌≡◌, ℕ, List, [], ◌∷◌, ◌++◌, length, drop, refl, ap, subst}
use Rattle.std.proofs.lemmas.List.{append-nil}
use Rattle.std.specs.Prelude.{Result, Ok, Err}
use Rattle.tags.specs.declared.fault.Fault.{Fault}
use Rattle.bus_traffic.specs.declared.hearing.Ending.{Ending}
use Rattle.bus_traffic.specs.declared.hearing.Ending.TheVariants.{Over, Refused}
use Rattle.bus_traffic.specs.declared.hearing.HeardFrame.{HeardFrame}
use Rattle.bus_traffic.specs.Hearing.{EndsFrame, EndsNone, Hears, over, refuses, accepts}

-- what is heard from here on stands behind these frames in what is heard of all
pub record GoesOn (A : Type 0) (judge : List ℕ → Result ℕ Fault) (start octets : List ℕ) (fs : List (HeardFrame A))
    (kept left : List ℕ) : Type 0 where
  pub on : (more : List (HeardFrame A)) (end : Ending A) → Hears A judge kept left more end
      → Hears A judge start octets (fs ++ more) end

pub begins : {A : Type 0} {judge : List ℕ → Result ℕ Fault} (start octets : List ℕ) → GoesOn A judge start octets [] start octets
begins start octets = record { on = λ more end h. h }

behind : {X : Type 0} → (xs : List X) (x : X) (ys : List X) → xs ++ x ∷ ys ≡ (xs ++ x ∷ []) ++ ys
behind [] x ys = refl
behind (y ∷ xs) x ys = ap (λ zs. y ∷ zs) (behind xs x ys)

pub goes_on : {A : Type 0} {judge : List ℕ → Result ℕ Fault} (start octets kept left after : List ℕ)
    (fs : List (HeardFrame A)) (f : HeardFrame A) → GoesOn A judge start octets fs kept left
    → EndsFrame kept left f.octets f.used after → judge f.octets ≡ Ok f.stamp
    → GoesOn A judge start octets (fs ++ f ∷ []) after (drop f.used left)
goes_on {A} {judge} start octets kept left after fs f g e j = record {
  on = λ more end h. subst (λ xs. Hears A judge start octets xs end) (behind fs f more)
      (g.on (f ∷ more) end (accepts kept left after f more end e j h));
}

pub is_over : {A : Type 0} {judge : List ℕ → Result ℕ Fault} (start octets kept left after : List ℕ)
    (fs : List (HeardFrame A)) → GoesOn A judge start octets fs kept left → EndsNone kept left after
    → Hears A judge start octets fs (Over (length left) after)
is_over {A} {judge} start octets kept left after fs g e =
    subst (λ xs. Hears A judge start octets xs (Over (length left) after)) (append-nil fs)
    (g.on [] (Over (length left) after) (over kept left after e))

pub is_refused : {A : Type 0} {judge : List ℕ → Result ℕ Fault} (start octets kept left whole after : List ℕ) (used : ℕ)
    (fault : Fault) (fs : List (HeardFrame A)) → GoesOn A judge start octets fs kept left
    → EndsFrame kept left whole used after → judge whole ≡ Err fault
    → Hears A judge start octets fs (Refused fault)
is_refused {A} {judge} start octets kept left whole after used fault fs g e j =
    subst (λ xs. Hears A judge start octets xs (Refused fault)) (append-nil fs)
    (g.on [] (Refused fault) (refuses kept left whole after used fault e j))

pub ruleset hearing_rules = (begins, goes_on, is_over, is_refused)
