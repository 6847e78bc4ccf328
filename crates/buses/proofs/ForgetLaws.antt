-- Buses that forget, one after another.
use Rattle.std.proofs.Common.{◌≡◌, ◌<◌, ◌≤◌, ◌+◌, ap, arith, refl, subst, sym, ℕ, zero, suc, List, [], ◌∷◌, length, map}
use Rattle.std.specs.Prelude.{get_or, slice_set}
use Rattle.bus_traffic.specs.Bus.{BusState, bus_of}
use Rattle.bus_traffic.specs.Forgetting.{ForgetsOn, KeepsBus, KeepsEach}
use Rattle.bus_traffic.specs.declared.bus.Bus.{Bus}
use Rattle.buses.specs.Forgetting.{ForgetOnEach, KeepsBuses}
use Rattle.buses.specs.Puts.{BusesState}

-- of the first so many this is left, and the others stay
abbrev pub LeftFirst : {A : Type 0} → (now n : ℕ) → (old new : List (BusState A)) → Type 0
LeftFirst now zero xs ys = ys ≡ xs
LeftFirst now (suc n) [] [] = Unit {0}
LeftFirst now (suc n) (x ∷ xs) (y ∷ ys) = ForgetsOn now x y × LeftFirst now n xs ys
LeftFirst now (suc n) xs ys = ⊥

abbrev rest_of : {X : Type 0} → List X → List X
rest_of [] = []
rest_of (x ∷ xs) = xs

abbrev first_or : {X : Type 0} → X → List X → X
first_or d [] = d
first_or d (x ∷ xs) = x

-- one more has forgotten
more_left : {A : Type 0} (now n : ℕ) (start : List (BusState A)) (bs : List (Bus A)) (x y : Bus A) → n < length bs →
    ForgetsOn now (bus_of (get_or bs n x)) (bus_of y) → LeftFirst now n start (map (λ o. bus_of o) bs) →
    LeftFirst now (suc n) start (map (λ o. bus_of o) (slice_set bs n y))
more_left now n start [] x y lt one p = absurd (omega (arith, lt))
more_left now zero [] (b ∷ bs) x y lt one p = absurd (cc p)
more_left {A} now zero (s ∷ ss) (b ∷ bs) x y lt one p = (
  subst (λ (u : BusState A). ForgetsOn now u (bus_of y))
      (ap (λ (l : List (BusState A)). first_or s l) p) one,
  ap (λ (l : List (BusState A)). rest_of l) p,
)
more_left now (suc n) [] (b ∷ bs) x y lt one p = absurd p
more_left now (suc n) (s ∷ ss) (b ∷ bs) x y lt one p = (p.0, more_left now n ss bs x y (omega (arith, lt)) one p.1)

pub left_further : {A : Type 0} (now n : ℕ) (start : List (BusState A)) (bs : List (Bus A)) (x y : Bus A) →
    n < length bs → ForgetsOn now (bus_of (get_or bs n x)) (bus_of y) →
    LeftFirst now n start (map (λ o. bus_of o) bs) →
    LeftFirst now (n + 1) start (map (λ o. bus_of o) (slice_set bs n y))
left_further now n start bs x y lt one p =
    let next : suc n ≡ n + 1 = omega arith in
    subst (λ (m : ℕ). LeftFirst now m start (map (λ o. bus_of o) (slice_set bs n y))) next
    (more_left now n start bs x y lt one p)

all_left : {A : Type 0} (now n : ℕ) (xs ys : List (BusState A)) → length xs ≤ n → LeftFirst now n xs ys →
    KeepsEach (ForgetsOn now) xs ys
all_left now zero [] ys le p = subst (λ (l : List (BusState _)). KeepsEach (ForgetsOn now) [] l) (sym p) tt
all_left now zero (x ∷ xs) ys le p = absurd (omega (arith, le))
all_left now (suc n) [] [] le p = tt
all_left now (suc n) [] (y ∷ ys) le p = absurd p
all_left now (suc n) (x ∷ xs) [] le p = absurd p
all_left now (suc n) (x ∷ xs) (y ∷ ys) le p = (p.0, all_left now n xs ys (omega (arith, le)) p.1)

image_length : {A : Type 0} (bs : List (Bus A)) → length (map (λ o. bus_of o) bs) ≡ length bs
image_length [] = refl
image_length (b ∷ bs) = ap suc (image_length bs)

pub none_yet : {A : Type 0} (now : ℕ) (bs : List (Bus A)) →
    LeftFirst now 0 (map (λ o. bus_of o) bs) (map (λ o. bus_of o) bs)
none_yet now bs = refl

pub left_all : {A : Type 0} (now n : ℕ) (bs cs : List (Bus A)) → length bs ≤ n →
    LeftFirst now n (map (λ o. bus_of o) bs) (map (λ o. bus_of o) cs) →
    KeepsEach (ForgetsOn now) (map (λ o. bus_of o) bs) (map (λ o. bus_of o) cs)
left_all now n bs cs le p =
    let all = image_length bs in
    all_left now n (map (λ o. bus_of o) bs) (map (λ o. bus_of o) cs) (omega (arith, le, all)) p

pub ruleset forget_rules = (none_yet, left_all)

each_kept : {A : Type 0} (now : ℕ) (xs ys : List (BusState A)) → KeepsEach (ForgetsOn now) xs ys →
    KeepsEach (KeepsBus now) xs ys
each_kept now [] [] p = tt
each_kept now [] (y ∷ ys) p = absurd p
each_kept now (x ∷ xs) [] p = absurd p
each_kept now (x ∷ xs) (y ∷ ys) p = (p.0.keeps, each_kept now xs ys p.1)

-- what is left is kept of them
pub left_keeps : {A : Type 0} (now : ℕ) (old new : BusesState A) → ForgetOnEach now old new → KeepsBuses now old new
left_keeps now old new f = record { each = each_kept now old.buses new.buses f.each; frames = f.frames }
