-- Floors of blocks of moments, and what they tell.
use Rattle.std.proofs.Common.{◌≡◌, ◌≢◌, ◌∙◌, refl, sym, ap, subst, ℕ, zero, suc, ◌<◌, ◌≤◌, ◌+◌, ◌*◌, ◌/◌, List, [], ◌∷◌}
use Rattle.std.proofs.Common.{length, min, arith, ◌⊎◌, ◌-◌, inl, inr}
use Rattle.std.proofs.lemmas.Option.{slice_get-get_or}
use Rattle.std.proofs.Common.{get_or}
use Rattle.std.proofs.lemmas.Bool.{cases_lt}
use Rattle.std.proofs.Math.Nat.{eq-or-lt_of_le}
use Rattle.std.specs.Prelude.{None, Some, slice_get, slice_set}
use Rattle.due_times.specs.Times.{AreFloors, IsFirstDue, IsFloor, NoneIsDue}

same_moment : (ms : List ℕ) (i j m n : ℕ) → i ≡ j → slice_get ms i ≡ Some m → slice_get ms j ≡ Some n → m ≡ n
same_moment ms i j m n e a b = cc (e, a, b)

-- of none, any moment is the floor
pub floor_none : (floor first : ℕ) (ms : List ℕ) → IsFloor floor first 0 ms
floor_none floor first ms = record { below = λ rest m lt there. absurd (omega (arith, lt)) }

-- .. and of one moment more, the lesser of the two
pub floor_more : (floor first count n : ℕ) (ms : List ℕ) → slice_get ms (first + count) ≡ Some n →
    IsFloor floor first count ms → IsFloor (min floor n) first (count + 1) ms
floor_more floor first count n ms here f = record {
  below = λ rest m lt there. elim (cases_lt rest count) [
    | inl before ↦ omega (arith, f.below rest m before there)
    | inr behind ↦ omega (arith, same_moment ms (first + rest) (first + count) m n (omega (arith, lt, behind)) there here)
  ];
}

-- .. and where none stands there, it stays
pub floor_stays : (floor first count : ℕ) (ms : List ℕ) → slice_get ms (first + count) ≡ None →
    IsFloor floor first count ms → IsFloor floor first (count + 1) ms
floor_stays floor first count ms none f = record {
  below = λ rest m lt there. elim (cases_lt rest count) [
    | inl before ↦ f.below rest m before there
    | inr behind ↦
        let same : rest ≡ count = omega (arith, lt, behind) in
        absurd (cc (same, none, there))
  ];
}

pub ruleset floor_rules = (floor_none, floor_more, floor_stays)

set_same : (xs : List ℕ) (i x : ℕ) → i < length xs → slice_get (slice_set xs i x) i ≡ Some x
set_same [] i x within = absurd (omega (arith, within))
set_same (y ∷ ys) zero x within = refl
set_same (y ∷ ys) (suc i) x within = set_same ys i x (omega (arith, within))

pub set_other : (xs : List ℕ) (i j x : ℕ) → j ≢ i → slice_get (slice_set xs i x) j ≡ slice_get xs j
set_other [] i j x apart = refl
set_other (y ∷ ys) zero zero x apart = absurd (apart refl)
set_other (y ∷ ys) zero (suc j) x apart = refl
set_other (y ∷ ys) (suc i) zero x apart = refl
set_other (y ∷ ys) (suc i) (suc j) x apart = set_other ys i j x (λ e. apart (ap suc e))

pub set_length : (xs : List ℕ) (i x : ℕ) → length (slice_set xs i x) ≡ length xs
set_length [] i x = refl
set_length (y ∷ ys) zero x = refl
set_length (y ∷ ys) (suc i) x = ap suc (set_length ys i x)

pub tell_apart : (a b : ℕ) → (a ≡ b) ⊎ (a ≢ b)
tell_apart a b = elim (cases_lt a b) [
  | inl less ↦ inr (λ e. omega (arith, less, e))
  | inr more ↦ elim (cases_lt b a) [
    | inl greater ↦ inr (λ e. omega (arith, greater, e))
    | inr le ↦ inl (omega (arith, more, le))
  ]
]

-- where one moment changes, and its block gets its floor, each block has its floor
pub set_floors : (floors ms : List ℕ) (place moment floor : ℕ) → AreFloors floors ms → place < length ms →
    IsFloor floor (16 * (place / 16)) 16 (slice_set ms place moment) →
    AreFloors (slice_set floors (place / 16) floor) (slice_set ms place moment)
set_floors floors ms place moment floor a lt f = record {
  enough = omega (arith, a.enough, set_length ms place moment, set_length floors (place / 16) floor);
  are = λ block g there. elim (tell_apart block (place / 16)) [
    | inl same ↦
        let within : place / 16 < length floors = omega (arith, a.enough, lt) in
        let is : g ≡ floor = cc (same, there, set_same floors (place / 16) floor within) in
        subst (λ (b : ℕ). IsFloor g (16 * b) 16 (slice_set ms place moment)) (sym same)
        (subst (λ (h : ℕ). IsFloor h (16 * (place / 16)) 16 (slice_set ms place moment)) (sym is) f)
    | inr apart ↦
        let was : slice_get floors block ≡ Some g = sym (set_other floors (place / 16) block floor apart) ∙ there in
        record {
          below = λ rest m within at.
              let other : (16 * block + rest) ≢ place = λ e. apart (omega (arith, within, e)) in
              (a.are block g was).below rest m within (sym (set_other ms place (16 * block + rest) moment other) ∙ at);
        }
  ];
}

pub ruleset set_rules = (set_floors, set_length)

-- no moment of a block has come whose floor hasn't
pub none_in_block : (floors ms : List ℕ) (from place floor now : ℕ) → AreFloors floors ms →
    slice_get floors (place / 16) ≡ Some floor → now < floor → NoneIsDue from place now ms →
    NoneIsDue from (16 * (place / 16) + 16) now ms
none_in_block floors ms from place floor now a there late n = record {
  none = λ p m le lt at. elim (cases_lt p place) [
    | inl before ↦ n.none p m le before at
    | inr behind ↦
        let rest : ℕ = p - 16 * (place / 16) in
        let is : 16 * (place / 16) + (p - 16 * (place / 16)) ≡ p = omega (arith, behind) in
        let low : floor ≤ m = (a.are (place / 16) floor there).below (p - 16 * (place / 16)) m (omega (arith, lt, behind))
        (ap (λ (q : ℕ). slice_get ms q) is ∙ at) in
        omega (arith, low, late)
  ];
}

-- .. nor has this one
pub none_here : (ms : List ℕ) (from place m now : ℕ) → slice_get ms place ≡ Some m → now < m →
    NoneIsDue from place now ms → NoneIsDue from (place + 1) now ms
none_here ms from place m now there late n = record {
  none = λ p o le lt at. elim (cases_lt p place) [
    | inl before ↦ n.none p o le before at
    | inr behind ↦ omega (arith, late, same_moment ms p place o m (omega (arith, lt, behind)) at there)
  ];
}

-- none has come from a place on up to it, and up to an end before it
pub none_between : (ms : List ℕ) (from now : ℕ) → NoneIsDue from from now ms
none_between ms from now = record { none = λ p m le lt at. absurd (omega (arith, le, lt)) }

pub none_before : (ms : List ℕ) (from place now : ℕ) → length ms ≤ place → NoneIsDue from place now ms →
    NoneIsDue from (length ms) now ms
none_before ms from place now le n = record { none = λ p m from_it lt at. n.none p m from_it (omega (arith, lt, le)) at }

-- and this one is the first
pub first_here : (ms : List ℕ) (from place m now : ℕ) → from ≤ place → slice_get ms place ≡ Some m → m ≤ now →
    NoneIsDue from place now ms → IsFirstDue from now ms place
first_here ms from place m now le there due n =
    record { behind = le; moment = m; there = there; due = due; first = n }

pub ruleset find_rules = (none_in_block, none_here, none_between, none_before)

zero_more : (n : ℕ) → 0 + n ≡ n
zero_more n = omega arith

-- the floor of the floors is that of all
pub floor_of_floors : (floors ms : List ℕ) (floor : ℕ) → AreFloors floors ms → IsFloor floor 0 (length floors) floors →
    IsFloor floor 0 (length ms) ms
floor_of_floors floors ms floor a f = record {
  below = λ rest m lt there.
      let within : rest / 16 < length floors = omega (arith, a.enough, lt) in
      let known : slice_get floors (rest / 16) ≡ Some (get_or floors (rest / 16) 0) = slice_get-get_or floors (rest / 16) 0 within in
      let low : floor ≤ get_or floors (rest / 16) 0 = f.below (rest / 16) (get_or floors (rest / 16) 0) within
      (ap (λ (q : ℕ). slice_get floors q) (zero_more (rest / 16)) ∙ known) in
      let is : 16 * (rest / 16) + (rest - 16 * (rest / 16)) ≡ 0 + rest = omega arith in
      let high : get_or floors (rest / 16) 0 ≤ m = (a.are (rest / 16) (get_or floors (rest / 16) 0) known).below
      (rest - 16 * (rest / 16)) m (omega arith) (ap (λ (q : ℕ). slice_get ms q) is ∙ there) in
      omega (arith, low, high);
}

pub ruleset next_rules = (floor_of_floors)
