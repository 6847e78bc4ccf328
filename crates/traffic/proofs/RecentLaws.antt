-- Items of which some are forgotten: what is found, put behind, cut off, marked and forgotten.
use Rattle.std.proofs.Common.{◌≡◌, ◌∙◌, refl, sym, ap, subst, arith, inl, inr, ℕ, zero, suc, ◌+◌, ◌-◌, ◌<◌, ◌≤◌, ◌^◌, true, false, List, [], ◌∷◌, ◌++◌, Option, Some, None, length, max, take, drop}
use Rattle.std.proofs.Math.Nat.{min-eq_left, min-eq_right}
use Rattle.std.proofs.Math.Seq.{drop-append_seam}
use Rattle.std.proofs.lemmas.Bool.{leb-false, lt-leb}
use Rattle.std.proofs.lemmas.List.{append_assoc, length-append, length-replicate}
use Rattle.std.specs.List.{AllByRecursion}
use Rattle.std.specs.Prelude.{replicate, slice_get, slice_set}
use Rattle.traffic.specs.Recent.{IsMarkedIn, KeepsRecent, RecentState, behind_blanks, blank, cut_items, with_item}
use Rattle.traffic.specs.Seeking.{Waits, is_young}
use Rattle.traffic.specs.declared.item.Item.{Item}

-- how many there are
pub long : {A : Type 0} (first : ℕ) (kept : List (Item A)) → length (behind_blanks first kept) ≡ first + length kept
long first kept = length-append (replicate first blank) kept
    ∙ ap (λ (n : ℕ). n + length kept) (length-replicate first (blank {A = _}))

pub no_less : {A : Type 0} (first : ℕ) (kept : List (Item A)) → first ≤ length (behind_blanks first kept)
no_less first kept = omega (arith, long first kept)

pub ruleset count_rules = (long, no_less)

-- those that are kept
pub are_kept : {A : Type 0} (first : ℕ) (kept : List (Item A)) → drop first (behind_blanks first kept) ≡ kept
are_kept {A} first kept =
    ap (λ (n : ℕ). drop n (behind_blanks first kept)) (sym (length-replicate first (blank {A = A})))
    ∙ drop-append_seam (replicate first blank) kept

pub ruleset kept_rules = (are_kept)

-- a number before the first that is kept is of a blank, and each other of one that is kept
pub blank_at : {A : Type 0} (first : ℕ) (kept : List (Item A)) (n : ℕ) → n < first →
    slice_get (behind_blanks first kept) n ≡ Some blank
blank_at zero kept n lt = absurd (omega (arith, lt))
blank_at (suc first) kept zero lt = refl
blank_at (suc first) kept (suc n) lt = blank_at first kept n (omega (arith, lt))

pub kept_at : {A : Type 0} (first : ℕ) (kept : List (Item A)) (n : ℕ) → first ≤ n →
    slice_get (behind_blanks first kept) n ≡ slice_get kept (n - first)
kept_at {A} zero kept n le = ap (λ (m : ℕ). slice_get kept m) (let e : n ≡ n - 0 = omega arith in e)
kept_at (suc first) kept zero le = absurd (omega (arith, le))
kept_at {A} (suc first) kept (suc n) le = kept_at first kept n (omega (arith, le))
    ∙ ap (λ (m : ℕ). slice_get kept m) (let e : n - first ≡ suc n - suc first = omega arith in e)

pub found_blank : {A : Type 0} (first : ℕ) (kept : List (Item A)) (n : ℕ) (b : Item A) → b ≡ blank → n < first →
    slice_get (behind_blanks first kept) n ≡ Some b
found_blank {A} first kept n b is lt = blank_at first kept n lt ∙ ap (λ (i : Item A). Some i) (sym is)

pub found_kept : {A : Type 0} (first : ℕ) (kept : List (Item A)) (n : ℕ) (o : Option (Item A)) → first ≤ n →
    slice_get kept (n - first) ≡ o → slice_get (behind_blanks first kept) n ≡ o
found_kept first kept n o le is = kept_at first kept n le ∙ is

pub ruleset finding_rules = (found_blank, found_kept)

-- one that waits among those that are kept waits among all
pub waits_behind : {A : Type 0} (now from before first : ℕ) (kept : List (Item A)) (place : ℕ) →
    Waits now (from - first) (before - first) kept place → Waits now from before (behind_blanks first kept) (first + place)
waits_behind {A} now from before first kept place w =
    let at : (first + place) - first ≡ place = omega arith in record {
      item = w.item;
      there = kept_at first kept (first + place) (omega arith) ∙ ap (λ (m : ℕ). slice_get kept m) at ∙ w.there;
      behind = omega (arith, w.behind);
      ahead = omega (arith, w.ahead);
      waits = w.waits;
      young = w.young;
    }

-- .. and its number is one
pub waits_before : {A : Type 0} (now from before first most : ℕ) (kept : List (Item A)) (place : ℕ) →
    Waits now from (before - first) kept place → before < most → first + place < most
waits_before now from before first most kept place w lt = omega (arith, w.ahead, lt)

pub ruleset waiting_rules = (waits_behind, waits_before)

-- one more stands behind all
pub pushed : {A : Type 0} (first : ℕ) (kept new : List (Item A)) (i : Item A) → new ≡ kept ++ i ∷ [] →
    record { first = first; items = behind_blanks first new }
    ≡ with_item i (record { first = first; items = behind_blanks first kept })
pushed {A} first kept new i is =
    ap (λ (items : List (Item A)). let s : RecentState A = record { first = first; items = items } in s)
    (ap (λ (items : List (Item A)). behind_blanks first items) is ∙ sym (append_assoc (replicate first blank) kept (i ∷ [])))

pub still_fits : {A : Type 0} (first : ℕ) (kept new : List (Item A)) (i : Item A) → new ≡ kept ++ i ∷ [] →
    (first + length kept ≡ 2 ^ 64 - 1 → ⊥) → first + length kept < 2 ^ 64 → first + length new < 2 ^ 64
still_fits {A} first kept new i is other lt =
    let more : length new ≡ length kept + 1 = ap (λ (l : List (Item A)). length l) is ∙ length-append kept (i ∷ []) in
    grind (arith, more, other, lt)

pub ruleset pushing_rules = (pushed, still_fits)

-- so many are left: of the blanks, or all of these and some of those that are kept
few : {A : Type 0} (first : ℕ) (kept : List (Item A)) (count : ℕ) → count ≤ first →
    behind_blanks count [] ≡ take count (behind_blanks first kept)
few first kept zero le = refl
few zero kept (suc count) le = absurd (omega (arith, le))
few {A} (suc first) kept (suc count) le =
    ap (λ (items : List (Item A)). blank ∷ items) (few first kept count (omega (arith, le)))

many : {A : Type 0} (first : ℕ) (kept : List (Item A)) (count : ℕ) → first ≤ count →
    behind_blanks first (take (count - first) kept) ≡ take count (behind_blanks first kept)
many {A} zero kept count le = ap (λ (m : ℕ). take m kept) (let e : count - 0 ≡ count = omega arith in e)
many (suc first) kept zero le = absurd (omega (arith, le))
many {A} (suc first) kept (suc count) le =
    ap (λ (m : ℕ). behind_blanks (suc first) (take m kept)) (let e : suc count - suc first ≡ count - first = omega arith in e)
    ∙ ap (λ (items : List (Item A)). blank ∷ items) (many first kept count (omega (arith, le)))

abbrev pub state : {A : Type 0} → (first : ℕ) → List (Item A) → RecentState A
state first items = record { first = first; items = items }

pub cut_few : {A : Type 0} (first : ℕ) (kept new : List (Item A)) (count : ℕ) → count < first → new ≡ [] →
    record { first = count; items = behind_blanks count new }
    ≡ cut_items count (record { first = first; items = behind_blanks first kept })
cut_few {A} first kept new count lt is =
    ap (λ (items : List (Item A)). state count (behind_blanks count items)) is
    ∙ ap (λ (items : List (Item A)). state count items) (few first kept count (omega (arith, lt)))
    ∙ ap (λ (n : ℕ). state n (take count (behind_blanks first kept))) (sym (min-eq_right (omega (arith, lt))))

pub cut_many : {A : Type 0} (first : ℕ) (kept new : List (Item A)) (count : ℕ) → first ≤ count →
    new ≡ take (count - first) kept → record { first = first; items = behind_blanks first new }
    ≡ cut_items count (record { first = first; items = behind_blanks first kept })
cut_many {A} first kept new count le is =
    ap (λ (items : List (Item A)). state first (behind_blanks first items)) is
    ∙ ap (λ (items : List (Item A)). state first items) (many first kept count le)
    ∙ ap (λ (n : ℕ). state n (take count (behind_blanks first kept))) (sym (min-eq_left le))

pub ruleset cutting_rules = (cut_few, cut_many)

-- a blank that is marked is a blank, and one that is kept is marked where it stands
set_blank : {A : Type 0} (first : ℕ) (kept : List (Item A)) (n : ℕ) → n < first →
    slice_set (behind_blanks first kept) n blank ≡ behind_blanks first kept
set_blank zero kept n lt = absurd (omega (arith, lt))
set_blank (suc first) kept zero lt = refl
set_blank {A} (suc first) kept (suc n) lt =
    ap (λ (items : List (Item A)). blank ∷ items) (set_blank first kept n (omega (arith, lt)))

set_kept : {A : Type 0} (first : ℕ) (kept : List (Item A)) (n : ℕ) (i : Item A) → first ≤ n →
    slice_set (behind_blanks first kept) n i ≡ behind_blanks first (slice_set kept (n - first) i)
set_kept {A} zero kept n i le = ap (λ (m : ℕ). slice_set kept m i) (let e : n ≡ n - 0 = omega arith in e)
set_kept (suc first) kept zero i le = absurd (omega (arith, le))
set_kept {A} (suc first) kept (suc n) i le =
    ap (λ (items : List (Item A)). blank ∷ items) (set_kept first kept n i (omega (arith, le)))
    ∙ ap (λ (m : ℕ). behind_blanks (suc first) (slice_set kept m i))
    (let e : n - first ≡ suc n - suc first = omega arith in e)

pub marked_blank : {A : Type 0} (first : ℕ) (kept : List (Item A)) (n : ℕ) → n < first →
    IsMarkedIn n (state first (behind_blanks first kept)) (state first (behind_blanks first kept))
marked_blank {A} first kept n lt = record {
  item = blank;
  there = blank_at first kept n lt;
  is = ap (λ (items : List (Item A)). state first items) (sym (set_blank first kept n lt));
}

pub marked_kept : {A : Type 0} (first : ℕ) (kept new : List (Item A)) (n : ℕ) (i : Item A) → first ≤ n →
    slice_get kept (n - first) ≡ Some i → new ≡ slice_set kept (n - first) (record i { is_delivered = true }) →
    IsMarkedIn n (state first (behind_blanks first kept)) (state first (behind_blanks first new))
marked_kept {A} first kept new n i le there is = record {
  item = i;
  there = kept_at first kept n le ∙ there;
  is = ap (λ (items : List (Item A)). state first (behind_blanks first items)) is
      ∙ ap (λ (items : List (Item A)). state first items) (sym (set_kept first kept n (record i { is_delivered = true }) le));
}

pub ruleset marking_rules = (long, marked_blank, marked_kept)

-- all are kept
pub all_kept : {A : Type 0} (now : ℕ) (items : List (Item A)) → KeepsRecent now items items
all_kept now [] = tt
all_kept now (i ∷ is) = (inl refl, all_kept now is)

-- where an item is too old a blank is
old_too : {A : Type 0} (now : ℕ) (i : Item A) → is_young now i ≡ false → is_young {A = A} now blank ≡ false
old_too now i old = lt-leb now (0 + 1000) (omega (arith, leb-false now (i.stamp + 1000) old))

-- the first of those that are kept are forgotten, where they are too old
front_old : {A : Type 0} (now : ℕ) (kept : List (Item A)) (n : ℕ) → n ≤ length kept →
    AllByRecursion (λ i. is_young now i ≡ false) (take n kept) → KeepsRecent now kept (behind_blanks n (drop n kept))
front_old now kept zero le old = all_kept now kept
front_old now [] (suc n) le old = absurd (omega (arith, le))
front_old now (i ∷ kept) (suc n) le old = (
  inr (record { old = old.0; is = refl; blank_old = old_too now i old.0 }),
  front_old now kept n (omega (arith, le)) old.1,
)

behind_old : {A : Type 0} (now first : ℕ) (kept : List (Item A)) (n : ℕ) → n ≤ length kept →
    AllByRecursion (λ i. is_young now i ≡ false) (take n kept) → (all : ℕ) → all ≡ first + n →
    KeepsRecent now (behind_blanks first kept) (behind_blanks all (drop n kept))
behind_old {A} now zero kept n le old all e =
    subst (λ (m : ℕ). KeepsRecent now kept (behind_blanks m (drop n kept))) (let f : n ≡ all = omega (arith, e) in f)
    (front_old now kept n le old)
behind_old now (suc first) kept n le old zero e = absurd (omega (arith, e))
behind_old now (suc first) kept n le old (suc all) e = (inl refl, behind_old now first kept n le old all (omega (arith, e)))

drop_long : {X : Type 0} (n : ℕ) (xs : List X) → n ≤ length xs → length (drop n xs) ≡ length xs - n
drop_long zero xs le = omega arith
drop_long (suc n) [] le = absurd (omega (arith, le))
drop_long (suc n) (x ∷ xs) le = drop_long n xs (omega (arith, le)) ∙ (omega arith)

-- what is turned to the end is cut off there
turned : {X : Type 0} (n : ℕ) (xs new : List X) → n ≤ length xs →
    new ≡ take (length xs - n) (drop n xs ++ take n xs) → new ≡ drop n xs
turned {X} n xs new le is = is
    ∙ ap (λ (m : ℕ). take m (drop n xs ++ take n xs)) (sym (drop_long n xs le)) ∙ take_seam (drop n xs) (take n xs)
  where
    take_seam : (ys zs : List X) → take (length ys) (ys ++ zs) ≡ ys
    take_seam [] zs = refl
    take_seam (y ∷ ys) zs = ap (λ (l : List X). y ∷ l) (take_seam ys zs)

drop_behind : {A : Type 0} (first : ℕ) (kept : List (Item A)) (n : ℕ) → drop (first + n) (behind_blanks first kept) ≡ drop n kept
drop_behind zero kept n = ap (λ (m : ℕ). drop m kept) (let e : 0 + n ≡ n = omega arith in e)
drop_behind (suc first) kept n =
    ap (λ (m : ℕ). drop m (behind_blanks (suc first) kept)) (let e : suc first + n ≡ suc (first + n) = omega arith in e)
    ∙ drop_behind first kept n

module _ {A : Type 0} (now first : ℕ) (kept new : List (Item A)) (n : ℕ) (within : n ≤ length kept)
    (cut : new ≡ take (length kept - n) (drop n kept ++ take n kept)) where
  -- they are forgotten
  pub forgotten : AllByRecursion (λ i. is_young now i ≡ false) (take n kept) →
      KeepsRecent now (behind_blanks first kept) (behind_blanks (first + n) new)
  forgotten old = subst (λ (items : List (Item A)). KeepsRecent now (behind_blanks first kept) (behind_blanks (first + n) items))
      (sym (turned n kept new within cut)) (behind_old now first kept n within old (first + n) refl)

  -- .. and as many are left
  pub as_many : length (behind_blanks (first + n) new) ≡ length (behind_blanks first kept)
  as_many =
      let cut_is : length new ≡ length kept - n =
      ap (λ (l : List (Item A)). length l) (turned n kept new within cut) ∙ drop_long n kept within in
      long (first + n) new ∙ (omega (arith, cut_is, within)) ∙ sym (long first kept)

  -- .. those behind them
  pub left_as : drop (first + n) (behind_blanks (first + n) new) ≡ drop (first + n) (behind_blanks first kept)
  left_as = are_kept (first + n) new ∙ turned n kept new within cut ∙ sym (drop_behind first kept n)

  pub fits : first + length kept < 2 ^ 64 → (first + n) + length new < 2 ^ 64
  fits lt =
      let cut_is : length new ≡ length kept - n =
      ap (λ (l : List (Item A)). length l) (turned n kept new within cut) ∙ drop_long n kept within in
      omega (arith, cut_is, within, lt)

  -- .. and the last so many are kept
  pub left_latest : (most latest : ℕ) → n ≤ most → most ≤ length kept - latest →
      first + n ≤ max first (length (behind_blanks (first + n) new) - latest)
  left_latest most latest le at =
      let count : length (behind_blanks (first + n) new) ≡ first + length kept = as_many ∙ long first kept in
      omega (arith, le, at, count)

pub ruleset forgetting_rules = (all_kept, forgotten, as_many, left_as, fits)
