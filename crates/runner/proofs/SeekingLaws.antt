-- The last item that a datagram is.
use Rattle.std.proofs.Common.{◌≡◌, ◌∙◌, inl, inr, refl, sym, ap, subst, ℕ, zero, suc, ◌+◌, ◌-◌, ◌<◌, true, false, List, [], ◌∷◌, ◌++◌, length, get_or, drop, take, arith}
use Rattle.std.proofs.lemmas.Option.{same_Some}
use Rattle.std.specs.Prelude.{IsSome, None, Option, Some, option_map, slice_get}
use Rattle.traffic.specs.declared.item.Item.{Item}
use Rattle.runner.specs.Seeking.{AreLate, AreOthers, EndsLate, IsLastMatch, IsMatch, HasNoMatch, IsStray, is_recent}
use Rattle.senders.specs.Senders as senders
use Rattle.wire.specs.Datagrams.{Datagram}

module _ {A : Type 0} (now : ℕ) (d : Datagram) where
  -- one that matches, behind which all are others
  pub last_found : (items : List (Item A)) (number : ℕ) (e : Item A) → number < length items →
      is_recent now (get_or items number e) ≡ true → IsMatch now d (get_or items number e) →
      AreOthers now d (drop (suc number) items) → IsLastMatch now d items number
  last_found [] number e below recent same others = absurd (omega (arith, below))
  last_found (i ∷ is) zero e below recent same others = record {
    before = [];
    item = i;
    later = is;
    parts = refl;
    count = refl;
    recent = recent;
    same = same;
    others = others;
  }
  last_found (i ∷ is) (suc n) e below recent same others =
      let r = last_found is n e (omega (arith, below)) recent same others in record {
        before = i ∷ r.before;
        item = r.item;
        later = r.later;
        parts = ap (λ (l : List (Item A)). i ∷ l) r.parts;
        count = ap suc r.count;
        recent = r.recent;
        same = r.same;
        others = r.others;
      }

  -- one that doesn't match is another besides
  pub passed : (items : List (Item A)) (number : ℕ) (e : Item A) → number < length items →
      is_recent now (get_or items number e) ≡ true → (IsMatch now d (get_or items number e) → ⊥) →
      AreOthers now d (drop (suc number) items) → AreOthers now d (drop number items)
  passed [] number e below recent other others = absurd (omega (arith, below))
  passed (i ∷ is) zero e below recent other others = (record { recent = recent; other = other }, others)
  passed (i ∷ is) (suc n) e below recent other others = passed is n e (omega (arith, below)) recent other others

  -- others are no matches
  pub others_are_none : (items : List (Item A)) → AreOthers now d items → HasNoMatch now d items
  others_are_none [] others = tt
  others_are_none (i ∷ is) others = (others.0.other, others_are_none is (others.1))

  -- items of other senders aren't either
  pub no_sender : (items : List (Item A)) → senders.AreOthers d.from (senders.senders_of items) → HasNoMatch now d items
  no_sender [] others = tt
  no_sender (i ∷ is) others = (λ same. others.0 same.from, no_sender is (others.1))

  pub none_before : (items : List (Item A)) → AreOthers now d (drop 0 items) → IsStray now d items
  none_before items others = record {
    older = [];
    recent = items;
    parts = refl;
    none = others_are_none items others;
    rest = inl refl;
  }

-- an item that stands at a place
module _ {A : Type 0} where
  none_there : (items : List (Item A)) (n : ℕ) → n < length items → None ≡ slice_get items n → ⊥
  none_there [] n below e = omega (arith, below)
  none_there (i ∷ is) zero below e = cc e
  none_there (i ∷ is) (suc n) below e = none_there is n (omega (arith, below)) e

  pub some_there : (items : List (Item A)) (n : ℕ) (o : Option (Item A)) → n < length items →
      o ≡ slice_get items n → IsSome o
  some_there items n None below e = absurd (none_there items n below e)
  some_there items n (Some i) below e = refl

  pub some_mapped : {X : Type 0} (items : List (Item A)) (n : ℕ) (f : X → Item A) (o : Option X) → n < length items →
      option_map f o ≡ slice_get items n → IsSome o
  some_mapped items n f None below e = absurd (none_there items n below e)
  some_mapped items n f (Some x) below e = refl

  -- the first so many end with one that isn't recent
  late_up : (now : ℕ) (items : List (Item A)) (n : ℕ) (i : Item A) → slice_get items n ≡ Some i →
      is_recent now i ≡ false → EndsLate now (take (suc n) items)
  late_up now [] n i there late = absurd (cc there)
  late_up now (x ∷ xs) zero i there late = record {
    before = [];
    item = x;
    parts = refl;
    late = subst (λ (y : Item A). is_recent now y ≡ false) (sym (same_Some x i there)) late;
  }
  late_up now (x ∷ xs) (suc n) i there late =
      let r = late_up now xs n i there late in record {
        before = x ∷ r.before;
        item = r.item;
        parts = ap (λ (l : List (Item A)). x ∷ l) r.parts;
        late = r.late;
      }

  pub late_before_it : (now : ℕ) (items : List (Item A)) (n : ℕ) (i : Item A) → 0 < n →
      slice_get items (n - 1) ≡ Some i → is_recent now i ≡ false → AreLate now (take n items)
  late_before_it now items n i some there late =
      let up : suc (n - 1) ≡ n = omega (arith, some) in
      inr (subst (λ (m : ℕ). EndsLate now (take m items)) up (late_up now items (n - 1) i there late))

  pub none_before_first : (now : ℕ) (items : List (Item A)) (n : ℕ) → n ≡ 0 → AreLate now (take n items)
  none_before_first now items n e = inl (ap (λ (m : ℕ). take m items) e ∙ none_taken items)
    where
      none_taken : (xs : List (Item A)) → take 0 xs ≡ []
      none_taken [] = refl
      none_taken (x ∷ xs) = refl

  -- all before a place, and all behind
  parts_at : (items : List (Item A)) (n : ℕ) → items ≡ take n items ++ drop n items
  parts_at [] zero = refl
  parts_at [] (suc n) = refl
  parts_at (i ∷ is) zero = refl
  parts_at (i ∷ is) (suc n) = ap (λ (l : List (Item A)). i ∷ l) (parts_at is n)

  -- a datagram that no sender of those that are kept sent is a stray, where those before them are late
  pub from_none_kept : (now : ℕ) (d : Datagram) (items kept : List (Item A)) (first : ℕ) → kept ≡ drop first items →
      senders.AreOthers d.from (senders.senders_of kept) → AreLate now (take first items) → IsStray now d items
  from_none_kept now d items kept first is others late = record {
    older = take first items;
    recent = kept;
    parts = parts_at items first ∙ ap (λ (l : List (Item A)). take first items ++ l) (sym is);
    none = no_sender now d kept others;
    rest = late;
  }

  -- the item before a number is a match, isn't, or isn't recent, where all from that number on are others
  stands_at : (items : List (Item A)) (n : ℕ) (i : Item A) → slice_get items n ≡ Some i →
      (n < length items) × (get_or items n i ≡ i)
  stands_at [] n i there = absurd (cc there)
  stands_at (x ∷ xs) zero i there = (omega arith, same_Some x i there)
  stands_at (x ∷ xs) (suc n) i there =
      let rest = stands_at xs n i there in (let below = rest.0 in omega (arith, below), rest.1)

  pub match_at : (now : ℕ) (d : Datagram) (items : List (Item A)) (n : ℕ) (i : Item A) → 0 < n →
      slice_get items (n - 1) ≡ Some i → is_recent now i ≡ true → IsMatch now d i → AreOthers now d (drop n items) →
      IsLastMatch now d items (n - 1)
  match_at now d items n i some there recent same others =
      let at = stands_at items (n - 1) i there in
      let up : n ≡ suc (n - 1) = omega (arith, some) in
      last_found now d items (n - 1) i (at.0)
      (subst (λ (x : Item A). is_recent now x ≡ true) (sym (at.1)) recent)
      (subst (λ (x : Item A). IsMatch now d x) (sym (at.1)) same)
      (subst (λ (m : ℕ). AreOthers now d (drop m items)) up others)

  pub passed_at : (now : ℕ) (d : Datagram) (items : List (Item A)) (n : ℕ) (i : Item A) → 0 < n →
      slice_get items (n - 1) ≡ Some i → is_recent now i ≡ true → (IsMatch now d i → ⊥) →
      AreOthers now d (drop n items) → AreOthers now d (drop (n - 1) items)
  passed_at now d items n i some there recent other others =
      let at = stands_at items (n - 1) i there in
      let up : n ≡ suc (n - 1) = omega (arith, some) in
      passed now d items (n - 1) i (at.0)
      (subst (λ (x : Item A). is_recent now x ≡ true) (sym (at.1)) recent)
      (λ same. other (subst (λ (x : Item A). IsMatch now d x) (at.1) same))
      (subst (λ (m : ℕ). AreOthers now d (drop m items)) up others)

  pub stray_behind : (now : ℕ) (d : Datagram) (items : List (Item A)) (n : ℕ) (i : Item A) → 0 < n →
      slice_get items (n - 1) ≡ Some i → is_recent now i ≡ false → AreOthers now d (drop n items) → IsStray now d items
  stray_behind now d items n i some there late others = record {
    older = take n items;
    recent = drop n items;
    parts = parts_at items n;
    none = others_are_none now d (drop n items) others;
    rest = late_before_it now items n i some there late;
  }

  pub stray_of_all : (now : ℕ) (d : Datagram) (items : List (Item A)) (n : ℕ) → n ≡ 0 →
      AreOthers now d (drop n items) → IsStray now d items
  stray_of_all now d items n e others =
      none_before now d items (subst (λ (m : ℕ). AreOthers now d (drop m items)) e others)

pub ruleset match_rules = (match_at, passed_at, stray_behind, stray_of_all)

pub ruleset seek_rules = (from_none_kept)

pub ruleset finding_rules = (some_there, some_mapped)

pub ruleset late_rules = (late_before_it, none_before_first)
