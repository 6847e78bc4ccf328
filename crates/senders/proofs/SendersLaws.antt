-- Who is known among senders, and who is none of them.
use Rattle.std.proofs.Common.{◌≡◌, ◌∙◌, refl, sym, ap, subst, ℕ, zero, suc, ◌+◌, ◌-◌, ◌≤◌, ◌<◌, Bool, true, false, List, [], ◌∷◌, ◌++◌, length, drop, take, get_or, arith}
use Rattle.std.specs.Prelude.{◌||◌}
use Rattle.std.specs.List.{AllByRecursion}
use Rattle.std.specs.Cmp.Lexicographic.{bytes_decides}
use Rattle.std.proofs.lemmas.Bool.{eq-eqb}
use Rattle.std.proofs.lemmas.List.{take-append-le}
use Rattle.npdu.specs.Mac.{same_mac}
use Rattle.npdu.specs.declared.mac.Mac.{Mac}
use Rattle.npdu.specs.declared.mac.Mac.TheVariants.{One, Six}
use Rattle.senders.specs.Senders.{AreKnown, AreOthers, Grows, SendersState, is_among, senders_of}
use Rattle.traffic.specs.declared.item.Item.{Item}

same_itself : (a : Mac) → same_mac a a ≡ true
same_itself (One a) = eq-eqb a a refl
same_itself (Six a) = (bytes_decides a a).1 refl

-- one that was put behind others is there
put_there : (m : Mac) (all : List Mac) → is_among m (all ++ m ∷ []) ≡ true
put_there m [] = ap (λ (b : Bool). b || false) (same_itself m)
put_there m (x ∷ xs) = or_later (same_mac x m) _ (put_there m xs)
  where
    or_later : (a b : Bool) → b ≡ true → (a || b) ≡ true
    or_later true b e = refl
    or_later false b e = e

or_kept : (b old new : Bool) → (old ≡ true → new ≡ true) → (b || old) ≡ true → (b || new) ≡ true
or_kept true old new kept e = refl
or_kept false old new kept e = kept e

-- .. and whoever was there before still is
put_kept : (m other : Mac) (all : List Mac) → is_among other all ≡ true → is_among other (all ++ m ∷ []) ≡ true
put_kept m other [] e = absurd (cc e)
put_kept m other (x ∷ xs) e = or_kept (same_mac x other) (is_among other xs) (is_among other (xs ++ m ∷ [])) (put_kept m other xs) e

-- .. as a list says that has one more
pub there_behind : (m : Mac) (all new : List Mac) → new ≡ all ++ m ∷ [] → is_among m new ≡ true
there_behind m all new is = subst (λ (l : List Mac). is_among m l ≡ true) (sym is) (put_there m all)

pub kept_behind : (m : Mac) (all new : List Mac) → new ≡ all ++ m ∷ [] → (other : Mac) → is_among other all ≡ true →
    is_among other new ≡ true
kept_behind m all new is other e = subst (λ (l : List Mac). is_among other l ≡ true) (sym is) (put_kept m other all e)

-- all that were known still are
known_kept : (old new senders : List Mac) → ((o : Mac) → is_among o old ≡ true → is_among o new ≡ true) →
    AllByRecursion (λ m. is_among m old ≡ true) senders → AllByRecursion (λ m. is_among m new ≡ true) senders
known_kept old new [] kept all = tt
known_kept old new (m ∷ ms) kept all = (kept m (all.0), known_kept old new ms kept (all.1))

-- one sender more is known
known_more : (all senders : List Mac) (n : ℕ) (e : Mac) → n < length senders →
    AllByRecursion (λ m. is_among m all ≡ true) (take n senders) → is_among (get_or senders n e) all ≡ true →
    AllByRecursion (λ m. is_among m all ≡ true) (take (suc n) senders)
known_more all [] n e below known one = absurd (omega (arith, below))
known_more all (m ∷ ms) zero e below known one = (one, tt)
known_more all (m ∷ ms) (suc n) e below known one =
    (known.0, known_more all ms n e (omega (arith, below)) (known.1) one)

sees_more : (old new : List Mac) (seen : ℕ) (senders : List Mac) (e : Mac) → seen < length senders →
    ((o : Mac) → is_among o old ≡ true → is_among o new ≡ true) → is_among (get_or senders seen e) new ≡ true →
    AreKnown (record { known = old; seen = seen }) senders → AreKnown (record { known = new; seen = seen + 1 }) senders
sees_more old new seen senders e below kept there h =
    let next : suc seen ≡ seen + 1 = omega arith in record {
      seen = omega (arith, below);
      known = subst (λ (n : ℕ). AllByRecursion (λ m. is_among m new ≡ true) (take n senders)) next
          (known_more new senders seen e below (known_kept old new (take seen senders) kept h.known) there);
    }

module _ {A : Type 0} where
  as_long : (items : List (Item A)) (n : ℕ) → n < length items → n < length (senders_of items)
  as_long [] n below = absurd (omega (arith, below))
  as_long (i ∷ is) zero below = omega arith
  as_long (i ∷ is) (suc n) below = let rest = as_long is n (omega (arith, below)) in omega (arith, rest)

  sender_at : (items : List (Item A)) (n : ℕ) (e : Item A) →
      get_or (senders_of items) n e.from ≡ (get_or items n e).from
  sender_at [] zero e = refl
  sender_at [] (suc n) e = refl
  sender_at (i ∷ is) zero e = refl
  sender_at (i ∷ is) (suc n) e = sender_at is n e

  -- whoever sent the next item is known
  pub sees_item : (old new : List Mac) (seen : ℕ) (items : List (Item A)) (i : Item A) → seen < length items →
      i ≡ get_or items seen i → ((o : Mac) → is_among o old ≡ true → is_among o new ≡ true) →
      is_among i.from new ≡ true → AreKnown (record { known = old; seen = seen }) (senders_of items) →
      AreKnown (record { known = new; seen = seen + 1 }) (senders_of items)
  sees_item old new seen items i below is kept there h =
      let at : get_or (senders_of items) seen i.from ≡ i.from =
      sender_at items seen i ∙ ap (λ (x : Item A). x.from) (sym is) in
      sees_more old new seen (senders_of items) i.from (as_long items seen below) kept
      (subst (λ (m : Mac). is_among m new ≡ true) (sym at) there) h

-- those that were seen are known by whoever knows more
pub known_by_more : (old new : List Mac) (seen : ℕ) (senders : List Mac) →
    ((o : Mac) → is_among o old ≡ true → is_among o new ≡ true) →
    AreKnown (record { known = old; seen = seen }) senders → AreKnown (record { known = new; seen = seen }) senders
known_by_more old new seen senders kept h =
    record { seen = h.seen; known = known_kept old new (take seen senders) kept h.known }

-- what is known stays so as others come behind
pub known_on : (s : SendersState) (old new : List Mac) → Grows old new → AreKnown s old → AreKnown s new
known_on s old new grows h = subst (λ (l : List Mac). AreKnown s l) (sym grows.is) (record {
  seen = longer old grows.more s.seen h.seen;
  known = subst (λ (l : List Mac). AllByRecursion (λ m. is_among m s.known ≡ true) l)
      (sym (take-append-le s.seen old grows.more h.seen)) h.known;
})
  where
    longer : (xs ys : List Mac) (n : ℕ) → n ≤ length xs → n ≤ length (xs ++ ys)
    longer [] ys zero below = omega (arith, below)
    longer [] ys (suc n) below = absurd (omega (arith, below))
    longer (x ∷ xs) ys zero below = omega (arith, below)
    longer (x ∷ xs) ys (suc n) below =
        let more = longer xs ys n (omega (arith, below)) in omega (arith, more)

-- what is known stays so where the first so many are gone
known_fewer : (all senders : List Mac) (seen n : ℕ) → AllByRecursion (λ m. is_among m all ≡ true) (take seen senders) →
    AllByRecursion (λ m. is_among m all ≡ true) (take (seen - n) (drop n senders))
known_fewer all senders seen zero h =
    subst (λ (m : ℕ). AllByRecursion (λ x. is_among x all ≡ true) (take m senders))
    (let same : seen ≡ seen - 0 = omega arith in same) h
known_fewer all [] seen (suc n) h = none_taken (seen - suc n)
  where
    none_taken : (k : ℕ) → AllByRecursion (λ m. is_among m all ≡ true) (take k [])
    none_taken zero = tt
    none_taken (suc k) = tt
known_fewer all (m ∷ ms) zero (suc n) h =
    subst (λ (k : ℕ). AllByRecursion (λ x. is_among x all ≡ true) (take k (drop n ms)))
    (let none : 0 ≡ 0 - suc n = omega arith in none) (nothing (drop n ms))
  where
    nothing : (xs : List Mac) → AllByRecursion (λ m. is_among m all ≡ true) (take 0 xs)
    nothing [] = tt
    nothing (x ∷ xs) = tt
known_fewer all (m ∷ ms) (suc seen) (suc n) h =
    subst (λ (k : ℕ). AllByRecursion (λ x. is_among x all ≡ true) (take k (drop n ms)))
    (let fewer : seen - n ≡ suc seen - suc n = omega arith in fewer) (known_fewer all ms seen n (h.1))

left_long : (xs : List Mac) (seen n : ℕ) → seen ≤ length xs → seen - n ≤ length (drop n xs)
left_long xs seen zero le = omega (arith, le)
left_long [] seen (suc n) le = let none : seen ≡ 0 = omega (arith, le) in omega (arith, none)
left_long (x ∷ xs) zero (suc n) le = omega arith
left_long (x ∷ xs) (suc seen) (suc n) le = let rest = left_long xs seen n (omega (arith, le)) in omega (arith, rest)

pub known_behind : (s : SendersState) (senders : List Mac) (n : ℕ) → AreKnown s senders →
    AreKnown (record s { seen = s.seen - n }) (drop n senders)
known_behind s senders n h = record {
  seen = left_long senders s.seen n h.seen;
  known = known_fewer s.known senders s.seen n h.known;
}

-- whoever isn't known is none of those that were seen, where all were
pub others_of : (known senders : List Mac) (from : Mac) → is_among from known ≡ false →
    AllByRecursion (λ m. is_among m known ≡ true) senders → AreOthers from senders
others_of known [] from unknown all = tt
others_of known (m ∷ ms) from unknown all = (
  λ same. differ (sym (subst (λ (x : Mac). is_among x known ≡ true) same (all.0)) ∙ unknown),
  others_of known ms from unknown (all.1),
)
  where
    differ : true ≡ false → ⊥
    differ e = absurd (cc e)

take_all : (xs : List Mac) (n : ℕ) → n ≡ length xs → take n xs ≡ xs
take_all [] zero e = refl
take_all [] (suc n) e = refl
take_all (x ∷ xs) zero e = absurd (omega (arith, e))
take_all (x ∷ xs) (suc n) e = ap (λ (l : List Mac). x ∷ l) (take_all xs n (omega (arith, e)))

pub stranger_is_none : (s : SendersState) (senders : List Mac) (from : Mac) → s.seen ≡ length senders →
    is_among from s.known ≡ false → AreKnown s senders → AreOthers from senders
stranger_is_none s senders from all unknown h = others_of s.known senders from unknown
    (subst (λ (l : List Mac). AllByRecursion (λ m. is_among m s.known ≡ true) l) (take_all senders s.seen all) h.known)

pub ruleset sender_laws = (there_behind, kept_behind, known_by_more, stranger_is_none)
