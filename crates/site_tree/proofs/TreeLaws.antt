-- Joining networks one after another ends at all of them exactly where they are joined.
use Rattle.std.proofs.Common.{◌≤◌, ◌-◌, length, take, drop, arith, ◌≡◌, ◌∙◌, refl, sym, ap, subst, inl, inr, true≢false, ℕ, zero, suc, Bool, true, false, cond, not, ◌&&◌, ◌||◌, ◌==◌, ◌⊎◌, if◌then◌else◌, List, [], ◌∷◌, ◌++◌, get_or, remove, filter, eq-eqb, eqb-true}
use Rattle.std.proofs.lemmas.List.{take_all}
use Rattle.std.specs.List.{list_any, list_all, flat_map}
use Rattle.site_parts.specs.declared.parts.Network.{Network}
use Rattle.site_parts.specs.declared.parts.Station.{Station}
use Rattle.site_tree.specs.Tree.{IsClosed, IsJoined, IsBetween, ArePortsThere, numbers, port_networks, is_among, joins, leads, but}

pub or_cases : (a b : Bool) → (a || b) ≡ true → (a ≡ true) ⊎ (b ≡ true)
or_cases true b e = inl refl
or_cases false b e = inr e

pub or_left : (a b : Bool) → a ≡ true → (a || b) ≡ true
or_left true b e = refl
or_left false b e = absurd (true≢false (sym e))

pub or_right : (a b : Bool) → b ≡ true → (a || b) ≡ true
or_right true b e = refl
or_right false b e = e

pub and_left : (a b : Bool) → (a && b) ≡ true → a ≡ true
and_left true b e = refl
and_left false b e = e

pub and_right : (a b : Bool) → (a && b) ≡ true → b ≡ true
and_right true b e = e
and_right false b e = absurd (true≢false (sym e))

pub and_both : (a b : Bool) → a ≡ true → b ≡ true → (a && b) ≡ true
and_both true b e f = f
and_both false b e f = e

is_false : (a : Bool) → (a ≡ true → ⊥) → a ≡ false
is_false true h = absurd (h refl)
is_false false h = refl

either : (a : Bool) → (a ≡ true) ⊎ (a ≡ false)
either true = inl refl
either false = inr refl

never : (a : Bool) → a ≡ true → a ≡ false → ⊥
never a e f = true≢false (sym e ∙ f)

not_true : (a : Bool) → not a ≡ true → a ≡ false
not_true true e = sym e
not_true false e = refl

not_false : (a : Bool) → a ≡ false → not a ≡ true
not_false true e = sym e
not_false false e = refl

-- what is left behind one that is taken away
removed_among : (n : ℕ) (xs : List ℕ) (i : ℕ) → is_among n (remove xs i) ≡ true → is_among n xs ≡ true
removed_among n [] zero h = h
removed_among n [] (suc i) h = h
removed_among n (x ∷ xs) zero h = or_right (x == n) (is_among n xs) h
removed_among n (x ∷ xs) (suc i) h = elim (or_cases (x == n) (is_among n (remove xs i)) h) [
  | inl e ↦ or_left (x == n) (is_among n xs) e
  | inr e ↦ or_right (x == n) (is_among n xs) (removed_among n xs i e)
]

kept_among : (n : ℕ) (xs : List ℕ) (i : ℕ) → is_among n xs ≡ true → (is_among n (remove xs i) ≡ true) ⊎ (n ≡ get_or xs i 0)
kept_among n [] i h = absurd (true≢false (sym h))
kept_among n (x ∷ xs) zero h = elim (or_cases (x == n) (is_among n xs) h) [
  | inl e ↦ inr (sym (eqb-true x n e))
  | inr e ↦ inl e
]
kept_among n (x ∷ xs) (suc i) h = elim (or_cases (x == n) (is_among n xs) h) [
  | inl e ↦ inl (or_left (x == n) (is_among n (remove xs i)) e)
  | inr e ↦ elim (kept_among n xs i e) [
    | inl f ↦ inl (or_right (x == n) (is_among n (remove xs i)) f)
    | inr f ↦ inr f
  ]
]

all_at : (here : ℕ → Bool) (xs : List ℕ) (n : ℕ) → list_all here xs ≡ true → is_among n xs ≡ true → here n ≡ true
all_at here [] n h a = absurd (true≢false (sym a))
all_at here (x ∷ xs) n h a = elim (or_cases (x == n) (is_among n xs) a) [
  | inl e ↦ ap here (sym (eqb-true x n e)) ∙ and_left (here x) (list_all here xs) h
  | inr e ↦ all_at here xs n (and_right (here x) (list_all here xs) h) e
]

all_from : (here : ℕ → Bool) (xs : List ℕ) → ((n : ℕ) → is_among n xs ≡ true → here n ≡ true) → list_all here xs ≡ true
all_from here [] h = refl
all_from here (x ∷ xs) h = and_both (here x) (list_all here xs) (h x (or_left (x == x) (is_among x xs) (eq-eqb x x refl)))
    (all_from here xs (λ n a. h n (or_right (x == n) (is_among n xs) a)))

none_at : (p : ℕ → Bool) (xs : List ℕ) (n : ℕ) → list_any p xs ≡ false → is_among n xs ≡ true → p n ≡ false
none_at p [] n h a = absurd (true≢false (sym a))
none_at p (x ∷ xs) n h a = elim (or_cases (x == n) (is_among n xs) a) [
  | inl e ↦ ap p (sym (eqb-true x n e)) ∙ is_false (p x) (λ t. never (p x || list_any p xs) (or_left (p x) (list_any p xs) t) h)
  | inr e ↦ none_at p xs n (is_false (list_any p xs) (λ t. never (p x || list_any p xs) (or_right (p x) (list_any p xs) t) h)) e
]

-- a port outside what is apart is on a network that was come to
any_here : (here : ℕ → Bool) (apart ns : List ℕ) → ((n : ℕ) → is_among n ns ≡ true → is_among n apart ≡ false → here n ≡ true) → (xs : List ℕ) → list_all (λ n. is_among n ns) xs ≡ true → list_any (λ m. not (is_among m apart)) xs ≡ true → list_any here xs ≡ true
any_here here apart ns come [] there out = out
any_here here apart ns come (x ∷ xs) there out = elim (or_cases (not (is_among x apart)) (list_any (λ m. not (is_among m apart)) xs) out) [
  | inl e ↦ or_left (here x) (list_any here xs) (come x (and_left (is_among x ns) (list_all (λ n. is_among n ns) xs) there) (not_true (is_among x apart) e))
  | inr e ↦ or_right (here x) (list_any here xs) (any_here here apart ns come xs (and_right (is_among x ns) (list_all (λ n. is_among n ns) xs) there) e)
]

-- who follows a router comes to what it leads to
led : {A : Type 0} (here : ℕ → Bool) (apart ns : List ℕ) (x : ℕ) → ((n : ℕ) → is_among n ns ≡ true → is_among n apart ≡ false → here n ≡ true) → (ss : List (Station A)) → ArePortsThere ns ss → IsClosed here ss → leads ss apart x ≡ true → here x ≡ true
led here apart ns x come [] there closed e = absurd (true≢false (sym e))
led here apart ns x come (s ∷ ss) there closed e = elim (or_cases (joins s apart x) (leads ss apart x) e) [
  | inl j ↦ all_at here (port_networks s) x
      (closed.0 (any_here here apart ns come (port_networks s) there.0 (and_right (is_among x (port_networks s)) (list_any (λ m. not (is_among m apart)) (port_networks s)) j)))
      (and_left (is_among x (port_networks s)) (list_any (λ m. not (is_among m apart)) (port_networks s)) j)
  | inr j ↦ led here apart ns x come ss there.1 closed.1 j
]

-- one more network is joined
pub between_step : {A : Type 0} (first : ℕ) (ns : List ℕ) (ss : List (Station A)) (apart : List ℕ) (i : ℕ) → ArePortsThere ns ss → leads ss apart (get_or apart i 0) ≡ true → IsBetween first ns ss apart → IsBetween first ns ss (remove apart i)
between_step first ns ss apart i there leading b = record {
  begun = is_false (is_among first (remove apart i)) (λ t. never (is_among first apart) (removed_among first apart i t) b.begun);
  some = λ n h. b.some n (removed_among n apart i h);
  come = λ here begun closed n known gone. elim (either (is_among n apart)) [
    | inr out ↦ b.come here begun closed n known out
    | inl still ↦ elim (kept_among n apart i still) [
      | inl kept ↦ absurd (never (is_among n (remove apart i)) kept gone)
      | inr is ↦ ap here is ∙ led here apart ns (get_or apart i 0) (λ m. b.come here begun closed m) ss there closed leading
    ]
  ];
}

-- what is among those that pass a test
among_cond : (n x : ℕ) (b : Bool) (ys : List ℕ) → is_among n (cond b (x ∷ ys) ys) ≡ true → ((b ≡ true) × ((x == n) ≡ true)) ⊎ (is_among n ys ≡ true)
among_cond n x true ys h = elim (or_cases (x == n) (is_among n ys) h) [
  | inl e ↦ inl (refl, e)
  | inr e ↦ inr e
]
among_cond n x false ys h = inr h

cond_first : (n x : ℕ) (b : Bool) (ys : List ℕ) → b ≡ true → (x == n) ≡ true → is_among n (cond b (x ∷ ys) ys) ≡ true
cond_first n x true ys e f = or_left (x == n) (is_among n ys) f
cond_first n x false ys e f = absurd (true≢false (sym e))

cond_later : (n x : ℕ) (b : Bool) (ys : List ℕ) → is_among n ys ≡ true → is_among n (cond b (x ∷ ys) ys) ≡ true
cond_later n x true ys h = or_right (x == n) (is_among n ys) h
cond_later n x false ys h = h

filtered_among : (p : ℕ → Bool) (n : ℕ) (xs : List ℕ) → is_among n (filter p xs) ≡ true → (is_among n xs ≡ true) × (p n ≡ true)
filtered_among p n [] h = absurd (true≢false (sym h))
filtered_among p n (x ∷ xs) h = elim (among_cond n x (p x) (filter p xs) h) [
  | inl e ↦ (or_left (x == n) (is_among n xs) e.1, ap p (sym (eqb-true x n e.1)) ∙ e.0)
  | inr e ↦ let rest = filtered_among p n xs e in (or_right (x == n) (is_among n xs) rest.0, rest.1)
]

kept_filtered : (p : ℕ → Bool) (n : ℕ) (xs : List ℕ) → is_among n xs ≡ true → p n ≡ true → is_among n (filter p xs) ≡ true
kept_filtered p n [] h e = h
kept_filtered p n (x ∷ xs) h e = elim (or_cases (x == n) (is_among n xs) h) [
  | inl f ↦ cond_first n x (p x) (filter p xs) (ap p (eqb-true x n f) ∙ e) f
  | inr f ↦ cond_later n x (p x) (filter p xs) (kept_filtered p n xs f e)
]

but_cond : (b : Bool) (x : ℕ) (ys zs : List ℕ) → ys ≡ zs → (if b then [] else x ∷ []) ++ ys ≡ cond (not b) (x ∷ zs) zs
but_cond true x ys zs e = e
but_cond false x ys zs e = ap (λ (l : List ℕ). x ∷ l) e

as_filter : (first : ℕ) (ns : List Network) → flat_map (λ n. but first n.number) ns ≡ filter (λ m. not (m == first)) (numbers ns)
as_filter first [] = refl
as_filter first (n ∷ ns) = but_cond (n.number == first) n.number (flat_map (λ n. but first n.number) ns) (filter (λ m. not (m == first)) (numbers ns)) (as_filter first ns)

-- all but the first are apart at the beginning
pub between_begin : {A : Type 0} (first : ℕ) (others : List ℕ) (ss : List (Station A)) → IsBetween first (first ∷ others) ss (filter (λ n. not (n == first)) others)
between_begin first others ss = record {
  begun = is_false (is_among first (filter (λ n. not (n == first)) others)) (λ t. never (first == first) (eq-eqb first first refl)
      (not_true (first == first) ((filtered_among (λ n. not (n == first)) first others t).1)));
  some = λ n h. or_right (first == n) (is_among n others) ((filtered_among (λ m. not (m == first)) n others h).0);
  come = λ here begun closed n known out. elim (or_cases (first == n) (is_among n others) known) [
    | inl e ↦ ap here (sym (eqb-true first n e)) ∙ begun
    | inr e ↦ elim (either (n == first)) [
      | inl f ↦ ap here (eqb-true n first f) ∙ begun
      | inr f ↦ absurd (never (is_among n (filter (λ m. not (m == first)) others)) (kept_filtered (λ m. not (m == first)) n others e (not_false (n == first) f)) out)
    ]
  ];
}

pub between_numbers : {A : Type 0} (first : ℕ) (others : List Network) (ss : List (Station A)) → IsBetween first (first ∷ numbers others) ss (flat_map (λ n. but first n.number) others)
between_numbers first others ss = subst (λ (l : List ℕ). IsBetween first (first ∷ numbers others) ss l) (sym (as_filter first others)) (between_begin first (numbers others) ss)

-- where no router leads to what is apart, the others are closed
each_closed : {A : Type 0} (apart : List ℕ) (ss : List (Station A)) → ((m : ℕ) → is_among m apart ≡ true → leads ss apart m ≡ false) → IsClosed (λ n. not (is_among n apart)) ss
each_closed apart [] h = tt
each_closed apart (s ∷ ss) h = (
  λ some. all_from (λ n. not (is_among n apart)) (port_networks s) (λ n a. not_false (is_among n apart)
      (is_false (is_among n apart) (λ t. never (leads (s ∷ ss) apart n)
      (or_left (joins s apart n) (leads ss apart n) (and_both (is_among n (port_networks s)) (list_any (λ m. not (is_among m apart)) (port_networks s)) a some)) (h n t)))),
  each_closed apart ss (λ m t. is_false (leads ss apart m) (λ u. never (leads (s ∷ ss) apart m) (or_right (joins s apart m) (leads ss apart m) u) (h m t))),
)

pub all_come : {A : Type 0} (n : ℕ) (ns : List ℕ) (ss : List (Station A)) (apart : List ℕ) → IsBetween n (n ∷ ns) ss apart → apart ≡ [] → IsJoined (n ∷ ns) ss
all_come n ns ss [] b e = λ here begun closed. all_from here (n ∷ ns) (λ m a. b.come here begun closed m a refl)
all_come n ns ss (x ∷ xs) b e = absurd cc

pub none_apart : {A : Type 0} (n : ℕ) (ns : List ℕ) (ss : List (Station A)) (apart : List ℕ) → IsBetween n (n ∷ ns) ss apart → list_any (leads ss apart) apart ≡ false → IsJoined (n ∷ ns) ss → apart ≡ []
none_apart n ns ss [] b none j = refl
none_apart n ns ss (x ∷ xs) b none j = absurd (never (is_among x (x ∷ xs)) (or_left (x == x) (is_among x xs) (eq-eqb x x refl))
    (not_true (is_among x (x ∷ xs)) (all_at (λ m. not (is_among m (x ∷ xs))) (n ∷ ns) x
    (j (λ m. not (is_among m (x ∷ xs))) (not_false (is_among n (x ∷ xs)) b.begun) (each_closed (x ∷ xs) ss (λ m t. none_at (leads ss (x ∷ xs)) (x ∷ xs) m none t)))
    (b.some x (or_left (x == x) (is_among x xs) (eq-eqb x x refl))))))

-- what is told of the first network and the others is told of all
abbrev pub IsToldOf : {A : Type 0} → Type 0 → List (Station A) → List ℕ → Type 0
IsToldOf T ss ns = (T → IsJoined ns ss) × (IsJoined ns ss → T)

rest_is : (n : Network) (ns : List Network) → take (length (n ∷ ns) - 1) (drop 1 (n ∷ ns)) ≡ ns
rest_is n ns = take_all (length (n ∷ ns) - 1) ns (omega arith)

pub first_of : {A : Type 0} (T : Type 0) (ss : List (Station A)) (d : Network) (ns : List Network) → 1 ≤ length ns →
    IsToldOf T ss ((get_or ns 0 d).number ∷ numbers (take (length ns - 1) (drop 1 ns))) → IsToldOf T ss (numbers ns)
first_of T ss d [] some told = absurd (omega (arith, some))
first_of T ss d (n ∷ ns) some told = subst (λ (ms : List Network). IsToldOf T ss (n.number ∷ numbers ms)) (rest_is n ns) told
