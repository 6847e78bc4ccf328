-- Lemmas on what stands in a list, by place and by count.
use Rattle.std.proofs.Common.{◌≡◌, ◌⊎◌, ℕ, zero, suc, ◌+◌, ◌<◌, ◌≤◌, Bool, true, false, cond, List, [], ◌∷◌, ◌++◌, length, take, Some, None, refl, sym, ap, ◌∙◌}
use Rattle.std.proofs.Common.{subst, inl, inr, ⊎_elim, arith}
use Rattle.std.specs.Prelude.{Option, slice_get, filter, ◌==◌}
use Rattle.std.proofs.lemmas.List.{take-append-le}
use Rattle.std.proofs.lemmas.Bool.{false_from_ne_true, eqb-true, eqb-false}
use Rattle.std.proofs.lemmas.Option.{slice_get_within}
use Rattle.history.specs.Lists.{Has, count, first_of, last_of_those}

abbrev pub has : {X : Type 0} {xs : List X} {x : X} (k : ℕ) → slice_get xs k ≡ Some x → Has xs x
has k e = record { place = k; at_place = e }

pub none_has : {X : Type 0} {x : X} → Has [] x → ⊥
none_has h = let e = h.at_place in (cc)

pub get_front : {X : Type 0} (xs ys : List X) (k : ℕ) (p : X) → slice_get xs k ≡ Some p → slice_get (xs ++ ys) k ≡ Some p
get_front [] ys k p e = absurd (cc)
get_front (x ∷ xs) ys zero p e = e
get_front (x ∷ xs) ys (suc k) p e = get_front xs ys k p e

pub get_same : {X : Type 0} (xs ys : List X) (k : ℕ) → k < length xs → slice_get (xs ++ ys) k ≡ slice_get xs k
get_same [] ys k l = absurd (omega arith)
get_same (x ∷ xs) ys zero l = refl
get_same (x ∷ xs) ys (suc k) l = get_same xs ys k (omega arith)

pub get_last : {X : Type 0} (xs : List X) (y : X) → slice_get (xs ++ y ∷ []) (length xs) ≡ Some y
get_last [] y = refl
get_last (x ∷ xs) y = get_last xs y

-- what stands in a list with one more stood there, or is the new one
pub get_split : {X : Type 0} (xs : List X) (y : X) (k : ℕ) (p : X) → slice_get (xs ++ y ∷ []) k ≡ Some p → (slice_get xs k ≡ Some p) ⊎
    ((k ≡ length xs) × (y ≡ p))
get_split [] y zero p e = inr (refl, (cc))
get_split [] y (suc k) p e = absurd (cc)
get_split (x ∷ xs) y zero p e = inl e
get_split (x ∷ xs) y (suc k) p e = ⊎_elim (λ h. inl h) (λ (h : (k ≡ length xs) × (y ≡ p)). inr (ap suc h.0, h.1)) (get_split xs y k p e)

abbrev pub has_front : {X : Type 0} (xs ys : List X) {p : X} → Has xs p → Has (xs ++ ys) p
has_front xs ys h = has h.place (get_front xs ys h.place _ h.at_place)

pub has_last : {X : Type 0} (xs : List X) (y : X) → Has (xs ++ y ∷ []) y
has_last xs y = has (length xs) (get_last xs y)

pub has_split : {X : Type 0} (xs : List X) (y : X) {p : X} → Has (xs ++ y ∷ []) p → Has xs p ⊎ (y ≡ p)
has_split xs y {p} h = ⊎_elim (λ e. inl (has h.place e)) (λ (e : (h.place ≡ length xs) × (y ≡ p)). inr e.1) (get_split xs y h.place p h.at_place)

pub has_next : {X : Type 0} (x : X) (xs : List X) {y : X} → Has xs y → Has (x ∷ xs) y
has_next x xs h = has (suc h.place) h.at_place

has_cons_at : {X : Type 0} (x : X) (xs : List X) (y : X) (k : ℕ) → slice_get (x ∷ xs) k ≡ Some y → (x ≡ y) ⊎ Has xs y
has_cons_at x xs y zero e = inl (cc)
has_cons_at x xs y (suc k) e = inr (has k e)

-- what stands in a list is its first or stands behind it
pub has_cons : {X : Type 0} (x : X) (xs : List X) {y : X} → Has (x ∷ xs) y → (x ≡ y) ⊎ Has xs y
has_cons x xs {y} h = has_cons_at x xs y h.place h.at_place

-- what stands in the middle
pub has_middle : {X : Type 0} (front : List X) (x : X) (rest : List X) → Has (front ++ x ∷ rest) x
has_middle [] x rest = has 0 refl
has_middle (y ∷ front) x rest = has_next y (front ++ x ∷ rest) (has_middle front x rest)

pub take_front : {X : Type 0} (xs ys : List X) (k : ℕ) → k ≤ length xs → take k (xs ++ ys) ≡ take k xs
take_front xs ys k h = take-append-le k xs ys h

pub count-append : {X : Type 0} (p : X → Bool) (xs ys : List X) → count p (xs ++ ys) ≡ count p xs + count p ys
count-append p [] ys = omega arith
count-append p (x ∷ xs) ys = omega (arith, count-append p xs ys)

-- one more that passes the test at most once, and one more that doesn't
pub count_one : {X : Type 0} (f : X → Bool) (h : List X) (e : X) → (f e ≡ true → count f h ≡ 0) → count f h ≤ 1 → count f (h ++ e ∷ []) ≤ 1
count_one f h e first at_most = by_test (f e) refl
  where
    sum : count f (h ++ e ∷ []) ≡ count f h + (cond (f e) 1 0 + 0)
    sum = count-append f h (e ∷ [])

    by_test : (b : Bool) → f e ≡ b → count f (h ++ e ∷ []) ≤ 1
    by_test true t = let none = first t in let was = rw t at sum in omega arith
    by_test false t = let was = rw t at sum in omega arith

pub count_other : {X : Type 0} (f : X → Bool) (h : List X) (e : X) → f e ≡ false → count f (h ++ e ∷ []) ≡ count f h
count_other f h e t =
    let sum : count f (h ++ e ∷ []) ≡ count f h + (cond (f e) 1 0 + 0) = count-append f h (e ∷ []) in
    let was = rw t at sum in
    omega arith

-- what is counted stands there
has_counted_by : {X : Type 0} (p : X → Bool) (x : X) (xs : List X) → (0 < count p xs → (y : X) × Has xs y × (p y ≡ true)) → (b : Bool) → p x ≡ b →
    0 < cond b 1 0 + count p xs → (y : X) × Has (x ∷ xs) y × (p y ≡ true)
has_counted_by p x xs ih true e h = (x, has 0 refl, e)
has_counted_by p x xs ih false e h =
    let found = ih (omega arith) in
    (found.0, has_next x xs found.1, found.2)

pub has_counted : {X : Type 0} (p : X → Bool) (xs : List X) → 0 < count p xs → (x : X) × Has xs x × (p x ≡ true)
has_counted p [] h = absurd (omega arith)
has_counted p (x ∷ xs) h = has_counted_by p x xs (has_counted p xs) (p x) refl h

-- .. and what stands there is counted
pub one_counted : {X : Type 0} (f : X → Bool) (xs : List X) (k : ℕ) (y : X) → slice_get xs k ≡ Some y → f y ≡ true → 1 ≤ count f xs
one_counted f [] k y b u = absurd (cc)
one_counted f (z ∷ xs) zero y b u = let same : z ≡ y = cc in let now : f z ≡ true = subst (λ w. f w ≡ true) (sym same) u in rw now (omega arith)
one_counted f (z ∷ xs) (suc k) y b u = let rest = one_counted f xs k y b u in omega arith

pub two_counted : {X : Type 0} (f : X → Bool) (xs : List X) (j k : ℕ) (x y : X) → j < k → slice_get xs j ≡ Some x → slice_get xs k ≡ Some y → f x ≡ true →
    f y ≡ true → 2 ≤ count f xs
two_counted f [] j k x y l a b t u = absurd (cc)
two_counted f (z ∷ xs) j zero x y l a b t u = absurd (omega arith)
two_counted f (z ∷ xs) zero (suc k) x y l a b t u =
    let same : z ≡ x = cc in
    let now : f z ≡ true = subst (λ w. f w ≡ true) (sym same) t in
    let rest = one_counted f xs k y b u in
    rw now (omega arith)
two_counted f (z ∷ xs) (suc j) (suc k) x y l a b t u = let rest = two_counted f xs j k x y (omega arith) a b t u in omega arith

-- the last one that passes a test
last_has_here : {X : Type 0} (p : X → Bool) (x : X) (rs : List X) (r : X) (b : Bool) → p x ≡ b → cond b (Some x) None ≡ Some r → Has (x ∷ rs) r × (p r ≡ true)
last_has_here {X} p x rs r true t e = let same : x ≡ r = cc in (has 0 e, subst (λ (y : X). p y ≡ true) same t)
last_has_here p x rs r false t e = absurd (cc)

last_has_by : {X : Type 0} (p : X → Bool) (x : X) (rs : List X) (r : X) → (last_of_those p rs ≡ Some r → Has rs r × (p r ≡ true)) → (o : Option X) →
    last_of_those p rs ≡ o → first_of o (cond (p x) (Some x) None) ≡ Some r → Has (x ∷ rs) r × (p r ≡ true)
last_has_by p x rs r ih (Some y) q e = let found = ih (q ∙ e) in (has_next x rs found.0, found.1)
last_has_by p x rs r ih None q e = last_has_here p x rs r (p x) refl e

-- .. stands there and passes it
pub last_has : {X : Type 0} (p : X → Bool) (rs : List X) (r : X) → last_of_those p rs ≡ Some r → Has rs r × (p r ≡ true)
last_has p [] r e = absurd (cc)
last_has p (x ∷ rs) r e = last_has_by p x rs r (last_has p rs r) (last_of_those p rs) refl e

last_none_by : {X : Type 0} (p : X → Bool) (x : X) (rs : List X) (r : X) → p r ≡ true → ((j : ℕ) → last_of_those p rs ≡ None → slice_get rs j ≡ Some r → ⊥) →
    (o : Option X) → last_of_those p rs ≡ o → (b : Bool) → p x ≡ b → first_of o (cond b (Some x) None) ≡ None → (j : ℕ) → slice_get (x ∷ rs) j ≡ Some r → ⊥
last_none_by p x rs r t ih (Some y) q b u z j g = (cc)
last_none_by p x rs r t ih None q true u z j g = (cc)
last_none_by {X} p x rs r t ih None q false u z zero g = let same : x ≡ r = cc in let now : p x ≡ true = subst (λ (y : X). p y ≡ true) (sym same) t in (cc)
last_none_by p x rs r t ih None q false u z (suc j) g = ih j q g

last_none_at : {X : Type 0} (p : X → Bool) (rs : List X) (r : X) → p r ≡ true → (k : ℕ) → last_of_those p rs ≡ None → slice_get rs k ≡ Some r → ⊥
last_none_at p [] r t k e h = (cc)
last_none_at p (x ∷ rs) r t k e h = last_none_by p x rs r t (λ j q g. last_none_at p rs r t j q g) (last_of_those p rs) refl (p x) refl e k h

-- where there is no last one, none passes
pub last_none : {X : Type 0} (p : X → Bool) (rs : List X) (r : X) → last_of_those p rs ≡ None → Has rs r → p r ≡ true → ⊥
last_none p rs r e h t = last_none_at p rs r t h.place e h.at_place

-- leaving out some that don't pass changes nothing of the last one
pub last_filtered : {X : Type 0} (f g : X → Bool) (xs : List X) → ((x : X) → f x ≡ true → g x ≡ true) → last_of_those f (filter g xs) ≡ last_of_those f xs
last_filtered f g [] h = refl
last_filtered {X} f g (x ∷ xs) h = by_test (last_filtered f g xs h) (g x) refl
  where
    by_test : last_of_those f (filter g xs) ≡ last_of_those f xs → (b : Bool) → g x ≡ b →
        last_of_those f (cond b (x ∷ filter g xs) (filter g xs)) ≡ first_of (last_of_those f xs) (cond (f x) (Some x) None)
    by_test ih true t = ap (λ o. first_of o (cond (f x) (Some x) None)) ih
    by_test ih false t = ih ∙ sym (ap (λ b. first_of (last_of_those f xs) (cond b (Some x) None)) (false_from_ne_true _ (λ u. let v = h x u in (cc)))
        ∙ none_later (last_of_those f xs))
      where
        none_later : (o : Option X) → first_of o None ≡ o
        none_later None = refl
        none_later (Some y) = refl

-- one that passes, put behind all, is the last one
pub last_added : {X : Type 0} (f : X → Bool) (xs : List X) (y : X) → f y ≡ true → last_of_those f (xs ++ y ∷ []) ≡ Some y
last_added f [] y t = ap (λ b. cond b (Some y) None) t
last_added f (x ∷ xs) y t = ap (λ o. first_of o (cond (f x) (Some x) None)) (last_added f xs y t)

-- what is left of a list stood there and passes the test ..
filter_has_by : {X : Type 0} (p : X → Bool) (x : X) (xs : List X) (y : X) → ((j : ℕ) → slice_get (filter p xs) j ≡ Some y → Has xs y × (p y ≡ true)) →
    (b : Bool) → p x ≡ b → (k : ℕ) → slice_get (cond b (x ∷ filter p xs) (filter p xs)) k ≡ Some y → Has (x ∷ xs) y × (p y ≡ true)
filter_has_by p x xs y ih true t zero e = let same : x ≡ y = cc in (has 0 e, subst (λ z. p z ≡ true) same t)
filter_has_by p x xs y ih true t (suc k) e = let found = ih k e in (has_next x xs found.0, found.1)
filter_has_by p x xs y ih false t k e = let found = ih k e in (has_next x xs found.0, found.1)

filter_has_at : {X : Type 0} (p : X → Bool) (xs : List X) (y : X) (k : ℕ) → slice_get (filter p xs) k ≡ Some y → Has xs y × (p y ≡ true)
filter_has_at p [] y k e = absurd (cc)
filter_has_at p (x ∷ xs) y k e = filter_has_by p x xs y (λ j g. filter_has_at p xs y j g) (p x) refl k e

pub filter_has : {X : Type 0} (p : X → Bool) (xs : List X) (x : X) → Has (filter p xs) x → Has xs x × (p x ≡ true)
filter_has p xs x h = filter_has_at p xs x h.place h.at_place

-- .. and what passes is left
has_filter_by : {X : Type 0} (p : X → Bool) (x : X) (xs : List X) (y : X) → p y ≡ true → ((j : ℕ) → slice_get xs j ≡ Some y → Has (filter p xs) y) →
    (b : Bool) → p x ≡ b → (k : ℕ) → slice_get (x ∷ xs) k ≡ Some y → Has (cond b (x ∷ filter p xs) (filter p xs)) y
has_filter_by p x xs y t ih true q zero e = has 0 e
has_filter_by p x xs y t ih true q (suc k) e = has_next x (filter p xs) (ih k e)
has_filter_by p x xs y t ih false q zero e = let same : x ≡ y = cc in let no : p y ≡ false = subst (λ z. p z ≡ false) same q in absurd (cc)
has_filter_by p x xs y t ih false q (suc k) e = ih k e

has_filter_at : {X : Type 0} (p : X → Bool) (xs : List X) (y : X) → p y ≡ true → (k : ℕ) → slice_get xs k ≡ Some y → Has (filter p xs) y
has_filter_at p [] y t k e = absurd (cc)
has_filter_at p (x ∷ xs) y t k e = has_filter_by p x xs y t (λ j g. has_filter_at p xs y t j g) (p x) refl k e

pub has_filter : {X : Type 0} (p : X → Bool) (xs : List X) (x : X) → Has xs x → p x ≡ true → Has (filter p xs) x
has_filter p xs x h t = has_filter_at p xs x t h.place h.at_place

-- what stands in two lists, one behind the other, stands in one of them
pub has_either : {X : Type 0} (xs ys : List X) {p : X} → Has (xs ++ ys) p → Has xs p ⊎ Has ys p
has_either [] ys h = inr h
has_either {X} (x ∷ xs) ys {p} h = ⊎_elim
    (λ (e : x ≡ p). inl (has 0 (ap (λ z. Some z) e)))
    (λ (k : Has (xs ++ ys) p). ⊎_elim (λ (a : Has xs p). inl (has_next x xs a)) (λ (b : Has ys p). inr b) (has_either xs ys k))
    (has_cons x (xs ++ ys) h)

pub has_back : {X : Type 0} (xs ys : List X) {p : X} → Has ys p → Has (xs ++ ys) p
has_back [] ys h = h
has_back (x ∷ xs) ys h = has_next x (xs ++ ys) (has_back xs ys h)

-- a place within the list holds something
pub get_within : {X : Type 0} (xs : List X) (k : ℕ) → k < length xs → (x : X) × (slice_get xs k ≡ Some x)
get_within [] k l = absurd (omega arith)
get_within (x ∷ xs) zero l = (x, refl)
get_within (x ∷ xs) (suc k) l = get_within xs k (omega arith)

-- what stands at a place of a list with one more
get_added_by : {X : Type 0} (xs : List X) (y : X) (k : ℕ) → (t : Bool) → (length xs == k) ≡ t → (o : Option X) → slice_get xs k ≡ o →
    slice_get (xs ++ y ∷ []) k ≡ first_of o (cond t (Some y) None)
get_added_by xs y k true t (Some x) e = let l = slice_get_within xs k x e in let n = eqb-true _ _ t in absurd (omega arith)
get_added_by xs y k true t None e = let n = eqb-true _ _ t in ap (slice_get (xs ++ y ∷ [])) (sym n) ∙ get_last xs y
get_added_by xs y k false t (Some x) e = get_front xs (y ∷ []) k x e
get_added_by {X} xs y k false t None e = none_at (slice_get (xs ++ y ∷ []) k) refl
  where
    none_at : (o : Option X) → slice_get (xs ++ y ∷ []) k ≡ o → slice_get (xs ++ y ∷ []) k ≡ None
    none_at None f = f
    none_at (Some z) f = ⊎_elim
        (λ (was : slice_get xs k ≡ Some z). absurd (cc))
        (λ (new : (k ≡ length xs) × (y ≡ z)). let apart = eqb-false _ _ t in absurd (apart (sym new.0)))
        (get_split xs y k z f)

pub get_added : {X : Type 0} (xs : List X) (y : X) (k : ℕ) → slice_get (xs ++ y ∷ []) k ≡ first_of (slice_get xs k) (cond (length xs == k) (Some y) None)
get_added xs y k = get_added_by xs y k (length xs == k) refl (slice_get xs k) refl
