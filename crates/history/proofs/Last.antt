-- Lemmas on the last issue of a client under an invoke ID.
use Rattle.std.proofs.Common.{◌≡◌, ℕ, zero, suc, ◌+◌, ◌<◌, Bool, true, false, List, [], ◌∷◌, ◌++◌, length, Some, None, refl, sym, ap, ◌∙◌, subst, ⊎_elim, arith}
use Rattle.std.specs.Prelude.{slice_get}
use Rattle.std.proofs.lemmas.Bool.{eqb-true, eq-eqb, and_parts, and_from, false_from_ne_true}
use Rattle.std.proofs.lemmas.Option.{slice_get_within}
use Rattle.history.specs.Tests.{IsTest}
use Rattle.history.specs.Book.{Issued, is_under, last_from, last_issue}
use Rattle.history.proofs.Lists.{get_split, get_last}

pub same_of : {S : Type 0} {same : S → S → Bool} (t : IsTest same) (a b : S) → a ≡ b → same a b ≡ true
same_of {S} {same} t a b e = subst (λ z. same a z ≡ true) e (t.itself a)

pub not_same : {S : Type 0} {same : S → S → Bool} (t : IsTest same) (a b : S) → (a ≡ b → ⊥) → same a b ≡ false
not_same {S} {same} t a b h = false_from_ne_true _ (λ e. h (t.exact a b e))

pub apart_of : {S : Type 0} {same : S → S → Bool} (t : IsTest same) (a b : S) → same a b ≡ false → a ≡ b → ⊥
apart_of {S} {same} t a b f e = let g = same_of t a b e in (cc)

pub key_parts : {S Q : Type 0} {same : S → S → Bool} (t : IsTest same) (c : S) (id : ℕ) (x : Issued S Q) → is_under same c id x ≡ true → (x.client ≡ c) ×
    (x.invoke_id ≡ id)
key_parts {S} {Q} {same} t c id x h =
    let p = and_parts _ _ h in
    (t.exact x.client c p.0, eqb-true x.invoke_id id p.1)

pub key_from : {S Q : Type 0} {same : S → S → Bool} (t : IsTest same) (c : S) (id : ℕ) (x : Issued S Q) → x.client ≡ c → x.invoke_id ≡ id →
    is_under same c id x ≡ true
key_from {S} {Q} {same} t c id x h g = and_from _ _ (same_of t x.client c h) (eq-eqb x.invoke_id id g)

pub key_not : {S Q : Type 0} {same : S → S → Bool} (t : IsTest same) (c : S) (id : ℕ) (x : Issued S Q) → (x.client ≡ c → x.invoke_id ≡ id → ⊥) →
    is_under same c id x ≡ false
key_not {S} {Q} {same} t c id x h = false_from_ne_true _ (λ u. let p = key_parts t c id x u in h p.0 p.1)

none_from : {S Q : Type 0} {same : S → S → Bool} (t : IsTest same) (n : ℕ) (c : S) (id : ℕ) (xs : List (Issued S Q)) →
    ((j : ℕ) (y : Issued S Q) → slice_get xs j ≡ Some y → is_under same c id y ≡ false) → last_from same n c id xs ≡ None
none_from {S} {Q} {same} t n c id [] h = refl
none_from {S} {Q} {same} t n c id (x ∷ xs) h =
    let rest = none_from t (suc n) c id xs (λ j y e. h (suc j) y e) in
    let here : is_under same c id x ≡ false = h 0 x refl in
    rw (rest, here)

last_from_is : {S Q : Type 0} {same : S → S → Bool} (t : IsTest same) (n : ℕ) (c : S) (id : ℕ) (xs : List (Issued S Q)) (i : ℕ) (x : Issued S Q) →
    slice_get xs i ≡ Some x → is_under same c id x ≡ true → ((j : ℕ) (y : Issued S Q) → i < j → slice_get xs j ≡ Some y → is_under same c id y ≡ false) →
    last_from same n c id xs ≡ Some (n + i)
last_from_is {S} {Q} {same} t n c id [] i x e k h = absurd (cc)
last_from_is {S} {Q} {same} t n c id (y ∷ ys) zero x e k h =
    let rest = none_from t (suc n) c id ys (λ j z g. h (suc j) z (omega arith) g) in
    let one : y ≡ x = cc in
    let here : is_under same c id y ≡ true = subst (λ z. is_under same c id z ≡ true) (sym one) k in
    let sum : n + 0 ≡ n = omega arith in
    rw (rest, here, sum)
last_from_is {S} {Q} {same} t n c id (y ∷ ys) (suc i) x e k h =
    let rest = last_from_is t (suc n) c id ys i x e k (λ j z l g. h (suc j) z (omega arith) g) in
    let sum : suc n + i ≡ n + suc i = omega arith in
    rw (rest, sum)

-- the issue is the last under its client and invoke ID if none after it has both
pub last_is : {S Q : Type 0} {same : S → S → Bool} (t : IsTest same) (c : S) (id : ℕ) (xs : List (Issued S Q)) (i : ℕ) (x : Issued S Q) →
    slice_get xs i ≡ Some x → x.client ≡ c → x.invoke_id ≡ id →
    ((j : ℕ) (y : Issued S Q) → i < j → slice_get xs j ≡ Some y → y.client ≡ c → y.invoke_id ≡ id → ⊥) → last_issue same c id xs ≡ Some i
last_is {S} {Q} {same} t c id xs i x e k l h =
    let found = last_from_is t 0 c id xs i x e (key_from t c id x k l) (λ j y after g. key_not t c id y (λ a b. h j y after g a b)) in
    let sum : 0 + i ≡ i = omega arith in
    found ∙ ap (λ n. Some n) sum

pub last_is_new : {S Q : Type 0} {same : S → S → Bool} (t : IsTest same) (c : S) (id : ℕ) (xs : List (Issued S Q)) (x : Issued S Q) → x.client ≡ c →
    x.invoke_id ≡ id → last_issue same c id (xs ++ x ∷ []) ≡ Some (length xs)
last_is_new {S} {Q} {same} t c id xs x k l =
    last_is t c id (xs ++ x ∷ []) (length xs) x (get_last xs x) k l
    (λ j y after g _ _. ⊎_elim (λ e. let within = slice_get_within xs j y e in omega arith) (λ (e : (j ≡ length xs) × (x ≡ y)). omega (arith, e.0))
    (get_split xs x j y g))

last_from_other : {S Q : Type 0} {same : S → S → Bool} (t : IsTest same) (n : ℕ) (c : S) (id : ℕ) (xs : List (Issued S Q)) (x : Issued S Q) →
    is_under same c id x ≡ false → last_from same n c id (xs ++ x ∷ []) ≡ last_from same n c id xs
last_from_other {S} {Q} {same} t n c id [] x h = rw h
last_from_other {S} {Q} {same} t n c id (y ∷ ys) x h = rw (last_from_other t (suc n) c id ys x h)

pub last_is_other : {S Q : Type 0} {same : S → S → Bool} (t : IsTest same) (c : S) (id : ℕ) (xs : List (Issued S Q)) (x : Issued S Q) →
    (x.client ≡ c → x.invoke_id ≡ id → ⊥) → last_issue same c id (xs ++ x ∷ []) ≡ last_issue same c id xs
last_is_other {S} {Q} {same} t c id xs x h = last_from_other t 0 c id xs x (key_not t c id x h)
