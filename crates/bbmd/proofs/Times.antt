-- How often an address stands in a list, and sums over lists.
use Rattle.std.proofs.Common.{◌≡◌, ◌≤◌, ℕ, ◌+◌, true, false, Bool, List, [], ◌∷◌, ◌++◌, sym, ap, refl, ◌∙◌, ◌||◌, ◌&&◌, not, cond, arith, ◌==◌}
use Rattle.std.specs.Prelude.{filter, flat_map, nat_eq}
use Rattle.std.specs.List.{AllByRecursion}
use Rattle.std.specs.Cmp.Lexicographic.{pointwise, same_text}
use Rattle.bvll.specs.declared.address.Address.{Address}
use Rattle.bbmd_tables.specs.Tables.{is_among, same_address, others}
use Rattle.bbmd.specs.Reach.{times}

and_true : (p q : Bool) → (p && q) ≡ true → (p ≡ true) × (q ≡ true)
and_true true q e = (refl, e)
and_true false q e = absurd (cc e)

number_is : (m n : ℕ) → (m == n) ≡ true → m ≡ n
number_is m n e = grind (arith)

-- addresses that are one are equal
pub same_is : (x a : Address) → same_address x a ≡ true → x ≡ a
same_is x a e =
    let p = and_true (pointwise nat_eq x.ip a.ip) (x.port == a.port) e in
    let ip = same_text x.ip a.ip (sym (p.0)) in
    let port = number_is x.port a.port (p.1) in
    ap (λ (i : List ℕ). record { ip = i; port = x.port }) ip ∙ ap (λ (n : ℕ). record { ip = a.ip; port = n }) port

same_octets : (xs : List ℕ) → pointwise nat_eq xs xs ≡ true
same_octets [] = refl
same_octets (x ∷ xs) = grind (arith, same_octets xs)

both_true : (p q : Bool) → p ≡ true → q ≡ true → (p && q) ≡ true
both_true p q e f = cc

number_itself : (n : ℕ) → (n == n) ≡ true
number_itself n = grind (arith)

pub itself_is : (a : Address) → same_address a a ≡ true
itself_is a = both_true (pointwise nat_eq a.ip a.ip) (a.port == a.port) (same_octets a.ip) (number_itself a.port)

pub times-append : (a : Address) (xs ys : List Address) → times a (xs ++ ys) ≡ times a xs + times a ys
times-append a [] ys = omega arith
times-append a (x ∷ xs) ys = omega (arith, times-append a xs ys)

first_among : (b : Bool) (n : ℕ) (p : Bool) → (p ≡ true → 1 ≤ n) → (b || p) ≡ true → 1 ≤ cond b 1 0 + n
first_among true n p h f = omega arith
first_among false n p h f = omega (arith, h f)

-- who is among addresses stands there
pub among_times : (a : Address) (xs : List Address) → is_among a xs ≡ true → 1 ≤ times a xs
among_times a [] e = absurd (cc e)
among_times a (x ∷ xs) e = first_among (same_address x a) (times a xs) (is_among a xs) (among_times a xs) e

first_stands : (b : Bool) (n : ℕ) (p : Bool) → (1 ≤ n → p ≡ true) → 1 ≤ cond b 1 0 + n → (b || p) ≡ true
first_stands true n p h f = refl
first_stands false n p h f = h (omega (arith, f))

-- who stands there is among them
pub times_among : (a : Address) (xs : List Address) → 1 ≤ times a xs → is_among a xs ≡ true
times_among a [] e = absurd (omega (arith, e))
times_among a (x ∷ xs) e = first_stands (same_address x a) (times a xs) (is_among a xs) (times_among a xs) e

first_not : (b : Bool) (n : ℕ) (p : Bool) → (p ≡ false → n ≡ 0) → (b || p) ≡ false → cond b 1 0 + n ≡ 0
first_not true n p h f = absurd (cc f)
first_not false n p h f = omega (arith, h f)

-- who is not among them doesn't stand there
pub not_among_times : (a : Address) (xs : List Address) → is_among a xs ≡ false → times a xs ≡ 0
not_among_times a [] e = refl
not_among_times a (x ∷ xs) e = first_not (same_address x a) (times a xs) (is_among a xs) (not_among_times a xs) e

-- and who doesn't stand there is not among them
pub no_times_among : (a : Address) (xs : List Address) → times a xs ≡ 0 → is_among a xs ≡ false
no_times_among a xs e = by (is_among a xs) refl where
  by : (b : Bool) → is_among a xs ≡ b → is_among a xs ≡ false
  by true f = absurd (omega (arith, e, among_times a xs f))
  by false f = f

pub first_counts : (x a : Address) (b : Bool) (m n : ℕ) → same_address x a ≡ b → m ≡ n →
    cond (same_address x a) 1 0 + m ≡ cond b 1 0 + n
first_counts x a b m n e f = ap (λ (c : Bool). cond c 1 0 + m) e ∙ ap (λ (k : ℕ). cond b 1 0 + k) f

filter_step : (a x : Address) (rest : List Address) (n : ℕ) (b c d : Bool) → same_address x a ≡ b →
    (b ≡ true → c ≡ d) → times a rest ≡ cond d n 0 →
    times a (cond c (x ∷ rest) rest) ≡ cond d (cond b 1 0 + n) 0
filter_step a x rest n true true true e g h = first_counts x a true (times a rest) n e h
filter_step a x rest n true true false e g h = absurd (cc (g refl))
filter_step a x rest n true false true e g h = absurd (cc (g refl))
filter_step a x rest n true false false e g h = h
filter_step a x rest n false true true e g h = first_counts x a false (times a rest) n e h
filter_step a x rest n false true false e g h = first_counts x a false (times a rest) 0 e h
filter_step a x rest n false false true e g h = omega (arith, h)
filter_step a x rest n false false false e g h = h

nothing_in : (b : Bool) → ◌≡◌ {A = ℕ} 0 (cond b 0 0)
nothing_in true = refl
nothing_in false = refl

-- how often it stands among those that pass a test
pub times-filter : (t : Address → Bool) (a : Address) (xs : List Address) →
    times a (filter t xs) ≡ cond (t a) (times a xs) 0
times-filter t a [] = nothing_in (t a)
times-filter t a (x ∷ xs) =
    filter_step a x (filter t xs) (times a xs) (same_address x a) (t x) (t a) refl (λ e. ap t (same_is x a e))
    (times-filter t a xs)

-- a sum over a list
abbrev pub total : {X : Type 0} → (X → ℕ) → List X → ℕ
total f [] = 0
total f (x ∷ xs) = f x + total f xs

pub total-append : {X : Type 0} (f : X → ℕ) (xs ys : List X) → total f (xs ++ ys) ≡ total f xs + total f ys
total-append f [] ys = omega arith
total-append f (x ∷ xs) ys = omega (arith, total-append f xs ys)

pub times-flat_map : {X : Type 0} (a : Address) (f : X → List Address) (xs : List X) →
    times a (flat_map f xs) ≡ total (λ x. times a (f x)) xs
times-flat_map a f [] = refl
times-flat_map a f (x ∷ xs) = times-append a (f x) (flat_map f xs) ∙ ap (λ (n : ℕ). times a (f x) + n) (times-flat_map a f xs)

pub total-zero : {X : Type 0} (xs : List X) → total (λ (x : X). 0) xs ≡ 0
total-zero [] = refl
total-zero (x ∷ xs) = omega (arith, total-zero xs)

pub total-more : {X : Type 0} (f g h : X → ℕ) (same : (x : X) → h x ≡ f x + g x) (xs : List X) →
    total h xs ≡ total f xs + total g xs
total-more f g h same [] = refl
total-more f g h same (x ∷ xs) = omega (arith, same x, total-more f g h same xs)

-- how often it stands among the others
pub times-others : (b a : Address) (xs : List Address) →
    times a (others b xs) ≡ cond (not (same_address a b)) (times a xs) 0
times-others b a xs = times-filter (λ x. not (same_address x b)) a xs

pub all_split : {X : Type 0} (P : X → Type 0) (xs : List X) (y : X) (ys : List X) →
    AllByRecursion P (xs ++ y ∷ ys) → AllByRecursion P xs × P y × AllByRecursion P ys
all_split P [] y ys all = (tt, all.0, all.1)
all_split P (x ∷ xs) y ys all =
    let rest = all_split P xs y ys (all.1) in ((all.0, rest.0), rest.1, rest.2)

pub is_false : (b : Bool) → (b ≡ true → ⊥) → b ≡ false
is_false true h = absurd (h refl)
is_false false h = refl

-- an address stands once by itself
pub times_itself : (a : Address) → times a (a ∷ []) ≡ 1
times_itself a = first_counts a a true 0 0 (itself_is a) refl
