-- Sums over the subnets of a network, each of which is there once.
use Rattle.std.proofs.Common.{◌≡◌, ◌∙◌, ◌≤◌, ◌+◌, ◌==◌, ◌||◌, refl, sym, ap, subst, arith, inl, inr, ℕ, Bool, true, false, cond, not, List, [], ◌∷◌, ◌++◌, true≢false}
use Rattle.std.specs.Prelude.{filter, if◌then◌else◌, ◌&&◌}
use Rattle.std.specs.List.{AllByRecursion, flat_map, list_any}
use Rattle.bbmd.proofs.Times.{total, total-more, total-zero, times-append}
use Rattle.bbmd.specs.Reach.{times}
use Rattle.bvll.specs.declared.address.Address.{Address}
use Rattle.site_tree.proofs.TreeLaws.{or_cases, or_left, or_right}
use Rattle.site_views.specs.Laws.{distinct}

-- how often a number stands in a list
abbrev pub occurs : ℕ → List ℕ → ℕ
occurs j [] = 0
occurs j (k ∷ ks) = cond (j == k) 1 0 + occurs j ks

-- a number stands in a list
abbrev pub is_in : ℕ → List ℕ → Bool
is_in j ks = list_any (λ k. j == k) ks

number_is : (m n : ℕ) → (m == n) ≡ true → m ≡ n
number_is m n e = grind (arith)

number_itself : (n : ℕ) → (n == n) ≡ true
number_itself n = grind (arith)

filt_step : (j y : ℕ) (r : List ℕ) (o : ℕ) (c d f : Bool) → (j == y) ≡ d → (d ≡ true → c ≡ f) → occurs j r ≡ cond f 0 o →
    occurs j (cond (not c) (y ∷ r) r) ≡ cond f 0 (cond d 1 0 + o)
filt_step j y r o true true true q g e = e
filt_step j y r o true true false q g e = absurd (cc (g refl))
filt_step j y r o true false true q g e = e
filt_step j y r o true false false q g e = omega (arith, e)
filt_step j y r o false true true q g e = absurd (cc (g refl))
filt_step j y r o false true false q g e = ap (λ (b : Bool). cond b 1 0 + occurs j r) q ∙ ap (λ (n : ℕ). 1 + n) e
filt_step j y r o false false true q g e = ap (λ (b : Bool). cond b 1 0 + occurs j r) q ∙ ap (λ (n : ℕ). 0 + n) e
filt_step j y r o false false false q g e = ap (λ (b : Bool). cond b 1 0 + occurs j r) q ∙ ap (λ (n : ℕ). 0 + n) e

same_test : (j y x : ℕ) → (j == y) ≡ true → (y == x) ≡ (j == x)
same_test j y x e = ap (λ (n : ℕ). n == x) (sym (number_is j y e))

filter_occurs : (j x : ℕ) (ys : List ℕ) → occurs j (filter (λ y. not (y == x)) ys) ≡ cond (j == x) 0 (occurs j ys)
filter_occurs j x [] = by (j == x) where
  by : (b : Bool) → ◌≡◌ {A = ℕ} 0 (cond b 0 0)
  by true = refl
  by false = refl
filter_occurs j x (y ∷ ys) = filt_step j y (filter (λ z. not (z == x)) ys) (occurs j ys) (y == x) (j == y) (j == x) refl (same_test j y x) (filter_occurs j x ys)

distinct_step : (b c : Bool) (o p : ℕ) → o ≡ cond c 1 0 → p ≡ cond b 0 o → cond b 1 0 + p ≡ cond (b || c) 1 0
distinct_step true c o p e f = omega (arith, f)
distinct_step false true o p e f = omega (arith, e, f)
distinct_step false false o p e f = omega (arith, e, f)

-- each number stands once among the distinct ones, and no other does
pub distinct_occurs : (j : ℕ) (xs : List ℕ) → occurs j (distinct xs) ≡ cond (is_in j xs) 1 0
distinct_occurs j [] = refl
distinct_occurs j (x ∷ xs) = distinct_step (j == x) (is_in j xs) (occurs j (distinct xs)) (occurs j (filter (λ y. not (y == x)) (distinct xs)))
    (distinct_occurs j xs) (filter_occurs j x (distinct xs))

once : (b : Bool) → cond b 1 0 ≤ 1
once true = omega arith
once false = omega arith

pub distinct_once : (j : ℕ) (xs : List ℕ) → occurs j (distinct xs) ≤ 1
distinct_once j xs = omega (arith, once (is_in j xs), distinct_occurs j xs)

pub distinct_one : (j : ℕ) (xs : List ℕ) → is_in j xs ≡ true → occurs j (distinct xs) ≡ 1
distinct_one j xs e = distinct_occurs j xs ∙ ap (λ (b : Bool). cond b 1 0) e

in_occurs : (j : ℕ) (ks : List ℕ) → is_in j ks ≡ true → 1 ≤ occurs j ks
in_occurs j [] e = absurd (true≢false (sym e))
in_occurs j (k ∷ ks) e = by (j == k) refl (λ f. in_occurs j ks (ap (λ (b : Bool). b || is_in j ks) (sym f) ∙ e)) where
  by : (b : Bool) → (j == k) ≡ b → ((j == k) ≡ false → 1 ≤ occurs j ks) → 1 ≤ cond (j == k) 1 0 + occurs j ks
  by true f rest = subst (λ (b : Bool). 1 ≤ cond b 1 0 + occurs j ks) (sym f) (omega arith)
  by false f rest = subst (λ (b : Bool). 1 ≤ cond b 1 0 + occurs j ks) (sym f) (omega (arith, rest f))

-- who is among the distinct ones is among all
pub distinct_in : (j : ℕ) (xs : List ℕ) → is_in j (distinct xs) ≡ true → is_in j xs ≡ true
distinct_in j xs e = by (is_in j xs) (distinct_occurs j xs) where
  by : (b : Bool) → occurs j (distinct xs) ≡ cond b 1 0 → b ≡ true
  by true f = refl
  by false f = absurd (omega (arith, f, in_occurs j (distinct xs) e))

-- sums over the numbers: one of them counts
pick_step : (c : Bool) (a : Address) (xs : List Address) (o r : ℕ) → (o ≡ 0 → r ≡ 0) → (o ≡ 1 → r ≡ times a xs) →
    ((cond c 1 0 + o ≡ 0 → times a (if c then xs else []) + r ≡ 0) × (cond c 1 0 + o ≡ 1 → times a (if c then xs else []) + r ≡ times a xs))
pick_step true a xs o r z u = (λ e. absurd (omega (arith, e)), λ e. omega (arith, z (omega (arith, e))))
pick_step false a xs o r z u = (λ e. omega (arith, z (omega (arith, e))), λ e. omega (arith, u (omega (arith, e))))

pub picked : (a : Address) (j : ℕ) (xs : List Address) (ks : List ℕ) →
    ((occurs j ks ≡ 0 → total (λ k. times a (if (true && (j == k)) then xs else [])) ks ≡ 0) ×
    (occurs j ks ≡ 1 → total (λ k. times a (if (true && (j == k)) then xs else [])) ks ≡ times a xs))
picked a j xs [] = (λ e. refl, λ e. absurd (omega (arith, e)))
picked a j xs (k ∷ ks) = let p = picked a j xs ks in
    pick_step (j == k) a xs (occurs j ks) (total (λ i. times a (if (true && (j == i)) then xs else [])) ks) p.0 p.1

pub unpicked : (a : Address) (j : ℕ) (xs : List Address) (ks : List ℕ) →
    total (λ k. times a (if (false && (j == k)) then xs else [])) ks ≡ 0
unpicked a j xs [] = refl
unpicked a j xs (k ∷ ks) = omega (arith, unpicked a j xs ks)

pub total_le : {X : Type 0} (f g : X → ℕ) → ((x : X) → f x ≤ g x) → (xs : List X) → total f xs ≤ total g xs
total_le f g each [] = omega arith
total_le f g each (x ∷ xs) = omega (arith, each x, total_le f g each xs)

pub total_same : {X : Type 0} (f g : X → ℕ) → ((x : X) → f x ≡ g x) → (xs : List X) → total f xs ≡ total g xs
total_same f g each [] = refl
total_same f g each (x ∷ xs) = omega (arith, each x, total_same f g each xs)

-- what is counted of each element for all numbers is counted of a list
pub swap_le : {X : Type 0} (a : Address) (g : ℕ → X → List Address) (h : X → List Address) (ks : List ℕ) →
    ((x : X) → total (λ k. times a (g k x)) ks ≤ times a (h x)) → (xs : List X) →
    total (λ k. times a (flat_map (g k) xs)) ks ≤ times a (flat_map h xs)
swap_le a g h ks each [] = omega (arith, total-zero ks)
swap_le a g h ks each (x ∷ xs) = omega (
  arith,
  each x,
  swap_le a g h ks each xs,
  times-append a (h x) (flat_map h xs),
  total-more (λ k. times a (g k x)) (λ k. times a (flat_map (g k) xs)) (λ k. times a (g k x ++ flat_map (g k) xs)) (λ k. times-append a (g k x) (flat_map (g k) xs)) ks,
)

pub swap_same : {X : Type 0} (a : Address) (g : ℕ → X → List Address) (h : X → List Address) (ks : List ℕ) (xs : List X) →
    AllByRecursion (λ x. total (λ k. times a (g k x)) ks ≡ times a (h x)) xs →
    total (λ k. times a (flat_map (g k) xs)) ks ≡ times a (flat_map h xs)
swap_same a g h ks [] each = omega (arith, total-zero ks)
swap_same a g h ks (x ∷ xs) each = omega (
  arith,
  each.0,
  swap_same a g h ks xs each.1,
  times-append a (h x) (flat_map h xs),
  total-more (λ k. times a (g k x)) (λ k. times a (flat_map (g k) xs)) (λ k. times a (g k x ++ flat_map (g k) xs)) (λ k. times-append a (g k x) (flat_map (g k) xs)) ks,
)

pub in_left : (j : ℕ) (xs ys : List ℕ) → is_in j xs ≡ true → is_in j (xs ++ ys) ≡ true
in_left j [] ys e = absurd (true≢false (sym e))
in_left j (x ∷ xs) ys e = elim (or_cases (j == x) (is_in j xs) e) [
  | inl f ↦ or_left (j == x) (is_in j (xs ++ ys)) f
  | inr f ↦ or_right (j == x) (is_in j (xs ++ ys)) (in_left j xs ys f)
]

pub in_right : (j : ℕ) (xs ys : List ℕ) → is_in j ys ≡ true → is_in j (xs ++ ys) ≡ true
in_right j [] ys e = e
in_right j (x ∷ xs) ys e = or_right (j == x) (is_in j (xs ++ ys)) (in_right j xs ys e)

pub in_both : (j : ℕ) (xs ys : List ℕ) → is_in j (xs ++ ys) ≡ true → (is_in j xs || is_in j ys) ≡ true
in_both j [] ys e = e
in_both j (x ∷ xs) ys e = elim (or_cases (j == x) (is_in j (xs ++ ys)) e) [
  | inl f ↦ or_left ((j == x) || is_in j xs) (is_in j ys) (or_left (j == x) (is_in j xs) f)
  | inr f ↦ elim (or_cases (is_in j xs) (is_in j ys) (in_both j xs ys f)) [
    | inl g ↦ or_left ((j == x) || is_in j xs) (is_in j ys) (or_right (j == x) (is_in j xs) g)
    | inr g ↦ or_right ((j == x) || is_in j xs) (is_in j ys) g
  ]
]
