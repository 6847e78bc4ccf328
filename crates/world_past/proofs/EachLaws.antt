-- Lists of which each is kept, in order.
use Rattle.std.proofs.Common.{◌≡◌, refl, ap, subst, ℕ, zero, suc, List, [], ◌∷◌, ◌++◌, length, map, Some, None}
use Rattle.std.specs.Prelude.{slice_get, slice_set}
use Rattle.bus_traffic.specs.Forgetting.{KeepsEach}

some_same : {X : Type 0} (x y : X) → Some x ≡ Some y → x ≡ y
some_same x y e = cc

pub each_on : {X : Type 0} (R S T : X → X → Type 0) → ((x y z : X) → R x y → S y z → T x z) → (xs ys zs : List X) →
    KeepsEach R xs ys → KeepsEach S ys zs → KeepsEach T xs zs
each_on R S T on [] [] [] p q = tt
each_on R S T on [] [] (z ∷ zs) p q = absurd q
each_on R S T on [] (y ∷ ys) zs p q = absurd p
each_on R S T on (x ∷ xs) [] zs p q = absurd p
each_on R S T on (x ∷ xs) (y ∷ ys) [] p q = absurd q
each_on R S T on (x ∷ xs) (y ∷ ys) (z ∷ zs) p q = (on x y z p.0 q.0, each_on R S T on xs ys zs p.1 q.1)

pub each_map : {X : Type 0} (R S : X → X → Type 0) (f : X → X) → ((x y : X) → R x y → S (f x) (f y)) →
    (xs ys : List X) → KeepsEach R xs ys → KeepsEach S (map f xs) (map f ys)
each_map R S f one [] [] p = tt
each_map R S f one [] (y ∷ ys) p = absurd p
each_map R S f one (x ∷ xs) [] p = absurd p
each_map R S f one (x ∷ xs) (y ∷ ys) p = (one x y p.0, each_map R S f one xs ys p.1)

pub each_if : {X : Type 0} (R S : X → X → Type 0) → ((x y : X) → R x y → S x y) → (xs ys : List X) →
    KeepsEach R xs ys → KeepsEach S xs ys
each_if R S one [] [] p = tt
each_if R S one [] (y ∷ ys) p = absurd p
each_if R S one (x ∷ xs) [] p = absurd p
each_if R S one (x ∷ xs) (y ∷ ys) p = (one x y p.0, each_if R S one xs ys p.1)

-- seen from what is kept
pub each_back : {X : Type 0} (R : X → X → Type 0) (xs ys : List X) → KeepsEach R xs ys → KeepsEach (λ y x. R x y) ys xs
each_back R [] [] p = tt
each_back R [] (y ∷ ys) p = absurd p
each_back R (x ∷ xs) [] p = absurd p
each_back R (x ∷ xs) (y ∷ ys) p = (p.0, each_back R xs ys p.1)

pub each_more : {X : Type 0} (R : X → X → Type 0) (xs ys us vs : List X) → KeepsEach R xs ys → KeepsEach R us vs →
    KeepsEach R (xs ++ us) (ys ++ vs)
each_more R [] [] us vs p q = q
each_more R [] (y ∷ ys) us vs p q = absurd p
each_more R (x ∷ xs) [] us vs p q = absurd p
each_more R (x ∷ xs) (y ∷ ys) us vs p q = (p.0, each_more R xs ys us vs p.1 q)

pub each_set : {X : Type 0} (R : X → X → Type 0) (xs ys : List X) (n : ℕ) (x y : X) → KeepsEach R xs ys → R x y →
    KeepsEach R (slice_set xs n x) (slice_set ys n y)
each_set R [] [] n x y p one = tt
each_set R [] (v ∷ ys) n x y p one = absurd p
each_set R (u ∷ xs) [] n x y p one = absurd p
each_set R (u ∷ xs) (v ∷ ys) zero x y p one = (one, p.1)
each_set R (u ∷ xs) (v ∷ ys) (suc n) x y p one = (p.0, each_set R xs ys n x y p.1 one)

pub each_length : {X : Type 0} (R : X → X → Type 0) (xs ys : List X) → KeepsEach R xs ys → length ys ≡ length xs
each_length R [] [] p = refl
each_length R [] (y ∷ ys) p = absurd p
each_length R (x ∷ xs) [] p = absurd p
each_length R (x ∷ xs) (y ∷ ys) p = ap (λ (n : ℕ). suc n) (each_length R xs ys p.1)

-- one stands at a place of which this is kept
pub record IsKeptAt {X : Type 0} (R : X → X → Type 0) (xs : List X) (n : ℕ) (y : X) : Type 0 where
  pub one : X
  pub there : slice_get xs n ≡ Some one
  pub keeps : R one y

pub each_get : {X : Type 0} (R : X → X → Type 0) (xs ys : List X) (n : ℕ) (y : X) → KeepsEach R xs ys →
    slice_get ys n ≡ Some y → IsKeptAt R xs n y
each_get R [] [] n y p e = absurd (cc e)
each_get R [] (v ∷ ys) n y p e = absurd p
each_get R (u ∷ xs) [] n y p e = absurd p
each_get R (u ∷ xs) (v ∷ ys) zero y p e =
    record { one = u; there = refl; keeps = subst (λ (z : _). R u z) (some_same v y e) p.0 }
each_get R (u ∷ xs) (v ∷ ys) (suc n) y p e =
    let k = each_get R xs ys n y p.1 e in record { one = k.one; there = k.there; keeps = k.keeps }

pub each_none : {X : Type 0} (R : X → X → Type 0) (xs ys : List X) (n : ℕ) → KeepsEach R xs ys →
    slice_get ys n ≡ None → slice_get xs n ≡ None
each_none R [] [] n p e = e
each_none R [] (v ∷ ys) n p e = absurd p
each_none R (u ∷ xs) [] n p e = absurd p
each_none R (u ∷ xs) (v ∷ ys) zero p e = absurd (cc e)
each_none R (u ∷ xs) (v ∷ ys) (suc n) p e = each_none R xs ys n p.1 e
