-- Places of lists that grow, or in which one is put in the place of another.
use Rattle.std.proofs.Common.{◌≡◌, ◌∙◌, refl, sym, ap, arith, ℕ, zero, suc, ◌+◌, List, [], ◌∷◌, ◌++◌, Some, None, length, map}
use Rattle.std.specs.Prelude.{slice_get, slice_set}
use Rattle.std.specs.List.{flat_map}

pub some_same : {X : Type 0} (x y : X) → Some x ≡ Some y → x ≡ y
some_same x y e = cc e

pub none_some : {X : Type 0} (x : X) → None ≡ Some x → ⊥
none_some x e = cc e

-- what stands first behind a list
pub get_first : {X : Type 0} (xs ys : List X) → slice_get (xs ++ ys) (length xs) ≡ slice_get ys 0
get_first [] ys = refl
get_first (x ∷ xs) ys = get_first xs ys

pub put_at : {X : Type 0} (xs : List X) (k : ℕ) (x z : X) → slice_get xs k ≡ Some x →
    slice_get (slice_set xs k z) k ≡ Some z
put_at [] k x z e = absurd (cc e)
put_at (y ∷ ys) zero x z e = refl
put_at (y ∷ ys) (suc k) x z e = put_at ys k x z e

-- one that is not that for which another is put stays where it is
pub get_other : {X : Type 0} (xs : List X) (m k : ℕ) (x y z : X) → slice_get xs m ≡ Some x → slice_get xs k ≡ Some y →
    (x ≡ y → ⊥) → slice_get (slice_set xs m z) k ≡ Some y
get_other [] m k x y z a b other = absurd (cc a)
get_other (w ∷ ws) zero zero x y z a b other = absurd (other (let same : x ≡ y = cc (a, b) in same))
get_other (w ∷ ws) zero (suc k) x y z a b other = b
get_other (w ∷ ws) (suc m) zero x y z a b other = b
get_other (w ∷ ws) (suc m) (suc k) x y z a b other = get_other ws m k x y z a b other

pub length_set : {X : Type 0} (xs : List X) (k : ℕ) (z : X) → length (slice_set xs k z) ≡ length xs
length_set [] k z = refl
length_set (x ∷ xs) zero z = refl
length_set (x ∷ xs) (suc k) z = ap (λ n. suc n) (length_set xs k z)

pub length_behind : {X : Type 0} (xs : List X) (y : X) → length (xs ++ y ∷ []) ≡ length xs + 1
length_behind [] y = refl
length_behind (x ∷ xs) y =
    let e : suc (length xs + 1) ≡ suc (length xs) + 1 = omega arith in ap (λ n. suc n) (length_behind xs y) ∙ e

pub none_mapped : {X Y : Type 0} (f : X → Y) (xs : List X) (k : ℕ) → slice_get xs k ≡ None → slice_get (map f xs) k ≡ None
none_mapped f [] k e = refl
none_mapped f (x ∷ xs) zero e = absurd (cc e)
none_mapped f (x ∷ xs) (suc k) e = none_mapped f xs k e

-- how many come of those before a place
abbrev pub ahead : {X Y : Type 0} → (X → List Y) → List X → ℕ → ℕ
ahead f [] n = 0
ahead f (x ∷ xs) zero = 0
ahead f (x ∷ xs) (suc n) = length (f x) + ahead f xs n

get_behind : {X : Type 0} (xs ys : List X) (n : ℕ) → slice_get (xs ++ ys) (length xs + n) ≡ slice_get ys n
get_behind [] ys n = let e : 0 + n ≡ n = omega arith in ap (λ (m : ℕ). slice_get ys m) e
get_behind (x ∷ xs) ys n =
    let e : suc (length xs) + n ≡ suc (length xs + n) = omega arith in
    ap (λ (m : ℕ). slice_get (x ∷ (xs ++ ys)) m) e ∙ get_behind xs ys n

set_behind : {X : Type 0} (xs ys : List X) (n : ℕ) (z : X) →
    slice_set (xs ++ ys) (length xs + n) z ≡ xs ++ slice_set ys n z
set_behind [] ys n z = let e : 0 + n ≡ n = omega arith in ap (λ (m : ℕ). slice_set ys m z) e
set_behind (x ∷ xs) ys n z =
    let e : suc (length xs) + n ≡ suc (length xs + n) = omega arith in
    ap (λ (m : ℕ). slice_set (x ∷ (xs ++ ys)) m z) e ∙ ap (λ (zs : List _). x ∷ zs) (set_behind xs ys n z)

-- what one comes of one of a list is behind those that come of the ones before it
pub part_there : {X Y : Type 0} (f : X → List Y) (xs : List X) (n : ℕ) (x : X) (y : Y) → slice_get xs n ≡ Some x →
    f x ≡ y ∷ [] → slice_get (flat_map f xs) (ahead f xs n) ≡ Some y
part_there f [] n x y e a = absurd (cc e)
part_there f (w ∷ ws) zero x y e a =
    ap (λ (zs : List _). slice_get (zs ++ flat_map f ws) 0) (ap f (some_same w x e) ∙ a)
part_there f (w ∷ ws) (suc n) x y e a =
    get_behind (f w) (flat_map f ws) (ahead f ws n) ∙ part_there f ws n x y e a

pub part_set : {X Y : Type 0} (f : X → List Y) (xs : List X) (n : ℕ) (x z : X) (y y' : Y) → slice_get xs n ≡ Some x →
    f x ≡ y ∷ [] → f z ≡ y' ∷ [] → flat_map f (slice_set xs n z) ≡ slice_set (flat_map f xs) (ahead f xs n) y'
part_set f [] n x z y y' e a b = absurd (cc e)
part_set f (w ∷ ws) zero x z y y' e a b =
    ap (λ (zs : List _). zs ++ flat_map f ws) b
    ∙ sym (ap (λ (zs : List _). slice_set (zs ++ flat_map f ws) 0 y') (ap f (some_same w x e) ∙ a))
part_set f (w ∷ ws) (suc n) x z y y' e a b =
    ap (λ (zs : List _). f w ++ zs) (part_set f ws n x z y y' e a b)
    ∙ sym (set_behind (f w) (flat_map f ws) (ahead f ws n) y')

-- it stays there where another of which as many come is put in the place of any one
pub ahead_same : {X Y : Type 0} (f : X → List Y) (xs : List X) (m n : ℕ) (x z : X) → slice_get xs m ≡ Some x →
    length (f z) ≡ length (f x) → ahead f (slice_set xs m z) n ≡ ahead f xs n
ahead_same f [] m n x z e same = refl
ahead_same f (w ∷ ws) zero zero x z e same = refl
ahead_same f (w ∷ ws) zero (suc n) x z e same =
    ap (λ k. k + ahead f ws n) (same ∙ sym (ap (λ (u : _). length (f u)) (some_same w x e)))
ahead_same f (w ∷ ws) (suc m) zero x z e same = refl
ahead_same f (w ∷ ws) (suc m) (suc n) x z e same = ap (λ k. length (f w) + k) (ahead_same f ws m n x z e same)
