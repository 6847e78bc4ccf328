-- What comes of each of a list, where one of the list is put in the place of another; and places of a list.
use Rattle.std.proofs.Common.{◌≡◌, ◌∙◌, refl, sym, ap, arith, ℕ, zero, suc, ◌+◌, Bool, true, false, List, [], ◌∷◌, ◌++◌, Some, length, map}
use Rattle.std.specs.Prelude.{if◌then◌else◌, slice_get, slice_set}
use Rattle.std.specs.List.{flat_map}
use Rattle.world.proofs.Standing.{some_same}
use Rattle.world.specs.world_sites.Finding.{place_from, place_of}

get_behind : {X : Type 0} (xs ys : List X) (n : ℕ) → slice_get (xs ++ ys) (length xs + n) ≡ slice_get ys n
get_behind [] ys n = let e : 0 + n ≡ n = omega arith in ap (λ (m : ℕ). slice_get ys m) e
get_behind (x ∷ xs) ys n =
    let e : suc (length xs) + n ≡ suc (length xs + n) = omega arith in
    ap (λ (m : ℕ). slice_get (x ∷ (xs ++ ys)) m) e ∙ get_behind xs ys n

set_behind : {X : Type 0} (xs ys : List X) (n : ℕ) (z : X) →
    slice_set (xs ++ ys) (length xs + n) z ≡ xs ++ slice_set ys n z
set_behind [] ys n z = let e : 0 + n ≡ n = omega arith in ap (λ (m : ℕ). slice_set ys m z) e
set_behind (x ∷ xs) ys n z =
    let e : suc (length xs) + n ≡ suc (length xs + n) = omega arith in
    ap (λ (m : ℕ). slice_set (x ∷ (xs ++ ys)) m z) e ∙ ap (λ (zs : List _). x ∷ zs) (set_behind xs ys n z)

-- of one of a list comes this one, at a place of all that comes of them, and of another in its place another there
pub record IsPart {X Y : Type 0} (f : X → List Y) (xs : List X) (n : ℕ) (z : X) (y y' : Y) : Type 0 where
  pub place : ℕ
  pub there : slice_get (flat_map f xs) place ≡ Some y
  pub set : flat_map f (slice_set xs n z) ≡ slice_set (flat_map f xs) place y'

pub part_at : {X Y : Type 0} (f : X → List Y) (xs : List X) (n : ℕ) (x z : X) (y y' : Y) → slice_get xs n ≡ Some x →
    f x ≡ y ∷ [] → f z ≡ y' ∷ [] → IsPart f xs n z y y'
part_at f [] n x z y y' e a b = absurd (cc e)
part_at f (w ∷ ws) zero x z y y' e a b =
    let one : f w ≡ y ∷ [] = ap f (some_same w x e) ∙ a in record {
      place = 0;
      there = ap (λ (zs : List _). slice_get (zs ++ flat_map f ws) 0) one;
      set = ap (λ (zs : List _). zs ++ flat_map f ws) b
          ∙ sym (ap (λ (zs : List _). slice_set (zs ++ flat_map f ws) 0 y') one);
    }
part_at f (w ∷ ws) (suc n) x z y y' e a b =
    let rest = part_at f ws n x z y y' e a b in record {
      place = length (f w) + rest.place;
      there = get_behind (f w) (flat_map f ws) rest.place ∙ rest.there;
      set = ap (λ (zs : List _). f w ++ zs) rest.set ∙ sym (set_behind (f w) (flat_map f ws) rest.place y');
    }

-- .. or the same comes of either
pub part_none : {X Y : Type 0} (f : X → List Y) (xs : List X) (n : ℕ) (x z : X) → slice_get xs n ≡ Some x →
    f z ≡ f x → flat_map f (slice_set xs n z) ≡ flat_map f xs
part_none f [] n x z e same = absurd (cc e)
part_none f (w ∷ ws) zero x z e same =
    ap (λ (zs : List _). zs ++ flat_map f ws) (same ∙ sym (ap f (some_same w x e)))
part_none f (w ∷ ws) (suc n) x z e same = ap (λ (zs : List _). f w ++ zs) (part_none f ws n x z e same)

-- what is the same of one and of the other in its place is the same of all
pub map_same : {X Y : Type 0} (f : X → Y) (xs : List X) (n : ℕ) (x z : X) → slice_get xs n ≡ Some x → f z ≡ f x →
    map f (slice_set xs n z) ≡ map f xs
map_same f [] n x z e same = refl
map_same f (y ∷ ys) zero x z e same = ap (λ (w : _). w ∷ map f ys) (same ∙ sym (ap f (some_same y x e)))
map_same f (y ∷ ys) (suc n) x z e same = ap (λ (ws : List _). f y ∷ ws) (map_same f ys n x z e same)

-- what is read where one was put is that
pub get_set : {X : Type 0} (xs : List X) (n : ℕ) (x y z : X) → slice_get xs n ≡ Some x →
    slice_get (slice_set xs n y) n ≡ Some z → y ≡ z
get_set [] n x y z there e = absurd (cc there)
get_set (u ∷ us) zero x y z there e = some_same y z e
get_set (u ∷ us) (suc n) x y z there e = get_set us n x y z there e

-- what is found at a place is there, and passes the test
pub record FoundAt {X : Type 0} (test : X → Bool) (m : ℕ) (xs : List X) (n : ℕ) : Type 0 where
  pub k : ℕ
  pub is : n ≡ m + k
  pub one : X
  pub there : slice_get xs k ≡ Some one
  pub passes : test one ≡ true

found_at : {X : Type 0} (test : X → Bool) (m : ℕ) (xs : List X) (n : ℕ) → place_from m test xs ≡ Some n →
    FoundAt test m xs n
found_at test m [] n e = absurd (cc e)
found_at {X} test m (x ∷ xs) n e = by_test (test x) refl (λ f. found_at test (m + 1) xs n f) e
  where
    by_test : (b : Bool) → test x ≡ b → (place_from (m + 1) test xs ≡ Some n → FoundAt test (m + 1) xs n) →
        (if b then Some m else place_from (m + 1) test xs) ≡ Some n → FoundAt test m (x ∷ xs) n
    by_test true t rest f = record {
      k = 0;
      is = let same = some_same m n f in omega (arith, same);
      one = x;
      there = refl;
      passes = t;
    }
    by_test false t rest f =
        let found = rest f in record {
          k = suc found.k;
          is = let same = found.is in omega (arith, same);
          one = found.one;
          there = found.there;
          passes = found.passes;
        }

pub found_there : {X : Type 0} (test : X → Bool) (xs : List X) (n : ℕ) → place_of test xs ≡ Some n → FoundAt test 0 xs n
found_there test xs n e = found_at test 0 xs n e
