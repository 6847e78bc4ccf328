-- Bindings, one place after another.
use Rattle.std.proofs.Common.{◌≡◌, ◌∙◌, sym, ap, ℕ, Bool, true, false, List, [], ◌∷◌, ◌++◌, take, drop, get_or, length, ◌<◌}
use Rattle.std.proofs.lemmas.Option.{slice_get_read}
use Rattle.std.specs.List.{find}
use Rattle.std.specs.Prelude.{Some, cond, if◌then◌else◌, map, zero, suc, slice_get, slice_set}
use Rattle.bindings.specs.Binding.{is_of, put_binding}
use Rattle.bindings.specs.declared.binding.Binding.{Binding}

same_one : {X : Type 0} (y x : X) → Some y ≡ Some x → y ≡ x
same_one y x e = cc e

-- the test at the first place
first_is : (n : ℕ) (y x : Binding) (c : Bool) → Some y ≡ Some x → is_of n x ≡ c → is_of n y ≡ c
first_is n y x c e is = ap (is_of n) (same_one y x e) ∙ is

-- one of another instance is passed
pub put_on : (b : Binding) (xs : List Binding) (i : ℕ) (x : Binding) → slice_get xs i ≡ Some x → is_of b.instance x ≡ false →
    take (suc i) xs ++ put_binding b (drop (suc i) xs) ≡ take i xs ++ put_binding b (drop i xs)
put_on b [] i x e is = absurd (cc e)
put_on b (y ∷ xs) zero x e is = sym (ap (λ (c : Bool). if c then b ∷ xs else y ∷ put_binding b xs) (first_is b.instance y x false e is))
put_on b (y ∷ xs) (suc i) x e is = ap (λ (zs : List Binding). y ∷ zs) (put_on b xs i x e is)

-- the one of its instance is replaced
pub put_here : (b : Binding) (xs : List Binding) (i : ℕ) (x : Binding) → slice_get xs i ≡ Some x → is_of b.instance x ≡ true →
    slice_set xs i b ≡ take i xs ++ put_binding b (drop i xs)
put_here b [] i x e is = absurd (cc e)
put_here b (y ∷ xs) zero x e is = sym (ap (λ (c : Bool). if c then b ∷ xs else y ∷ put_binding b xs) (first_is b.instance y x true e is))
put_here b (y ∷ xs) (suc i) x e is = ap (λ (zs : List Binding). y ∷ zs) (put_here b xs i x e is)

-- where to put one behind those before the place is to put it in all, the one of its instance is replaced in all
pub put_there : (b : Binding) (xs bs : List Binding) (n i : ℕ) (x : Binding) (test : Bool) → n ≡ length xs → i < n → x ≡ get_or xs i x →
    test ≡ is_of b.instance x → test ≡ true → take i xs ++ put_binding b (drop i xs) ≡ put_binding b xs → xs ≡ bs → slice_set xs i b ≡ put_binding b bs
put_there b xs bs n i x test count within at is its behind same =
    put_here b xs i x (slice_get_read xs n i x count within at) (sym is ∙ its) ∙ behind ∙ ap (put_binding b) same

-- what isn't found at a place is found behind it
pub find_on : (n : ℕ) (xs : List Binding) (i : ℕ) (x : Binding) → slice_get xs i ≡ Some x → is_of n x ≡ false →
    find (is_of n) (drop (suc i) xs) ≡ find (is_of n) (drop i xs)
find_on n [] i x e is = absurd (cc e)
find_on n (y ∷ xs) zero x e is = sym (ap (λ (c : Bool). cond c (Some y) (find (is_of n) xs)) (first_is n y x false e is))
find_on n (y ∷ xs) (suc i) x e is = find_on n xs i x e is

pub find_here : (n : ℕ) (xs : List Binding) (i : ℕ) (x : Binding) → slice_get xs i ≡ Some x → is_of n x ≡ true → find (is_of n) (drop i xs) ≡ Some x
find_here n [] i x e is = absurd (cc e)
find_here n (y ∷ xs) zero x e is = ap (λ (c : Bool). cond c (Some y) (find (is_of n) xs)) (first_is n y x true e is) ∙ e
find_here n (y ∷ xs) (suc i) x e is = find_here n xs i x e is

pub ruleset put_rules = (put_on, put_here, find_on, find_here)

-- one more is changed in its place
pub map_on : {X : Type 0} (f : X → X) (xs : List X) (i : ℕ) (x : X) → slice_get xs i ≡ Some x →
    take (suc i) (slice_set xs i (f x)) ++ map f (drop (suc i) (slice_set xs i (f x))) ≡ take i xs ++ map f (drop i xs)
map_on f [] i x e = absurd (cc e)
map_on {X} f (y ∷ xs) zero x e = ap (λ (z : X). f z ∷ map f xs) (sym (same_one y x e))
map_on {X} f (y ∷ xs) (suc i) x e = ap (λ (zs : List X). y ∷ zs) (map_on f xs i x e)

pub ruleset mark_rules = (map_on)
