-- The ear that the code finds among its buses is that of what it keeps.
use Rattle.std.proofs.Common.{◌≡◌, ℕ, suc, zero, ◌+◌, ◌≤◌, ◌<◌, length, Bool, true, false, List, [], ◌∷◌, map, refl, ap, sym, subst, ◌∙◌, arith}
use Rattle.std.specs.Prelude.{Some, option_map, slice_get, slice_set, ◌==◌, if◌then◌else◌}
use Rattle.std.proofs.lemmas.Bool.{eqb-true}
use Rattle.std.proofs.lemmas.List.{length-map, map-set}
use Rattle.std.proofs.lemmas.Option.{slice_get-map, slice_get_within}
use Rattle.bus_traffic.specs.Bus.{BusState, bus_of, heard_on}
use Rattle.bus_traffic.specs.Finding.{HasNoEar, IsEar, has_number, place_from, place_of}
use Rattle.bus_traffic.specs.declared.bus.Bus.{Bus}
use Rattle.bus_traffic.specs.declared.ear.Ear.{Ear}
use Rattle.buses.proofs.Places.{of_both, same_buses}
use Rattle.buses.specs.Finding.{HasEarAt, HasEarOf, HasNoEarOf, IsEarOf, has_net}
use Rattle.buses.specs.Hearing.{heard_at}

-- the place of the first image that passes
place_from_map : {X Y : Type 0} (n : ℕ) (f : X → Y) (test : Y → Bool) (xs : List X)
    → place_from n test (map f xs) ≡ place_from n (λ x. test (f x)) xs
place_from_map n f test [] = refl
place_from_map n f test (x ∷ xs) =
    ap (λ r. if test (f x) then Some n else r) (place_from_map (n + 1) f test xs)

numbered_of : {A : Type 0} (net : ℕ) (xs : List (Bus A))
    → place_of (has_net net) (map (λ o. bus_of o) xs) ≡ place_of (has_number net) xs
numbered_of net xs = place_from_map 0 (λ o. bus_of o) (has_net net) xs

there_of : {A : Type 0} (xs : List (Bus A)) (i : ℕ) (b : Bus A) → slice_get xs i ≡ Some b
    → slice_get (map (λ o. bus_of o) xs) i ≡ Some (bus_of b)
there_of xs i b e = slice_get-map (λ o. bus_of o) xs i ∙ ap (λ o. option_map (λ o. bus_of o) o) e

-- an ear of the code's is one of what it keeps
pub is_ear_of : {A : Type 0} (net address : ℕ) (xs : List (Bus A)) (i : ℕ) (b : Bus A) (j : ℕ) (e : Ear)
    → IsEar net address xs i b j e → IsEarOf net address (map (λ o. bus_of o) xs) i (bus_of b) j e
is_ear_of net address xs i b j e is = record {
  numbered = numbered_of net xs ∙ is.numbered;
  bus_there = there_of xs i b is.bus_there;
  addressed = is.addressed;
  ear_there = is.ear_there;
}

pub has_ear_of : {A : Type 0} (net address : ℕ) (xs : List (Bus A)) (i : ℕ) (b : Bus A) (j : ℕ) (e : Ear)
    → IsEar net address xs i b j e → HasEarOf net address (map (λ o. bus_of o) xs)
has_ear_of net address xs i b j e is = record {
  bus_place = i;
  bus = bus_of b;
  ear_place = j;
  ear = e;
  found = is_ear_of net address xs i b j e is;
}

-- what stands at a place of the images is the image of one that stands there
image_at : {X Y : Type 0} (f : X → Y) (xs : List X) (i : ℕ) (y : Y) → slice_get (map f xs) i ≡ Some y
    → (x : X) × (slice_get xs i ≡ Some x) × (f x ≡ y)
image_at f [] i y e = absurd (cc)
image_at f (x ∷ xs) zero y e = (x, refl, (cc))
image_at f (x ∷ xs) (suc i) y e = image_at f xs i y e

-- where the code has no ear there is none
pub no_ear_of : {A : Type 0} (net address : ℕ) (xs : List (Bus A)) → HasNoEar net address xs
    → HasNoEarOf net address (map (λ o. bus_of o) xs)
no_ear_of net address xs h = record {
  none = λ i c j e is. let found = image_at (λ o. bus_of o) xs i c is.bus_there in
      h.none i found.0 j e (record {
        numbered = sym (numbered_of net xs) ∙ is.numbered;
        bus_there = found.1;
        addressed = ap (λ o. place_of (λ x. x.address == address) o.ears) found.2 ∙ is.addressed;
        ear_there = ap (λ o. slice_get o.ears j) found.2 ∙ is.ear_there;
      });
}

first_passes : {X : Type 0} (n : ℕ) (test : X → Bool) (y : X) (ys : List X) → test y ≡ true
    → place_from n test (y ∷ ys) ≡ Some n
first_passes n test y ys e = ap (λ t. if t then Some n else place_from (n + 1) test ys) e

first_fails : {X : Type 0} (n : ℕ) (test : X → Bool) (y : X) (ys : List X) → test y ≡ false
    → place_from n test (y ∷ ys) ≡ place_from (n + 1) test ys
first_fails n test y ys e = ap (λ t. if t then Some n else place_from (n + 1) test ys) e

-- a place is not before the first
later_by : {X : Type 0} (n m : ℕ) (test : X → Bool) (y : X) (ys : List X) (b : Bool) → test y ≡ b
    → (place_from (n + 1) test ys ≡ Some m → n + 1 ≤ m) → place_from n test (y ∷ ys) ≡ Some m → n ≤ m
later_by n m test y ys true e later p =
    let q : Some n ≡ Some m = sym (first_passes n test y ys e) ∙ p in let same : n ≡ m = cc in omega (arith, same)
later_by n m test y ys false e later p =
    let after : n + 1 ≤ m = later (sym (first_fails n test y ys e) ∙ p) in omega (arith, after)

later_from : {X : Type 0} (n m : ℕ) (test : X → Bool) (xs : List X) → place_from n test xs ≡ Some m → n ≤ m
later_from n m test [] p = absurd (cc)
later_from n m test (y ∷ ys) p = later_by n m test y ys (test y) refl (λ q. later_from (n + 1) m test ys q) p

passes_by : {X : Type 0} (n m k : ℕ) (test : X → Bool) (y : X) (ys : List X) (x : X) (b : Bool) → test y ≡ b
    → ((j : ℕ) → place_from (n + 1) test ys ≡ Some m → m ≡ n + 1 + j → slice_get ys j ≡ Some x → test x ≡ true)
    → place_from n test (y ∷ ys) ≡ Some m → m ≡ n + k → slice_get (y ∷ ys) k ≡ Some x → test x ≡ true
passes_by n m zero test y ys x true e rest p is there = let same : y ≡ x = cc in ap test (sym same) ∙ e
passes_by n m (suc k) test y ys x true e rest p is there =
    let q : Some n ≡ Some m = sym (first_passes n test y ys e) ∙ p in let same : n ≡ m = cc in absurd (omega (arith, same, is))
passes_by n m zero test y ys x false e rest p is there =
    let after : n + 1 ≤ m = later_from (n + 1) m test ys (sym (first_fails n test y ys e) ∙ p) in
    absurd (omega (arith, after, is))
passes_by n m (suc k) test y ys x false e rest p is there =
    rest k (sym (first_fails n test y ys e) ∙ p) (omega (arith, is)) there

-- the first that passes is found at its place, and passes
passes_from : {X : Type 0} (n m k : ℕ) (test : X → Bool) (xs : List X) (x : X) → place_from n test xs ≡ Some m
    → m ≡ n + k → slice_get xs k ≡ Some x → test x ≡ true
passes_from n m k test [] x p is there = absurd (cc)
passes_from n m k test (y ∷ ys) x p is there = passes_by n m k test y ys x (test y) refl
    (λ j q f t. passes_from (n + 1) m j test ys x q f t) p is there

-- the bus of a number has it
pub net_of : {A : Type 0} (net address : ℕ) (bs : List (BusState A)) (i : ℕ) (b : BusState A) (j : ℕ) (e : Ear)
    → IsEarOf net address bs i b j e → b.net ≡ net
net_of net address bs i b j e is =
    let none : i ≡ 0 + i = omega arith in
    eqb-true b.net net (passes_from 0 i i (has_net net) bs b is.numbered none is.bus_there)

-- an ear that was found is there
pub found_there : {A : Type 0} (net address : ℕ) (bs : List (BusState A)) (i : ℕ) (b : BusState A) (j : ℕ) (e : Ear)
    → IsEarOf net address bs i b j e → HasEarAt i j bs
found_there net address bs i b j e is = record {
  bus = b;
  ear = e;
  bus_there = is.bus_there;
  ear_there = is.ear_there;
}

-- where one of what is kept stands the code has a bus
pub bus_within : {A : Type 0} (xs : List (Bus A)) (i : ℕ) (b : BusState A)
    → slice_get (map (λ o. bus_of o) xs) i ≡ Some b → i < length xs
bus_within xs i b e = subst (λ n. i < n) (length-map xs (λ o. bus_of o))
    (slice_get_within (map (λ o. bus_of o) xs) i b e)

-- the ear at its place hears
pub ear_hears : {A : Type 0} (now i j : ℕ) (octets kept : List ℕ) (frames : ℕ) (xs : List (Bus A)) (x y : Bus A)
    (b : BusState A) (e : Ear) → slice_get xs i ≡ Some x → slice_get (map (λ o. bus_of o) xs) i ≡ Some b
    → slice_get b.ears j ≡ Some e
    → ((f : Ear) → slice_get x.ears.items j ≡ Some f → bus_of y ≡ heard_on now j octets kept f (bus_of x))
    → of_both (map (λ o. bus_of o) (slice_set xs i y)) frames
    ≡ heard_at now i j octets kept e b (of_both (map (λ o. bus_of o) xs) frames)
ear_hears now i j octets kept frames xs x y b e at there ear_there hears =
    let both : Some (bus_of x) ≡ Some b = sym (there_of xs i x at) ∙ there in
    let is : bus_of x ≡ b = cc in
    same_buses frames _ _ (map-set (λ o. bus_of o) xs i y ∙ ap (λ o. slice_set (map (λ o. bus_of o) xs) i o)
    (hears e (ap (λ o. slice_get o.ears j) is ∙ ear_there) ∙ ap (λ o. heard_on now j octets kept e o) is))

pub ruleset finding_rules = (is_ear_of, has_ear_of, no_ear_of)
