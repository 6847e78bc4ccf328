-- Which ear is meant.
use Rattle.std.specs.Prelude.{◌≡◌, ℕ, ◌+◌, ◌==◌, if◌then◌else◌, Bool, List, [], ◌∷◌, Option, Some, None, slice_get}
use Rattle.bus_traffic.specs.declared.bus.Bus.{Bus}
use Rattle.bus_traffic.specs.declared.ear.Ear.{Ear}

-- the place of the first that passes the test, where the first of the list has the place n
abbrev pub place_from : {X : Type 0} → ℕ → (X → Bool) → List X → Option ℕ
place_from n test [] = None
place_from n test (x ∷ xs) = if test x then Some n else place_from (n + 1) test xs

-- the place of the first that passes the test
abbrev pub place_of : {X : Type 0} → (X → Bool) → List X → Option ℕ
place_of test xs = place_from 0 test xs

-- a bus has this number
abbrev pub has_number : {A : Type 0} → (net : ℕ) → Bus A → Bool
has_number net b = b.net == net

-- an ear is that of the station at this address
abbrev pub is_of : (address : ℕ) → Ear → Bool
is_of address e = e.address == address

-- these are the bus of a number and the ear of the station at an address there, at these places
pub record IsEar {A : Type 0} (net address : ℕ) (buses : List (Bus A)) (bus_place : ℕ) (b : Bus A) (ear_place : ℕ)
    (e : Ear) : Type 0 where
  pub numbered : place_of (has_number net) buses ≡ Some bus_place
  pub bus_there : slice_get buses bus_place ≡ Some b
  pub addressed : place_of (is_of address) b.ears.items ≡ Some ear_place
  pub ear_there : slice_get b.ears.items ear_place ≡ Some e

-- there is no bus of this number, or no ear of a station at this address there
pub record HasNoEar {A : Type 0} (net address : ℕ) (buses : List (Bus A)) : Type 0 where
  pub none : (i : ℕ) (b : Bus A) (j : ℕ) (e : Ear) → IsEar net address buses i b j e → ⊥
