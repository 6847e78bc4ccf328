-- Which ear of the buses is meant.
use Rattle.std.specs.Prelude.{◌≡◌, ℕ, ◌==◌, Bool, List, Some, slice_get}
use Rattle.bus_traffic.specs.Bus.{BusState}
use Rattle.bus_traffic.specs.Finding.{is_of, place_of}
use Rattle.bus_traffic.specs.declared.ear.Ear.{Ear}

-- a bus has this number (6.1)
abbrev pub has_net : {A : Type 0} → (net : ℕ) → BusState A → Bool
has_net net b = b.net == net

-- these are the bus of a number and the ear of the station at an address there, at these places (9.5.2)
pub record IsEarOf {A : Type 0} (net address : ℕ) (buses : List (BusState A)) (bus_place : ℕ) (b : BusState A)
    (ear_place : ℕ) (e : Ear) : Type 0 where
  pub numbered : place_of (has_net net) buses ≡ Some bus_place
  pub bus_there : slice_get buses bus_place ≡ Some b
  pub addressed : place_of (is_of address) b.ears ≡ Some ear_place
  pub ear_there : slice_get b.ears ear_place ≡ Some e

-- there is an ear of the station at an address on the bus of a number
pub record HasEarOf {A : Type 0} (net address : ℕ) (buses : List (BusState A)) : Type 0 where
  pub bus_place : ℕ
  pub bus : BusState A
  pub ear_place : ℕ
  pub ear : Ear
  pub found : IsEarOf net address buses bus_place bus ear_place ear

-- there is no bus of this number, or no ear of a station at this address there
pub record HasNoEarOf {A : Type 0} (net address : ℕ) (buses : List (BusState A)) : Type 0 where
  pub none : (i : ℕ) (b : BusState A) (j : ℕ) (e : Ear) → IsEarOf net address buses i b j e → ⊥

-- there is an ear at these places
pub record HasEarAt {A : Type 0} (bus_place ear_place : ℕ) (buses : List (BusState A)) : Type 0 where
  pub bus : BusState A
  pub ear : Ear
  pub bus_there : slice_get buses bus_place ≡ Some bus
  pub ear_there : slice_get bus.ears ear_place ≡ Some ear
