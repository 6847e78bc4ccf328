-- With which of its ports a node hears on a bus (9.5.2).
use Rattle.std.specs.Prelude.{◌≡◌, ◌==◌, ℕ, Bool, List, Some, slice_get}
use Rattle.npdu.specs.declared.mac.Mac.TheVariants.{One}
use Rattle.npdu.specs.declared.mac.Station.{Station}
use Rattle.world_sites.specs.Finding.{place_of}

-- a place is on the network of a number (6.1)
abbrev pub is_on : (network : ℕ) → Station → Bool
is_on network x = x.net == network

-- the first of these places on a network has an address of one octet there (9.5.2)
pub record HearsWith (network : ℕ) (places : List Station) (port mac : ℕ) : Type 0 where
  pub numbered : place_of (is_on network) places ≡ Some port
  pub at : slice_get places port ≡ Some (record { net = network; mac = One mac })

-- none has
pub record HearsWithNone (network : ℕ) (places : List Station) : Type 0 where
  pub none : (port mac : ℕ) → HearsWith network places port mac → ⊥
