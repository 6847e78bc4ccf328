-- The octets of link addresses, when stations are one, and in which order they stand.
use Rattle.std.specs.Prelude.{◌≡◌, ℕ, ◌==◌, ◌&&◌, Bool, true, false, List, [], ◌∷◌, length, nat_eq, Option, Some, None}
use Rattle.std.specs.Cmp.{IsTotalOrder}
use Rattle.std.specs.Cmp.Lexicographic.{pointwise, slice_cmp}
use Rattle.std.specs.declared.cmp.Ordering.{Ordering}
use Rattle.std.specs.declared.cmp.Ordering.TheVariants.{Less, Equal, Greater}
use Rattle.std.specs.Ordering.{nat_cmp, ordering_then}
use Rattle.npdu.specs.declared.mac.Mac.{Mac}
use Rattle.npdu.specs.declared.mac.Mac.TheVariants.{One, Six}
use Rattle.npdu.specs.declared.mac.Station.{Station}

-- an address as it stands in DADR and SADR (6.2.2)
abbrev pub mac_octets : Mac → List ℕ
mac_octets (One octet) = octet ∷ []
mac_octets (Six octets) = octets

-- an address has one octet or six (Table 6-2)
abbrev pub is_address : Mac → Bool
is_address (One octet) = true
is_address (Six octets) = length octets == 6

-- six octets, or none
abbrev pub six_if : (six : Bool) → List ℕ → Option Mac
six_if true octets = Some (Six octets)
six_if false octets = None

-- the address whose octets these are: one or six, and no other count (Table 6-2)
abbrev pub mac_of : List ℕ → Option Mac
mac_of (octet ∷ []) = Some (One octet)
mac_of octets = six_if (length octets == 6) octets

-- the station of a network with an address of MS/TP or BACnet/IP (Table 6-2)
abbrev pub station_at : ℕ → Option Mac → Option Station
station_at net None = None
station_at net (Some mac) = Some (record { net = net; mac = mac })

-- two addresses have the same octets (Table 6-2)
abbrev pub same_mac : Mac → Mac → Bool
same_mac (One a) (One b) = a == b
same_mac (Six a) (Six b) = pointwise nat_eq a b
same_mac a b = false

-- two stations have the same network and the same address there (6.1)
abbrev pub same_station : Station → Station → Bool
same_station a b = (a.net == b.net) && same_mac a.mac b.mac

-- addresses of one octet before those of six, else by their octets
abbrev pub mac_cmp : Mac → Mac → Ordering
mac_cmp (One a) (One b) = nat_cmp a b
mac_cmp (Six a) (Six b) = slice_cmp nat_cmp a b
mac_cmp (One a) (Six b) = Less
mac_cmp (Six a) (One b) = Greater

-- stations by their networks, then by their addresses
abbrev pub station_cmp : Station → Station → Ordering
station_cmp a b = ordering_then (nat_cmp a.net b.net) (mac_cmp a.mac b.mac)

-- stations of the same network and address are one, and no others
pub record IsSameStation (a b : Station) : Type 0 where
  pub same : same_station a b ≡ true → a ≡ b
  pub one : a ≡ b → same_station a b ≡ true

-- stations stand in a total order, and no two different ones at one place of it
pub record StationOrder : Type 0 where
  pub total : IsTotalOrder station_cmp
  pub apart : (a b : Station) → station_cmp a b ≡ Equal → a ≡ b
