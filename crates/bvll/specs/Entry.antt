-- The entries of a broadcast manager's two tables, ten octets each.
use Rattle.std.specs.Prelude.{◌≡◌, ℕ, ◌<◌, ◌^◌, List, ◌++◌, length, take, drop}
use Rattle.byteorder.specs.Endian.{big_bytes, big_number}
use Rattle.bvll.specs.declared.entry.DistributionEntry.{DistributionEntry}
use Rattle.bvll.specs.declared.entry.ForeignDevice.{ForeignDevice}
use Rattle.bvll.specs.Address.{address_octets, address_at, IsAddress}

-- an address and its mask (J.2.2)
abbrev pub distribution_octets : DistributionEntry → List ℕ
distribution_octets e = address_octets e.address ++ e.mask

-- an address, and a mask of four octets (J.2.2)
pub record IsDistributionEntry (e : DistributionEntry) : Type 0 where
  pub address : IsAddress e.address
  pub mask : length e.mask ≡ 4

-- an address, its seconds to live and the seconds left (J.2.8)
abbrev pub foreign_octets : ForeignDevice → List ℕ
foreign_octets e = address_octets e.address ++ (big_bytes 2 e.seconds_to_live ++ big_bytes 2 e.seconds_left)

-- an address, and times of sixteen bits (J.2.8)
pub record IsForeignDevice (e : ForeignDevice) : Type 0 where
  pub address : IsAddress e.address
  pub to_live : e.seconds_to_live < 2 ^ 16
  pub left : e.seconds_left < 2 ^ 16

-- the entries in the first ten octets
abbrev pub distribution_at : List ℕ → DistributionEntry
distribution_at octets = record { address = address_at octets; mask = take 4 (drop 6 octets) }

-- the entry that the first ten octets are
abbrev pub foreign_at : List ℕ → ForeignDevice
foreign_at octets = record {
  address = address_at octets;
  seconds_to_live = big_number 2 (drop 6 octets);
  seconds_left = big_number 2 (drop 8 octets);
}
