-- The addresses of BACnet/IP.
use Rattle.std.specs.Prelude.{◌≡◌, ℕ, ◌<◌, ◌^◌, List, ◌++◌, length, take, drop}
use Rattle.byteorder.specs.Endian.{big_bytes, big_number}
use Rattle.bvll.specs.declared.address.Address.{Address}

-- the six octets of an address (J.1.2)
abbrev pub address_octets : Address → List ℕ
address_octets a = a.ip ++ big_bytes 2 a.port

-- what six octets can say
pub record IsAddress (a : Address) : Type 0 where
  pub ip : length a.ip ≡ 4
  pub port : a.port < 2 ^ 16

-- the address in the first six octets
abbrev pub address_at : List ℕ → Address
address_at octets = record { ip = take 4 octets; port = big_number 2 (drop 4 octets) }

-- an address stands in front of the rest
pub record TakesAddress (octets : List ℕ) (a : Address) (rest : List ℕ) : Type 0 where
  pub fits : IsAddress a
  pub parts : octets ≡ address_octets a ++ rest
