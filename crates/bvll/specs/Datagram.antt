-- What a datagram of the virtual link layer is, and the octets that spell one (Annex J).
use Rattle.std.specs.Prelude.{◌≡◌, ℕ, ◌+◌, ◌*◌, ◌<◌, ◌^◌, List, [], ◌∷◌, ◌++◌, length, flat_map}
use Rattle.std.specs.List.{AllByRecursion}
use Rattle.byteorder.specs.Endian.{big_bytes}
use Rattle.bvll.specs.declared.address.Address.{Address}
use Rattle.bvll.specs.declared.datagram.Bvll.{Bvll}
use Rattle.bvll.specs.declared.datagram.Bvll.TheVariants as variant
use Rattle.bvll.specs.declared.entry.DistributionEntry.{DistributionEntry}
use Rattle.bvll.specs.declared.entry.ForeignDevice.{ForeignDevice}
use Rattle.bvll.specs.declared.function.Function.{Function}
use Rattle.bvll.specs.declared.function.Function.TheVariants as f
use Rattle.bvll.specs.Address.{address_octets, IsAddress}
use Rattle.bvll.specs.Code.{code_number, IsNamed}
use Rattle.bvll.specs.Entry.{distribution_octets, foreign_octets, distribution_at, foreign_at, IsDistributionEntry}
use Rattle.bvll.specs.Entry.{IsForeignDevice}
use Rattle.bvll.specs.Function.{number_of}
use Rattle.bvll.specs.Table.{entries_of}

-- a datagram without where its octets lie
pub data Datagram : Type 0 where
  outcome : ℕ → Datagram
  write_distribution : List DistributionEntry → Datagram
  read_distribution : Datagram
  distribution : List DistributionEntry → Datagram
  forwarded : Address → List ℕ → Datagram
  register : ℕ → Datagram
  read_foreign : Datagram
  foreign : List ForeignDevice → Datagram
  delete_foreign : Address → Datagram
  distribute : List ℕ → Datagram
  unicast : List ℕ → Datagram
  broadcast : List ℕ → Datagram

-- the second octet (J.2)
abbrev pub function : Datagram → Function
function (outcome code) = f.Result
function (write_distribution entries) = f.WriteBroadcastDistributionTable
function read_distribution = f.ReadBroadcastDistributionTable
function (distribution entries) = f.ReadBroadcastDistributionTableAck
function (forwarded origin npdu) = f.ForwardedNpdu
function (register seconds) = f.RegisterForeignDevice
function read_foreign = f.ReadForeignDeviceTable
function (foreign entries) = f.ReadForeignDeviceTableAck
function (delete_foreign address) = f.DeleteForeignDeviceTableEntry
function (distribute npdu) = f.DistributeBroadcastToNetwork
function (unicast npdu) = f.OriginalUnicastNpdu
function (broadcast npdu) = f.OriginalBroadcastNpdu

-- what stands behind the header (J.2)
abbrev pub contents : Datagram → List ℕ
contents (outcome code) = big_bytes 2 code
contents (write_distribution entries) = flat_map distribution_octets entries
contents read_distribution = []
contents (distribution entries) = flat_map distribution_octets entries
contents (forwarded origin npdu) = address_octets origin ++ npdu
contents (register seconds) = big_bytes 2 seconds
contents read_foreign = []
contents (foreign entries) = flat_map foreign_octets entries
contents (delete_foreign address) = address_octets address
contents (distribute npdu) = npdu
contents (unicast npdu) = npdu
contents (broadcast npdu) = npdu

-- the fields fit their octets
abbrev pub HasFields : Datagram → Type 0
HasFields (outcome code) = code < 2 ^ 16
HasFields (write_distribution entries) = AllByRecursion IsDistributionEntry entries
HasFields (distribution entries) = AllByRecursion IsDistributionEntry entries
HasFields (forwarded origin npdu) = IsAddress origin
HasFields (register seconds) = seconds < 2 ^ 16
HasFields (foreign entries) = AllByRecursion IsForeignDevice entries
HasFields (delete_foreign address) = IsAddress address
HasFields _ = Unit {0}

-- the first octet of each datagram (J.2)
abbrev pub BACNET_IP : ℕ
BACNET_IP = 0x81

-- the octets of a header: the first one, the function, and the length of the whole (J.2)
abbrev pub HEADER_OCTETS : ℕ
HEADER_OCTETS = 4

-- the header of a datagram of this function and length (J.2)
abbrev pub header : Function → ℕ → List ℕ
header function whole = BACNET_IP ∷ (number_of function ∷ big_bytes 2 whole)

-- the number of octets behind the header
abbrev pub contents_length : Datagram → ℕ
contents_length (outcome code) = 2
contents_length (write_distribution entries) = 10 * length entries
contents_length read_distribution = 0
contents_length (distribution entries) = 10 * length entries
contents_length (forwarded origin npdu) = 6 + length npdu
contents_length (register seconds) = 2
contents_length read_foreign = 0
contents_length (foreign entries) = 10 * length entries
contents_length (delete_foreign address) = 6
contents_length (distribute npdu) = length npdu
contents_length (unicast npdu) = length npdu
contents_length (broadcast npdu) = length npdu

-- the length of the whole
abbrev pub whole_length : Datagram → ℕ
whole_length d = HEADER_OCTETS + contents_length d

-- the one spelling
abbrev pub canonical : Datagram → List ℕ
canonical d = header (function d) (whole_length d) ++ contents d

-- what has a spelling: the fields fit their octets, and the length of the whole its two
pub record IsSound (d : Datagram) : Type 0 where
  pub fields : HasFields d
  pub fits : whole_length d < 2 ^ 16

-- the octets, all of them, spell the datagram
pub record Spells (octets : List ℕ) (d : Datagram) : Type 0 where
  pub sound : IsSound d
  pub whole : length octets ≡ whole_length d
  pub parts : octets ≡ canonical d

-- the octets spell this datagram and no other
pub record OnlyDatagram (octets : List ℕ) (d : Datagram) : Type 0 where
  pub only : (e : Datagram) → Spells octets e → d ≡ e

-- no datagram is spelled
pub record NoDatagram (octets : List ℕ) : Type 0 where
  pub none : (d : Datagram) → Spells octets d → ⊥

-- what the code's datagram says
abbrev pub datagram_of : Bvll → Datagram
datagram_of (variant.Result code) = outcome (code_number code)
datagram_of (variant.WriteBroadcastDistributionTable table) = write_distribution (entries_of distribution_at table)
datagram_of variant.ReadBroadcastDistributionTable = read_distribution
datagram_of (variant.ReadBroadcastDistributionTableAck table) = distribution (entries_of distribution_at table)
datagram_of (variant.ForwardedNpdu origin npdu) = forwarded origin npdu.now
datagram_of (variant.RegisterForeignDevice seconds) = register seconds
datagram_of variant.ReadForeignDeviceTable = read_foreign
datagram_of (variant.ReadForeignDeviceTableAck table) = foreign (entries_of foreign_at table)
datagram_of (variant.DeleteForeignDeviceTableEntry address) = delete_foreign address
datagram_of (variant.DistributeBroadcastToNetwork npdu) = distribute npdu.now
datagram_of (variant.OriginalUnicastNpdu npdu) = unicast npdu.now
datagram_of (variant.OriginalBroadcastNpdu npdu) = broadcast npdu.now

-- the code of a result goes by its name
abbrev pub HasNamedCode : Bvll → Type 0
HasNamedCode (variant.Result code) = IsNamed code
HasNamedCode _ = Unit {0}
