-- Numbers and object identifiers, as the contents octets of a tag.
use Rattle.std.specs.Prelude.{◌≡◌, ℕ, ◌+◌, ◌*◌, ◌<◌, ◌≤◌, ◌^◌, Bool, true, false, ℤ, pos, negsuc, List, length}
use Rattle.std.specs.Prelude.{slice_index_or, nat_lt, if◌then◌else◌}
use Rattle.std.specs.Int.{w32, cast_unsigned}
use Rattle.byteorder.specs.Endian.{big_number, big_bytes, twos_complement}

-- each element is an octet
abbrev pub AreOctets : List ℕ → Type 0
AreOctets octets = (i : ℕ) → slice_index_or octets i 0 < 256

-- a bit: 1 where it is set, else 0
abbrev pub bit : Bool → ℕ
bit false = 0
bit true = 1

-- one to four octets of a number, most significant first, needless ones in front included (20.2.4)
pub record SpellsUnsigned (octets : List ℕ) (n : ℕ) : Type 0 where
  pub some : 0 < length octets
  pub few : length octets ≤ 4
  pub value : n ≡ big_number (length octets) octets

-- the same in two's complement (20.2.5)
pub record SpellsSigned (octets : List ℕ) (z : ℤ) : Type 0 where
  pub some : 0 < length octets
  pub few : length octets ≤ 4
  pub value : z ≡ twos_complement (length octets) (big_number (length octets) octets)

-- ten bits of the object type, and twenty-two of the instance
abbrev pub IsSoundObject : ℕ → ℕ → Type 0
IsSoundObject object_type instance = (object_type < 1024) × (instance < 2 ^ 22)

-- four octets: ten bits of the object type, then twenty-two of the instance (20.2.14)
pub record SpellsObject (octets : List ℕ) (object_type instance : ℕ) : Type 0 where
  pub four : length octets ≡ 4
  pub sound : IsSoundObject object_type instance
  pub value : big_number 4 octets ≡ object_type * 2 ^ 22 + instance

-- the four octets of an object identifier (20.2.14)
abbrev pub object_octets : ℕ → ℕ → List ℕ
object_octets object_type instance = big_bytes 4 (object_type * 2 ^ 22 + instance)

-- the fewest octets that hold a number below 2^32
unfoldable pub width : ℕ → ℕ
width n = if nat_lt n 256 then 1 else (if nat_lt n 65536 then 2 else (if nat_lt n 16777216 then 3 else 4))

-- the shortest contents of a number (20.2.4)
abbrev pub unsigned_octets : ℕ → List ℕ
unsigned_octets n = big_bytes (width n) n

-- how far a signed number is from 0 or -1
abbrev pub distance : ℤ → ℕ
distance (pos n) = n
distance (negsuc n) = n

-- the fewest octets that hold a signed number, which needs one bit for its sign
unfoldable pub signed_width : ℤ → ℕ
signed_width z = if nat_lt (distance z) 128 then 1 else (if nat_lt (distance z) 32768 then 2
    else (if nat_lt (distance z) 8388608 then 3 else 4))

-- the shortest contents of a signed number (20.2.5)
abbrev pub signed_octets : ℤ → List ℕ
signed_octets z = big_bytes (signed_width z) (cast_unsigned w32 z)
