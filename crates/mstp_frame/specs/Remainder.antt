-- The remainders that check a frame's header and data (Annex G), by long division of polynomials over two.
use Rattle.std.specs.Prelude.{◌≡◌, ℕ, zero, suc, ◌+◌, ◌*◌, ◌/◌, ◌%◌, ◌==◌, Bool, true, false, not, List, [], ◌∷◌, ◌++◌}
use Rattle.std.specs.Prelude.{length, flat_map, replicate, if◌then◌else◌, refl}
use Rattle.tags.specs.Number.{bit}

-- the sum of two polynomials over two, each the list of its coefficients from one highest power on
unfoldable pub sum : List Bool → List Bool → List Bool
sum [] bits = bits
sum (a ∷ bits) [] = []
sum (a ∷ front) (b ∷ bits) = (if a then not b else b) ∷ sum front bits

-- Long division: so many of the highest powers go, each that is there by taking off the divisor. The divisor's
-- own highest power is there and isn't written.
unfoldable pub divided : List Bool → ℕ → List Bool → List Bool
divided divisor zero bits = bits
divided divisor (suc n) [] = []
divided divisor (suc n) (bit ∷ bits) = divided divisor n (if bit then sum divisor bits else bits)

-- so many bits of a number, the least significant first
unfoldable pub bits_of : ℕ → ℕ → List Bool
bits_of zero x = []
bits_of (suc n) x = (x % 2 == 1) ∷ bits_of n (x / 2)

-- the number of these bits, the least significant first
unfoldable pub number_of : List Bool → ℕ
number_of [] = 0
number_of (b ∷ bits) = bit b + 2 * number_of bits

-- the octets' bits, with as many zeros behind them as the divisor has bits, and so many in front complemented
unfoldable pub dividend : ℕ → List ℕ → List Bool
dividend width octets = sum (replicate width true) (flat_map (bits_of 8) octets ++ replicate width false)

-- what is left of octets by long division; the coefficient of its highest power is the least significant bit
unfoldable pub remainder : List Bool → List ℕ → ℕ
remainder divisor octets = number_of (divided divisor (8 * length octets) (dividend (length divisor) octets))

-- x^8 + x^7 + 1 (Annex G.1)
abbrev pub header_divisor : List Bool
header_divisor = true ∷ replicate 6 false ++ true ∷ []

-- x^16 + x^12 + x^5 + 1 (Annex G.2)
abbrev pub data_divisor : List Bool
data_divisor = replicate 3 false ++ true ∷ replicate 6 false ++ true ∷ replicate 4 false ++ true ∷ []

unfoldable pub header_remainder : List ℕ → ℕ
header_remainder octets = remainder header_divisor octets

unfoldable pub data_remainder : List ℕ → ℕ
data_remainder octets = remainder data_divisor octets

-- what is left of one octet by long division, nothing complemented
unfoldable pub octet_remainder : List Bool → ℕ → ℕ
octet_remainder divisor octet = number_of (divided divisor 8 (bits_of 8 octet ++ replicate (length divisor) false))

-- the remainders of so many numbers from one on
unfoldable pub remainders_from : List Bool → ℕ → ℕ → List ℕ
remainders_from divisor zero octet = []
remainders_from divisor (suc n) octet = octet_remainder divisor octet ∷ remainders_from divisor n (octet + 1)

-- the remainders of the 256 octets
unfoldable pub octet_remainders : List Bool → List ℕ
octet_remainders divisor = remainders_from divisor 256 0

-- rows that a slip in a definition would break: the checks of the standard's examples (Annex G)
row_header : header_remainder (0x00 ∷ 0x10 ∷ 0x05 ∷ 0x00 ∷ 0x00 ∷ []) + 0x8C ≡ 255
unfolding sum divided bits_of number_of dividend remainder header_remainder
row_header = refl

row_header_whole : header_remainder (0x00 ∷ 0x10 ∷ 0x05 ∷ 0x00 ∷ 0x00 ∷ 0x8C ∷ []) ≡ 0x55
unfolding sum divided bits_of number_of dividend remainder header_remainder
row_header_whole = refl

row_data : data_remainder (0x01 ∷ 0x22 ∷ 0x30 ∷ []) + 0xBD10 ≡ 65535
unfolding sum divided bits_of number_of dividend remainder data_remainder
row_data = refl

row_data_whole : data_remainder (0x01 ∷ 0x22 ∷ 0x30 ∷ 0x10 ∷ 0xBD ∷ []) ≡ 0xF0B8
unfolding sum divided bits_of number_of dividend remainder data_remainder
row_data_whole = refl
