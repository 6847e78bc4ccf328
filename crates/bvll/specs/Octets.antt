-- The number in two octets, with its laws.
use Rattle.std.proofs.Common.{◌≡◌, ℕ, ◌<◌, ◌≤◌, ◌^◌, List, [], ◌∷◌, length, take, refl, arith}
use Rattle.byteorder.specs.Endian.{big_bytes, big_number}
use Rattle.tags.specs.Number.{AreOctets}
use Rattle.tags.proofs.OctetLists.{cons_equal}

-- two octets are those of their number
pub two_octets : (octets : List ℕ) → AreOctets octets → 2 ≤ length octets →
    big_bytes 2 (big_number 2 octets) ≡ take 2 octets
two_octets [] fits le = absurd (omega arith)
two_octets (a ∷ []) fits le = absurd (omega arith)
two_octets (a ∷ b ∷ rest) fits le =
    cons_equal _ _ _ _ (omega (arith, fits 0, fits 1)) (cons_equal _ _ _ _ (omega (arith, fits 0, fits 1)) refl)

-- their number has sixteen bits
pub two_octets-lt : (octets : List ℕ) → AreOctets octets → big_number 2 octets < 2 ^ 16
two_octets-lt octets fits = omega (arith, fits 0, fits 1)
