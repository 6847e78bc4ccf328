-- Numbers in two and four octets, read and written again.
use Rattle.std.proofs.Common.{◌≡◌, ℕ, zero, suc, ◌-◌, ◌≤◌, List, [], ◌∷◌, ◌++◌, length, drop, refl, arith}
use Rattle.byteorder.specs.Endian.{big_number, big_bytes}
use Rattle.tags.specs.Number.{AreOctets}
use Rattle.tags.proofs.OctetLists.{cons_equal}

pub two_again : (bytes : List ℕ) → 2 ≤ length bytes → AreOctets bytes → bytes ≡ big_bytes 2 (big_number 2 bytes) ++ drop 2 bytes
two_again [] le fits = absurd (omega arith)
two_again (a ∷ []) le fits = absurd (omega arith)
two_again (a ∷ b ∷ rest) le fits =
    cons_equal a _ _ _ (omega (arith, fits 0, fits 1)) (cons_equal b _ _ _ (omega (arith, fits 0, fits 1)) refl)

pub four_again : (bytes : List ℕ) → 4 ≤ length bytes → AreOctets bytes → bytes ≡ big_bytes 4 (big_number 4 bytes) ++ drop 4 bytes
four_again [] le fits = absurd (omega arith)
four_again (a ∷ []) le fits = absurd (omega arith)
four_again (a ∷ b ∷ []) le fits = absurd (omega arith)
four_again (a ∷ b ∷ c ∷ []) le fits = absurd (omega arith)
four_again (a ∷ b ∷ c ∷ d ∷ rest) le fits =
    cons_equal a _ _ _ (omega (arith, fits 0, fits 1, fits 2, fits 3))
    (cons_equal b _ _ _ (omega (arith, fits 0, fits 1, fits 2, fits 3))
    (cons_equal c _ _ _ (omega (arith, fits 0, fits 1, fits 2, fits 3)) (cons_equal d _ _ _ (omega (arith, fits 0, fits 1, fits 2, fits 3)) refl)))

-- the last octets of a number
pub last_octets : (k n : ℕ) → k ≤ 4 → drop (4 - k) (big_bytes 4 n) ≡ big_bytes k n
last_octets zero n le = refl
last_octets (suc zero) n le = refl
last_octets (suc (suc zero)) n le = refl
last_octets (suc (suc (suc zero))) n le = refl
last_octets (suc (suc (suc (suc zero)))) n le = refl
last_octets (suc (suc (suc (suc (suc k))))) n le = absurd (omega arith)
