-- Numbers of contents octets are within the ranges of their types.
use Rattle.std.proofs.Common.{◌≡◌, ℕ, zero, suc, ◌^◌, ◌<◌, ◌≤◌, List, arith, inl, inr}
use Rattle.std.specs.Prelude.{FitsSigned}
use Rattle.std.specs.Int.{w32}
use Rattle.std.proofs.Math.Nat.{pow-le-pow_right}
use Rattle.std.proofs.lemmas.Bool.{cases_lt, lt-ltb, le-ltb}
use Rattle.std.proofs.lemmas.Int.{ints}
use Rattle.byteorder.specs.Numbers.{big_from-lt}
use Rattle.byteorder.specs.Endian.{big_number, twos_complement}
use Rattle.contents_octets.specs.Number.{AreOctets}

pub number_below : (n : ℕ) (octets : List ℕ) → n ≤ 4 → AreOctets octets → big_number n octets < 2 ^ 32
number_below n octets le fits =
    let a = big_from-lt 0 n octets fits in
    let b = pow-le-pow_right {n = 256} (omega arith) {i = n} {j = 4} le in
    omega (arith, a, b)

pub signed_fits : (n u : ℕ) → 0 < n → n ≤ 4 → u < 256 ^ n → FitsSigned w32 (twos_complement n u)
signed_fits zero u some few lt = absurd (omega arith)
signed_fits (suc zero) u some few lt =
    elim (cases_lt u 128) [ inl low ↦ rw (lt-ltb u 128 low) (omega (arith, ints)) | inr high ↦ rw (le-ltb u 128 high) (omega (arith, ints)) ]
signed_fits (suc (suc zero)) u some few lt =
    elim (cases_lt u 32768) [ inl low ↦ rw (lt-ltb u 32768 low) (omega (arith, ints)) | inr high ↦ rw (le-ltb u 32768 high) (omega (arith, ints)) ]
signed_fits (suc (suc (suc zero))) u some few lt =
    elim (cases_lt u (2 ^ 23)) [ inl low ↦ rw (lt-ltb u (2 ^ 23) low) (omega (arith, ints)) | inr high ↦ rw (le-ltb u (2 ^ 23) high) (omega (arith, ints)) ]
signed_fits (suc (suc (suc (suc zero)))) u some few lt =
    elim (cases_lt u (2 ^ 31)) [ inl low ↦ rw (lt-ltb u (2 ^ 31) low) (omega (arith, ints)) | inr high ↦ rw (le-ltb u (2 ^ 31) high) (omega (arith, ints)) ]
signed_fits (suc (suc (suc (suc (suc n))))) u some few lt = absurd (omega arith)
