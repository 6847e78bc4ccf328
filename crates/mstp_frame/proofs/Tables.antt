-- The tables have the remainders of the octets, and lead from octet to octet.
use Rattle.std.proofs.Common.{◌≡◌, ℕ, zero, suc, ◌+◌, ◌*◌, ◌/◌, ◌%◌, ◌<◌, ◌^◌, Bool, false, List, ◌++◌, ◌≤◌, length, replicate, drop, drop-cons, slice_index}
use Rattle.std.proofs.Common.{refl, ap, sym, arith, ◌∙◌}
use Rattle.std.specs.Int.Bits.{bit_xor, bit_and, xor_zero_l}
use Rattle.std.proofs.lemmas.Nat.{and_mask, mod-pow-add}
use Rattle.std.proofs.lemmas.List.{drop_all}
use Rattle.mstp_frame.specs.declared.check.TheConstants.{HEADER_TABLE, DATA_TABLE}
use Rattle.mstp_frame.specs.Remainder.{sum, divided, bits_of, number_of, header_divisor, data_divisor, octet_remainder, remainders_from, octet_remainders}
use Rattle.mstp_frame.specs.Remainder.{header_remainder, data_remainder}
use Rattle.mstp_frame.proofs.Division.{register, remainder_is}

pub header_table : HEADER_TABLE ≡ octet_remainders header_divisor
unfolding sum divided bits_of number_of octet_remainder remainders_from octet_remainders
header_table = refl

pub data_table : DATA_TABLE ≡ octet_remainders data_divisor
unfolding sum divided bits_of number_of octet_remainder remainders_from octet_remainders
data_table = refl

remainders_from-at : (d : List Bool) (n octet i : ℕ) → i < n → slice_index (remainders_from d n octet) i ≡ octet_remainder d (octet + i)
unfolding remainders_from
remainders_from-at d zero octet i lt = absurd (omega (arith, lt))
remainders_from-at d (suc n) octet zero lt = let e : octet ≡ octet + zero = omega arith in ap (octet_remainder d) e
remainders_from-at d (suc n) octet (suc i) lt =
    let e : octet + 1 + i ≡ octet + suc i = omega arith in
    remainders_from-at d n (octet + 1) i (omega (arith, lt)) ∙ ap (octet_remainder d) e

entry_at : (d : List Bool) (i : ℕ) → i < 256 → slice_index (octet_remainders d) i ≡ octet_remainder d i
unfolding octet_remainders
entry_at d i lt = let e : 0 + i ≡ i = omega arith in remainders_from-at d 256 0 i lt ∙ ap (octet_remainder d) e

bits_of-mod : (k x : ℕ) → bits_of k (x % 2 ^ k) ≡ bits_of k x
unfolding bits_of
bits_of-mod zero x = refl
bits_of-mod (suc k) x =
    let more : suc k ≡ k + 1 = omega arith in
    let low : x % 2 ^ suc k ≡ (x / 2 % 2 ^ k) * 2 + x % 2 = ap (λ n. x % 2 ^ n) more ∙ mod-pow-add x k 1 in
    let bit : x % 2 ^ suc k % 2 ≡ x % 2 = omega (arith, low) in
    let rest : x % 2 ^ suc k / 2 ≡ x / 2 % 2 ^ k = omega (arith, low) in
    rw (bit, rest, bits_of-mod k (x / 2)) refl

pub octet_remainder-mod : (d : List Bool) (x : ℕ) → octet_remainder d (x % 256) ≡ octet_remainder d x
unfolding octet_remainder
octet_remainder-mod d x = ap (λ bits. number_of (divided d 8 (bits ++ replicate (length d) false))) (bits_of-mod 8 x)

-- the entries of the tables
pub header_entry : (octet : ℕ) → octet < 256 → slice_index HEADER_TABLE octet ≡ octet_remainder header_divisor octet
header_entry octet fits = ap (λ t. slice_index t octet) header_table ∙ entry_at header_divisor octet fits

pub data_entry : (number : ℕ) → slice_index DATA_TABLE (bit_and number 255) ≡ octet_remainder data_divisor number
data_entry number =
    let low : bit_and number 255 ≡ number % 256 = and_mask number 8 in
    ap (λ t. slice_index t (bit_and number 255)) data_table ∙ ap (slice_index (octet_remainders data_divisor)) low
    ∙ entry_at data_divisor (number % 256) (omega arith) ∙ octet_remainder-mod data_divisor number

pub ruleset entries = (header_entry, data_entry)

-- one more octet
pub one_more : (d : List Bool) (left i : ℕ) (octets : List ℕ) → i < length octets →
    register d (bit_xor (left / 256) (octet_remainder d (bit_xor left (slice_index octets i)))) (drop (i + 1) octets) ≡ register d left (drop i octets)
unfolding register
one_more d left i octets lt =
    let next = bit_xor (left / 256) (octet_remainder d (bit_xor left (slice_index octets i))) in
    let e : i + 1 ≡ suc i = omega arith in
    ap (λ n. register d next (drop n octets)) e ∙ ap (register d left) (sym (drop-cons octets i 0 lt))

-- of eight bits none is left over
pub header_next : (left i : ℕ) (octets : List ℕ) → left < 256 → i < length octets →
    register header_divisor (octet_remainder header_divisor (bit_xor left (slice_index octets i))) (drop (i + 1) octets)
    ≡ register header_divisor left (drop i octets)
header_next left i octets fits lt =
    let none : 0 ≡ left / 256 = omega arith in
    let entry = octet_remainder header_divisor (bit_xor left (slice_index octets i)) in
    ap (λ n. register header_divisor n (drop (i + 1) octets)) (sym (xor_zero_l entry) ∙ ap (λ n. bit_xor n entry) none)
    ∙ one_more header_divisor left i octets lt

pub header_is : (octets : List ℕ) → header_remainder octets ≡ register header_divisor 255 octets
unfolding header_remainder number_of
header_is octets = remainder_is header_divisor octets (omega arith)

pub data_is : (octets : List ℕ) → data_remainder octets ≡ register data_divisor 65535 octets
unfolding data_remainder number_of
data_is octets = remainder_is data_divisor octets (omega arith)

pub all_taken : (d : List Bool) (left i : ℕ) (octets : List ℕ) → length octets ≤ i → register d left (drop i octets) ≡ left
unfolding register
all_taken d left i octets le = ap (register d left) (drop_all i octets le)

pub ruleset header_steps = (header_next, header_is, all_taken)

pub ruleset data_steps = (one_more, data_is, all_taken)
