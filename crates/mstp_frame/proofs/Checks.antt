-- With its check octets what is left of a header is 55, and of data F0B8; and with no others.
use Rattle.std.proofs.Common.{◌≡◌, ℕ, suc, ◌+◌, ◌*◌, ◌-◌, ◌/◌, ◌%◌, ◌==◌, ◌<◌, ◌≤◌, ◌^◌, Bool, true, false, List, [], ◌∷◌, ◌++◌, length, replicate, refl, ap}
use Rattle.std.proofs.Common.{sym, subst, arith, ◌∙◌}
use Rattle.std.specs.Int.Bits.{bit_xor, xor_zero_l}
use Rattle.std.proofs.lemmas.Nat.{xor_lt, xor_shr, xor_mod, xor_comm}
use Rattle.std.proofs.Math.Nat.{pow-succ'}
use Rattle.std.proofs.lemmas.Nat.Bits.{bit_at_xor, bit_at-lt, same_from_bits}
use Rattle.std.proofs.lemmas.Bool.{agree_below_at, eqb-true, eq-eqb}
use Rattle.std.proofs.lemmas.List.{length-replicate, length-append}
use Rattle.byteorder.specs.Endian.{little_bytes}
use Rattle.tags.proofs.OctetLists.{cons_equal}
use Rattle.mstp_frame.specs.Remainder.{sum, divided, bits_of, number_of, header_divisor, data_divisor, octet_remainder, header_remainder, data_remainder}
use Rattle.mstp_frame.proofs.Division.{register, length-divided, length-bits_of, bit-lt}
use Rattle.mstp_frame.proofs.Tables.{header_is, data_is, octet_remainder-mod}

-- to add twice is to add nothing
xor_back : (a b : ℕ) → bit_xor a (bit_xor a b) ≡ b
xor_back a b = same_from_bits (bit_xor a (bit_xor a b)) b (λ i. bit_at_xor a (bit_xor a b) i ∙ omega (arith, bit_at_xor a b i, bit_at-lt a i, bit_at-lt b i))

number_of-lt : (bits : List Bool) → number_of bits < 2 ^ length bits
unfolding number_of
number_of-lt [] = omega arith
number_of-lt (b ∷ bits) =
    let rest = number_of-lt bits in
    let twice : 2 ^ suc (length bits) ≡ 2 * 2 ^ length bits = pow-succ' 2 (length bits) in
    rw twice (omega (arith, rest, bit-lt b))

octet_remainder-lt : (d : List Bool) (x : ℕ) → octet_remainder d x < 2 ^ length d
unfolding octet_remainder
octet_remainder-lt d x =
    let z = bits_of 8 x ++ replicate (length d) false in
    let long : length z ≡ 8 + length d = simp length-append (omega (arith, length-bits_of 8 x, length-replicate (length d) false)) in
    let left = length-divided d 8 (length d) z long in
    subst (λ n. number_of (divided d 8 z) < 2 ^ n) left (number_of-lt (divided d 8 z))

register-lt : (d : List Bool) (octets : List ℕ) (left : ℕ) → left < 2 ^ length d → register d left octets < 2 ^ length d
unfolding register
register-lt d [] left lt = lt
register-lt d (octet ∷ octets) left lt =
    let less : left / 256 ≤ left = omega arith in
    let next = bit_xor (left / 256) (octet_remainder d (bit_xor left octet)) in
    register-lt d octets next (xor_lt (length d) (left / 256) (octet_remainder d (bit_xor left octet)) (omega (arith, lt, less))
    (octet_remainder-lt d (bit_xor left octet)))

register-append : (d : List Bool) (xs ys : List ℕ) (left : ℕ) → register d left (xs ++ ys) ≡ register d (register d left xs) ys
unfolding register
register-append d [] ys left = refl
register-append d (x ∷ xs) ys left = register-append d xs ys (bit_xor (left / 256) (octet_remainder d (bit_xor left x)))

pub header_remainder-lt : (octets : List ℕ) → header_remainder octets < 256
header_remainder-lt octets = subst (λ n. n < 256) (sym (header_is octets)) (register-lt header_divisor octets 255 (omega arith))

pub data_remainder-lt : (octets : List ℕ) → data_remainder octets < 65536
data_remainder-lt octets = subst (λ n. n < 65536) (sym (data_is octets)) (register-lt data_divisor octets 65535 (omega arith))

-- what is left of one more octet
next : List Bool → ℕ → ℕ → ℕ
next d left octet = bit_xor (left / 256) (octet_remainder d (bit_xor left octet))

low_part : (d : List Bool) (left octet x : ℕ) → octet < 256 → bit_xor (left % 256) octet ≡ x → next d left octet ≡ bit_xor (left / 256) (octet_remainder d x)
unfolding next
low_part d left octet x fits e =
    let same : octet % 256 ≡ octet = omega arith in
    let low : bit_xor left octet % 256 ≡ x = xor_mod left octet 8 ∙ ap (bit_xor (left % 256)) same ∙ e in
    ap (bit_xor (left / 256)) (sym (octet_remainder-mod d (bit_xor left octet)) ∙ ap (octet_remainder d) low)

header_left : (octets : List ℕ) (check : ℕ) → header_remainder (octets ++ check ∷ []) ≡ next header_divisor (header_remainder octets) check
unfolding register next
header_left octets check = header_is (octets ++ check ∷ []) ∙ register-append header_divisor octets (check ∷ []) 255
    ∙ ap (λ n. next header_divisor n check) (sym (header_is octets))

data_left : (octets : List ℕ) (low high : ℕ) →
    data_remainder (octets ++ low ∷ high ∷ []) ≡ next data_divisor (next data_divisor (data_remainder octets) low) high
unfolding register next
data_left octets low high = data_is (octets ++ low ∷ high ∷ []) ∙ register-append data_divisor octets (low ∷ high ∷ []) 65535
    ∙ ap (λ n. next data_divisor (next data_divisor n low) high) (sym (data_is octets))

-- what the checker computes for each of the 256 octets
complement : (x : ℕ) → x < 256 → bit_xor x (255 - x) ≡ 255
complement x lt = eqb-true _ _ (agree_below_at (λ n. bit_xor n (255 - n) == 255) (λ n. true) 256 x refl lt)

-- 87 is the octet of which F0B7 is left, 255 that of which 0F78 is
high_complement : (x : ℕ) → x < 256 → bit_xor (bit_xor x 0x78) (255 - x) ≡ 0x87
high_complement x lt = eqb-true _ _ (agree_below_at (λ n. bit_xor (bit_xor n 0x78) (255 - n) == 0x87) (λ n. true) 256 x refl lt)

header_agrees : (x : ℕ) → x < 256 → (octet_remainder header_divisor x == 0x55) ≡ (x == 255)
unfolding octet_remainder sum divided bits_of number_of
header_agrees x lt = agree_below_at (λ n. octet_remainder header_divisor n == 0x55) (λ n. n == 255) 256 x refl lt

first_agrees : (x : ℕ) → x < 256 → (octet_remainder data_divisor x / 256 == 0x0F) ≡ (x == 255)
unfolding octet_remainder sum divided bits_of number_of
first_agrees x lt = agree_below_at (λ n. octet_remainder data_divisor n / 256 == 0x0F) (λ n. n == 255) 256 x refl lt

last_agrees : (x : ℕ) → x < 256 → (octet_remainder data_divisor x / 256 == 0xF0) ≡ (x == 0x87)
unfolding octet_remainder sum divided bits_of number_of
last_agrees x lt = agree_below_at (λ n. octet_remainder data_divisor n / 256 == 0xF0) (λ n. n == 0x87) 256 x refl lt

header_entry : octet_remainder header_divisor 255 ≡ 0x55
unfolding octet_remainder sum divided bits_of number_of
header_entry = refl

first_entry : octet_remainder data_divisor 255 ≡ 0x0F78
unfolding octet_remainder sum divided bits_of number_of
first_entry = refl

last_entry : octet_remainder data_divisor 0x87 ≡ 0xF0B7
unfolding octet_remainder sum divided bits_of number_of
last_entry = refl

-- from what was added to the sum
xor_from : (a b c d : ℕ) → bit_xor a b ≡ c → bit_xor a d ≡ c → b ≡ d
xor_from a b c d e f = sym (xor_back a b) ∙ ap (bit_xor a) (e ∙ sym f) ∙ xor_back a d

-- a header with its check
pub header_checks : (octets : List ℕ) → header_remainder (octets ++ (255 - header_remainder octets) ∷ []) ≡ 0x55
header_checks octets =
    let left = header_remainder octets in
    let lt = header_remainder-lt octets in
    let same : left % 256 ≡ left = omega (arith, lt) in
    let none : left / 256 ≡ 0 = omega (arith, lt) in
    header_left octets (255 - left) ∙ low_part header_divisor left (255 - left) 255 (omega arith) (ap (λ n. bit_xor n (255 - left)) same ∙ complement left lt)
    ∙ ap (λ n. bit_xor n (octet_remainder header_divisor 255)) none ∙ xor_zero_l _ ∙ header_entry

pub header_check_is : (octets : List ℕ) (check : ℕ) → check < 256 → header_remainder (octets ++ check ∷ []) ≡ 0x55 → check ≡ 255 - header_remainder octets
header_check_is octets check fits e =
    let left = header_remainder octets in
    let lt = header_remainder-lt octets in
    let same : left % 256 ≡ left = omega (arith, lt) in
    let none : left / 256 ≡ 0 = omega (arith, lt) in
    let x = bit_xor left check in
    let entry : octet_remainder header_divisor x ≡ 0x55 = sym (xor_zero_l _) ∙ ap (λ n. bit_xor n (octet_remainder header_divisor x)) (sym none)
    ∙ sym (low_part header_divisor left check x fits (ap (λ n. bit_xor n check) same)) ∙ sym (header_left octets check) ∙ e in
    let sums : x ≡ 255 = eqb-true _ _ (sym (header_agrees x (xor_lt 8 left check lt fits)) ∙ eq-eqb _ _ entry) in
    xor_from left check 255 (255 - left) sums (complement left lt)

-- what is left behind the first check octet, where that is the complement
first_half : (h : ℕ) → h < 256 → (bit_xor h 0x0F78 / 256 ≡ 0x0F) × (bit_xor h 0x0F78 % 256 ≡ bit_xor h 0x78)
first_half h lt =
    let none : h / 256 ≡ 0 = omega (arith, lt) in
    let same : h % 256 ≡ h = omega (arith, lt) in
    (xor_shr h 0x0F78 8 ∙ ap (λ n. bit_xor n 0x0F) none, xor_mod h 0x0F78 8 ∙ ap (λ n. bit_xor n 0x78) same)

-- data with their checks
pub data_checks : (octets : List ℕ) → data_remainder (octets ++ little_bytes 2 (65535 - data_remainder octets)) ≡ 0xF0B8
data_checks octets =
    let left = data_remainder octets in
    let lt = data_remainder-lt octets in
    let low = 255 - left % 256 in
    let high = 255 - left / 256 in
    let half = first_half (left / 256) (omega (arith, lt)) in
    let low_is : (65535 - left) % 256 ≡ low = omega (arith, lt) in
    let high_is : (65535 - left) / 256 % 256 ≡ high = omega (arith, lt) in
    let first : next data_divisor left low ≡ bit_xor (left / 256) 0x0F78 =
    low_part data_divisor left low 255 (omega arith) (complement (left % 256) (omega arith)) ∙ ap (bit_xor (left / 256)) first_entry in
    let last : next data_divisor (bit_xor (left / 256) 0x0F78) high ≡ 0xF0B8 =
    low_part data_divisor (bit_xor (left / 256) 0x0F78) high 0x87 (omega arith)
    (ap (λ n. bit_xor n high) half.1 ∙ high_complement (left / 256) (omega (arith, lt)))
    ∙ ap (λ n. bit_xor n (octet_remainder data_divisor 0x87)) half.0 ∙ ap (bit_xor 0x0F) last_entry in
    ap (λ n. data_remainder (octets ++ n ∷ (65535 - left) / 256 % 256 ∷ [])) low_is ∙ ap (λ n. data_remainder (octets ++ low ∷ n ∷ [])) high_is
    ∙ data_left octets low high ∙ ap (λ n. next data_divisor n high) first ∙ last

-- the high octet of what is left of one octet more
high_part : (left octet : ℕ) → left < 65536 → octet < 256 → next data_divisor left octet / 256 ≡ octet_remainder data_divisor (bit_xor (left % 256) octet) / 256
high_part left octet lt fits =
    let entry = octet_remainder data_divisor (bit_xor (left % 256) octet) in
    let none : left / 256 / 256 ≡ 0 = omega (arith, lt) in
    ap (λ n. n / 256) (low_part data_divisor left octet (bit_xor (left % 256) octet) fits refl) ∙ xor_shr (left / 256) entry 8
    ∙ ap (λ n. bit_xor n (entry / 256)) none ∙ xor_zero_l (entry / 256)

data_check_from : (left low high : ℕ) → left < 65536 → low < 256 → high < 256 → next data_divisor (next data_divisor left low) high ≡ 0xF0B8 →
    (low ≡ 255 - left % 256) × (high ≡ 255 - left / 256)
unfolding next
data_check_from left low high lt fits_low fits_high e =
    let first = next data_divisor left low in
    let first-lt : first < 65536 = xor_lt 16 (left / 256) (octet_remainder data_divisor (bit_xor left low)) (omega (arith, lt))
    (octet_remainder-lt data_divisor (bit_xor left low)) in
    let x = bit_xor (first % 256) high in
    let x_is : x ≡ 0x87 = eqb-true _ _ (sym (last_agrees x (xor_lt 8 (first % 256) high (omega arith) fits_high))
    ∙ eq-eqb _ _ (sym (high_part first high first-lt fits_high) ∙ ap (λ n. n / 256) e)) in
    let sum_is : bit_xor (first / 256) 0xF0B7 ≡ 0xF0B8 =
    ap (bit_xor (first / 256)) (sym last_entry) ∙ sym (low_part data_divisor first high 0x87 fits_high x_is) ∙ e in
    let half_is : first / 256 ≡ 0x0F = xor_from 0xF0B7 (first / 256) 0xF0B8 0x0F (xor_comm 0xF0B7 (first / 256) ∙ sum_is) refl in
    let y = bit_xor (left % 256) low in
    let y_is : y ≡ 255 = eqb-true _ _ (sym (first_agrees y (xor_lt 8 (left % 256) low (omega arith) fits_low))
    ∙ eq-eqb _ _ (sym (high_part left low lt fits_low) ∙ half_is)) in
    let first_is : first ≡ bit_xor (left / 256) 0x0F78 = low_part data_divisor left low 255 fits_low y_is ∙ ap (bit_xor (left / 256)) first_entry in
    let half = first_half (left / 256) (omega (arith, lt)) in
    let z_is : bit_xor (bit_xor (left / 256) 0x78) high ≡ 0x87 = ap (λ n. bit_xor n high) (sym half.1 ∙ ap (λ n. n % 256) (sym first_is)) ∙ x_is in (
      xor_from (left % 256) low 255 (255 - left % 256) y_is (complement (left % 256) (omega arith)),
      xor_from (bit_xor (left / 256) 0x78) high 0x87 (255 - left / 256) z_is (high_complement (left / 256) (omega (arith, lt))),
    )

pub data_check_is : (octets : List ℕ) (low high : ℕ) → low < 256 → high < 256 → data_remainder (octets ++ low ∷ high ∷ []) ≡ 0xF0B8 →
    low ∷ high ∷ [] ≡ little_bytes 2 (65535 - data_remainder octets)
data_check_is octets low high fits_low fits_high e =
    let left = data_remainder octets in
    let lt = data_remainder-lt octets in
    let found = data_check_from left low high lt fits_low fits_high (sym (data_left octets low high) ∙ e) in
    cons_equal _ _ _ _ (omega (arith, found, lt)) (cons_equal _ _ _ _ (omega (arith, found, lt)) refl)
