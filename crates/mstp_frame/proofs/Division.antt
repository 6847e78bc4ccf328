-- Long division octet by octet: what is left of octets and one more depends on what is left of the octets, and on
-- that one, alone.
use Rattle.std.proofs.Common.{◌≡◌, ℕ, zero, suc, ◌+◌, ◌*◌, ◌/◌, ◌%◌, ◌==◌, ◌≤◌, ◌<◌, ◌^◌, Bool, true, false, not, if◌then◌else◌, List, [], ◌∷◌, ◌++◌, length}
use Rattle.std.proofs.Common.{take, drop, flat_map, replicate, refl, ap, sym, arith, ◌∙◌, append_assoc, length-append}
use Rattle.std.proofs.lemmas.List.{length-replicate, length-drop, length-take, take-append-drop}
use Rattle.std.specs.Int.Bits.{bit_xor, xor_zero_l}
use Rattle.std.proofs.lemmas.Nat.{xor_block, xor_mod, xor_shr, shr-shr}
use Rattle.std.proofs.Math.Nat.{zero-div}
use Rattle.tags.specs.Number.{bit}
use Rattle.mstp_frame.specs.Remainder.{sum, divided, bits_of, number_of, dividend, remainder, octet_remainder}

-- sums are taken in either order
plus_either : (a b c : Bool) → (if a then not (if b then not c else c) else (if b then not c else c))
    ≡ (if b then not (if a then not c else c) else (if a then not c else c))
plus_either true true c = refl
plus_either true false c = refl
plus_either false true c = refl
plus_either false false c = refl

plus_all : (a b c : Bool) → (if a then not (if b then not c else c) else (if b then not c else c)) ≡ (if (if a then not b else b) then not c else c)
plus_all true true true = refl
plus_all true true false = refl
plus_all true false c = refl
plus_all false true c = refl
plus_all false false c = refl

sum_either : (p q r : List Bool) → sum p (sum q r) ≡ sum q (sum p r)
unfolding sum
sum_either [] q r = refl
sum_either (a ∷ p) [] r = refl
sum_either (a ∷ p) (b ∷ q) [] = refl
sum_either (a ∷ p) (b ∷ q) (c ∷ r) = rw (plus_either a b c, sum_either p q r) refl

sum_all : (p q r : List Bool) → length p ≤ length q → sum p (sum q r) ≡ sum (sum p q) r
unfolding sum
sum_all [] q r le = refl
sum_all (a ∷ p) [] r le = absurd (omega arith)
sum_all (a ∷ p) (b ∷ q) [] le = refl
sum_all (a ∷ p) (b ∷ q) (c ∷ r) le = rw (plus_all a b c, sum_all p q r (omega (arith, le))) refl

length-sum : (p q : List Bool) → length (sum p q) ≡ length q
unfolding sum
length-sum [] q = refl
length-sum (a ∷ p) [] = refl
length-sum (a ∷ p) (b ∷ q) = ap suc (length-sum p q)

sum_parts : (p q r s : List Bool) → length p ≡ length r → sum (p ++ q) (r ++ s) ≡ sum p r ++ sum q s
unfolding sum
sum_parts [] q [] s e = refl
sum_parts [] q (c ∷ r) s e = absurd (omega arith)
sum_parts (a ∷ p) q [] s e = absurd (omega arith)
sum_parts (a ∷ p) q (c ∷ r) s e = ap (λ rest. (if a then not c else c) ∷ rest) (sum_parts p q r s (omega (arith, e)))

sum_nothing : (n : ℕ) (q : List Bool) → sum (replicate n false) q ≡ q
unfolding sum
sum_nothing zero q = refl
sum_nothing (suc n) [] = refl
sum_nothing (suc n) (b ∷ q) = ap (λ rest. b ∷ rest) (sum_nothing n q)

sum_to_nothing : (n : ℕ) (p : List Bool) → length p ≡ n → sum p (replicate n false) ≡ p
unfolding sum
sum_to_nothing zero [] e = refl
sum_to_nothing zero (a ∷ p) e = absurd (omega arith)
sum_to_nothing (suc n) [] e = absurd (omega arith)
sum_to_nothing (suc n) (true ∷ p) e = ap (λ rest. true ∷ rest) (sum_to_nothing n p (omega (arith, e)))
sum_to_nothing (suc n) (false ∷ p) e = ap (λ rest. false ∷ rest) (sum_to_nothing n p (omega (arith, e)))

pub length-divided : (d : List Bool) (k m : ℕ) (z : List Bool) → length z ≡ k + m → length (divided d k z) ≡ m
unfolding divided
length-divided d zero m z e = e ∙ omega arith
length-divided d (suc k) m [] e = absurd (omega (arith, e))
length-divided d (suc k) m (true ∷ z) e = length-divided d k m (sum d z) (omega (arith, e, length-sum d z))
length-divided d (suc k) m (false ∷ z) e = length-divided d k m z (omega (arith, e))

nothing_divided : (d : List Bool) (k : ℕ) → divided d k [] ≡ []
unfolding divided
nothing_divided d zero = refl
nothing_divided d (suc k) = refl

divided_twice : (d : List Bool) (k m : ℕ) (z : List Bool) → divided d (k + m) z ≡ divided d m (divided d k z)
unfolding divided
divided_twice d zero m z = let e : zero + m ≡ m = omega arith in ap (λ n. divided d n z) e
divided_twice d (suc k) m [] = nothing_divided d (suc k + m) ∙ sym (nothing_divided d m)
divided_twice d (suc k) m (true ∷ z) =
    let e : suc k + m ≡ suc (k + m) = omega arith in ap (λ n. divided d n (true ∷ z)) e ∙ divided_twice d k m (sum d z)
divided_twice d (suc k) m (false ∷ z) =
    let e : suc k + m ≡ suc (k + m) = omega arith in ap (λ n. divided d n (false ∷ z)) e ∙ divided_twice d k m z

-- what stands behind the powers that go is added in the end
divided-sum : (d : List Bool) (k : ℕ) (z w : List Bool) → length z ≡ k + length d → divided d k (sum z (replicate k false ++ w)) ≡ sum (divided d k z) w
unfolding divided sum
divided-sum d zero z w e = refl
divided-sum d (suc k) [] w e = absurd (omega (arith, e))
divided-sum d (suc k) (true ∷ z) w e =
    ap (divided d k) (sum_all d z (replicate k false ++ w) (omega (arith, e))) ∙ divided-sum d k (sum d z) w (omega (arith, e, length-sum d z))
divided-sum d (suc k) (false ∷ z) w e = divided-sum d k z w (omega (arith, e))

pub length-bits_of : (k x : ℕ) → length (bits_of k x) ≡ k
unfolding bits_of
length-bits_of zero x = refl
length-bits_of (suc k) x = ap suc (length-bits_of k (x / 2))

-- what is left where this was left, and one more octet comes
abbrev next_left : List Bool → List Bool → ℕ → List Bool
next_left d left octet = sum (drop 8 left) (divided d 8 (sum (take 8 left) (bits_of 8 octet) ++ replicate (length d) false))

length-next : (d left : List Bool) (octet : ℕ) → length left ≡ length d → 8 ≤ length d → length (next_left d left octet) ≡ length d
length-next d left octet e eight =
    let front = sum (take 8 left) (bits_of 8 octet) in
    let z = front ++ replicate (length d) false in
    let long : length z ≡ 8 + length d = simp length-append
    (omega (arith, length-sum (take 8 left) (bits_of 8 octet), length-bits_of 8 octet, length-replicate (length d) false)) in
    length-sum (drop 8 left) (divided d 8 z) ∙ length-divided d 8 (length d) z long

one_octet : (d left more : List Bool) (octet : ℕ) → length left ≡ length d → 8 ≤ length d →
    divided d 8 (sum left (bits_of 8 octet ++ more)) ≡ sum (next_left d left octet) more
one_octet d left more octet e eight =
    let bits = bits_of 8 octet in
    let front = sum (take 8 left) bits in
    let nothing = replicate (length d) false in
    let z = front ++ nothing in
    let rest = sum (drop 8 left) more in
    let eight_bits = length-bits_of 8 octet in
    let few : length (take 8 left) ≡ 8 = length-take 8 left ∙ omega (arith, e, eight) in
    let eight_in_front : length front ≡ 8 = length-sum (take 8 left) bits ∙ eight_bits in
    let long : length z ≡ 8 + length d = simp length-append (omega (arith, eight_in_front, length-replicate (length d) false)) in
    let start : sum left (bits ++ more) ≡ front ++ rest =
    ap (λ p. sum p (bits ++ more)) (sym (take-append-drop 8 left)) ∙ sum_parts (take 8 left) (drop 8 left) bits more (few ∙ sym eight_bits) in
    let same : sum z (replicate 8 false ++ rest) ≡ front ++ rest =
    sum_parts front nothing (replicate 8 false) rest (eight_in_front ∙ sym (length-replicate 8 false))
    ∙ ap (λ p. p ++ sum nothing rest) (sum_to_nothing 8 front eight_in_front) ∙ ap (λ p. front ++ p) (sum_nothing (length d) rest) in
    let shorter : length (drop 8 left) ≤ length (divided d 8 z) = omega (arith, length-drop 8 left, length-divided d 8 (length d) z long, e) in
    ap (divided d 8) (start ∙ sym same) ∙ divided-sum d 8 z rest long
    ∙ sum_either (divided d 8 z) (drop 8 left) more ∙ sum_all (drop 8 left) (divided d 8 z) more shorter

-- what is left where this was left, and more octets come
all_left : List Bool → List Bool → List ℕ → List Bool
all_left d left [] = left
all_left d left (octet ∷ octets) = all_left d (next_left d left octet) octets

all_octets : (d left : List Bool) (octets : List ℕ) → length left ≡ length d → 8 ≤ length d →
    divided d (8 * length octets) (sum left (flat_map (bits_of 8) octets ++ replicate (length d) false)) ≡ all_left d left octets
unfolding divided all_left
all_octets d left [] e eight = sum_to_nothing (length d) left e
all_octets d left (octet ∷ octets) e eight =
    let more = flat_map (bits_of 8) octets ++ replicate (length d) false in
    let count : 8 * suc (length octets) ≡ 8 + 8 * length octets = omega arith in
    ap (λ n. divided d n (sum left (flat_map (bits_of 8) (octet ∷ octets) ++ replicate (length d) false))) count
    ∙ ap (λ p. divided d (8 + 8 * length octets) (sum left p)) (append_assoc (bits_of 8 octet) (flat_map (bits_of 8) octets) (replicate (length d) false))
    ∙ divided_twice d 8 (8 * length octets) (sum left (bits_of 8 octet ++ more))
    ∙ ap (divided d (8 * length octets)) (one_octet d left more octet e eight)
    ∙ all_octets d (next_left d left octet) octets (length-next d left octet e eight) eight

-- the same in numbers
pub bit-lt : (b : Bool) → bit b < 2 ^ 1
bit-lt true = omega arith
bit-lt false = omega arith

turned : (x b : ℕ) → x * 2 ^ 1 + b ≡ b + 2 * x
turned x b = omega arith

plus_bits : (a b : Bool) (n : ℕ) → bit (if a then not b else b) + 2 * n ≡ n * 2 ^ 1 + bit_xor (bit a) (bit b)
plus_bits true true n = omega arith
plus_bits true false n = omega arith
plus_bits false true n = omega arith
plus_bits false false n = omega arith

number_of_sum : (p q : List Bool) → length p ≤ length q → number_of (sum p q) ≡ bit_xor (number_of p) (number_of q)
unfolding sum number_of
number_of_sum [] q le = sym (xor_zero_l (number_of q))
number_of_sum (a ∷ p) [] le = absurd (omega arith)
number_of_sum (a ∷ p) (b ∷ q) le =
    let x = number_of p in
    let y = number_of q in
    let rest = number_of_sum p q (omega (arith, le)) in
    let block = xor_block 1 x y (bit a) (bit b) (bit-lt a) (bit-lt b) in
    ap (λ n. bit (if a then not b else b) + 2 * n) rest ∙ plus_bits a b (bit_xor x y) ∙ sym block
    ∙ ap (λ m. bit_xor m (y * 2 ^ 1 + bit b)) (turned x (bit a)) ∙ ap (λ m. bit_xor (bit a + 2 * x) m) (turned y (bit b))

number_parts : (b : Bool) (n : ℕ) → (((bit b + 2 * n) % 2 == 1) ≡ b) × ((bit b + 2 * n) / 2 ≡ n)
number_parts true n = let e : (1 + 2 * n) % 2 ≡ 1 = omega arith in (rw e refl, omega arith)
number_parts false n = let e : (0 + 2 * n) % 2 ≡ 0 = omega arith in (rw e refl, omega arith)

number_of_drop : (k : ℕ) (r : List Bool) → number_of (drop k r) ≡ number_of r / 2 ^ k
unfolding number_of
number_of_drop zero r = omega arith
number_of_drop (suc k) [] = sym (zero-div (2 ^ suc k))
number_of_drop (suc k) (b ∷ r) =
    let e : 1 + k ≡ suc k = omega arith in
    number_of_drop k r ∙ ap (λ n. n / 2 ^ k) (sym (number_parts b (number_of r)).1) ∙ shr-shr (bit b + 2 * number_of r) 1 k
    ∙ ap (λ j. (bit b + 2 * number_of r) / 2 ^ j) e

bits_of_number : (k : ℕ) (r : List Bool) → k ≤ length r → bits_of k (number_of r) ≡ take k r
unfolding bits_of number_of
bits_of_number zero r le = refl
bits_of_number (suc k) [] le = absurd (omega arith)
bits_of_number (suc k) (b ∷ r) le = let p = number_parts b (number_of r) in rw (p.0, p.1, bits_of_number k r (omega (arith, le))) refl

two_bits : (a b : ℕ) → a < 2 → b < 2 → (bit_xor a b == 1) ≡ (if a == 1 then not (b == 1) else (b == 1))
two_bits zero zero la lb = refl
two_bits zero (suc zero) la lb = refl
two_bits (suc zero) zero la lb = refl
two_bits (suc zero) (suc zero) la lb = refl
two_bits (suc (suc a)) b la lb = absurd (omega (arith, la))
two_bits a (suc (suc b)) la lb = absurd (omega (arith, lb))

bits_of_xor : (k a b : ℕ) → bits_of k (bit_xor a b) ≡ sum (bits_of k a) (bits_of k b)
unfolding bits_of sum
bits_of_xor zero a b = refl
bits_of_xor (suc k) a b =
    let first : (bit_xor a b % 2 == 1) ≡ (if a % 2 == 1 then not (b % 2 == 1) else (b % 2 == 1)) =
    ap (λ n. n == 1) (xor_mod a b 1) ∙ two_bits (a % 2) (b % 2) (omega arith) (omega arith) in
    rw (first, xor_shr a b 1, bits_of_xor k (a / 2) (b / 2)) refl

-- what is left, as a number, where this was left and more octets come
unfoldable pub register : List Bool → ℕ → List ℕ → ℕ
register d left [] = left
register d left (octet ∷ octets) = register d (bit_xor (left / 256) (octet_remainder d (bit_xor left octet))) octets

number_of_next : (d left : List Bool) (octet : ℕ) → length left ≡ length d → 8 ≤ length d →
    number_of (next_left d left octet) ≡ bit_xor (number_of left / 256) (octet_remainder d (bit_xor (number_of left) octet))
unfolding octet_remainder
number_of_next d left octet e eight =
    let bits = bits_of 8 octet in
    let nothing = replicate (length d) false in
    let front : sum (take 8 left) bits ≡ bits_of 8 (bit_xor (number_of left) octet) =
    ap (λ p. sum p bits) (sym (bits_of_number 8 left (omega (arith, e, eight)))) ∙ sym (bits_of_xor 8 (number_of left) octet) in
    let z = sum (take 8 left) bits ++ nothing in
    let long : length z ≡ 8 + length d = simp length-append
    (omega (arith, length-sum (take 8 left) bits, length-bits_of 8 octet, length-replicate (length d) false)) in
    let shorter : length (drop 8 left) ≤ length (divided d 8 z) = omega (arith, length-drop 8 left, length-divided d 8 (length d) z long, e) in
    number_of_sum (drop 8 left) (divided d 8 z) shorter
    ∙ ap (λ n. bit_xor n (number_of (divided d 8 z))) (number_of_drop 8 left)
    ∙ ap (λ p. bit_xor (number_of left / 256) (number_of (divided d 8 (p ++ nothing)))) front

number_of_all : (d left : List Bool) (octets : List ℕ) → length left ≡ length d → 8 ≤ length d →
    number_of (all_left d left octets) ≡ register d (number_of left) octets
unfolding all_left register
number_of_all d left [] e eight = refl
number_of_all d left (octet ∷ octets) e eight =
    number_of_all d (next_left d left octet) octets (length-next d left octet e eight) eight
    ∙ ap (λ n. register d n octets) (number_of_next d left octet e eight)

-- the remainder of octets, one after the other
pub remainder_is : (d : List Bool) (octets : List ℕ) → 8 ≤ length d → remainder d octets ≡ register d (number_of (replicate (length d) true)) octets
unfolding remainder dividend
remainder_is d octets eight =
    let ones = length-replicate (length d) true in
    ap number_of (all_octets d (replicate (length d) true) octets ones eight) ∙ number_of_all d (replicate (length d) true) octets ones eight
