-- No octets that spell a tag or a value are fewer than the canonical ones.
use Rattle.std.proofs.Common.{◌≡◌, ℕ, zero, suc, ◌+◌, ◌-◌, ◌*◌, ◌^◌, ◌<◌, ◌≤◌, true, false, List, ◌++◌, length, refl, subst, arith, inl, inr}
use Rattle.std.specs.Prelude.{ℤ, pos, negsuc, ◌-ℤ◌, ◌≤ℤ◌, ◌<ℤ◌}
use Rattle.std.specs.Int.{w32, cast_unsigned}
use Rattle.std.proofs.lemmas.Bool.{cases_lt, lt-ltb, le-ltb}
use Rattle.std.proofs.lemmas.Int.{ints}
use Rattle.std.proofs.lemmas.List.{length-append}
use Rattle.byteorder.specs.Endian.{big_number, twos_complement}
use Rattle.byteorder.specs.Numbers.{big_from-lt, length-bytes_high_first}
use Rattle.tags.specs.declared.tag.Class.{Class}
use Rattle.tags.specs.declared.tag.Class.TheVariants.{Application}
use Rattle.tags.specs.declared.value.Value.{Value}
use Rattle.tags.specs.declared.value.Value.TheVariants as value
use Rattle.tags.specs.Number.{AreOctets, SpellsUnsigned, SpellsSigned, width, unsigned_octets, distance, signed_width, signed_octets, object_octets}
use Rattle.tags.specs.Tag.{PlainContent, null, boolean, contents, opening, closing, initial_octets, LengthForm, in_initial, in_octet, in_two, in_four}
use Rattle.tags.specs.Tag.{length_bits, length_octets, IsLength, SpellsContent}
use Rattle.tags.specs.Value.{Says, Carries, SpellsValue}
use Rattle.tags.specs.Canonical.{shortest, tagged, canonical_tag, canonical}
use Rattle.tags.proofs.OctetLists.{AreOctets-after}

-- ---- tags

one_least : (form : LengthForm) (n : ℕ) → 5 ≤ n → IsLength form n → 1 ≤ length (length_octets form n)
one_least in_initial n le fits = absurd (omega arith)
one_least in_octet n le fits = omega arith
one_least in_two n le fits = omega arith
one_least in_four n le fits = omega arith

three_least : (form : LengthForm) (n : ℕ) → 254 ≤ n → IsLength form n → 3 ≤ length (length_octets form n)
three_least in_initial n le fits = absurd (omega arith)
three_least in_octet n le fits = absurd (omega arith)
three_least in_two n le fits = omega arith
three_least in_four n le fits = omega arith

five_least : (form : LengthForm) (n : ℕ) → 65536 ≤ n → IsLength form n → 5 ≤ length (length_octets form n)
five_least in_initial n le fits = absurd (omega arith)
five_least in_octet n le fits = absurd (omega arith)
five_least in_two n le fits = absurd (omega arith)
five_least in_four n le fits = omega arith

-- a longer form says what a shorter one says, in more octets
shortest_form : (form : LengthForm) (n : ℕ) → IsLength form n → length (length_octets (shortest n) n) ≤ length (length_octets form n)
unfolding shortest
shortest_form form n fits =
    elim (cases_lt n 5) [
      | inl a ↦ rw (lt-ltb n 5 a) (omega arith)
      | inr a ↦ elim (cases_lt n 254) [
        | inl b ↦ rw (le-ltb n 5 a, lt-ltb n 254 b) (one_least form n a fits)
        | inr b ↦ elim (cases_lt n 65536) [
          | inl c ↦ rw (le-ltb n 5 a, le-ltb n 254 b, lt-ltb n 65536 c) (three_least form n b fits)
          | inr c ↦ rw (le-ltb n 5 a, le-ltb n 254 b, le-ltb n 65536 c) (five_least form n c fits)
        ]
      ]
    ]

tagged_length : (class : Class) (number : ℕ) (octets : List ℕ) →
    length (tagged class number octets) ≡ length (initial_octets class number 0) + length (length_octets (shortest (length octets)) (length octets)) + length
    octets
tagged_length class number octets = simp (length-append) (omega arith)

-- no octets that spell a tag are fewer than the canonical ones
pub tag_shortest : (front : List ℕ) (class : Class) (number : ℕ) (content : PlainContent) → SpellsContent front class number content →
    length (canonical_tag class number content) ≤ length front
tag_shortest front class number null s = rw (s.2) (omega arith)
tag_shortest front class number (boolean false) s = rw (s.2) (omega arith)
tag_shortest front class number (boolean true) s = rw (s.2) (omega arith)
tag_shortest front class number (contents inner) s =
    let least = shortest_form s.form (length inner) s.length_fits in
    rw (s.parts) (simp (length-append) (omega (arith, least)))
tag_shortest front class number opening s = rw (s.2) (omega arith)
tag_shortest front class number closing s = rw (s.2) (omega arith)

-- contents of at most four octets take no octet for their length
no_length_octet : (n : ℕ) → n < 5 → length (length_octets (shortest n) n) ≡ 0
unfolding shortest
no_length_octet n lt = rw (lt-ltb n 5 lt) refl

pub few_octets : (class : Class) (number : ℕ) (octets : List ℕ) → length octets ≤ 4 →
    length (tagged class number octets) ≡ length (initial_octets class number 0) + length octets
few_octets class number octets few =
    let none = no_length_octet (length octets) (omega arith) in
    let len = tagged_length class number octets in
    omega (arith, none, len)

fewer_contents : (class : Class) (number : ℕ) (xs ys : List ℕ) → length xs ≤ length ys → length ys ≤ 4 →
    length (tagged class number xs) ≤ length (tagged class number ys)
fewer_contents class number xs ys le few = rw (few_octets class number xs (omega arith), few_octets class number ys few) (omega arith)

-- ---- numbers

least_width : (n k : ℕ) → 0 < k → n < 256 ^ k → width n ≤ k
unfolding width
least_width n zero some lt = absurd (omega arith)
least_width n (suc zero) some lt = rw (lt-ltb n 256 lt) (omega arith)
least_width n (suc (suc zero)) some lt =
    elim (cases_lt n 256) [
      | inl a ↦ rw (lt-ltb n 256 a) (omega arith)
      | inr a ↦ rw (le-ltb n 256 a, lt-ltb n 65536 lt) (omega arith)
    ]
least_width n (suc (suc (suc zero))) some lt =
    elim (cases_lt n 256) [
      | inl a ↦ rw (lt-ltb n 256 a) (omega arith)
      | inr a ↦ elim (cases_lt n 65536) [
        | inl b ↦ rw (le-ltb n 256 a, lt-ltb n 65536 b) (omega arith)
        | inr b ↦ rw (le-ltb n 256 a, le-ltb n 65536 b, lt-ltb n 16777216 lt) (omega arith)
      ]
    ]
least_width n (suc (suc (suc (suc k)))) some lt =
    elim (cases_lt n 256) [
      | inl a ↦ rw (lt-ltb n 256 a) (omega arith)
      | inr a ↦ elim (cases_lt n 65536) [
        | inl b ↦ rw (le-ltb n 256 a, lt-ltb n 65536 b) (omega arith)
        | inr b ↦ elim (cases_lt n 16777216) [
          | inl c ↦ rw (le-ltb n 256 a, le-ltb n 65536 b, lt-ltb n 16777216 c) (omega arith)
          | inr c ↦ rw (le-ltb n 256 a, le-ltb n 65536 b, le-ltb n 16777216 c) (omega arith)
        ]
      ]
    ]

pub fewest_unsigned : (octets : List ℕ) (n : ℕ) → AreOctets octets → SpellsUnsigned octets n → length (unsigned_octets n) ≤ length octets
fewest_unsigned octets n fits s =
    let lt = big_from-lt 0 (length octets) octets fits in
    rw (length-bytes_high_first (width n) n) (least_width n (length octets) s.some (rw (s.value) lt))

distance_below : (z : ℤ) (half : ℕ) → (pos 0 -ℤ pos half) ≤ℤ z → z <ℤ pos half → distance z < half
distance_below (pos n) half low high = omega (arith, ints)
distance_below (negsuc n) half low high = omega (arith, ints)

-- a number of two's complement in so many octets lies between half of its range and as much below 0
signed_distance : (k u half : ℕ) → 2 ^ (8 * k - 1) ≡ half → 2 ^ (8 * k) ≡ 2 * half → u < 2 * half → distance (twos_complement k u) < half
signed_distance k u half e f lt =
    elim (cases_lt u half) [
      | inl low ↦ rw (e, lt-ltb u half low) low
      | inr high ↦ rw (e, le-ltb u half high, f) (distance_below (pos u -ℤ pos (2 * half)) half (omega (arith, ints)) (omega (arith, ints)))
    ]

least_signed : (z : ℤ) (u k : ℕ) → 0 < k → k ≤ 4 → z ≡ twos_complement k u → u < 256 ^ k → signed_width z ≤ k
unfolding signed_width
least_signed z u zero some few is lt = absurd (omega arith)
least_signed z u (suc zero) some few is lt =
    let d = signed_distance 1 u 128 refl refl lt in
    rw (is, lt-ltb (distance (twos_complement 1 u)) 128 d) (omega arith)
least_signed z u (suc (suc zero)) some few is lt =
    let d = signed_distance 2 u 32768 refl refl lt in
    rw is (elim (cases_lt (distance (twos_complement 2 u)) 128) [
      | inl a ↦ rw (lt-ltb _ 128 a) (omega arith)
      | inr a ↦ rw (le-ltb _ 128 a, lt-ltb _ 32768 d) (omega arith)
    ])
least_signed z u (suc (suc (suc zero))) some few is lt =
    let d = signed_distance 3 u 8388608 refl refl lt in
    rw is (elim (cases_lt (distance (twos_complement 3 u)) 128) [
      | inl a ↦ rw (lt-ltb _ 128 a) (omega arith)
      | inr a ↦ elim (cases_lt (distance (twos_complement 3 u)) 32768) [
        | inl b ↦ rw (le-ltb _ 128 a, lt-ltb _ 32768 b) (omega arith)
        | inr b ↦ rw (le-ltb _ 128 a, le-ltb _ 32768 b, lt-ltb _ 8388608 d) (omega arith)
      ]
    ])
least_signed z u (suc (suc (suc (suc k)))) some few is lt =
    elim (cases_lt (distance z) 128) [
      | inl a ↦ rw (lt-ltb _ 128 a) (omega arith)
      | inr a ↦ elim (cases_lt (distance z) 32768) [
        | inl b ↦ rw (le-ltb _ 128 a, lt-ltb _ 32768 b) (omega arith)
        | inr b ↦ elim (cases_lt (distance z) 8388608) [
          | inl c ↦ rw (le-ltb _ 128 a, le-ltb _ 32768 b, lt-ltb _ 8388608 c) (omega arith)
          | inr c ↦ rw (le-ltb _ 128 a, le-ltb _ 32768 b, le-ltb _ 8388608 c) (omega arith)
        ]
      ]
    ]

fewest_signed : (octets : List ℕ) (z : ℤ) → AreOctets octets → SpellsSigned octets z → length (signed_octets z) ≤ length octets
fewest_signed octets z fits s =
    let lt = big_from-lt 0 (length octets) octets fits in
    rw (length-bytes_high_first (signed_width z) (cast_unsigned w32 z))
    (least_signed z (big_number (length octets) octets) (length octets) s.some s.few s.value lt)

-- ---- values

says_shortest : {A : Type 0} (number : ℕ) (inner : List ℕ) (v : Value A) → AreOctets inner → Says number inner v →
    length (canonical v) ≤ length (tagged Application number inner)
says_shortest number inner value.Null fits s = absurd s
says_shortest number inner (value.Bool b) fits s = absurd s
says_shortest number inner (value.Unsigned n) fits s =
    rw (s.0) (fewer_contents Application 2 (unsigned_octets n) inner (fewest_unsigned inner n fits s.1) s.1.few)
says_shortest number inner (value.Signed z) fits s = rw (s.0) (fewer_contents Application 3 (signed_octets z) inner (fewest_signed inner z fits s.1) s.1.few)
says_shortest number inner (value.Text set octets) fits s = rw (s.0, s.1) (omega arith)
says_shortest number inner (value.Bits unused octets) fits s = rw (s.0, s.1) (omega arith)
says_shortest number inner (value.Enum n) fits s = rw (s.0) (fewer_contents Application 9 (unsigned_octets n) inner (fewest_unsigned inner n fits s.1) s.1.few)
says_shortest number inner (value.Object object) fits s =
    rw (s.0) (fewer_contents Application 12 (object_octets object.object_type object.instance) inner (omega (arith, s.1.four)) (omega (arith, s.1.four)))
says_shortest number inner (value.Other tag octets) fits s = rw (s.1, s.2) (omega arith)
says_shortest number inner (value.Built octets) fits s = absurd s

by_tag_shortest : {A : Type 0} (front : List ℕ) (class : Class) (number : ℕ) (content : PlainContent) (v : Value A) → AreOctets front →
    SpellsContent front class number content → Carries class number content v → length (canonical v) ≤ length front
by_tag_shortest front class number null v fits s c = rw (c, s.2) (omega arith)
by_tag_shortest front class number (boolean false) v fits s c = rw (c, s.2) (omega arith)
by_tag_shortest front class number (boolean true) v fits s c = rw (c, s.2) (omega arith)
by_tag_shortest front class number (contents inner) v fits s c =
    let initial = initial_octets class number (length_bits s.form (length inner)) in
    let len = length_octets s.form (length inner) in
    let behind = AreOctets-after front initial (len ++ inner) s.parts fits in
    let within = AreOctets-after (len ++ inner) len inner refl behind in
    let tag = subst (λ (x : Class). length (tagged x number inner) ≤ length front) c.0 (tag_shortest front class number (contents inner) s) in
    omega (arith, tag, says_shortest number inner v within c.1)
by_tag_shortest front class number opening v fits s c = absurd c
by_tag_shortest front class number closing v fits s c = absurd c

-- no octets that spell a value are fewer than the canonical ones
pub value_shortest : {A : Type 0} (octets : List ℕ) (v : Value A) → AreOctets octets → SpellsValue octets v → length (canonical v) ≤ length octets
value_shortest octets v fits (inl s) = by_tag_shortest octets s.tag.class s.tag.number s.tag.content v fits s.spelled s.carried
value_shortest octets v fits (inr s) = rw (s.0) (omega arith)
