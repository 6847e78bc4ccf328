-- The shortest octets of a tag and of a value spell it.
use Rattle.std.proofs.Common.{◌≡◌, ℕ, suc, ◌+◌, ◌-◌, ◌*◌, ◌%◌, ◌^◌, ◌<◌, ◌≤◌, true, false, List, [], ◌∷◌, ◌++◌, length, refl, sym, ap, ◌∙◌, append_assoc, arith}
use Rattle.std.proofs.Common.{inl, inr}
use Rattle.std.specs.Prelude.{ℤ, pos, negsuc, FitsSigned}
use Rattle.std.specs.List.{AllByRecursion}
use Rattle.std.specs.Int.{w32, cast_unsigned}
use Rattle.std.proofs.lemmas.Bool.{cases_lt, lt-ltb, le-ltb}
use Rattle.std.proofs.lemmas.Int.{ints}
use Rattle.std.proofs.Math.Nat.{mod-eq_of_lt}
use Rattle.std.proofs.lemmas.List.{append-nil, append_cancel_left}
use Rattle.byteorder.specs.Endian.{big_number, big_bytes, twos_complement}
use Rattle.byteorder.specs.Numbers.{big_number-reads_back, big_from-bytes, length-bytes_high_first}
use Rattle.tags.specs.declared.tag.Class.{Class}
use Rattle.tags.specs.declared.tag.Class.TheVariants.{Application}
use Rattle.tags.specs.declared.value.Value.{Value}
use Rattle.tags.specs.declared.value.Value.TheVariants as value
use Rattle.tags.specs.Number.{width, unsigned_octets, signed_width, signed_octets, object_octets, SpellsUnsigned, SpellsSigned}
use Rattle.tags.specs.Tag.{PlainTag, PlainContent, contents, null, boolean, opening, closing, initial_octets, length_bits, length_octets, IsLength, HasContents}
use Rattle.tags.specs.Tag.{SpellsContents, SpellsContent, TakesTag}
use Rattle.tags.specs.Value.{IsOther, IsSound, Says, SpellsValue, SpellsValues, TakesValue}
use Rattle.tags.specs.Refusal.{application}
use Rattle.tags.specs.Canonical.{shortest, tagged, canonical_tag, IsSoundTag, canonical, canonicals}
use Rattle.tags.proofs.OneTag.{one_tag}
use Rattle.tags.proofs.ValueLaws.{one_value}

shortest_fits : (n : ℕ) → n < 2 ^ 32 → IsLength (shortest n) n
unfolding shortest
shortest_fits n lt =
    elim (cases_lt n 5) [
      | inl a ↦ rw (lt-ltb n 5 a) a
      | inr a ↦ elim (cases_lt n 254) [
        | inl b ↦ rw (le-ltb n 5 a, lt-ltb n 254 b) b
        | inr b ↦ elim (cases_lt n 65536) [
          | inl c ↦ rw (le-ltb n 5 a, le-ltb n 254 b, lt-ltb n 65536 c) c
          | inr c ↦ rw (le-ltb n 5 a, le-ltb n 254 b, le-ltb n 65536 c) lt
        ]
      ]
    ]

tagged_spells : (class : Class) (number : ℕ) (octets : List ℕ) → HasContents class number → number < 255 → length octets < 2 ^ 32 →
    SpellsContents (tagged class number octets) class number octets
tagged_spells class number octets may below lt = record {
  may = may;
  number_fits = below;
  form = shortest (length octets);
  length_fits = shortest_fits (length octets) lt;
  parts = append_assoc (initial_octets class number (length_bits (shortest (length octets)) (length octets)))
      (length_octets (shortest (length octets)) (length octets)) octets;
}

-- the shortest octets of a tag spell it
pub canonical_tag_spells : (class : Class) (number : ℕ) (content : PlainContent) → IsSoundTag class number content →
    SpellsContent (canonical_tag class number content) class number content
canonical_tag_spells class number null s = (s.0, s.1, refl)
canonical_tag_spells class number (boolean false) s = (s.0, s.1, refl)
canonical_tag_spells class number (boolean true) s = (s.0, s.1, refl)
canonical_tag_spells class number (contents octets) s = tagged_spells class number octets s.0 s.1 s.2
canonical_tag_spells class number opening s = (s.0, s.1, refl)
canonical_tag_spells class number closing s = (s.0, s.1, refl)

-- ---- numbers

record Wide (n k : ℕ) : Type 0 where
  some : 0 < k
  few : k ≤ 4
  fits : n < 256 ^ k

width_fits : (n : ℕ) → n < 2 ^ 32 → Wide n (width n)
unfolding width
width_fits n lt =
    elim (cases_lt n 256) [
      | inl a ↦ rw (lt-ltb n 256 a) record { some = omega arith; few = omega arith; fits = a }
      | inr a ↦ elim (cases_lt n 65536) [
        | inl b ↦ rw (le-ltb n 256 a, lt-ltb n 65536 b) record { some = omega arith; few = omega arith; fits = b }
        | inr b ↦ elim (cases_lt n 16777216) [
          | inl c ↦ rw (le-ltb n 256 a, le-ltb n 65536 b, lt-ltb n 16777216 c) record { some = omega arith; few = omega arith; fits = c }
          | inr c ↦ rw (le-ltb n 256 a, le-ltb n 65536 b, le-ltb n 16777216 c) record { some = omega arith; few = omega arith; fits = lt }
        ]
      ]
    ]

number_mod : (k x : ℕ) → big_number k (big_bytes k x) ≡ x % 256 ^ k
number_mod k x = ap (big_number k) (sym (append-nil (big_bytes k x))) ∙ big_from-bytes k x []

pub number_again : (k x : ℕ) → x < 256 ^ k → big_number k (big_bytes k x) ≡ x
number_again k x lt = ap (big_number k) (sym (append-nil (big_bytes k x))) ∙ big_number-reads_back k x [] lt

pub unsigned_spells : (n : ℕ) → n < 2 ^ 32 → SpellsUnsigned (unsigned_octets n) n
unsigned_spells n lt =
    let w = width_fits n lt in
    let len = length-bytes_high_first (width n) n in
    record { some = rw len w.some; few = rw len w.few; value = rw len (sym (number_again (width n) n w.fits)) }

record SignedWide (z : ℤ) (k : ℕ) : Type 0 where
  some : 0 < k
  few : k ≤ 4
  value : twos_complement k (cast_unsigned w32 z % 256 ^ k) ≡ z

-- at one width: the test of twos_complement goes by the sign
wide_pos : (n k half : ℕ) → 0 < k → k ≤ 4 → 2 ^ (8 * k - 1) ≡ half → 256 ^ k ≡ 2 * half → n < half → SignedWide (pos n) k
wide_pos n k half some few e f lt =
    let m : n % 256 ^ k ≡ n = mod-eq_of_lt (omega arith) in
    record { some = some; few = few; value = rw (m, e, lt-ltb n half lt) refl }

wide_neg : (n k half : ℕ) → 0 < k → k ≤ 4 → 2 ^ (8 * k - 1) ≡ half → 2 ^ (8 * k) ≡ 2 * half → n < half → (2 ^ 32 - suc n) % 256 ^ k ≡ 2 * half - suc n →
    SignedWide (negsuc n) k
wide_neg n k half some few e f lt m =
    let high : half ≤ 2 * half - suc n = omega arith in
    record { some = some; few = few; value = rw (m, e, le-ltb (2 * half - suc n) half high, f) (omega (arith, ints)) }

signed_wide : (z : ℤ) → FitsSigned w32 z → SignedWide z (signed_width z)
unfolding signed_width
signed_wide (pos n) fits =
    elim (cases_lt n 128) [
      | inl a ↦ rw (lt-ltb n 128 a) (wide_pos n 1 128 (omega arith) (omega arith) refl refl a)
      | inr a ↦ elim (cases_lt n 32768) [
        | inl b ↦ rw (le-ltb n 128 a, lt-ltb n 32768 b) (wide_pos n 2 32768 (omega arith) (omega arith) refl refl b)
        | inr b ↦ elim (cases_lt n 8388608) [
          | inl c ↦ rw (le-ltb n 128 a, le-ltb n 32768 b, lt-ltb n 8388608 c) (wide_pos n 3 8388608 (omega arith) (omega arith) refl refl c)
          | inr c ↦ rw (le-ltb n 128 a, le-ltb n 32768 b, le-ltb n 8388608 c) (wide_pos n 4 (2 ^ 31) (omega arith) (omega arith) refl refl (omega arith))
        ]
      ]
    ]
signed_wide (negsuc n) fits =
    elim (cases_lt n 128) [
      | inl a ↦ rw (lt-ltb n 128 a) (wide_neg n 1 128 (omega arith) (omega arith) refl refl a (omega arith))
      | inr a ↦ elim (cases_lt n 32768) [
        | inl b ↦ rw (le-ltb n 128 a, lt-ltb n 32768 b) (wide_neg n 2 32768 (omega arith) (omega arith) refl refl b (omega arith))
        | inr b ↦ elim (cases_lt n 8388608) [
          | inl c ↦ rw (le-ltb n 128 a, le-ltb n 32768 b, lt-ltb n 8388608 c) (wide_neg n 3 8388608 (omega arith) (omega arith) refl refl c (omega arith))
          | inr c ↦ rw (le-ltb n 128 a, le-ltb n 32768 b, le-ltb n 8388608 c)
              (wide_neg n 4 (2 ^ 31) (omega arith) (omega arith) refl refl (omega arith) (omega arith))
        ]
      ]
    ]

signed_spells : (z : ℤ) → FitsSigned w32 z → SpellsSigned (signed_octets z) z
signed_spells z fits =
    let w = signed_wide z fits in
    let len = length-bytes_high_first (signed_width z) (cast_unsigned w32 z) in
    let value : z ≡ twos_complement (signed_width z) (big_number (signed_width z) (signed_octets z)) =
    sym (ap (twos_complement (signed_width z)) (number_mod (signed_width z) (cast_unsigned w32 z)) ∙ w.value) in
    record { some = rw len w.some; few = rw len w.few; value = rw len value }

-- ---- values

other_above : (n : ℕ) → IsOther n → 1 < n
other_above n (inl h) = omega (arith, h.0)
other_above n (inr (inl h)) = omega (arith, h.0)
other_above n (inr (inr h)) = omega (arith, h.0)

other_below : (n : ℕ) → IsOther n → n < 255
other_below n (inl h) = omega (arith, h.1)
other_below n (inr (inl h)) = omega (arith, h.1)
other_below n (inr (inr h)) = h.1

by_contents : {A : Type 0} (number : ℕ) (octets : List ℕ) (v : Value A) → 1 < number → number < 255 → length octets < 2 ^ 32 → Says number octets v →
    SpellsValue (tagged Application number octets) v
by_contents number octets v above below lt says =
    inl record { tag = application number (contents octets); spelled = tagged_spells Application number octets above below lt; carried = (refl, says) }

-- the shortest octets of a sound value spell it
pub canonical_spells : {A : Type 0} (v : Value A) → IsSound v → SpellsValue (canonical v) v
canonical_spells value.Null sound = inl record { tag = application 0 null; spelled = (refl, refl, refl); carried = refl }
canonical_spells (value.Bool false) sound = inl record { tag = application 1 (boolean false); spelled = (refl, refl, refl); carried = refl }
canonical_spells (value.Bool true) sound = inl record { tag = application 1 (boolean true); spelled = (refl, refl, refl); carried = refl }
canonical_spells (value.Unsigned n) sound = let s = unsigned_spells n sound in
    by_contents 2 (unsigned_octets n) _ (omega arith) (omega arith) (omega (arith, s.few)) (refl, s)
canonical_spells (value.Signed z) sound = let s = signed_spells z sound in
    by_contents 3 (signed_octets z) _ (omega arith) (omega arith) (omega (arith, s.few)) (refl, s)
canonical_spells (value.Text set octets) sound = by_contents 7 (set ∷ octets) _ (omega arith) (omega arith) (omega arith) (refl, refl)
canonical_spells (value.Bits unused octets) sound = by_contents 8 (unused ∷ octets) _ (omega arith) (omega arith) (omega (arith, sound.0)) (refl, refl, sound.1)
canonical_spells (value.Enum n) sound = let s = unsigned_spells n sound in
    by_contents 9 (unsigned_octets n) _ (omega arith) (omega arith) (omega (arith, s.few)) (refl, s)
canonical_spells (value.Object object) sound =
    let number = object.object_type * 2 ^ 22 + object.instance in
    by_contents 12 (object_octets object.object_type object.instance) _ (omega arith) (omega arith) (omega arith)
    (refl, record { four = refl; sound = sound; value = number_again 4 number (omega (arith, sound.0, sound.1)) })
canonical_spells (value.Other tag octets) sound =
    by_contents tag octets _ (other_above tag sound.1) (other_below tag sound.1) (omega (arith, sound.0)) (sound.1, refl, refl)
canonical_spells (value.Built octets) sound = inr (refl, sound.1)

-- the shortest octets of sound values, one after another, spell the list
pub canonicals_spell : {A : Type 0} (vs : List (Value A)) → AllByRecursion IsSound vs → SpellsValues (canonicals vs) vs
canonicals_spell [] sound = refl
canonicals_spell (v ∷ vs) sound = (canonical v, canonicals vs, canonical_spells v sound.0, canonicals_spell vs sound.1, refl)

-- ---- what is written is read again

pub tag_reads_back : (t u : PlainTag) (x y : List ℕ) → IsSoundTag t.class t.number t.content → TakesTag (canonical_tag t.class t.number t.content ++ x) u y →
    (u ≡ t) × (y ≡ x)
tag_reads_back t u x y sound taken =
    let one = one_tag (canonical_tag t.class t.number t.content) taken.0 x y t u (canonical_tag_spells t.class t.number t.content sound) taken.1 taken.2 in
    (sym one.tag, sym one.rest)

pub value_reads_back : {A : Type 0} (v w : Value A) (x y : List ℕ) → IsSound v → TakesValue (canonical v ++ x) w y → (w ≡ v) × (y ≡ x)
value_reads_back v w x y sound taken =
    let one = one_value (canonical v) taken.front x y v w (canonical_spells v sound) taken.spelled taken.parts in
    (sym one.1, append_cancel_left taken.front y x (sym taken.parts ∙ ap (λ (z : List ℕ). z ++ x) one.0))
