-- What is read as a tag is spelled so, and what is spelled so is read.
use Rattle.std.proofs.Common.{◌≡◌, ℕ, ◌+◌, ◌*◌, ◌/◌, ◌%◌, ◌^◌, ◌<◌, ◌≤◌, true, false, cond, ltb, eqb, List, [], ◌∷◌, ◌++◌, length, take, drop, Result, Ok, Err}
use Rattle.std.proofs.Common.{refl, sym, ap, subst, ◌∙◌, append_assoc, arith, inl, inr}
use Rattle.std.proofs.lemmas.Bool.{cases_lt, ltb-true, ltb-false, lt-ltb, le-ltb, eqb-true, eqb-false, eq-eqb, ne_eqb}
use Rattle.std.proofs.lemmas.List.{take_at, drop_at, take-append-drop, length-append, length-take}
use Rattle.byteorder.specs.Endian.{big_number, big_bytes}
use Rattle.byteorder.specs.Numbers.{big_number-reads_back, big_from-lt, length-bytes_high_first}
use Rattle.tags.specs.declared.fault.Fault.{Fault}
use Rattle.tags.specs.declared.fault.Fault.TheVariants.{Short, BadTag}
use Rattle.tags.specs.declared.tag.Class.{Class}
use Rattle.tags.specs.declared.tag.Class.TheVariants.{Application, Context}
use Rattle.tags.specs.Tag.{PlainTag, PlainContent, null, boolean, contents, opening, closing, class_bit, number_bits, number_octets, initial_octets, LengthForm}
use Rattle.tags.specs.Tag.{in_initial, in_octet, in_two, in_four, length_bits, length_octets, IsLength, HasContents, SpellsContent, SpellsTag, TakesTag, NoTag}
use Rattle.tags.specs.Tag.{plain_tag}
use Rattle.std.proofs.Common.{Bor}
use Rattle.std.specs.Prelude.{IfOk, OnErr}
use Rattle.tags.specs.declared.tag.Tag.{Tag}
use Rattle.tags.specs.TagReading.{number_at, sized_at, long_length_at, length_at, contents_at, application_at, context_at, tag_at, Gives}
use Rattle.tags.specs.Number.{AreOctets}
use Rattle.tags.proofs.Numbers.{two_again, four_again}
use Rattle.tags.proofs.OctetLists.{AreOctets-rest, AreOctets-after, cons_equal}
use Rattle.tags.proofs.Steps.{bind_ok, which_way, err_is_not_ok, ok_pair_injective}

-- ---- the number

pub record TakesNumber (nibble : ℕ) (bytes : List ℕ) (number : ℕ) (rest : List ℕ) : Type 0 where
  pub fits : number < 255
  pub high : number_bits number ≡ nibble
  pub parts : bytes ≡ number_octets number ++ rest

pub number_takes : (nibble : ℕ) (bytes : List ℕ) (number : ℕ) (rest : List ℕ) → nibble < 16 → number_at nibble bytes ≡ Ok (number, rest) →
    TakesNumber nibble bytes number rest
unfolding number_at
number_takes nibble [] number rest lt e =
    elim (which_way (ltb nibble 15) (Ok (nibble, [])) (Err Short) (Ok (number, rest)) e) [
      | inl w ↦ let p = ok_pair_injective nibble number [] rest w.1 in
          let t : ltb number 15 ≡ true = ap (λ (k : ℕ). ltb k 15) (sym p.0) ∙ w.0 in
          record { fits = omega (arith, ltb-true _ _ t); high = rw t (sym p.0); parts = rw t p.1 }
      | inr w ↦ absurd (err_is_not_ok _ _ w.1)
    ]
number_takes nibble (n ∷ bytes) number rest lt e =
    elim (which_way (ltb nibble 15) (Ok (nibble, n ∷ bytes)) (cond (ltb n 15) (Err BadTag) (cond (ltb n 255) (Ok (n, bytes)) (Err BadTag)))
    (Ok (number, rest)) e) [
      | inl w ↦ let p = ok_pair_injective nibble number (n ∷ bytes) rest w.1 in
          let t : ltb number 15 ≡ true = ap (λ (k : ℕ). ltb k 15) (sym p.0) ∙ w.0 in
          record { fits = omega (arith, ltb-true _ _ t); high = rw t (sym p.0); parts = rw t p.1 }
      | inr w ↦ elim (which_way (ltb n 15) (Err BadTag) (cond (ltb n 255) (Ok (n, bytes)) (Err BadTag)) (Ok (number, rest)) w.1) [
        | inl v ↦ absurd (err_is_not_ok _ _ v.1)
        | inr v ↦ elim (which_way (ltb n 255) (Ok (n, bytes)) (Err BadTag) (Ok (number, rest)) v.1) [
          | inl u ↦ let p = ok_pair_injective n number bytes rest u.1 in
              let t : ltb number 15 ≡ false = ap (λ (k : ℕ). ltb k 15) (sym p.0) ∙ v.0 in
              let big = ltb-false _ _ w.0 in
              record { fits = omega (arith, ltb-true _ _ u.0, p.0); high = rw t (omega (arith, big)); parts = rw t (rw p.0 (rw p.1 refl)) }
          | inr u ↦ absurd (err_is_not_ok _ _ u.1)
        ]
      ]
    ]

pub number_again : (number : ℕ) (rest : List ℕ) → number < 255 → number_at (number_bits number) (number_octets number ++ rest) ≡ Ok (number, rest)
unfolding number_at
number_again number rest lt =
    elim (cases_lt number 15) [
      | inl small ↦ let t = lt-ltb number 15 small in rw (t, t) refl
      | inr large ↦ let t = le-ltb number 15 large in let u = lt-ltb number 255 lt in rw (t, t, u) refl
    ]

-- ---- the length

pub record TakesLength (low : ℕ) (bytes : List ℕ) (len : ℕ) (rest : List ℕ) : Type 0 where
  pub form : LengthForm
  pub fits : IsLength form len
  pub bits : length_bits form len ≡ low
  pub parts : bytes ≡ length_octets form len ++ rest

sized_takes : (n : ℕ) (bytes : List ℕ) (len : ℕ) (rest : List ℕ) → sized_at n bytes ≡ Ok (len, rest) → (n ≤ length bytes) × (big_number n bytes ≡ len) ×
    (drop n bytes ≡ rest)
sized_takes n bytes len rest e =
    elim (which_way (ltb (length bytes) n) (Err Short) (Ok (big_number n bytes, drop n bytes)) (Ok (len, rest)) e) [
      | inl w ↦ absurd (err_is_not_ok _ _ w.1)
      | inr w ↦ let p = ok_pair_injective (big_number n bytes) len (drop n bytes) rest w.1 in (ltb-false _ _ w.0, p.0, p.1)
    ]

long_takes : (bytes : List ℕ) (len : ℕ) (rest : List ℕ) → AreOctets bytes → long_length_at bytes ≡ Ok (len, rest) → TakesLength 5 bytes len rest
long_takes [] len rest fits e = absurd (err_is_not_ok _ _ e)
long_takes (n ∷ bytes) len rest fits e =
    let below = AreOctets-rest n bytes fits in
    elim (which_way (ltb n 254) (Ok (n, bytes)) (cond (eqb n 254) (sized_at 2 bytes) (sized_at 4 bytes)) (Ok (len, rest)) e) [
      | inl w ↦ let p = ok_pair_injective n len bytes rest w.1 in
          record { form = in_octet; fits = omega (arith, ltb-true _ _ w.0, p.0); bits = refl; parts = rw p.0 (rw p.1 refl) }
      | inr w ↦ elim (which_way (eqb n 254) (sized_at 2 bytes) (sized_at 4 bytes) (Ok (len, rest)) w.1) [
        | inl v ↦ let s = sized_takes 2 bytes len rest v.1 in
            let bound = big_from-lt 0 2 bytes below in
            record {
              form = in_two;
              fits = omega (arith, bound, s.1);
              bits = refl;
              parts =
                  rw (eqb-true _ _ v.0) (ap (λ (x : List ℕ). 254 ∷ x) (two_again bytes s.0 below ∙ rw (s.1, s.2) refl));
            }
        | inr v ↦ let s = sized_takes 4 bytes len rest v.1 in
            let bound = big_from-lt 0 4 bytes below in
            let n-is : n ≡ 255 = omega (arith, ltb-false _ _ w.0, eqb-false _ _ v.0, fits 0) in
            record {
              form = in_four;
              fits = omega (arith, bound, s.1);
              bits = refl;
              parts =
                  rw n-is (ap (λ (x : List ℕ). 255 ∷ x) (four_again bytes s.0 below ∙ rw (s.1, s.2) refl));
            }
      ]
    ]

pub length_takes : (low : ℕ) (bytes : List ℕ) (len : ℕ) (rest : List ℕ) → low < 6 → AreOctets bytes → length_at low bytes ≡ Ok (len, rest) →
    TakesLength low bytes len rest
unfolding length_at
length_takes low bytes len rest lt fits e =
    elim (which_way (ltb low 5) (Ok (low, bytes)) (long_length_at bytes) (Ok (len, rest)) e) [
      | inl w ↦ let p = ok_pair_injective low len bytes rest w.1 in
          record { form = in_initial; fits = omega (arith, ltb-true _ _ w.0, p.0); bits = sym p.0; parts = p.1 }
      | inr w ↦ let t = long_takes bytes len rest fits w.1 in
          record { form = t.form; fits = t.fits; bits = omega (arith, t.bits, ltb-false _ _ w.0); parts = t.parts }
    ]

-- over a variable n, so that the octets do not compute to single cells
sized_again : (n x : ℕ) (rest : List ℕ) → x < 256 ^ n → sized_at n (big_bytes n x ++ rest) ≡ Ok (x, rest)
sized_again n x rest lt =
    let len = length-bytes_high_first n x in
    let long : ltb (length (big_bytes n x ++ rest)) n ≡ false = le-ltb _ _ (omega (arith, length-append (big_bytes n x) rest)) in
    rw (long, big_number-reads_back n x rest lt, drop_at (big_bytes n x) rest n len) refl

pub length_again : (form : LengthForm) (len : ℕ) (rest : List ℕ) → IsLength form len →
    length_at (length_bits form len) (length_octets form len ++ rest) ≡ Ok (len, rest)
unfolding length_at
length_again in_initial len rest fits = let t = lt-ltb len 5 fits in rw t refl
length_again in_octet len rest fits = let t = lt-ltb len 254 fits in rw t refl
length_again in_two len rest fits = sized_again 2 len rest (omega arith)
length_again in_four len rest fits = sized_again 4 len rest (omega arith)

-- ---- the contents

abbrev pub tag_with : Class → ℕ → PlainContent → PlainTag
tag_with class number content = record { class = class; number = number; content = content }

record TakesContents (class : Class) (number low : ℕ) (bytes : List ℕ) (t : PlainTag) (rest : List ℕ) : Type 0 where
  inner : List ℕ
  is : tag_with class number (contents inner) ≡ t
  form : LengthForm
  fits : IsLength form (length inner)
  bits : length_bits form (length inner) ≡ low
  parts : bytes ≡ length_octets form (length inner) ++ (inner ++ rest)

contents_takes : (class : Class) (number low : ℕ) (bytes : List ℕ) (t : PlainTag) (rest : List ℕ) → low < 6 → AreOctets bytes →
    contents_at class number low bytes ≡ Ok (t, rest) → TakesContents class number low bytes t rest
unfolding contents_at
contents_takes class number low bytes t rest lt fits e =
    let b = bind_ok (length_at low bytes) (λ len. cond (ltb (length len.1) len.0) (Err Short)
    (Ok (tag_with class number (contents (take len.0 len.1)), drop len.0 len.1))) (t, rest) e in
    let l = length_takes low bytes b.0.0 b.0.1 lt fits b.1 in
    elim (which_way (ltb (length b.0.1) b.0.0) (Err Short) (Ok (tag_with class number (contents (take b.0.0 b.0.1)), drop b.0.0 b.0.1)) (Ok (t, rest)) b.2) [
      | inl w ↦ absurd (err_is_not_ok _ _ w.1)
      | inr w ↦ let p = ok_pair_injective (tag_with class number (contents (take b.0.0 b.0.1))) t (drop b.0.0 b.0.1) rest w.1 in
          let long = ltb-false _ _ w.0 in
          let len : length (take b.0.0 b.0.1) ≡ b.0.0 = omega (arith, length-take b.0.0 b.0.1) in
          let both : b.0.1 ≡ take b.0.0 b.0.1 ++ rest = sym (take-append-drop b.0.0 b.0.1) ∙ ap (λ (x : List ℕ). take b.0.0 b.0.1 ++ x) p.1 in
          record {
            inner = take b.0.0 b.0.1;
            is = p.0;
            form = l.form;
            fits = rw len l.fits;
            bits = rw len l.bits;
            parts = rw len (l.parts ∙ ap (λ (x : List ℕ). length_octets l.form b.0.0 ++ x) both);
          }
    ]

contents_again : (class : Class) (number : ℕ) (form : LengthForm) (inner rest : List ℕ) → IsLength form (length inner)
    → contents_at class number (length_bits form (length inner)) (length_octets form (length inner) ++ (inner ++ rest))
    ≡ Ok (tag_with class number (contents inner), rest)
unfolding contents_at
contents_again class number form inner rest fits =
    let long : ltb (length (inner ++ rest)) (length inner) ≡ false = le-ltb _ _ (omega (arith, length-append inner rest)) in
    rw (length_again form (length inner) (inner ++ rest) fits, long, take_at inner rest (length inner) refl, drop_at inner rest (length inner) refl) refl

-- ---- the initial octet

octet_parts : (nibble bit low first : ℕ) → bit < 2 → low < 8 → first ≡ 16 * nibble + 8 * bit + low → (first / 16 ≡ nibble) × (first / 8 % 2 ≡ bit) ×
    (first % 8 ≡ low)
octet_parts nibble bit low first b l e = (omega arith, omega arith, omega arith)

pub length_bits-lt : (form : LengthForm) (n : ℕ) → IsLength form n → length_bits form n < 6
length_bits-lt in_initial n fits = omega arith
length_bits-lt in_octet n fits = omega arith
length_bits-lt in_two n fits = omega arith
length_bits-lt in_four n fits = omega arith

-- ---- the tag

pub regroup : (a b c d : List ℕ) → a ++ (b ++ (c ++ d)) ≡ (a ++ (b ++ c)) ++ d
regroup a b c d = simp append_assoc

tag_takes_contents : (class : Class) (number nibble low first : ℕ) (bytes after : List ℕ) (t : PlainTag) (rest : List ℕ) → HasContents class number →
    first ≡ 16 * nibble + class_bit class + low
    → TakesNumber nibble bytes number after → TakesContents class number low after t rest → TakesTag (first ∷ bytes) t rest
tag_takes_contents class number nibble low first bytes after t rest has e n c =
    let front = initial_octets class number (length_bits c.form (length c.inner)) ++ (length_octets c.form (length c.inner) ++ c.inner) in
    let spelled : SpellsTag front (tag_with class number (contents c.inner)) =
    record { may = has; number_fits = n.fits; form = c.form; length_fits = c.fits; parts = refl } in
    let first-is : first ≡ 16 * number_bits number + class_bit class + length_bits c.form (length c.inner) = rw (n.high, c.bits) e in (
      front,
      subst (λ (m : PlainTag). SpellsTag front m) c.is spelled,
      cons_equal first _ bytes _ first-is (n.parts ∙ ap (λ (x : List ℕ). number_octets number ++ x) c.parts ∙ regroup (number_octets number) _ _ rest),
    )

pub number_above : (number nibble : ℕ) → number_bits number ≡ nibble → (nibble ≡ 0 → ⊥) → (nibble ≡ 1 → ⊥) → 1 < number
number_above number nibble e zero-not one-not =
    elim (cases_lt number 15) [
      | inl small ↦ let t = lt-ltb number 15 small in
          let is : number ≡ nibble = rw t at e in
          omega (arith, zero-not, one-not)
      | inr large ↦ omega arith
    ]

pub number_bits_above : (number : ℕ) → 1 < number → 1 < number_bits number
number_bits_above number h =
    elim (cases_lt number 15) [
      | inl small ↦ rw (lt-ltb number 15 small) h
      | inr large ↦ rw (le-ltb number 15 large) (omega arith)
    ]

boolean_takes : (first : ℕ) (bytes : List ℕ) (t : PlainTag) (rest : List ℕ) → first ≡ 16 + first % 8 → first % 8 < 2
    → tag_with Application 1 (boolean (eqb (first % 8) 1)) ≡ t → bytes ≡ rest → TakesTag (first ∷ bytes) t rest
boolean_takes first bytes t rest e lt t-is r =
    elim (cases_lt 0 (first % 8)) [
      | inl set ↦ let o : first % 8 ≡ 1 = omega arith in
          let is : tag_with Application 1 (boolean true) ≡ t = rw o at t-is in
          (17 ∷ [], subst (λ (m : PlainTag). SpellsTag (17 ∷ []) m) is (refl, refl, refl), cons_equal _ _ _ _ (omega arith) r)
      | inr unset ↦ let o : first % 8 ≡ 0 = omega arith in
          let is : tag_with Application 1 (boolean false) ≡ t = rw o at t-is in
          (16 ∷ [], subst (λ (m : PlainTag). SpellsTag (16 ∷ []) m) is (refl, refl, refl), cons_equal _ _ _ _ (omega arith) r)
    ]

application_takes : (first : ℕ) (bytes : List ℕ) (t : PlainTag) (rest : List ℕ) → first < 256 → first / 8 % 2 ≡ 0 → AreOctets bytes
    → application_at (first / 16) (first % 8) bytes ≡ Ok (t, rest) → TakesTag (first ∷ bytes) t rest
unfolding application_at
application_takes first bytes t rest lt bit fits e =
    elim (which_way (ltb 5 (first % 8)) (Err BadTag) _ (Ok (t, rest)) e) [
      | inl w ↦ absurd (err_is_not_ok _ _ w.1)
      | inr w ↦ elim (which_way (eqb (first / 16) 0) _ _ (Ok (t, rest)) w.1) [
        | inl v ↦ elim (which_way (eqb (first % 8) 0) _ _ (Ok (t, rest)) v.1) [
          | inl u ↦ let p = ok_pair_injective (tag_with Application 0 null) t bytes rest u.1 in
              let z : first ≡ 0 = omega (arith, eqb-true _ _ v.0, eqb-true _ _ u.0) in
              (0 ∷ [], subst (λ (m : PlainTag). SpellsTag (0 ∷ []) m) p.0 (refl, refl, refl), cons_equal _ _ _ _ z p.1)
          | inr u ↦ absurd (err_is_not_ok _ _ u.1)
        ]
        | inr v ↦ elim (which_way (eqb (first / 16) 1) _ _ (Ok (t, rest)) v.1) [
          | inl u ↦ elim (which_way (ltb (first % 8) 2) _ _ (Ok (t, rest)) u.1) [
            | inl y ↦ let p = ok_pair_injective (tag_with Application 1 (boolean (eqb (first % 8) 1))) t bytes rest y.1 in
                boolean_takes first bytes t rest (omega (arith, eqb-true _ _ u.0)) (ltb-true _ _ y.0) p.0 p.1
            | inr y ↦ absurd (err_is_not_ok _ _ y.1)
          ]
          | inr u ↦ let b = bind_ok (number_at (first / 16) bytes) (λ n. contents_at Application n.0 (first % 8) n.1) (t, rest) u.1 in
              let n = number_takes (first / 16) bytes b.0.0 b.0.1 (omega arith) b.1 in
              let c = contents_takes Application b.0.0 (first % 8) b.0.1 t rest (omega (arith, ltb-false _ _ w.0)) (AreOctets-after _ _ _ n.parts fits) b.2 in
              tag_takes_contents Application b.0.0 (first / 16) (first % 8) first bytes b.0.1 t rest
              (number_above b.0.0 (first / 16) n.high (eqb-false _ _ v.0) (eqb-false _ _ u.0)) (omega arith) n c
        ]
      ]
    ]

context_takes : (first : ℕ) (bytes : List ℕ) (t : PlainTag) (rest : List ℕ) → first < 256 → first / 8 % 2 ≡ 1 → AreOctets bytes
    → context_at (first / 16) (first % 8) bytes ≡ Ok (t, rest) → TakesTag (first ∷ bytes) t rest
unfolding context_at
context_takes first bytes t rest lt bit fits e =
    let b = bind_ok (number_at (first / 16) bytes) _ (t, rest) e in
    let n = number_takes (first / 16) bytes b.0.0 b.0.1 (omega arith) b.1 in
    elim (which_way (eqb (first % 8) 6) _ _ (Ok (t, rest)) b.2) [
      | inl w ↦ let p = ok_pair_injective (tag_with Context b.0.0 opening) t b.0.1 rest w.1 in
          let first-is : first ≡ 16 * number_bits b.0.0 + 8 + 6 = omega (arith, n.high, eqb-true _ _ w.0) in (
            initial_octets Context b.0.0 6,
            subst (λ (m : PlainTag). SpellsTag (initial_octets Context b.0.0 6) m) p.0 (refl, n.fits, refl),
            cons_equal first _ bytes _ first-is (n.parts ∙ ap (λ (x : List ℕ). number_octets b.0.0 ++ x) p.1),
          )
      | inr w ↦ elim (which_way (eqb (first % 8) 7) _ _ (Ok (t, rest)) w.1) [
        | inl v ↦ let p = ok_pair_injective (tag_with Context b.0.0 closing) t b.0.1 rest v.1 in
            let first-is : first ≡ 16 * number_bits b.0.0 + 8 + 7 = omega (arith, n.high, eqb-true _ _ v.0) in (
              initial_octets Context b.0.0 7,
              subst (λ (m : PlainTag). SpellsTag (initial_octets Context b.0.0 7) m) p.0 (refl, n.fits, refl),
              cons_equal first _ bytes _ first-is (n.parts ∙ ap (λ (x : List ℕ). number_octets b.0.0 ++ x) p.1),
            )
        | inr v ↦ let c = contents_takes Context b.0.0 (first % 8) b.0.1 t rest (omega (arith, eqb-false _ _ w.0, eqb-false _ _ v.0))
            (AreOctets-after _ _ _ n.parts fits) v.1 in
            tag_takes_contents Context b.0.0 (first / 16) (first % 8) first bytes b.0.1 t rest tt (omega arith) n c
      ]
    ]

pub tag_takes : (bytes : List ℕ) (t : PlainTag) (rest : List ℕ) → AreOctets bytes → tag_at bytes ≡ Ok (t, rest) → TakesTag bytes t rest
unfolding tag_at
tag_takes [] t rest fits e = absurd (err_is_not_ok _ _ e)
tag_takes (first ∷ bytes) t rest fits e =
    elim (which_way (eqb (first / 8 % 2) 0) _ _ (Ok (t, rest)) e) [
      | inl w ↦ application_takes first bytes t rest (fits 0) (eqb-true _ _ w.0) (AreOctets-rest first bytes fits) w.1
      | inr w ↦ context_takes first bytes t rest (fits 0) (omega (arith, eqb-false _ _ w.0)) (AreOctets-rest first bytes fits) w.1
    ]

-- ---- what is spelled is read

contents_tag_again : (class : Class) (number : ℕ) (inner rest : List ℕ) (form : LengthForm) → HasContents class number → number < 255 →
    IsLength form (length inner)
    → tag_at ((initial_octets class number (length_bits form (length inner)) ++ (length_octets form (length inner) ++ inner)) ++ rest)
    ≡ Ok (tag_with class number (contents inner), rest)
unfolding tag_at application_at context_at
contents_tag_again Application number inner rest form has lt fits =
    let low-lt = length_bits-lt form (length inner) fits in
    let p = octet_parts (number_bits number) 0 (length_bits form (length inner)) _ (omega arith) (omega arith) refl in
    let above = number_bits_above number has in
    let bit : eqb ((16 * number_bits number + 0 + length_bits form (length inner)) / 8 % 2) 0 ≡ true = eq-eqb _ _ (omega arith) in
    let low : ltb 5 (length_bits form (length inner)) ≡ false = le-ltb _ _ (omega arith) in
    let zero-not : eqb (number_bits number) 0 ≡ false = ne_eqb _ _ (λ e. omega arith) in
    let one-not : eqb (number_bits number) 1 ≡ false = ne_eqb _ _ (λ e. omega arith) in
    ap (λ (x : List ℕ). tag_at ((16 * number_bits number + 0 + length_bits form (length inner)) ∷ x))
    (sym (regroup (number_octets number) (length_octets form (length inner)) inner rest))
    ∙ rw (bit, p.0, p.2, low, zero-not, one-not, number_again number (length_octets form (length inner) ++ (inner ++ rest)) lt)
    (contents_again Application number form inner rest fits)
contents_tag_again Context number inner rest form has lt fits =
    let low-lt = length_bits-lt form (length inner) fits in
    let p = octet_parts (number_bits number) 1 (length_bits form (length inner)) (16 * number_bits number + 8 + length_bits form (length inner)) (omega arith)
    (omega arith) (omega arith) in
    let bit : eqb ((16 * number_bits number + 8 + length_bits form (length inner)) / 8 % 2) 0 ≡ false = ne_eqb _ _ (λ e. omega arith) in
    let six-not : eqb (length_bits form (length inner)) 6 ≡ false = ne_eqb _ _ (λ e. omega arith) in
    let seven-not : eqb (length_bits form (length inner)) 7 ≡ false = ne_eqb _ _ (λ e. omega arith) in
    ap (λ (x : List ℕ). tag_at ((16 * number_bits number + 8 + length_bits form (length inner)) ∷ x))
    (sym (regroup (number_octets number) (length_octets form (length inner)) inner rest))
    ∙ rw (bit, p.0, p.2, number_again number (length_octets form (length inner) ++ (inner ++ rest)) lt, six-not, seven-not)
    (contents_again Context number form inner rest fits)

bracket_again : (number low : ℕ) (rest : List ℕ) → number < 255 → low < 8
    → tag_at (initial_octets Context number low ++ rest)
    ≡ (cond (eqb low 6) (Ok (tag_with Context number opening, rest))
    (cond (eqb low 7) (Ok (tag_with Context number closing, rest)) (contents_at Context number low rest)))
unfolding tag_at context_at
bracket_again number low rest lt low-lt =
    let p = octet_parts (number_bits number) 1 low (16 * number_bits number + 8 + low) (omega arith) (omega arith) (omega arith) in
    let bit : eqb ((16 * number_bits number + 8 + low) / 8 % 2) 0 ≡ false = ne_eqb _ _ (λ e. omega arith) in
    rw (bit, p.0, p.2, number_again number rest lt) refl

null_again : (rest : List ℕ) → tag_at ((0 ∷ []) ++ rest) ≡ Ok (tag_with Application 0 null, rest)
unfolding tag_at application_at
null_again rest = refl

false_again : (rest : List ℕ) → tag_at ((16 ∷ []) ++ rest) ≡ Ok (tag_with Application 1 (boolean false), rest)
unfolding tag_at application_at
false_again rest = refl

true_again : (rest : List ℕ) → tag_at ((17 ∷ []) ++ rest) ≡ Ok (tag_with Application 1 (boolean true), rest)
unfolding tag_at application_at
true_again rest = refl

spelled_again : (front : List ℕ) (class : Class) (number : ℕ) (content : PlainContent) (rest : List ℕ) → SpellsContent front class number content →
    tag_at (front ++ rest) ≡ Ok (tag_with class number content, rest)
spelled_again front class number null rest s = rw (s.0, s.1, s.2) (null_again rest)
spelled_again front class number (boolean false) rest s = rw (s.0, s.1, s.2) (false_again rest)
spelled_again front class number (boolean true) rest s = rw (s.0, s.1, s.2) (true_again rest)
spelled_again front class number (contents inner) rest s = rw (s.parts) (contents_tag_again class number inner rest s.form s.may s.number_fits s.length_fits)
spelled_again front class number opening rest s = rw (s.0, s.2) (bracket_again number 6 rest s.1 (omega arith))
spelled_again front class number closing rest s = rw (s.0, s.2) (bracket_again number 7 rest s.1 (omega arith))

pub tag_again : (front : List ℕ) (t : PlainTag) (rest : List ℕ) → SpellsTag front t → tag_at (front ++ rest) ≡ Ok (t, rest)
tag_again front t rest s = spelled_again front t.class t.number t.content rest s

-- where reading fails no front is spelled
pub unread_is_unspelled : (bytes : List ℕ) (d : Fault) → tag_at bytes ≡ Err d → (front rest : List ℕ) (t : PlainTag) → SpellsTag front t →
    bytes ≡ front ++ rest → ⊥
unread_is_unspelled bytes d e front rest t s is = err_is_not_ok d (t, rest) (sym e ∙ ap tag_at is ∙ tag_again front t rest s)

pub read_is_spelled : (bytes : List ℕ) (r : Result (Tag × Bor (List ℕ)) Fault) → AreOctets bytes → Gives (λ x. (plain_tag x.0, x.1.now)) r (tag_at bytes) →
    IfOk r (λ x. TakesTag bytes (plain_tag x.0) x.1.now)
read_is_spelled bytes (Ok x) fits given = tag_takes bytes (plain_tag x.0) x.1.now fits given
read_is_spelled bytes (Err e) fits given = tt

pub refused_has_no_tag : (bytes : List ℕ) (r : Result (Tag × Bor (List ℕ)) Fault) → Gives (λ x. (plain_tag x.0, x.1.now)) r (tag_at bytes) →
    OnErr r (NoTag bytes)
refused_has_no_tag bytes (Ok x) given = tt
refused_has_no_tag bytes (Err e) given = record { none = unread_is_unspelled bytes e given }
