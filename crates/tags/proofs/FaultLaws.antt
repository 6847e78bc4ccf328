-- When reading a tag fails, and with which fault.
use Rattle.std.proofs.Common.{◌≡◌, ℕ, ◌+◌, ◌-◌, ◌*◌, ◌/◌, ◌%◌, ◌<◌, ◌≤◌, ◌⊎◌, ltb, eqb, List, [], ◌∷◌, ◌++◌, length, drop, replicate, Result, Ok, Err, refl}
use Rattle.std.proofs.Common.{sym, ap, subst, ◌∙◌, append_assoc, arith, inl, inr}
use Rattle.std.proofs.lemmas.Bool.{cases_lt, ltb-true, ltb-false, eqb-true, eqb-false}
use Rattle.std.proofs.lemmas.List.{length-append, length-replicate, drop_all, append-nil}
use Rattle.byteorder.specs.Endian.{big_number, big_bytes}
use Rattle.byteorder.specs.Numbers.{big_from-lt}
use Rattle.tags.specs.declared.fault.Fault.{Fault}
use Rattle.tags.specs.declared.fault.Fault.TheVariants.{Short, BadTag, BadLength}
use Rattle.tags.specs.declared.tag.Class.{Class}
use Rattle.tags.specs.declared.tag.Class.TheVariants.{Application, Context}
use Rattle.tags.specs.Tag.{PlainTag, null, contents, opening, closing, class_bit, number_bits, number_octets, LengthForm, in_initial, in_octet, in_two, in_four}
use Rattle.tags.specs.Tag.{length_bits, length_octets, IsLength, HasContents, IsCutTag, IsReservedNumber, RefusesTag, plain_tag}
use Rattle.std.proofs.Common.{Bor}
use Rattle.std.specs.Prelude.{IfErr}
use Rattle.tags.specs.declared.tag.Tag.{Tag}
use Rattle.tags.specs.TagReading.{number_at, sized_at, long_length_at, length_at, contents_at, application_at, context_at, tag_at, Gives}
use Rattle.tags.specs.Number.{AreOctets}
use Rattle.tags.proofs.Numbers.{two_again, four_again}
use Rattle.tags.proofs.OctetLists.{AreOctets-rest, AreOctets-after, cons_equal, padded_are_octets}
use Rattle.tags.proofs.Steps.{bind_err, which_way, err_is_not_ok, ok_is_not_err, err_injective, ok_pair_injective}
use Rattle.tags.proofs.TagLaws.{tag_with, number_takes, number_above}

-- ---- what a cut length or cut contents lack

-- with these octets behind them, length and contents are whole
record WholeContents (low : ℕ) (bytes : List ℕ) : Type 0 where
  more : List ℕ
  inner : List ℕ
  form : LengthForm
  fits : IsLength form (length inner)
  bits : length_bits form (length inner) ≡ low
  parts : bytes ++ more ≡ length_octets form (length inner) ++ inner

-- some octet is lacking
record CutContents (low : ℕ) (bytes : List ℕ) : Type 0 where
  whole : WholeContents low bytes
  lacks : 0 < length whole.more

-- the contents of length n that begin with these
padded_length : (bytes : List ℕ) (n : ℕ) → length bytes ≤ n → length (bytes ++ replicate (n - length bytes) 0) ≡ n
padded_length bytes n le = simp (length-append, length-replicate) (omega arith)

record SizedForm (n first : ℕ) (form : LengthForm) : Type 0 where
  again : (bytes : List ℕ) → n ≤ length bytes → AreOctets bytes → bytes ≡ big_bytes n (big_number n bytes) ++ drop n bytes
  octets : (k : ℕ) → length_octets form k ≡ first ∷ big_bytes n k
  fits : (bytes : List ℕ) → AreOctets bytes → IsLength form (big_number n bytes)
  bits : (k : ℕ) → length_bits form k ≡ 5

two_octet_form : SizedForm 2 254 in_two
two_octet_form = record { again = two_again; octets = λ k. refl; fits = λ bytes h. let b = big_from-lt 0 2 bytes h in omega (arith, b); bits = λ k. refl }

four_octet_form : SizedForm 4 255 in_four
four_octet_form = record { again = four_again; octets = λ k. refl; fits = λ bytes h. let b = big_from-lt 0 4 bytes h in omega (arith, b); bits = λ k. refl }

-- the length itself is cut: zeros complete it, and as many zeros as it then says are the contents
cut_length : (n first : ℕ) (form : LengthForm) (s : SizedForm n first form) (bytes : List ℕ) → length bytes < n → AreOctets bytes →
    CutContents 5 (first ∷ bytes)
cut_length n first form s bytes lt fits =
    let pad = replicate (n - length bytes) 0 in
    let full = bytes ++ pad in
    let full-len : length full ≡ n = padded_length bytes n (omega arith) in
    let full-fits = padded_are_octets bytes (n - length bytes) fits in
    let len = big_number n full in
    let inner = replicate len 0 in
    let inner-len : length inner ≡ len = length-replicate {A = ℕ} len 0 in
    let whole : full ≡ big_bytes n len = s.again full (omega arith) full-fits ∙ ap (λ (x : List ℕ). big_bytes n len ++ x) (drop_all n full (omega arith))
    ∙ append-nil (big_bytes n len) in
    record {
      whole = record {
        more = pad ++ inner;
        inner = inner;
        form = form;
        fits = rw inner-len (s.fits full full-fits);
        bits = s.bits (length inner);
        parts = rw (inner-len, s.octets len) (cons_equal first first _ _ refl (sym (append_assoc bytes pad inner) ∙ ap (λ (x : List ℕ). x ++ inner) whole));
      };
      lacks = omega (arith, length-append pad inner, length-replicate {A = ℕ} (n - length bytes) 0);
    }

-- the contents are cut
cut_contents : (n first : ℕ) (form : LengthForm) (s : SizedForm n first form) (bytes : List ℕ) → n ≤ length bytes →
    length (drop n bytes) < big_number n bytes → AreOctets bytes → CutContents 5 (first ∷ bytes)
cut_contents n first form s bytes le short fits =
    let len = big_number n bytes in
    let pad = replicate (len - length (drop n bytes)) 0 in
    let inner = drop n bytes ++ pad in
    let inner-len : length inner ≡ len = padded_length (drop n bytes) len (omega arith) in
    record {
      whole = record {
        more = pad;
        inner = inner;
        form = form;
        fits = rw inner-len (s.fits bytes fits);
        bits = s.bits (length inner);
        parts = rw (inner-len, s.octets len) (cons_equal first first _ _ refl (ap (λ (x : List ℕ). x ++ pad) (s.again bytes le fits)
            ∙ append_assoc (big_bytes n len) (drop n bytes) pad));
      };
      lacks = omega (arith, length-replicate {A = ℕ} (len - length (drop n bytes)) 0);
    }

cut_behind_one_octet : (first : ℕ) (bytes : List ℕ) → first < 254 → length bytes < first → CutContents 5 (first ∷ bytes)
cut_behind_one_octet first bytes lt short =
    let pad = replicate (first - length bytes) 0 in
    let inner-len : length (bytes ++ pad) ≡ first = padded_length bytes first (omega arith) in
    record {
      whole = record { more = pad; inner = bytes ++ pad; form = in_octet; fits = rw inner-len lt; bits = refl; parts = rw inner-len refl };
      lacks = omega (arith, length-replicate {A = ℕ} (first - length bytes) 0);
    }

abbrev whole_behind_initial_octet : (low : ℕ) (bytes : List ℕ) → low < 5 → length bytes ≤ low → WholeContents low bytes
whole_behind_initial_octet low bytes lt short =
    let pad = replicate (low - length bytes) 0 in
    let inner-len : length (bytes ++ pad) ≡ low = padded_length bytes low short in
    record { more = pad; inner = bytes ++ pad; form = in_initial; fits = rw inner-len lt; bits = inner-len; parts = refl }

cut_behind_initial_octet : (low : ℕ) (bytes : List ℕ) → low < 5 → length bytes < low → CutContents low bytes
cut_behind_initial_octet low bytes lt short =
    record { whole = whole_behind_initial_octet low bytes lt (omega arith); lacks = omega (arith, length-replicate {A = ℕ} (low - length bytes) 0) }

abbrev no_length : WholeContents 5 []
no_length = record { more = 0 ∷ []; inner = []; form = in_octet; fits = omega arith; bits = refl; parts = refl }

whole_behind_nothing : (low : ℕ) → low < 6 → WholeContents low []
whole_behind_nothing low lt =
    elim (cases_lt low 5) [
      | inl small ↦ whole_behind_initial_octet low [] small (omega arith)
      | inr large ↦ let e : low ≡ 5 = omega arith in rw e no_length
    ]

-- ---- where reading fails

NumberFails : Fault → ℕ → List ℕ → Type 0
NumberFails d nibble bytes = ((d ≡ Short) × (bytes ≡ []) × (15 ≤ nibble)) ⊎ ((d ≡ BadTag) × (15 ≤ nibble) × IsReservedNumber bytes)

number_fails : (nibble : ℕ) (bytes : List ℕ) (d : Fault) → number_at nibble bytes ≡ Err d → NumberFails d nibble bytes
unfolding number_at NumberFails
number_fails nibble [] d e =
    elim (which_way (ltb nibble 15) _ _ (Err d) e) [
      | inl w ↦ absurd (ok_is_not_err _ _ w.1)
      | inr w ↦ inl (sym (err_injective (ℕ × List ℕ) Short d w.1), refl, ltb-false _ _ w.0)
    ]
number_fails nibble (n ∷ bytes) d e =
    elim (which_way (ltb nibble 15) _ _ (Err d) e) [
      | inl w ↦ absurd (ok_is_not_err _ _ w.1)
      | inr w ↦ elim (which_way (ltb n 15) _ _ (Err d) w.1) [
        | inl v ↦ inr (sym (err_injective (ℕ × List ℕ) BadTag d v.1), ltb-false _ _ w.0, inl (ltb-true _ _ v.0))
        | inr v ↦ elim (which_way (ltb n 255) _ _ (Err d) v.1) [
          | inl u ↦ absurd (ok_is_not_err _ _ u.1)
          | inr u ↦ inr (sym (err_injective (ℕ × List ℕ) BadTag d u.1), ltb-false _ _ w.0, inr (ltb-false _ _ u.0))
        ]
      ]
    ]

sized_fails : (n : ℕ) (bytes : List ℕ) (d : Fault) → sized_at n bytes ≡ Err d → (d ≡ Short) × (length bytes < n)
sized_fails n bytes d e =
    elim (which_way (ltb (length bytes) n) _ _ (Err d) e) [
      | inl w ↦ (sym (err_injective (ℕ × List ℕ) Short d w.1), ltb-true _ _ w.0)
      | inr w ↦ absurd (ok_is_not_err _ _ w.1)
    ]

sized_is : (n : ℕ) (bytes : List ℕ) (x : ℕ × List ℕ) → sized_at n bytes ≡ Ok x → (n ≤ length bytes) × (big_number n bytes ≡ x.0) × (drop n bytes ≡ x.1)
sized_is n bytes x e =
    elim (which_way (ltb (length bytes) n) _ _ (Ok x) e) [
      | inl w ↦ absurd (err_is_not_ok _ _ w.1)
      | inr w ↦ let p = ok_pair_injective (big_number n bytes) x.0 (drop n bytes) x.1 w.1 in (ltb-false _ _ w.0, p.0, p.1)
    ]

long_fails : (bytes : List ℕ) (d : Fault) → AreOctets bytes → long_length_at bytes ≡ Err d → (d ≡ Short) × CutContents 5 bytes
long_fails [] d fits e = (sym (err_injective (ℕ × List ℕ) Short d e), record { whole = no_length; lacks = omega arith })
long_fails (n ∷ bytes) d fits e =
    let below = AreOctets-rest n bytes fits in
    elim (which_way (ltb n 254) _ _ (Err d) e) [
      | inl w ↦ absurd (ok_is_not_err _ _ w.1)
      | inr w ↦ elim (which_way (eqb n 254) _ _ (Err d) w.1) [
        | inl v ↦ let s = sized_fails 2 bytes d v.1 in let is = eqb-true _ _ v.0 in (s.0, rw is (cut_length 2 254 in_two two_octet_form bytes s.1 below))
        | inr v ↦ let s = sized_fails 4 bytes d v.1 in
            let n-is : n ≡ 255 = omega (arith, ltb-false _ _ w.0, eqb-false _ _ v.0, fits 0) in
            (s.0, rw n-is (cut_length 4 255 in_four four_octet_form bytes s.1 below))
      ]
    ]

long_cut : (bytes : List ℕ) (x : ℕ × List ℕ) → AreOctets bytes → long_length_at bytes ≡ Ok x → length x.1 < x.0 → CutContents 5 bytes
long_cut [] x fits e short = absurd (err_is_not_ok _ _ e)
long_cut (n ∷ bytes) x fits e short =
    let below = AreOctets-rest n bytes fits in
    elim (which_way (ltb n 254) _ _ (Ok x) e) [
      | inl w ↦ let p = ok_pair_injective n x.0 bytes x.1 w.1 in cut_behind_one_octet n bytes (ltb-true _ _ w.0) (rw (p.0, p.1) (omega arith))
      | inr w ↦ elim (which_way (eqb n 254) _ _ (Ok x) w.1) [
        | inl v ↦ let s = sized_is 2 bytes x v.1 in let is = eqb-true _ _ v.0 in
            rw is (cut_contents 2 254 in_two two_octet_form bytes s.0 (rw (s.1, s.2) (omega arith)) below)
        | inr v ↦ let s = sized_is 4 bytes x v.1 in
            let n-is : n ≡ 255 = omega (arith, ltb-false _ _ w.0, eqb-false _ _ v.0, fits 0) in
            rw n-is (cut_contents 4 255 in_four four_octet_form bytes s.0 (rw (s.1, s.2) (omega arith)) below)
      ]
    ]

contents_fails : (class : Class) (number low : ℕ) (bytes : List ℕ) (d : Fault) → low < 6 → AreOctets bytes → contents_at class number low bytes ≡ Err d →
    (d ≡ Short) × CutContents low bytes
unfolding contents_at length_at
contents_fails class number low bytes d lt fits e =
    elim (bind_err (length_at low bytes) _ d e) [
      | inl a ↦ elim (which_way (ltb low 5) _ _ (Err d) a) [
        | inl w ↦ absurd (ok_is_not_err _ _ w.1)
        | inr w ↦ let low-is : low ≡ 5 = omega (arith, ltb-false _ _ w.0) in let l = long_fails bytes d fits w.1 in (l.0, rw low-is l.1)
      ]
      | inr a ↦ elim (which_way (ltb (length a.0.1) a.0.0) _ _ (Err d) a.2) [
        | inl w ↦ let short = ltb-true _ _ w.0 in (
          sym (err_injective (PlainTag × List ℕ) Short d w.1),
          elim (which_way (ltb low 5) _ _ (Ok (a.0)) (a.1)) [
            | inl v ↦ let p = ok_pair_injective low a.0.0 bytes a.0.1 v.1 in cut_behind_initial_octet low bytes (ltb-true _ _ v.0) (rw (p.0, p.1) (omega arith))
            | inr v ↦ let low-is : low ≡ 5 = omega (arith, ltb-false _ _ v.0) in rw low-is (long_cut bytes a.0 fits v.1 short)
          ],
        )
        | inr w ↦ absurd (ok_is_not_err _ _ w.1)
      ]
    ]

-- ---- the whole tag

-- the contents are cut behind the initial octet and the number
cut_tag : (class : Class) (number nibble low first : ℕ) (bytes after : List ℕ) → HasContents class number → first ≡ 16 * nibble + class_bit class + low
    → number < 255 → number_bits number ≡ nibble → bytes ≡ number_octets number ++ after → CutContents low after → IsCutTag (first ∷ bytes)
cut_tag class number nibble low first bytes after has e lt high parts c =
    let first-is : first ≡ 16 * number_bits number + class_bit class + length_bits c.whole.form (length c.whole.inner) = rw (high, c.whole.bits) e in
    record {
      more = c.whole.more;
      lacks = c.lacks;
      tag = tag_with class number (contents c.whole.inner);
      spelled = record {
        may = has;
        number_fits = lt;
        form = c.whole.form;
        length_fits = c.whole.fits;
        parts = cons_equal first _ (bytes ++ c.whole.more) _ first-is
            (ap (λ (x : List ℕ). x ++ c.whole.more) parts ∙ append_assoc (number_octets number) after c.whole.more
            ∙ ap (λ (x : List ℕ). number_octets number ++ x) c.whole.parts);
      };
    }

-- the octet of the number is missing: 15 completes it
cut_number : (class : Class) (low first : ℕ) → HasContents class 15 → low < 6 → first ≡ 16 * 15 + class_bit class + low → IsCutTag (first ∷ [])
cut_number class low first has lt e =
    let c = whole_behind_nothing low lt in
    let first-is : first ≡ 16 * 15 + class_bit class + length_bits c.form (length c.inner) = rw (c.bits) e in
    record {
      more = 15 ∷ c.more;
      lacks = omega arith;
      tag = tag_with class 15 (contents c.inner);
      spelled = record {
        may = has;
        number_fits = omega arith;
        form = c.form;
        length_fits = c.fits;
        parts =
            cons_equal first _ _ _ first-is (cons_equal 15 15 _ _ refl c.parts);
      };
    }

reserved_number : (d : Fault) (first : ℕ) (bytes : List ℕ) → d ≡ BadTag → 15 ≤ first / 16 → IsReservedNumber bytes → RefusesTag d (first ∷ bytes)
reserved_number d first bytes is high h = rw is (inr (omega arith, h))

application_fails : (first : ℕ) (bytes : List ℕ) (d : Fault) → first < 256 → first / 8 % 2 ≡ 0 → AreOctets bytes
    → application_at (first / 16) (first % 8) bytes ≡ Err d → RefusesTag d (first ∷ bytes)
unfolding application_at NumberFails
application_fails first bytes d lt bit fits e =
    elim (which_way (ltb 5 (first % 8)) _ _ (Err d) e) [
      | inl w ↦ subst (λ (x : Fault). RefusesTag x (first ∷ bytes)) (err_injective (PlainTag × List ℕ) BadTag d w.1) (inl (bit, ltb-true _ _ w.0))
      | inr w ↦ elim (which_way (eqb (first / 16) 0) _ _ (Err d) w.1) [
        | inl v ↦ elim (which_way (eqb (first % 8) 0) _ _ (Err d) v.1) [
          | inl u ↦ absurd (ok_is_not_err _ _ u.1)
          | inr u ↦ subst (λ (x : Fault). RefusesTag x (first ∷ bytes)) (err_injective (PlainTag × List ℕ) BadLength d u.1)
              (inl (omega (arith, eqb-true _ _ v.0, eqb-false _ _ u.0), omega (arith, eqb-true _ _ v.0, ltb-false _ _ w.0)))
        ]
        | inr v ↦ elim (which_way (eqb (first / 16) 1) _ _ (Err d) v.1) [
          | inl u ↦ elim (which_way (ltb (first % 8) 2) _ _ (Err d) u.1) [
            | inl y ↦ absurd (ok_is_not_err _ _ y.1)
            | inr y ↦ subst (λ (x : Fault). RefusesTag x (first ∷ bytes)) (err_injective (PlainTag × List ℕ) BadLength d y.1)
                (inr (omega (arith, eqb-true _ _ u.0, ltb-false _ _ y.0), omega (arith, eqb-true _ _ u.0, ltb-false _ _ w.0)))
          ]
          | inr u ↦ elim (bind_err (number_at (first / 16) bytes) _ d u.1) [
            | inl y ↦ elim (number_fails (first / 16) bytes d y) [
              | inl n ↦ rw (n.0, n.1) (cut_number Application (first % 8) first (omega arith) (omega (arith, ltb-false _ _ w.0)) (omega (arith, n.2)))
              | inr n ↦ reserved_number d first bytes n.0 n.1 n.2
            ]
            | inr y ↦ let n = number_takes (first / 16) bytes y.0.0 y.0.1 (omega arith) y.1 in
                let low-lt : first % 8 < 6 = omega (arith, ltb-false _ _ w.0) in
                let c = contents_fails Application y.0.0 (first % 8) y.0.1 d low-lt (AreOctets-after _ _ _ n.parts fits) y.2 in
                rw (c.0) (cut_tag Application y.0.0 (first / 16) (first % 8) first bytes y.0.1
                (number_above y.0.0 (first / 16) n.high (eqb-false _ _ v.0) (eqb-false _ _ u.0)) (omega arith) n.fits n.high n.parts c.1)
          ]
        ]
      ]
    ]

-- an opening or a closing tag whose number is missing
cut_bracket : (low first : ℕ) → 6 ≤ low → low < 8 → first ≡ 16 * 15 + 8 + low → IsCutTag (first ∷ [])
cut_bracket low first le lt e =
    elim (cases_lt low 7) [
      | inl six ↦ record {
        more = 15 ∷ [];
        lacks = omega arith;
        tag = tag_with Context 15 opening;
        spelled =
            (refl, omega arith, cons_equal first _ _ _ (omega arith) refl);
      }
      | inr seven ↦ record {
        more = 15 ∷ [];
        lacks = omega arith;
        tag = tag_with Context 15 closing;
        spelled =
            (refl, omega arith, cons_equal first _ _ _ (omega arith) refl);
      }
    ]

context_fails : (first : ℕ) (bytes : List ℕ) (d : Fault) → first < 256 → first / 8 % 2 ≡ 1 → AreOctets bytes
    → context_at (first / 16) (first % 8) bytes ≡ Err d → RefusesTag d (first ∷ bytes)
unfolding context_at NumberFails
context_fails first bytes d lt bit fits e =
    elim (bind_err (number_at (first / 16) bytes) _ d e) [
      | inl y ↦ elim (number_fails (first / 16) bytes d y) [
        | inl n ↦ rw (n.0, n.1) (elim (cases_lt (first % 8) 6) [
          | inl small ↦ cut_number Context (first % 8) first tt small (omega (arith, n.2))
          | inr large ↦ cut_bracket (first % 8) first large (omega arith) (omega (arith, n.2))
        ])
        | inr n ↦ reserved_number d first bytes n.0 n.1 n.2
      ]
      | inr y ↦ elim (which_way (eqb (first % 8) 6) _ _ (Err d) y.2) [
        | inl w ↦ absurd (ok_is_not_err _ _ w.1)
        | inr w ↦ elim (which_way (eqb (first % 8) 7) _ _ (Err d) w.1) [
          | inl v ↦ absurd (ok_is_not_err _ _ v.1)
          | inr v ↦ let n = number_takes (first / 16) bytes y.0.0 y.0.1 (omega arith) y.1 in
              let c = contents_fails Context y.0.0 (first % 8) y.0.1 d (omega (arith, eqb-false _ _ w.0, eqb-false _ _ v.0))
              (AreOctets-after _ _ _ n.parts fits) v.1 in
              rw (c.0) (cut_tag Context y.0.0 (first / 16) (first % 8) first bytes y.0.1 tt (omega arith) n.fits n.high n.parts c.1)
        ]
      ]
    ]

pub tag_fails : (bytes : List ℕ) (d : Fault) → AreOctets bytes → tag_at bytes ≡ Err d → RefusesTag d bytes
unfolding tag_at
tag_fails [] d fits e =
    subst (λ (x : Fault). RefusesTag x []) (err_injective (PlainTag × List ℕ) Short d e)
    (record { more = 0 ∷ []; lacks = omega arith; tag = tag_with Application 0 null; spelled = (refl, refl, refl) })
tag_fails (first ∷ bytes) d fits e =
    elim (which_way (eqb (first / 8 % 2) 0) _ _ (Err d) e) [
      | inl w ↦ application_fails first bytes d (fits 0) (eqb-true _ _ w.0) (AreOctets-rest first bytes fits) w.1
      | inr w ↦ context_fails first bytes d (fits 0) (omega (arith, eqb-false _ _ w.0)) (AreOctets-rest first bytes fits) w.1
    ]

pub refused_for_its_cause : (bytes : List ℕ) (r : Result (Tag × Bor (List ℕ)) Fault) → AreOctets bytes →
    Gives (λ x. (plain_tag x.0, x.1.now)) r (tag_at bytes) → IfErr r (λ e. RefusesTag e bytes)
refused_for_its_cause bytes (Ok x) fits given = tt
refused_for_its_cause bytes (Err e) fits given = tag_fails bytes e fits given
