-- What octets from 55 FF on are.
use Rattle.std.proofs.Common.{◌≡◌, ℕ, zero, suc, ◌+◌, ◌-◌, ◌/◌, ◌%◌, ◌==◌, ◌<◌, ◌≤◌, nat_lt, Bool, true, false, List, [], ◌∷◌, ◌++◌, length, take, drop}
use Rattle.std.proofs.Common.{slice_index, refl, ap, sym, subst, arith, ◌∙◌, length-append}
use Rattle.std.proofs.lemmas.Bool.{eqb-true, eqb-false, ltb-true, ltb-false}
use Rattle.std.proofs.lemmas.List.{length-drop, length-take, take-append-drop, take-append-le, drop-append-le, get_or_append_left, take_at, drop_at}
use Rattle.byteorder.specs.Endian.{big_bytes}
use Rattle.tags.specs.Number.{AreOctets}
use Rattle.tags.proofs.OctetLists.{cons_equal}
use Rattle.mstp_frame.specs.Remainder.{header_remainder, data_remainder}
use Rattle.mstp_frame.specs.Frame.{PlainFrame, Spells, SpellsData}
use Rattle.mstp_frame.specs.Heard.{size_at, span, HasFront, NoFrame}
use Rattle.mstp_frame.specs.Front.{frame_at, IsFront}

-- what is left of the header, with its check octet
abbrev pub left_at : List ℕ → ℕ
left_at octets = header_remainder (take 6 (drop 2 octets))

pub data Span (octets : List ℕ) : Type 0 where
  is_bad : (left_at octets ≡ 0x55 → size_at octets ≤ 501 → ⊥) → span octets ≡ 8 → Span octets
  is_bare : left_at octets ≡ 0x55 → size_at octets ≡ 0 → span octets ≡ 8 → Span octets
  is_long : left_at octets ≡ 0x55 → 0 < size_at octets → size_at octets ≤ 501 → span octets ≡ 10 + size_at octets → Span octets

positive : (n : ℕ) → (n ≡ 0 → ⊥) → 0 < n
positive zero ne = absurd (ne refl)
positive (suc n) ne = omega arith

span_by : (octets : List ℕ) (good fits none : Bool) → (left_at octets == 0x55) ≡ good → nat_lt (size_at octets) 502 ≡ fits → (size_at octets == 0) ≡ none →
    Span octets
unfolding span
span_by octets false fits none e f g = is_bad (λ left few. absurd (eqb-false _ _ e left)) (rw e refl)
span_by octets true false none e f g = is_bad (λ left few. absurd (omega (arith, few, ltb-false (size_at octets) 502 f))) (rw (e, f) refl)
span_by octets true true true e f g = is_bare (eqb-true _ _ e) (eqb-true _ _ g) (rw (e, f, g) refl)
span_by octets true true false e f g = is_long (eqb-true _ _ e) (positive (size_at octets) (eqb-false _ _ g)) (omega (arith, ltb-true (size_at octets) 502 f))
    (rw (e, f, g) refl)

pub span_is : (octets : List ℕ) → Span octets
span_is octets = span_by octets _ _ _ refl refl refl

-- eight octets at least are taken together
pub eight_taken : (octets : List ℕ) → 8 ≤ span octets
eight_taken octets = elim (span_is octets)
    [ is_bad wrong e ↦ omega (arith, e) | is_bare left none e ↦ omega (arith, e) | is_long left some few e ↦ omega (arith, e) ]

-- the header that octets spell a frame with
pub record HasHeader (octets : List ℕ) (f : PlainFrame) : Type 0 where
  pub begins : take 2 octets ≡ 0x55 ∷ 0xFF ∷ []
  pub left : left_at octets ≡ 0x55
  pub size : size_at octets ≡ length f.contents
  pub few : length f.contents ≤ 501
  pub behind : SpellsData (drop 8 octets) f.contents

spelled_header : (octets : List ℕ) (f : PlainFrame) → Spells octets f → HasHeader octets f
spelled_header octets f s = record {
  begins = ap (take 2) s.parts;
  left = ap left_at s.parts ∙ s.header;
  size = ap size_at s.parts ∙ omega (arith, s.size);
  few = s.size;
  behind = subst (λ o. SpellsData o f.contents) (sym (ap (drop 8) s.parts)) s.contents;
}

no_data : (octets contents : List ℕ) → SpellsData octets contents → length contents ≡ 0 → octets ≡ []
no_data octets [] e none = e
no_data octets (octet ∷ more) s none = absurd (omega (arith, none))

some_data : (octets contents : List ℕ) → SpellsData octets contents → 0 < length contents → (length octets ≡ 2 + length contents) ×
    (data_remainder octets ≡ 0xF0B8)
some_data octets [] e some = absurd (omega (arith, some))
some_data octets (octet ∷ more) s some = (omega (arith, ap length s.parts, length-append (octet ∷ more) (s.low ∷ s.high ∷ [])), s.check)

-- a bad header spells no frame
pub lost_header : (octets : List ℕ) → (left_at octets ≡ 0x55 → size_at octets ≤ 501 → ⊥) → NoFrame octets
lost_header octets wrong = record { none = λ f s. let h = spelled_header octets f s in wrong h.left (omega (arith, h.size, h.few)) }

pub lost_data : (octets : List ℕ) → 0 < size_at octets → (data_remainder (drop 8 octets) ≡ 0xF0B8 → ⊥) → NoFrame octets
lost_data octets some wrong = record {
  none = λ f s. let h = spelled_header octets f s in
      wrong (some_data (drop 8 octets) f.contents h.behind (omega (arith, h.size, some))).1;
}

-- octets by their places
eight_parts : (octets : List ℕ) → 8 ≤ length octets →
    octets ≡ slice_index octets 0 ∷ slice_index octets 1 ∷ slice_index octets 2 ∷ slice_index octets 3 ∷ slice_index octets 4
    ∷ slice_index octets 5 ∷ slice_index octets 6 ∷ slice_index octets 7 ∷ drop 8 octets
eight_parts (a ∷ b ∷ c ∷ d ∷ e ∷ f ∷ g ∷ h ∷ rest) le = refl
eight_parts [] le = absurd (omega arith)
eight_parts (a ∷ []) le = absurd (omega arith)
eight_parts (a ∷ b ∷ []) le = absurd (omega arith)
eight_parts (a ∷ b ∷ c ∷ []) le = absurd (omega arith)
eight_parts (a ∷ b ∷ c ∷ d ∷ []) le = absurd (omega arith)
eight_parts (a ∷ b ∷ c ∷ d ∷ e ∷ []) le = absurd (omega arith)
eight_parts (a ∷ b ∷ c ∷ d ∷ e ∷ f ∷ []) le = absurd (omega arith)
eight_parts (a ∷ b ∷ c ∷ d ∷ e ∷ f ∷ g ∷ []) le = absurd (omega arith)

two_parts : (octets : List ℕ) → length octets ≡ 2 → octets ≡ slice_index octets 0 ∷ slice_index octets 1 ∷ []
two_parts (a ∷ b ∷ []) e = refl
two_parts [] e = absurd (omega arith)
two_parts (a ∷ []) e = absurd (omega arith)
two_parts (a ∷ b ∷ c ∷ rest) e = absurd (omega arith)

none_left : (octets : List ℕ) → length octets ≡ 0 → octets ≡ []
none_left [] e = refl
none_left (a ∷ rest) e = absurd (omega arith)

-- a good header, its check, and data of its length
spelled_by : (octets contents : List ℕ) → take 2 octets ≡ 0x55 ∷ 0xFF ∷ [] → 8 ≤ length octets → AreOctets octets → left_at octets ≡ 0x55
    → length contents ≡ size_at octets → length contents ≤ 501 → SpellsData (drop 8 octets) contents
    → Spells octets (record { frame_type = slice_index octets 2; destination = slice_index octets 3; source = slice_index octets 4; contents = contents })
spelled_by octets contents begins eight fits left size few behind =
    let parts = eight_parts octets eight in
    let first : slice_index octets 0 ≡ 0x55 = ap (λ o. slice_index o 0) (sym (ap (take 2) parts) ∙ begins) in
    let second : slice_index octets 1 ≡ 0xFF = ap (λ o. slice_index o 1) (sym (ap (take 2) parts) ∙ begins) in
    let high : slice_index octets 5 ≡ length contents / 256 % 256 = omega (arith, size, fits 5, fits 6) in
    let low : slice_index octets 6 ≡ length contents % 256 = omega (arith, size, fits 5, fits 6) in
    let head = slice_index octets 2 ∷ slice_index octets 3 ∷ slice_index octets 4 ∷ [] in
    let check = slice_index octets 7 in
    let sizes : slice_index octets 5 ∷ slice_index octets 6 ∷ [] ≡ big_bytes 2 (length contents) = cons_equal _ _ _ _ high (cons_equal _ _ _ _ low refl) in
    record {
      check = check;
      behind = drop 8 octets;
      parts = parts ∙ ap (λ a. a ∷ slice_index octets 1 ∷ (head ++ slice_index octets 5 ∷ slice_index octets 6 ∷ check ∷ drop 8 octets)) first
          ∙ ap (λ b. 0x55 ∷ b ∷ (head ++ slice_index octets 5 ∷ slice_index octets 6 ∷ check ∷ drop 8 octets)) second
          ∙ ap (λ n. 0x55 ∷ 0xFF ∷ (head ++ n ++ check ∷ drop 8 octets)) sizes;
      header = ap (λ n. header_remainder (head ++ n ++ check ∷ [])) (sym sizes) ∙ ap (λ o. header_remainder (take 6 (drop 2 o))) (sym parts) ∙ left;
      contents = behind;
      size = few;
      are_octets = fits;
    }

pub whole_bare : (octets : List ℕ) → take 2 octets ≡ 0x55 ∷ 0xFF ∷ [] → length octets ≡ 8 → AreOctets octets → left_at octets ≡ 0x55 → size_at octets ≡ 0 →
    Spells octets (frame_at octets)
whole_bare octets begins eight fits left none =
    let nothing : take (length octets - 10) (drop 8 octets) ≡ [] = ap (λ n. take (n - 10) (drop 8 octets)) eight in
    let behind : SpellsData (drop 8 octets) [] = none_left (drop 8 octets) (omega (arith, length-drop 8 octets, eight)) in
    subst (λ c. Spells octets (record { frame_type = slice_index octets 2; destination = slice_index octets 3; source = slice_index octets 4; contents = c }))
    (sym nothing)
    (spelled_by octets [] begins (omega (arith, eight)) fits left (sym none) (omega arith) behind)

data_spelled : (octets contents : List ℕ) (low high : ℕ) → octets ≡ contents ++ low ∷ high ∷ [] → 0 < length contents → data_remainder octets ≡ 0xF0B8 →
    SpellsData octets contents
data_spelled octets [] low high e some left = absurd (omega (arith, some))
data_spelled octets (octet ∷ more) low high e some left = record { low = low; high = high; parts = e; check = left }

pub whole_data : (octets : List ℕ) → take 2 octets ≡ 0x55 ∷ 0xFF ∷ [] → length octets ≡ 10 + size_at octets → AreOctets octets → left_at octets ≡ 0x55
    → 0 < size_at octets → size_at octets ≤ 501 → data_remainder (drop 8 octets) ≡ 0xF0B8 → Spells octets (frame_at octets)
whole_data octets begins long fits left some few check =
    let n = length octets - 10 in
    let behind = drop 8 octets in
    let size : length (take n behind) ≡ size_at octets = length-take n behind ∙ omega (arith, length-drop 8 octets, long) in
    let two : length (drop n behind) ≡ 2 = length-drop n behind ∙ omega (arith, length-drop 8 octets, long) in
    let parts : behind ≡ take n behind ++ slice_index (drop n behind) 0 ∷ slice_index (drop n behind) 1 ∷ [] =
    sym (take-append-drop n behind) ∙ ap (λ last. take n behind ++ last) (two_parts (drop n behind) two) in
    spelled_by octets (take n behind) begins (omega (arith, long)) fits left size (omega (arith, size, few))
    (data_spelled behind (take n behind) _ _ parts (omega (arith, size, some)) check)

-- behind a good header more than eight octets are taken together
pub record IsGood (octets : List ℕ) : Type 0 where
  pub left : left_at octets ≡ 0x55
  pub some : 0 < size_at octets
  pub few : size_at octets ≤ 501
  pub span : span octets ≡ 10 + size_at octets

pub more_taken : (octets : List ℕ) → 8 < span octets → IsGood octets
more_taken octets lt = elim (span_is octets) [
  | is_bad wrong e ↦ absurd (omega (arith, lt, e))
  | is_bare left none e ↦ absurd (omega (arith, lt, e))
  | is_long left some few e ↦ record { left = left; some = some; few = few; span = e }
]

-- how many octets are taken together, the first eight say
pub span_more : (octets rest : List ℕ) → 8 ≤ length octets → span (octets ++ rest) ≡ span octets
unfolding span
span_more octets rest eight =
    let header : take 6 (drop 2 (octets ++ rest)) ≡ take 6 (drop 2 octets) =
    ap (take 6) (drop-append-le 2 octets rest (omega (arith, eight))) ∙ take-append-le 6 (drop 2 octets) rest (omega (arith, eight, length-drop 2 octets)) in
    let high : slice_index (octets ++ rest) 5 ≡ slice_index octets 5 = get_or_append_left octets rest 0 5 (omega (arith, eight)) in
    let low : slice_index (octets ++ rest) 6 ≡ slice_index octets 6 = get_or_append_left octets rest 0 6 (omega (arith, eight)) in
    rw (header, high, low) refl

pub span_take : (n : ℕ) (octets : List ℕ) → 8 ≤ n → n ≤ length octets → span (take n octets) ≡ span octets
span_take n octets eight le =
    sym (span_more (take n octets) (drop n octets) (omega (arith, eight, le, length-take n octets))) ∙ ap span (take-append-drop n octets)

-- octets that spell a frame are taken together
pub spelled_span : (octets : List ℕ) (f : PlainFrame) → Spells octets f → length octets ≡ span octets
spelled_span octets f s =
    let h = spelled_header octets f s in
    let eight : 8 ≤ length octets = omega (arith, ap length s.parts) in
    elim (span_is octets) [
      | is_bad wrong e ↦ absurd (wrong h.left (omega (arith, h.size, h.few)))
      | is_bare left none e ↦ omega (
        arith,
        e,
        eight,
        length-drop 8 octets,
        ap length (no_data (drop 8 octets) f.contents h.behind (omega (arith, h.size, none))),
      )
      | is_long left some few e ↦ omega (
        arith,
        e,
        eight,
        length-drop 8 octets,
        h.size,
        (some_data (drop 8 octets) f.contents h.behind (omega (arith, h.size, some))).0,
      )
    ]

pub spelled_begins : (octets : List ℕ) (f : PlainFrame) → Spells octets f → take 2 octets ≡ 0x55 ∷ 0xFF ∷ []
spelled_begins octets f s = (spelled_header octets f s).begins

-- what is taken together, and others behind it
pub front_parts : (front rest : List ℕ) → IsFront front → HasFront (front ++ rest) × (take (span (front ++ rest)) (front ++ rest) ≡ front) ×
    (drop (span (front ++ rest)) (front ++ rest) ≡ rest)
front_parts front rest is =
    let eight : 8 ≤ length front = omega (arith, is.whole, eight_taken front) in
    let all : length front ≡ span (front ++ rest) = is.whole ∙ sym (span_more front rest eight) in (
      record {
        begins = take-append-le 2 front rest (omega (arith, eight)) ∙ is.begins;
        whole = omega (arith, all, length-append front rest);
      },
      take_at front rest (span (front ++ rest)) all,
      drop_at front rest (span (front ++ rest)) all,
    )
