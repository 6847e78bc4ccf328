-- How octets from 55 FF on are judged.
use Rattle.std.proofs.Common.{◌≡◌, ℕ, ◌+◌, ◌-◌, ◌<◌, ◌≤◌, List, [], ◌∷◌, length, take, drop, inr, ap, sym, arith, ◌∙◌}
use Rattle.std.proofs.lemmas.List.{take_all, length-drop}
use Rattle.tags.specs.Number.{AreOctets}
use Rattle.mstp_frame.specs.Remainder.{header_remainder, data_remainder}
use Rattle.mstp_frame.specs.Frame.{Spells}
use Rattle.mstp_frame.specs.Heard.{size_at, span, IsCut, NoFrame}
use Rattle.mstp_frame.specs.Front.{frame_at, IsFront, IsGoal}
use Rattle.mstp_frame.proofs.Checks.{header_remainder-lt, data_remainder-lt}
use Rattle.mstp_frame.proofs.Fronts.{left_at, span_is, is_bad, is_bare, is_long, lost_header, lost_data, whole_bare, whole_data, more_taken}

-- 55 FF, and fewer octets than are taken together
pub cut_from : (octets : List ℕ) → take 2 octets ≡ 0x55 ∷ 0xFF ∷ [] → length octets < span octets → IsCut octets
cut_from [] begins lt = tt
cut_from (first ∷ []) begins lt = cc begins
cut_from (first ∷ second ∷ octets) begins lt = (cc begins, cc begins, lt)

pub cut_begins : (octets : List ℕ) → 2 ≤ length octets → IsCut octets → (take 2 octets ≡ 0x55 ∷ 0xFF ∷ []) × (length octets < span octets)
cut_begins [] le cut = absurd (omega (arith, le))
cut_begins (first ∷ []) le cut = absurd (omega (arith, le))
cut_begins (first ∷ second ∷ octets) le cut = (ap (λ a. a ∷ second ∷ []) cut.0 ∙ ap (λ b. 0x55 ∷ b ∷ []) cut.1, cut.2)

-- data and their check octets
pub data_whole : (octets behind : List ℕ) (check : ℕ) → take 2 octets ≡ 0x55 ∷ 0xFF ∷ [] → 8 < length octets → length octets ≡ span octets → AreOctets octets
    → behind ≡ drop 8 octets → check ≡ 65535 - data_remainder behind → check ≡ 3911 → IsFront octets × Spells octets (frame_at octets)
data_whole octets behind check begins more whole fits is left e =
    let good = more_taken octets (omega (arith, more, whole)) in
    let remainder : data_remainder (drop 8 octets) ≡ 0xF0B8 = ap data_remainder (sym is) ∙ omega (arith, left, e, data_remainder-lt behind) in
    (record { begins = begins; whole = whole }, whole_data octets begins (whole ∙ good.span) fits good.left good.some good.few remainder)

pub data_lost : (octets behind : List ℕ) (check : ℕ) → take 2 octets ≡ 0x55 ∷ 0xFF ∷ [] → 8 < length octets → length octets ≡ span octets
    → behind ≡ drop 8 octets → check ≡ 65535 - data_remainder behind → (check ≡ 3911 → ⊥) → IsFront octets × NoFrame octets
data_lost octets behind check begins more whole is left ne =
    let good = more_taken octets (omega (arith, more, whole)) in
    (record { begins = begins; whole = whole }, lost_data octets good.some (λ e. ne (left ∙ ap (λ n. 65535 - n) (ap data_remainder is ∙ e))))

-- a header and its check octet
check_is : (octets header : List ℕ) (check : ℕ) → header ≡ drop 2 octets → length octets ≡ 8 → check ≡ 255 - header_remainder header →
    left_at octets ≡ header_remainder header
check_is octets header check is eight left =
    ap header_remainder (take_all 6 (drop 2 octets) (omega (arith, eight, length-drop 2 octets)) ∙ sym is)

bad_span : (octets : List ℕ) → (left_at octets ≡ 0x55 → size_at octets ≤ 501 → ⊥) → span octets ≡ 8
bad_span octets wrong = elim (span_is octets) [
  | is_bad also e ↦ e
  | is_bare left none e ↦ e
  | is_long left some few e ↦ absurd (wrong left few)
]

lost : (octets : List ℕ) → take 2 octets ≡ 0x55 ∷ 0xFF ∷ [] → length octets ≡ 8 → (left_at octets ≡ 0x55 → size_at octets ≤ 501 → ⊥) → IsFront octets ×
    NoFrame octets
lost octets begins eight wrong = (record { begins = begins; whole = eight ∙ sym (bad_span octets wrong) }, lost_header octets wrong)

pub header_lost : (octets header : List ℕ) (check : ℕ) → take 2 octets ≡ 0x55 ∷ 0xFF ∷ [] → length octets ≡ 8
    → header ≡ drop 2 octets → check ≡ 255 - header_remainder header → (check ≡ 170 → ⊥) → IsFront octets × NoFrame octets
header_lost octets header check begins eight is left ne =
    lost octets begins eight (λ good few. ne (left ∙ ap (λ n. 255 - n) (sym (check_is octets header check is eight left) ∙ good)))

pub size_lost : (octets : List ℕ) → take 2 octets ≡ 0x55 ∷ 0xFF ∷ [] → length octets ≡ 8 → 501 < size_at octets → IsFront octets × NoFrame octets
size_lost octets begins eight lt = lost octets begins eight (λ good few. absurd (omega (arith, lt, few)))

good_left : (octets header : List ℕ) (check : ℕ) → length octets ≡ 8 → header ≡ drop 2 octets → check ≡ 255 - header_remainder header → check ≡ 170 →
    left_at octets ≡ 0x55
good_left octets header check eight is left e = check_is octets header check is eight left ∙ omega (arith, left, e, header_remainder-lt header)

pub header_whole : (octets header : List ℕ) (check : ℕ) → take 2 octets ≡ 0x55 ∷ 0xFF ∷ [] → length octets ≡ 8 → AreOctets octets
    → header ≡ drop 2 octets → check ≡ 255 - header_remainder header → check ≡ 170 → size_at octets ≡ 0 → IsFront octets × Spells octets (frame_at octets)
header_whole octets header check begins eight fits is left e none =
    let good = good_left octets header check eight is left e in
    let taken : span octets ≡ 8 = elim (span_is octets) [
      | is_bad also e ↦ e
      | is_bare left none e ↦ e
      | is_long left some few e ↦ absurd (omega (arith, some, none))
    ] in
    (record { begins = begins; whole = eight ∙ sym taken }, whole_bare octets begins eight fits good none)

pub header_cut : (octets header : List ℕ) (check : ℕ) → take 2 octets ≡ 0x55 ∷ 0xFF ∷ [] → length octets ≡ 8
    → header ≡ drop 2 octets → check ≡ 255 - header_remainder header → check ≡ 170 → 0 < size_at octets → size_at octets ≤ 501 → IsCut octets
header_cut octets header check begins eight is left e some few =
    let good = good_left octets header check eight is left e in
    let taken : 8 < span octets = elim (span_is octets) [
      | is_bad wrong e ↦ absurd (wrong good few)
      | is_bare left none e ↦ absurd (omega (arith, some, none))
      | is_long left some few e ↦ omega (arith, e)
    ] in
    cut_from octets begins (omega (arith, eight, taken))

pub ruleset judged = (data_whole, data_lost, header_lost, size_lost, header_whole, header_cut)

-- more octets are taken together than are there
pub goal_is : (octets : List ℕ) → IsCut octets → 8 ≤ length octets → IsGoal octets (10 + size_at octets) × (length octets < 10 + size_at octets) ×
    (10 + size_at octets ≤ 511)
goal_is octets cut eight =
    let short = (cut_begins octets (omega (arith, eight)) cut).1 in
    let good = more_taken octets (omega (arith, eight, short)) in
    (inr (sym good.span, eight), omega (arith, short, good.span), omega (arith, good.few))

pub ruleset goals = (goal_is)
