-- Each stream is heard in one way.
use Rattle.std.proofs.Common.{◌≡◌, ℕ, zero, suc, ◌≤◌, List, [], ◌∷◌, ◌++◌, length, take, drop, take-take, inl, inr, refl, ap, sym, subst, arith, ◌∙◌}
use Rattle.std.proofs.lemmas.Bool.{cases_eq, cases_lt}
use Rattle.std.proofs.lemmas.List.{length-drop, length-take}
use Rattle.std.specs.List.{AllByRecursion}
use Rattle.tags.specs.Number.{AreOctets}
use Rattle.tags.proofs.OctetLists.{AreOctets-drop, AreOctets-rest}
use Rattle.mstp_frame.specs.Remainder.{data_remainder}
use Rattle.mstp_frame.specs.Frame.{PlainFrame, Spells}
use Rattle.mstp_frame.specs.Heard.{IsNoise, HasFront, IsCut, NoFrame, Hears, ends, skips, loses, hears, Heard, over, between, span}
use Rattle.mstp_frame.specs.Front.{frame_at}
use Rattle.mstp_frame.proofs.Fronts.{span_is, is_bad, is_bare, is_long, eight_taken, lost_header, lost_data, whole_bare, whole_data, span_take, front_parts}
use Rattle.mstp_frame.proofs.Fronts.{spelled_span, spelled_begins}
use Rattle.mstp_frame.proofs.Spellings.{one_frame}

noise_or_cut : (octets : List ℕ) → IsNoise octets → IsCut octets → ⊥
noise_or_cut [] noise cut = noise
noise_or_cut (first ∷ []) noise cut = noise cut
noise_or_cut (first ∷ second ∷ octets) (inl noise) cut = noise cut.0
noise_or_cut (first ∷ second ∷ octets) (inr noise) cut = noise cut.1

noise_or_front : (octets : List ℕ) → IsNoise octets → HasFront octets → ⊥
noise_or_front [] noise front = noise
noise_or_front (first ∷ []) noise front = absurd (omega (arith, front.whole, eight_taken (first ∷ [])))
noise_or_front (first ∷ second ∷ octets) (inl noise) front = noise (cc (front.begins))
noise_or_front (first ∷ second ∷ octets) (inr noise) front = noise (cc (front.begins))

cut_or_front : (octets : List ℕ) → IsCut octets → HasFront octets → ⊥
cut_or_front [] cut front = absurd (omega (arith, front.whole, eight_taken []))
cut_or_front (first ∷ []) cut front = absurd (omega (arith, front.whole, eight_taken (first ∷ [])))
cut_or_front (first ∷ second ∷ octets) cut front = absurd (omega (arith, front.whole, cut.2))

-- what stands at the front
pub data Next (octets : List ℕ) : Type 0 where
  is_cut : IsCut octets → Next octets
  is_noise : IsNoise octets → Next octets
  is_front : HasFront octets → Next octets

next_is : (octets : List ℕ) → Next octets
next_is [] = is_cut tt
next_is (first ∷ []) = elim (cases_eq first 0x55) [ inl e ↦ is_cut e | inr ne ↦ is_noise ne ]
next_is (first ∷ second ∷ octets) =
    elim (cases_eq first 0x55) [
      | inr ne ↦ is_noise (inl ne)
      | inl e ↦ elim (cases_eq second 0xFF) [
        | inr ne ↦ is_noise (inr ne)
        | inl f ↦ elim (cases_lt (length (first ∷ second ∷ octets)) (span (first ∷ second ∷ octets))) [
          | inl lt ↦ is_cut (e, f, lt)
          | inr le ↦ is_front (record { begins = ap (λ a. a ∷ second ∷ []) e ∙ ap (λ b. 0x55 ∷ b ∷ []) f; whole = le })
        ]
      ]
    ]

-- what is taken together is a frame or none
pub data Taken (octets : List ℕ) : Type 0 where
  is_frame : (f : PlainFrame) → Spells octets f → Taken octets
  is_none : NoFrame octets → Taken octets

taken_is : (octets : List ℕ) → take 2 octets ≡ 0x55 ∷ 0xFF ∷ [] → length octets ≡ span octets → AreOctets octets → Taken octets
taken_is octets begins whole fits =
    elim (span_is octets) [
      | is_bad wrong e ↦ is_none (lost_header octets wrong)
      | is_bare left none e ↦ is_frame (frame_at octets) (whole_bare octets begins (whole ∙ e) fits left none)
      | is_long left some few e ↦ elim (cases_eq (data_remainder (drop 8 octets)) 0xF0B8) [
        | inl good ↦ is_frame (frame_at octets) (whole_data octets begins (whole ∙ e) fits left some few good)
        | inr wrong ↦ is_none (lost_data octets some wrong)
      ]
    ]

AreOctets-take : (n : ℕ) (octets : List ℕ) → AreOctets octets → AreOctets (take n octets)
AreOctets-take zero octets fits i = omega arith
AreOctets-take (suc n) [] fits i = fits i
AreOctets-take (suc n) (octet ∷ octets) fits zero = fits 0
AreOctets-take (suc n) (octet ∷ octets) fits (suc i) = AreOctets-take n octets (AreOctets-rest octet octets fits) i

front_is : (octets : List ℕ) → HasFront octets → AreOctets octets → Taken (take (span octets) octets)
front_is octets front fits =
    let n = span octets in
    let eight = eight_taken octets in
    taken_is (take n octets) (take-take 2 n octets (omega (arith, eight)) ∙ front.begins) (length-take n octets ∙ omega (arith, front.whole)
    ∙ sym (span_take n octets eight front.whole)) (AreOctets-take n octets fits)

-- octets are heard as some frames
pub some_heard : (n : ℕ) (octets : List ℕ) → length octets ≤ n → AreOctets octets → (frames : List PlainFrame) × Hears octets frames
some_heard n [] le fits = ([], ends [] tt)
some_heard zero (octet ∷ octets) le fits = absurd (omega (arith, le))
some_heard (suc n) (octet ∷ octets) le fits =
    let all = octet ∷ octets in
    elim (next_is all) [
      | is_cut cut ↦ ([], ends all cut)
      | is_noise noise ↦ let rest = some_heard n octets (omega (arith, le)) (AreOctets-rest octet octets fits) in
          (rest.0, skips octet octets rest.0 noise rest.1)
      | is_front front ↦
          let rest = some_heard n (drop (span all) all) (omega (arith, le, length-drop (span all) all, eight_taken all)) (AreOctets-drop (span all) all fits) in
          elim (front_is all front fits) [
            | is_frame f s ↦ (f ∷ rest.0, hears all f rest.0 front s rest.1)
            | is_none none ↦ (rest.0, loses all rest.0 front none rest.1)
          ]
    ]

-- octets are heard as one list of frames
pub one_heard : (octets : List ℕ) (frames others : List PlainFrame) → Hears octets frames → Hears octets others → frames ≡ others
one_heard _ _ _ (ends octets cut) (ends _ other) = refl
one_heard _ _ _ (ends _ cut) (skips octet octets frames noise rest) = absurd (noise_or_cut (octet ∷ octets) noise cut)
one_heard _ _ _ (ends octets cut) (loses _ frames front none rest) = absurd (cut_or_front octets cut front)
one_heard _ _ _ (ends octets cut) (hears _ f frames front s rest) = absurd (cut_or_front octets cut front)
one_heard _ _ _ (skips octet octets frames noise rest) (ends _ cut) = absurd (noise_or_cut (octet ∷ octets) noise cut)
one_heard _ _ _ (skips octet octets frames noise rest) (skips _ _ others _ more) = one_heard octets frames others rest more
one_heard _ _ _ (skips octet octets frames noise rest) (loses _ others front none more) = absurd (noise_or_front (octet ∷ octets) noise front)
one_heard _ _ _ (skips octet octets frames noise rest) (hears _ f others front s more) = absurd (noise_or_front (octet ∷ octets) noise front)
one_heard _ _ _ (loses octets frames front none rest) (ends _ cut) = absurd (cut_or_front octets cut front)
one_heard _ _ _ (loses _ frames front none rest) (skips octet octets others noise more) = absurd (noise_or_front (octet ∷ octets) noise front)
one_heard _ _ _ (loses octets frames front none rest) (loses _ others _ _ more) = one_heard (drop (span octets) octets) frames others rest more
one_heard _ _ _ (loses octets frames front none rest) (hears _ f others _ s more) = absurd (none.none f s)
one_heard _ _ _ (hears octets f frames front s rest) (ends _ cut) = absurd (cut_or_front octets cut front)
one_heard _ _ _ (hears _ f frames front s rest) (skips octet octets others noise more) = absurd (noise_or_front (octet ∷ octets) noise front)
one_heard _ _ _ (hears octets f frames front s rest) (loses _ others _ none more) = absurd (none.none f s)
one_heard _ _ _ (hears octets f frames front s rest) (hears _ g others _ t more) =
    ap (λ first. first ∷ frames) (one_frame (take (span octets) octets) f g s t)
    ∙ ap (λ later. g ∷ later) (one_heard (drop (span octets) octets) frames others rest more)

pub each_stream : (stream : List (List ℕ)) → AllByRecursion AreOctets stream → (frames : List PlainFrame) × Heard stream frames
each_stream [] fits = ([], over)
each_stream (octets ∷ stream) fits =
    let first = some_heard (length octets) octets (omega arith) fits.0 in
    let later = each_stream stream fits.1 in
    (first.0 ++ later.0, between octets stream first.0 later.0 first.1 later.1)

pub one_stream : (stream : List (List ℕ)) (frames others : List PlainFrame) → Heard stream frames → Heard stream others → frames ≡ others
one_stream _ _ _ over over = refl
one_stream _ _ _ (between octets stream first later h more) (between _ _ other others g rest) =
    ap (λ f. f ++ later) (one_heard octets first other h g) ∙ ap (λ l. other ++ l) (one_stream stream later others more rest)

pub front_heard : (octets : List ℕ) (f : PlainFrame) (frames : List PlainFrame) → HasFront octets → Spells (take (span octets) octets) f → Hears octets frames
    → (later : List PlainFrame) × (frames ≡ f ∷ later) × Hears (drop (span octets) octets) later
front_heard _ f _ front s (ends octets cut) = absurd (cut_or_front octets cut front)
front_heard _ f _ front s (skips octet octets frames noise rest) = absurd (noise_or_front (octet ∷ octets) noise front)
front_heard _ f _ front s (loses octets frames _ none rest) = absurd (none.none f s)
front_heard _ f _ front s (hears octets g frames _ t rest) = (frames, ap (λ h. h ∷ frames) (one_frame (take (span octets) octets) g f t s), rest)

heard_then : (octets rest : List ℕ) (f : PlainFrame) (frames : List PlainFrame) → Spells octets f → Hears (octets ++ rest) frames →
    (later : List PlainFrame) × (frames ≡ f ∷ later) × Hears rest later
heard_then octets rest f frames s h =
    let front = front_parts octets rest (record { begins = spelled_begins octets f s; whole = spelled_span octets f s }) in
    let found = front_heard (octets ++ rest) f frames front.0 (subst (λ o. Spells o f) (sym front.1) s) h in
    (found.0, found.1, subst (λ o. Hears o found.0) front.2 found.2)

stream_parts : (octets : List ℕ) (stream : List (List ℕ)) (frames : List PlainFrame) → Heard (octets ∷ stream) frames → (first later : List PlainFrame) ×
    (frames ≡ first ++ later) × Hears octets first × Heard stream later
stream_parts _ _ _ (between octets stream first later h more) = (first, later, refl, h, more)

-- a stream that begins with a frame
pub frame_first : (octets rest : List ℕ) (stream : List (List ℕ)) (f : PlainFrame) (frames : List PlainFrame) → Spells octets f →
    Heard ((octets ++ rest) ∷ stream) frames
    → (later : List PlainFrame) × (frames ≡ f ∷ later) × Heard (rest ∷ stream) later
frame_first octets rest stream f frames s h =
    let parts = stream_parts (octets ++ rest) stream frames h in
    let found = heard_then octets rest f parts.0 s parts.3 in
    (found.0 ++ parts.1, parts.2 ∙ ap (λ first. first ++ parts.1) found.1, between rest stream found.0 parts.1 found.2 parts.4)
