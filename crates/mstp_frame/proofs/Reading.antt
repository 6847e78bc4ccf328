-- Which octets spell a frame, all of them.
use Rattle.std.proofs.Common.{◌≡◌, ℕ, ◌+◌, ◌<◌, ◌≤◌, Bool, true, false, Option, Some, None, List, [], ◌∷◌, length, take}
use Rattle.std.proofs.Common.{refl, ap, sym, subst, arith, ◌∙◌}
use Rattle.std.proofs.lemmas.List.{length-take, take_all, take-take}
use Rattle.std.specs.Prelude.{option_map}
use Rattle.mstp_frame.specs.declared.frame.Frame.{Frame}
use Rattle.mstp_frame.specs.declared.buffer.Buffer.{Buffer}
use Rattle.mstp_frame.specs.Frame.{PlainFrame, Spells, frame_of}
use Rattle.mstp_frame.specs.Heard.{size_at, span, IsCut, NoFrame}
use Rattle.mstp_frame.specs.Feeding.{IsWhole}
use Rattle.mstp_frame.specs.Front.{frame_at, frame_in, octets_in, whole_in, IsFront, IsReady}
use Rattle.mstp_frame.proofs.Fronts.{eight_taken, more_taken, span_take, spelled_begins, spelled_span}
use Rattle.mstp_frame.proofs.Judging.{cut_begins}

-- eight octets at least spell a frame
pub eight_spelled : (octets : List ℕ) (f : PlainFrame) → Spells octets f → 8 ≤ length octets
eight_spelled octets f s = omega (arith, eight_taken octets, spelled_span octets f s)

pub none_short : (octets : List ℕ) → length octets < 8 → NoFrame octets
none_short octets short = record { none = λ f s. omega (arith, short, eight_spelled octets f s) }

pub none_else : (octets : List ℕ) → (take 2 octets ≡ 0x55 ∷ 0xFF ∷ [] → ⊥) → NoFrame octets
none_else octets other = record { none = λ f s. other (spelled_begins octets f s) }

none_of_length : (octets : List ℕ) → (length octets ≡ span octets → ⊥) → NoFrame octets
none_of_length octets other = record { none = λ f s. other (spelled_span octets f s) }

module _ (octets header : List ℕ) (is : header ≡ take 8 octets) (eight : 8 ≤ length octets) where
  pub header_begins : take 2 octets ≡ 0x55 ∷ 0xFF ∷ [] → take 2 header ≡ 0x55 ∷ 0xFF ∷ []
  header_begins begins = ap (take 2) is ∙ take-take 2 8 octets (omega arith) ∙ begins

  header_span : span header ≡ span octets
  header_span = ap span is ∙ span_take 8 octets (omega arith) eight

  header_length : length header ≡ 8
  header_length = ap length is ∙ length-take 8 octets ∙ omega (arith, eight)

  -- where no octets stand behind the header
  all_header : length octets ≡ 8 → header ≡ octets
  all_header all = is ∙ take_all 8 octets (omega (arith, all))

  pub header_none : IsFront header × NoFrame header → NoFrame octets
  header_none lost = record {
    none = λ f s.
        let all : length octets ≡ 8 = spelled_span octets f s ∙ sym header_span ∙ sym lost.0.whole ∙ header_length in
        lost.1.none f (subst (λ o. Spells o f) (sym (all_header all)) s);
  }

  pub header_all : length octets ≡ 8 → IsFront header × Spells header (frame_at header) → Spells octets (frame_at octets)
  header_all all whole = subst (λ o. Spells o (frame_at o)) (all_header all) whole.1

  pub header_more : (length octets ≡ 8 → ⊥) → IsFront header × Spells header (frame_at header) → NoFrame octets
  header_more more whole = none_of_length octets (λ e. more (e ∙ sym header_span ∙ sym whole.0.whole ∙ header_length))

  pub data_taken : IsCut header → 8 < span octets
  data_taken cut = omega (arith, header_span, header_length, (cut_begins header (omega (arith, header_length)) cut).1)

  pub data_length : IsCut header → length octets ≡ 10 + size_at octets → (8 < length octets) × (length octets ≡ span octets)
  data_length cut all =
      let good = more_taken octets (data_taken cut) in
      (omega (arith, all), all ∙ sym good.span)

  pub data_none : IsCut header → (length octets ≡ 10 + size_at octets → ⊥) → NoFrame octets
  data_none cut other = none_of_length octets (λ e. other (e ∙ (more_taken octets (data_taken cut)).span))

pub ruleset reads = (none_short, none_else, header_none, header_all, header_more, data_length, data_none, header_begins)

none_some : (f : PlainFrame) → None ≡ Some f → ⊥
none_some f e = cc

whole_by : (b : Buffer) (frame : Option Frame) (octets : List ℕ) (whole : Bool) → b.is_whole ≡ whole → IsReady b →
    option_map frame_of frame ≡ frame_in b → octets ≡ whole_in b → IsWhole frame octets
whole_by b None octets true e ready is all = absurd (none_some (frame_at (octets_in b)) (is ∙ rw e refl))
whole_by b None octets false e ready is all = all ∙ rw e refl
whole_by b (Some f) octets true e ready is all =
    let same : Some (frame_of f) ≡ Some (frame_at (octets_in b)) = is ∙ rw e refl in
    let here : octets ≡ octets_in b = all ∙ rw e refl in
    let one : frame_of f ≡ frame_at (octets_in b) = cc in
    rw (here, one) (ready.lent e)
whole_by b (Some f) octets false e ready is all = absurd (none_some (frame_of f) (sym (is ∙ rw e refl)))

-- the octets of a frame that is lent spell it
pub whole_is : (b : Buffer) (frame : Option Frame) (octets : List ℕ) → IsReady b → option_map frame_of frame ≡ frame_in b → octets ≡ whole_in b →
    IsWhole frame octets
whole_is b frame octets ready is all = whole_by b frame octets b.is_whole refl ready is all
