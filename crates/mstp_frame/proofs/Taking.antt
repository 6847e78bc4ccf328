-- What a buffer that takes octets leads to.
use Rattle.std.proofs.Common.{append_assoc, ◌≡◌, ◌≢◌, ℕ, suc, ◌+◌, ◌<◌, ◌≤◌, Bool, true, false, Option, Some, None, List, [], ◌∷◌, ◌++◌, length, take, drop}
use Rattle.std.proofs.Common.{drop-cons, slice_index, inl, inr, ◌⊎◌, refl, ap, sym, subst, arith, ◌∙◌}
use Rattle.std.proofs.lemmas.List.{length-append, take-append-le, take-append-drop}
use Rattle.std.specs.Prelude.{IfNone, IfSome, option_map}
use Rattle.mstp_frame.specs.declared.frame.Frame.{Frame}
use Rattle.mstp_frame.specs.declared.buffer.Buffer.{Buffer}
use Rattle.mstp_frame.specs.declared.front.Front.{Front}
use Rattle.mstp_frame.specs.declared.front.Front.TheVariants.{Lost, Whole}
use Rattle.mstp_frame.specs.Frame.{PlainFrame, frame_of}
use Rattle.mstp_frame.specs.Heard.{IsCut, span, Hears, ends}
use Rattle.mstp_frame.specs.Feeding.{LeadsTo}
use Rattle.mstp_frame.specs.Front.{frame_at, frame_in, kept_in, octets_in, IsGoal, IsJudged, IsReady, Takes}
use Rattle.mstp_frame.proofs.Leading.{leads_same, leads_then, leads_noise, leads_second, leads_lost, leads_whole}
use Rattle.mstp_frame.proofs.Judging.{cut_begins, cut_from}
use Rattle.mstp_frame.proofs.Fronts.{eight_taken, span_more}
use Rattle.std.proofs.lemmas.Bool.{false≢true}

-- one more octet of noise
pub noise_more : (piece : List ℕ) (i : ℕ) → i < length piece → slice_index piece i ≢ 0x55 → LeadsTo piece None (drop i piece) →
    LeadsTo piece None (drop (i + 1) piece)
noise_more piece i lt ne so_far =
    let e : suc i ≡ i + 1 = omega arith in
    let at : drop i piece ≡ slice_index piece i ∷ drop (i + 1) piece = drop-cons piece i 0 lt ∙ ap (λ n. slice_index piece i ∷ drop n piece) e in
    leads_then piece (drop i piece) (drop (i + 1) piece) None so_far
    (subst (λ o. LeadsTo o None (drop (i + 1) piece)) (sym at) (leads_noise (slice_index piece i) (drop (i + 1) piece) ne))

pub no_noise : (piece : List ℕ) → LeadsTo piece None (drop 0 piece)
no_noise piece = leads_same piece piece refl

pub ruleset noises = (noise_more, no_noise)

kept_is : (b : Buffer) → b.is_whole ≡ false → kept_in b ≡ octets_in b
kept_is b e = rw e refl

pub none_lent : (b : Buffer) → b.is_whole ≡ false → frame_in b ≡ None
none_lent b e = rw e refl

-- where no frame is lent before or after
state_leads : (old new : Buffer) (piece left : List ℕ) → old.is_whole ≡ false → new.is_whole ≡ false →
    LeadsTo (octets_in old ++ piece) None (octets_in new ++ left) → LeadsTo (kept_in old ++ piece) (frame_in new) (kept_in new ++ left)
state_leads old new piece left e f leads = rw (kept_is old e, kept_is new f, none_lent new f) leads

nothing_in : (b : Buffer) → b.len ≡ 0 → octets_in b ≡ []
nothing_in b e = ap (λ n. take n b.octets) e

-- octets of a piece behind those that are kept
pub appended : (old new : Buffer) (piece : List ℕ) (n : ℕ) → old.is_whole ≡ false → new.is_whole ≡ old.is_whole →
    octets_in new ≡ octets_in old ++ take n piece → 0 < n → n ≤ length piece → IsReady new → Takes old piece new n
appended old new piece n kept same octets some within ready =
    let all : octets_in old ++ piece ≡ octets_in new ++ drop n piece =
    ap (λ o. octets_in old ++ o) (sym (take-append-drop n piece)) ∙ sym (append_assoc (octets_in old) (take n piece) (drop n piece))
    ∙ ap (λ o. o ++ drop n piece) (sym octets) in
    record {
      some = some;
      within = within;
      ready = ready;
      leads =
          state_leads old new piece (drop n piece) kept (same ∙ kept) (leads_same (octets_in old ++ piece) (octets_in new ++ drop n piece) all);
    }

-- a 55 behind noise
pub seek_leads : (old new : Buffer) (piece : List ℕ) (n : ℕ) → old.is_whole ≡ false → old.len ≡ 0 → new.is_whole ≡ old.is_whole →
    octets_in new ≡ octets_in old ++ 0x55 ∷ [] → n < length piece → slice_index piece n ≡ 0x55
    → LeadsTo piece None (drop n piece) → LeadsTo (kept_in old ++ piece) (frame_in new) (kept_in new ++ drop (n + 1) piece)
seek_leads old new piece n kept none same octets lt is leads =
    let start : octets_in old ++ piece ≡ piece = ap (λ o. o ++ piece) (nothing_in old none) in
    let e : suc n ≡ n + 1 = omega arith in
    let after : drop n piece ≡ octets_in new ++ drop (n + 1) piece =
    drop-cons piece n 0 lt ∙ ap (λ o. o ∷ drop (suc n) piece) is ∙ ap (λ m. 0x55 ∷ drop m piece) e
    ∙ ap (λ o. (o ++ 0x55 ∷ []) ++ drop (n + 1) piece) (sym (nothing_in old none)) ∙ ap (λ o. o ++ drop (n + 1) piece) (sym octets) in
    state_leads old new piece (drop (n + 1) piece) kept (same ∙ kept)
    (subst (λ o. LeadsTo o None (octets_in new ++ drop (n + 1) piece)) (sym start) (subst (λ o. LeadsTo piece None o) after leads))

pub ruleset seeks = (seek_leads)

one_kept : (octets : List ℕ) → length octets ≡ 1 → IsCut octets → octets ≡ 0x55 ∷ []
one_kept [] e cut = absurd (omega (arith, e))
one_kept (octet ∷ []) e cut = ap (λ o. o ∷ []) cut
one_kept (first ∷ second ∷ more) e cut = absurd (omega (arith, e))

one_in : (b : Buffer) → IsReady b → b.is_whole ≡ false → b.len ≡ 1 → octets_in b ≡ 0x55 ∷ []
one_in b ready kept one = one_kept (octets_in b) (ready.len ∙ one) (ready.kept kept)

pub second_ready : (old new : Buffer) → IsReady old → old.is_whole ≡ false → old.len ≡ 1 → new.is_whole ≡ old.is_whole → new.len ≡ old.len + 1 →
    octets_in new ≡ octets_in old ++ 0xFF ∷ [] → IsReady new
second_ready old new ready kept one same len octets =
    let both : octets_in new ≡ 0x55 ∷ 0xFF ∷ [] = octets ∙ ap (λ o. o ++ 0xFF ∷ []) (one_in old ready kept one) in
    record {
      fits = omega (arith, len, one);
      len = ap length both ∙ omega (arith, len, one);
      kept = λ none. subst IsCut (sym both) (refl, refl, omega (arith, eight_taken (0x55 ∷ 0xFF ∷ [])));
      lent = λ whole. absurd (false≢true (sym (same ∙ kept) ∙ whole));
    }

pub second_again : (b : Buffer) (octet : ℕ) (rest : List ℕ) → IsReady b → b.is_whole ≡ false → b.len ≡ 1 → octet ≡ 0x55 →
    LeadsTo (kept_in b ++ octet ∷ rest) (frame_in b) (kept_in b ++ rest)
second_again b octet rest ready kept one is =
    let one_octet = one_in b ready kept one in
    state_leads b b (octet ∷ rest) rest kept kept (rw (one_octet, is) (leads_second 0x55 0x55 rest (λ e. absurd (omega (arith, e)))))

pub second_lost : (old new : Buffer) (octet : ℕ) (rest : List ℕ) → IsReady old → old.is_whole ≡ false → old.len ≡ 1 → octet ≢ 0xFF → octet ≢ 0x55 →
    kept_in new ≡ [] → frame_in new ≡ None
    → LeadsTo (kept_in old ++ octet ∷ rest) (frame_in new) (kept_in new ++ rest)
second_lost old new octet rest ready kept one other noise none lent =
    rw (kept_is old kept, one_in old ready kept one, none, lent)
    (leads_then (0x55 ∷ octet ∷ rest) (octet ∷ rest) rest None (leads_second 0x55 octet rest other) (leads_noise octet rest noise))

pub ruleset seconds = (second_ready, second_again, second_lost)

pub settle_lost : (old new : Buffer) (front : Front) (rest : List ℕ) → front ≡ Lost → IsJudged (octets_in old) front → kept_in new ≡ [] →
    frame_in new ≡ None → LeadsTo (octets_in old ++ rest) (frame_in new) (kept_in new ++ rest)
settle_lost old new front rest is judged none lent =
    let lost = subst (IsJudged (octets_in old)) is judged in
    rw (none, lent) (leads_lost (octets_in old) rest lost.0 lost.1)

pub settle_whole : (octets : List ℕ) (front : Front) (rest : List ℕ) → front ≡ Whole → IsJudged octets front →
    LeadsTo (octets ++ rest) (Some (frame_at octets)) rest
settle_whole octets front rest is judged =
    let whole = subst (IsJudged octets) is judged in
    leads_whole octets rest (frame_at octets) whole.0 whole.1

pub ruleset settles = (settle_lost, settle_whole)

pub at_goal : (old taken octets : List ℕ) (n : ℕ) → IsGoal old n → length old < n → octets ≡ old ++ taken → length octets ≡ n → (length octets ≡ 8) ⊎
    ((8 < length octets) × (length octets ≡ span octets))
at_goal old taken octets n (inl few) less e long = inl (long ∙ few.0)
at_goal old taken octets n (inr more) less e long =
    inr (omega (arith, long, less, more.1), long ∙ more.0 ∙ sym (span_more old taken more.1) ∙ ap span (sym e))

begins_more : (old taken octets : List ℕ) → 2 ≤ length old → IsCut old → octets ≡ old ++ taken → take 2 octets ≡ 0x55 ∷ 0xFF ∷ []
begins_more old taken octets two cut e = ap (take 2) e ∙ take-append-le 2 old taken two ∙ (cut_begins old two cut).0

pub still_cut : (old taken octets : List ℕ) (n : ℕ) → IsGoal old n → 2 ≤ length old → IsCut old → octets ≡ old ++ taken → length octets < n → IsCut octets
still_cut old taken octets n (inl few) two cut e less =
    cut_from octets (begins_more old taken octets two cut e) (omega (arith, less, few.0, eight_taken octets))
still_cut old taken octets n (inr more) two cut e less =
    cut_from octets (begins_more old taken octets two cut e) (omega (arith, less, more.0, span_more old taken more.1, ap span e))

pub fill_ready : (old new : Buffer) (taken : List ℕ) (n : ℕ) → IsReady old → old.is_whole ≡ false → 2 ≤ old.len → IsGoal (octets_in old) n → n ≤ 511 →
    octets_in new ≡ octets_in old ++ taken
    → new.is_whole ≡ old.is_whole → new.len ≡ old.len + length taken → new.len < n → IsReady new
fill_ready old new taken n ready kept two goal most octets same len less =
    let long : length (octets_in new) ≡ new.len = ap length octets ∙ length-append (octets_in old) taken ∙ omega (arith, ready.len, len) in
    record {
      fits = omega (arith, less, most);
      len = long;
      kept = λ none. still_cut (octets_in old) taken (octets_in new) n goal (omega (arith, ready.len, two)) (ready.kept kept) octets
          (omega (arith, long, less));
      lent = λ whole. absurd (false≢true (sym (same ∙ kept) ∙ whole));
    }

pub ruleset fills = (at_goal)

pub ruleset takes = (leads_then, none_lent)

silent_by : (b : Buffer) (whole : Bool) → b.is_whole ≡ whole → IsReady b → Hears (kept_in b) []
silent_by b true e ready = rw e (ends [] tt)
silent_by b false e ready = rw (kept_is b e) (ends (octets_in b) (ready.kept e))

-- in the octets that are kept no frame is heard
pub kept_silent : (b : Buffer) → IsReady b → Hears (kept_in b) []
kept_silent b ready = silent_by b b.is_whole refl ready

none_some : (f : PlainFrame) → None ≡ Some f → ⊥
none_some f e = cc

used_by : (b : Buffer) (frame : Option Frame) (whole : Bool) (P : Type 0) → b.is_whole ≡ whole → option_map frame_of frame ≡ frame_in b →
    (b.is_whole ≡ false → P) → IfNone frame P
used_by b (Some f) whole P e is all = tt
used_by b None true P e is all = absurd (none_some (frame_at (octets_in b)) (is ∙ rw e refl))
used_by b None false P e is all = all e

-- where no frame is lent
pub all_used : (b : Buffer) (frame : Option Frame) (P : Type 0) → option_map frame_of frame ≡ frame_in b → (b.is_whole ≡ false → P) → IfNone frame P
all_used b frame P is all = used_by b frame b.is_whole P refl is all

ended_by : (b : Buffer) (frame : Option Frame) (whole : Bool) (P : Type 0) → b.is_whole ≡ whole → option_map frame_of frame ≡ frame_in b →
    (b.is_whole ≡ true → P) → IfSome frame (λ f. P)
ended_by b None whole P e is some = tt
ended_by b (Some f) true P e is some = some e
ended_by b (Some f) false P e is some = absurd (none_some (frame_of f) (sym (is ∙ rw e refl)))

-- where one is lent
pub ended_used : (b : Buffer) (frame : Option Frame) (P : Type 0) → option_map frame_of frame ≡ frame_in b → (b.is_whole ≡ true → P) →
    IfSome frame (λ f. P)
ended_used b frame P is some = ended_by b frame b.is_whole P refl is some
