-- What goes on sending an answer keeps to the size of its pieces; an answer that is remembered goes in such pieces.
use Rattle.std.proofs.Common.{◌≡◌, ◌∙◌, refl, sym, ℕ, ◌≤◌, Bool, true, false, List, length, Some, None, arith}
use Rattle.std.specs.Prelude.{Option, max, nat_lt}
use Rattle.std.proofs.lemmas.Bool.{ltb-false, or_parts}
use Rattle.apdu.specs.Sizes.{apdu_taken, segments_taken}
use Rattle.apdu.specs.declared.sizes.MaxApdu.{MaxApdu}
use Rattle.apdu.specs.declared.sizes.MaxApdu.TheVariants.{UpTo50, UpTo128, UpTo206, UpTo480, UpTo1024, UpTo1476, Reserved}
use Rattle.apdu.specs.declared.sizes.MaxSegments.{MaxSegments}
use Rattle.apdu.specs.declared.sizes.MaxSegments.TheVariants.{Unspecified, Two, Four, Eight, Sixteen, ThirtyTwo, SixtyFour, More}
use Rattle.history.specs.Book.{Answer}
use Rattle.headline_bacnet.proofs.Sending.{wakes_cut}
use Rattle.headline_bacnet.specs.Bodies.{answer_in}
use Rattle.primitives.specs.declared.plain_data.Reply.{Reply}
use Rattle.primitives.specs.declared.plain_data.Reply.TheVariants.{Values, Many, Done, Error, ErrorAt}
use Rattle.primitives.specs.declared.plain_data.Request.{Request}
use Rattle.server_tsm.specs.remembered.declared.record.RememberedAnswer.{RememberedAnswer}
use Rattle.server_tsm.specs.remembered.declared.record.RememberedAnswer.TheVariants as kept
use Rattle.segments.specs.Sender.{SenderState, nothing_sent, wakes}
use Rattle.profile.specs.Limits.{MAX_SERVICE_DATA_OCTETS}
use Rattle.segments.specs.Pieces.{piece_count}
use Rattle.headline_server.specs.Keeping.{AreNumbered, CanBeCut, IsSentIn}
use Rattle.headline_server.specs.Safe.{safe_answer}
use Rattle.headline_bacnet.specs.server_answers.Answering.{answer_apdu, answer_of}
use Rattle.headline_bacnet.specs.server_answers.Limits.{answer_chunk, begins_if, begun, fitted, fitted_if, goes_whole, is_too_long}
use Rattle.server_tsm.specs.Waking.{again}
use Rattle.headline_bacnet.specs.server_answers.declared.asked.AnswerLimits.{AnswerLimits}

-- how many segments a client takes, and how many octets an APDU has
few_taken : (m : MaxSegments) → segments_taken m ≤ 64
few_taken Unspecified = omega arith
few_taken Two = omega arith
few_taken Four = omega arith
few_taken Eight = omega arith
few_taken Sixteen = omega arith
few_taken ThirtyTwo = omega arith
few_taken SixtyFour = omega arith
few_taken More = omega arith

least_taken : (m : MaxApdu) → 50 ≤ apdu_taken m
least_taken UpTo50 = omega arith
least_taken UpTo128 = omega arith
least_taken UpTo206 = omega arith
least_taken UpTo480 = omega arith
least_taken UpTo1024 = omega arith
least_taken UpTo1476 = omega arith
least_taken (Reserved n) = omega arith

pub chunk_holds : (own : MaxApdu) (limits : AnswerLimits) → 1 ≤ answer_chunk own limits
chunk_holds own limits = omega (arith, least_taken own, least_taken limits.max_apdu)

-- one that begins
begins_sent : (A : Type 0) (b : Bool) (now chunk : ℕ) (octets : List ℕ) → goes_whole chunk (length octets) ≡ b → 1 ≤ chunk →
    (goes_whole chunk (length octets) ≡ false → AreNumbered chunk octets) → IsSentIn {A = A} chunk (kept.Complex octets) (begins_if b now chunk (length octets))
begins_sent A true now chunk octets e one few = tt
begins_sent A false now chunk octets e one few =
    let same : max 1 chunk ≡ chunk = omega arith in
    (wakes_cut now (nothing_sent (length octets) (max 1 chunk)) ∙ same, few e)

-- an answer that fits
fitted_few : (limits : AnswerLimits) (chunk : ℕ) (octets : List ℕ) → is_too_long limits chunk (length octets) ≡ false → AreNumbered chunk octets
fitted_few limits chunk octets e =
    let p = or_parts (nat_lt MAX_SERVICE_DATA_OCTETS (length octets)) (nat_lt (segments_taken limits.max_segments) (piece_count chunk (length octets))) e in
    let few = ltb-false (segments_taken limits.max_segments) (piece_count chunk (length octets)) p.1 in
    omega (arith, few, few_taken limits.max_segments)

fitted_if_cut : (A : Type 0) (limits : AnswerLimits) (chunk : ℕ) (octets : List ℕ) (whole segmented long : Bool) → goes_whole chunk (length octets) ≡ whole →
    is_too_long limits chunk (length octets) ≡ long → CanBeCut {A = A} chunk (fitted_if whole segmented long octets)
fitted_if_cut A limits chunk octets true segmented long e l = λ f. absurd (cc (sym e ∙ f))
fitted_if_cut A limits chunk octets false false long e l = tt
fitted_if_cut A limits chunk octets false true true e l = tt
fitted_if_cut A limits chunk octets false true false e l = λ f. fitted_few limits chunk octets l

fitted_if_safe : (A : Type 0) (whole segmented long : Bool) (octets : List ℕ) (a : Answer) →
    safe_answer {A = A} (fitted_if whole segmented long octets) ≡ Some a → safe_answer {A = A} (kept.Complex octets) ≡ Some a
fitted_if_safe A true segmented long octets a e = e
fitted_if_safe A false false long octets a e = absurd (cc e)
fitted_if_safe A false true true octets a e = absurd (cc e)
fitted_if_safe A false true false octets a e = e

module _ {A : Type 0} where
  -- a sender that goes on so
  pub sent_on : (chunk : ℕ) (answer : RememberedAnswer A) (c e : SenderState) → e.chunk ≡ c.chunk → IsSentIn chunk answer (Some c) →
      IsSentIn chunk answer (Some e)
  sent_on chunk (kept.Complex octets) c e same h = (same ∙ h.0, h.1)
  sent_on chunk kept.Simple c e same h = absurd h
  sent_on chunk (kept.Error contents) c e same h = absurd h
  sent_on chunk (kept.Abort reason) c e same h = absurd h

  -- one that wakes
  pub again_sent : (now chunk : ℕ) (answer : RememberedAnswer A) (sending : Option SenderState) → IsSentIn chunk answer sending →
      IsSentIn chunk answer (again now sending)
  again_sent now chunk answer None h = tt
  again_sent now chunk answer (Some c) h = sent_on chunk answer c (wakes now c).state (wakes_cut now c) h

  pub begun_sent : (now chunk : ℕ) (answer : RememberedAnswer A) → 1 ≤ chunk → CanBeCut chunk answer → IsSentIn chunk answer (begun now chunk answer)
  begun_sent now chunk (kept.Complex octets) one few = begins_sent A (goes_whole chunk (length octets)) now chunk octets refl one few
  begun_sent now chunk kept.Simple one few = tt
  begun_sent now chunk (kept.Error contents) one few = tt
  begun_sent now chunk (kept.Abort reason) one few = tt

  pub fitted_cut : (limits : AnswerLimits) (chunk : ℕ) (answer : RememberedAnswer A) → CanBeCut chunk (fitted limits chunk answer)
  fitted_cut limits chunk (kept.Complex octets) =
      fitted_if_cut A limits chunk octets (goes_whole chunk (length octets)) limits.segmented (is_too_long limits chunk (length octets)) refl refl
  fitted_cut limits chunk kept.Simple = tt
  fitted_cut limits chunk (kept.Error contents) = tt
  fitted_cut limits chunk (kept.Abort reason) = tt

  fitted_safe : (limits : AnswerLimits) (chunk : ℕ) (answer : RememberedAnswer A) (a : Answer) → safe_answer (fitted limits chunk answer) ≡ Some a →
      safe_answer answer ≡ Some a
  fitted_safe limits chunk (kept.Complex octets) a e =
      fitted_if_safe A (goes_whole chunk (length octets)) limits.segmented (is_too_long limits chunk (length octets)) octets a e
  fitted_safe limits chunk kept.Simple a e = e
  fitted_safe limits chunk (kept.Error contents) a e = e
  fitted_safe limits chunk (kept.Abort reason) a e = e

  answer_seen : (request : Request A) (reply : Reply A) → safe_answer (answer_of request reply) ≡ Some (answer_in (answer_apdu 0 request reply))
  unfolding answer_of
  answer_seen request Done = refl
  answer_seen request (Error class code) = refl
  answer_seen request (ErrorAt class code object property index) = refl
  answer_seen request (Values values) = refl
  answer_seen request (Many results) = refl

  -- what is remembered of an answer is that answer
  pub answer_is : (limits : AnswerLimits) (chunk : ℕ) (request : Request A) (reply : Reply A) (a : Answer) →
      safe_answer (fitted limits chunk (answer_of request reply)) ≡ Some a → a ≡ answer_in (answer_apdu 0 request reply)
  answer_is limits chunk request reply a e =
      let was = sym (fitted_safe limits chunk (answer_of request reply) a e) ∙ answer_seen request reply in
      cc
