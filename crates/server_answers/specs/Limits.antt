-- How long an answer may be, and how it is cut (5.2.1, 5.4.5.3).
use Rattle.std.specs.Prelude.{ℕ, ◌-◌, ◌+◌, ◌||◌, nat_le, nat_lt, min, max, Bool, true, false, List, length, Option}
use Rattle.std.specs.Prelude.{Some, None}
use Rattle.apdu.specs.Sizes.{apdu_taken, segments_taken}
use Rattle.apdu.specs.declared.numbers.AbortReason.TheVariants.{BufferOverflow, SegmentationNotSupported}
use Rattle.apdu.specs.declared.sizes.MaxApdu.{MaxApdu}
use Rattle.remembered.specs.declared.record.RememberedAnswer.{RememberedAnswer}
use Rattle.remembered.specs.declared.record.RememberedAnswer.TheVariants as kept
use Rattle.segments.specs.Sender.{SenderState, nothing_sent, wakes}
use Rattle.profile.specs.Limits.{MAX_SERVICE_DATA_OCTETS}
use Rattle.segments.specs.Pieces.{piece_count}
use Rattle.server_answers.specs.declared.asked.AnswerLimits.{AnswerLimits}

-- how many octets an APDU to the client has at most: what both sides take (5.2.1.2, 20.1.2.5)
abbrev pub apdu_limit : MaxApdu → AnswerLimits → ℕ
apdu_limit own limits = min (apdu_taken own) (apdu_taken limits.max_apdu)

-- how many octets of an answer go in a segment, whose header has five (5.2.1.1, 20.1.5)
abbrev pub answer_chunk : MaxApdu → AnswerLimits → ℕ
answer_chunk own limits = apdu_limit own limits - 5

-- service data of so many octets go whole where a segment has room for so many: the header has two octets fewer then
-- (5.2.1.1, 20.1.5)
abbrev pub goes_whole : (chunk length : ℕ) → Bool
goes_whole chunk length = nat_le length (chunk + 2)

-- service data of so many octets are too long for segments: too many octets, or more segments than the client takes,
-- which are 64 at most (5.4.5.3, CannotSendSegmentedComplexACK)
abbrev pub is_too_long : AnswerLimits → (chunk length : ℕ) → Bool
is_too_long limits chunk length =
    nat_lt MAX_SERVICE_DATA_OCTETS length || nat_lt (segments_taken limits.max_segments) (piece_count chunk length)

-- service data that don't go whole go in segments; an Abort stands for them where the client takes none, or not so many
abbrev pub fitted_if : {A : Type 0} → (goes_whole segmented is_too_long : Bool) → List ℕ → RememberedAnswer A
fitted_if true segmented is_too_long octets = kept.Complex octets
fitted_if false false is_too_long octets = kept.Abort SegmentationNotSupported
fitted_if false true true octets = kept.Abort BufferOverflow
fitted_if false true false octets = kept.Complex octets

-- an answer as it is said to a client with these limits (5.4.5.3)
abbrev pub fitted : {A : Type 0} → AnswerLimits → (chunk : ℕ) → RememberedAnswer A → RememberedAnswer A
fitted limits chunk (kept.Complex octets) =
    fitted_if (goes_whole chunk (length octets)) limits.segmented (is_too_long limits chunk (length octets)) octets
fitted limits chunk answer = answer

-- what sends segments, of one octet at least, from the first on; nothing where all goes whole
abbrev pub begins_if : (goes_whole : Bool) → ℕ → (chunk length : ℕ) → Option SenderState
begins_if true now chunk length = None
begins_if false now chunk length = Some (wakes now (nothing_sent length (max 1 chunk))).state

-- what goes on sending an answer that is said from its beginning at this moment: nothing where it goes whole (5.4.5.3)
abbrev pub begun : {A : Type 0} → ℕ → (chunk : ℕ) → RememberedAnswer A → Option SenderState
begun now chunk (kept.Complex octets) = begins_if (goes_whole chunk (length octets)) now chunk (length octets)
begun now chunk answer = None
