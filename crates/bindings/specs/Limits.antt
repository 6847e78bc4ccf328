-- How long a request may be, and how it is cut (5.2.1, 5.4.4.1).
use Rattle.std.specs.Prelude.{ℕ, ◌-◌, ◌+◌, ◌&&◌, ◌||◌, nat_le, nat_lt, min, max, not, Bool, true, false, Option, Some}
use Rattle.std.specs.Prelude.{None}
use Rattle.apdu.specs.Sizes.{apdu_taken}
use Rattle.segments.specs.Sender.{SenderState, nothing_sent, wakes}
use Rattle.profile.specs.Limits.{MAX_SEGMENTS_ACCEPTED, MAX_SERVICE_DATA_OCTETS}
use Rattle.segments.specs.Pieces.{piece_count}
use Rattle.bindings.specs.Accepts.{PlainAccepts}
use Rattle.bindings.specs.declared.bound.Bound.{Bound}

-- how many octets an APDU has at most: what both sides take, and 50 that each station takes (5.2.1.2, 20.1.2.5)
abbrev pub apdu_limit : PlainAccepts → Bound → ℕ
apdu_limit accepts to = max 50 (min (apdu_taken accepts.max_apdu) to.max_apdu)

-- a request of so many octets goes whole where its header of four leaves room for them (5.2.1.1, 20.1.2)
abbrev pub goes_whole : ℕ → ℕ → Bool
goes_whole max_apdu length = nat_le (length + 4) max_apdu

-- how many octets of a request go in a segment, whose header has six (5.2.1.1, 20.1.2)
abbrev pub request_chunk : ℕ → ℕ
request_chunk max_apdu = max_apdu - 6

-- a request of so many octets can't be said: it has too many octets, too many segments, or has segments where the
-- client has none (5.4.4.1, CannotSend)
abbrev pub is_too_long : (segmented : Bool) → ℕ → ℕ → Bool
is_too_long segmented max_apdu length =
    nat_lt MAX_SERVICE_DATA_OCTETS length ||
    (nat_lt MAX_SEGMENTS_ACCEPTED (piece_count (request_chunk max_apdu) length) ||
    (not segmented && not (goes_whole max_apdu length)))

-- where it goes whole, or not
abbrev pub begins_if : (goes_whole : Bool) → ℕ → ℕ → ℕ → Option SenderState
begins_if true now max_apdu length = None
begins_if false now max_apdu length = Some (wakes now (nothing_sent length (request_chunk max_apdu))).state

-- what goes on sending a request that is said from its beginning at this moment: nothing where it goes whole (5.4.4.1)
abbrev pub begun : ℕ → ℕ → ℕ → Option SenderState
begun now max_apdu length = begins_if (goes_whole max_apdu length) now max_apdu length
