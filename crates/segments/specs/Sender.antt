-- What a sender of segments does (5.4.4, 5.4.5).
use Rattle.std.specs.Prelude.{ℕ, suc, ◌+◌, ◌-◌, ◌==◌, ◌&&◌, ◌||◌, nat_le, nat_lt, min, max, Bool, true, false, List}
use Rattle.std.specs.Prelude.{take, drop}
use Rattle.profile.specs.Limits.{NUMBER_OF_APDU_RETRIES}
use Rattle.profile.specs.Times.{APDU_SEGMENT_TIMEOUT_MS}
use Rattle.segments.specs.Pieces.{PlainPiece, piece_count, pieces}
use Rattle.segments.specs.declared.step.Turn.{Turn}
use Rattle.segments.specs.declared.step.Turn.TheVariants.{Waits, Sends, Ends}

-- what has gone of a body of this length. acknowledged, sent: how many pieces are, from the first on;
-- window: how many go together; at: when the window was said
pub record SenderState : Type 0 where
  pub length : ℕ
  pub chunk : ℕ
  pub acknowledged : ℕ
  pub sent : ℕ
  pub window : ℕ
  pub repeats : ℕ
  pub at : ℕ

-- the sender after an input, and what it does
pub record Turned : Type 0 where
  pub state : SenderState
  pub turn : Turn

-- nothing is done at a turn
abbrev pub waits : Turn → Bool
waits Waits = true
waits Sends = false
waits Ends = false

-- nothing has gone; the first piece goes alone
abbrev pub nothing_sent : ℕ → ℕ → SenderState
nothing_sent length chunk =
    record { length = length; chunk = chunk; acknowledged = 0; sent = 0; window = 1; repeats = 0; at = 0 }

-- the window: so many pieces from the first that is not acknowledged on, as far as there are any
unfoldable pub window_of : List ℕ → SenderState → List PlainPiece
window_of body c = take c.window (drop c.acknowledged (pieces c.chunk body))

-- each piece is acknowledged
abbrev pub is_acknowledged : SenderState → Bool
is_acknowledged c = nat_le (piece_count c.chunk c.length) c.acknowledged

-- the segment timeout has passed since the window was said
abbrev pub is_timed_out : ℕ → SenderState → Bool
is_timed_out now c = nat_le APDU_SEGMENT_TIMEOUT_MS (now - c.at)

-- each piece is acknowledged, or the last repeat was not in time
unfoldable pub has_ended : ℕ → SenderState → Bool
has_ended now c = is_acknowledged c || (nat_le NUMBER_OF_APDU_RETRIES c.repeats && is_timed_out now c)

-- a SegmentACK has the number of the last acknowledged piece or of one sent since, and brings something new or is a NAK
abbrev pub is_heard : ℕ → Bool → SenderState → Bool
is_heard number nak c =
    (nat_le c.acknowledged (suc number) && nat_le (suc number) c.sent) && (nak || nat_lt c.acknowledged (suc number))

-- the pieces up to this number are acknowledged; what counts as sent ends with the last
abbrev pub acknowledged_by : ℕ → ℕ → ℕ → SenderState → SenderState
acknowledged_by now number window c =
    record c {
      acknowledged = suc number;
      window = window;
      repeats = 0;
      at = now;
      sent = max c.sent (min (piece_count c.chunk c.length) (suc number + window));
    }

-- it ends where each piece is acknowledged, else it says its window
abbrev pub turn_if : Bool → Turn
turn_if true = Ends
turn_if false = Sends

-- a SegmentACK that does not count changes nothing
abbrev pub acknowledges_if : Bool → ℕ → ℕ → ℕ → SenderState → Turned
acknowledges_if false now number window c = record { state = c; turn = Waits }
acknowledges_if true now number window c =
    record {
      state = acknowledged_by now number window c;
      turn = turn_if (is_acknowledged (acknowledged_by now number window c));
    }

-- what has ended hears nothing more
abbrev pub hears_if : (has_ended is_heard : Bool) → ℕ → ℕ → ℕ → SenderState → Turned
hears_if true is_heard now number window c = record { state = c; turn = Waits }
hears_if false is_heard now number window c = acknowledges_if is_heard now number window c

-- at this moment a SegmentACK comes: its number, its window, whether it is a NAK
unfoldable pub hears : ℕ → ℕ → ℕ → Bool → SenderState → Turned
hears now number window nak c = hears_if (has_ended now c) (is_heard number nak c) now number window c

-- a new sender begins; one that has ended ends; one that is timed out says its window again; else it waits
abbrev pub wakes_if : (is_new has_ended is_timed_out : Bool) → ℕ → SenderState → Turned
wakes_if true has_ended is_timed_out now c = record { state = record c { sent = 1; at = now }; turn = Sends }
wakes_if false true is_timed_out now c = record { state = c; turn = Ends }
wakes_if false false true now c = record { state = record c { repeats = suc c.repeats; at = now }; turn = Sends }
wakes_if false false false now c = record { state = c; turn = Waits }

-- at this moment it wakes: it begins, or says its window again
unfoldable pub wakes : ℕ → SenderState → Turned
wakes now c = wakes_if (c.sent == 0) (has_ended now c) (is_timed_out now c) now c
