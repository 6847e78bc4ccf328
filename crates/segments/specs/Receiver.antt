-- What a receiver of segments does (5.4.4, 5.4.5).
use Rattle.std.specs.Prelude.{ℕ, suc, ◌+◌, ◌-◌, ◌==◌, ◌||◌, nat_le, nat_lt, min, not, Bool, true, false, List, [], ◌++◌}
use Rattle.std.specs.Prelude.{length, Option, Some, None}
use Rattle.profile.specs.Limits.{MAX_SEGMENTS_ACCEPTED, MAX_SERVICE_DATA_OCTETS, WINDOW_SIZE}
use Rattle.profile.specs.Times.{APDU_SEGMENT_TIMEOUT_MS}
use Rattle.segments.specs.declared.step.Step.{Step}
use Rattle.segments.specs.declared.step.Step.TheVariants.{Taken, Nak, Dropped, Full}

-- what has come of a message. due: how many segments since the last SegmentACK that was said, a NAK included;
-- nak_at: when the last NAK was said, where no segment came in order since
pub record ReceiverState : Type 0 where
  pub window : ℕ
  pub due : ℕ
  pub octets : List ℕ
  pub next : ℕ
  pub nak_at : Option ℕ
  pub is_whole : Bool

-- the receiver after a segment, and what it does
pub record Joined : Type 0 where
  pub state : ReceiverState
  pub step : Step

-- the window that is granted: the proposed one, and this product's at most (20.1.2.8)
abbrev pub granted_window : ℕ → ℕ
granted_window proposed = min proposed WINDOW_SIZE

-- nothing has come; this window is granted
abbrev pub nothing_joined : ℕ → ReceiverState
nothing_joined window =
    record { window = window; due = 0; octets = []; next = 0; nak_at = None; is_whole = false }

-- a SegmentACK is due at the first segment, the last, and the window-th since the last SegmentACK
abbrev pub is_due : Bool → ReceiverState → Bool
is_due more j = (j.next == 0) || (not more || (suc j.due == j.window))

-- the next segment would be one too many, or the octets would be
abbrev pub is_full : List ℕ → ReceiverState → Bool
is_full octets j =
    nat_le MAX_SEGMENTS_ACCEPTED j.next || nat_lt MAX_SERVICE_DATA_OCTETS (length j.octets + length octets)

-- no NAK was said since a segment came in order, or the segment timeout has passed since
abbrev pub may_nak : ℕ → Option ℕ → Bool
may_nak now None = true
may_nak now (Some at) = nat_le APDU_SEGMENT_TIMEOUT_MS (now - at)

-- the SegmentACK that is due, if one is
abbrev pub ack_if : Bool → ℕ → Option ℕ
ack_if true number = Some number
ack_if false number = None

-- on the next segment: it is taken, unless it passes a limit
abbrev pub step_in_order : (is_full is_due : Bool) → ReceiverState → Step
step_in_order true is_due j = Full
step_in_order false is_due j = Taken (ack_if is_due j.next)

-- on any other: nothing before the first came, else a NAK of the last in order, unless one was just said
abbrev pub step_out_of_order : (is_begun may_nak : Bool) → ReceiverState → Step
step_out_of_order false may_nak j = Dropped
step_out_of_order true false j = Dropped
step_out_of_order true true j = Nak (j.next - 1)

-- what is whole takes no more
abbrev pub step_on : (is_whole is_next : Bool) → ℕ → Bool → List ℕ → ReceiverState → Step
step_on true is_next now more octets j = Dropped
step_on false true now more octets j = step_in_order (is_full octets j) (is_due more j) j
step_on false false now more octets j = step_out_of_order (nat_lt 0 j.next) (may_nak now j.nak_at) j

-- a SegmentACK that is said begins the count anew
abbrev pub due_after : Option ℕ → ℕ → ℕ
due_after (Some ack) due = 0
due_after None due = suc due

-- what a step leaves
abbrev pub joining_after : Step → ℕ → Bool → List ℕ → ReceiverState → ReceiverState
joining_after (Taken ack) now more octets j =
    record {
      window = j.window;
      due = due_after ack j.due;
      octets = j.octets ++ octets;
      next = suc j.next;
      nak_at = None;
      is_whole = not more;
    }
joining_after (Nak number) now more octets j = record j { due = 0; nak_at = Some now }
joining_after Dropped now more octets j = j
joining_after Full now more octets j = j

-- at this moment a segment comes: its number, whether more follow, its octets
unfoldable pub step_of : ℕ → ℕ → Bool → List ℕ → ReceiverState → Step
step_of now number more octets j = step_on j.is_whole (number == j.next) now more octets j

-- what such a segment leaves, and what is done
unfoldable pub joins : ℕ → ℕ → Bool → List ℕ → ReceiverState → Joined
joins now number more octets j =
    record {
      state = joining_after (step_of now number more octets j) now more octets j;
      step = step_of now number more octets j;
    }

-- the octets, once the last segment has come
abbrev pub whole_if : Bool → List ℕ → Option (List ℕ)
whole_if true octets = Some octets
whole_if false octets = None

-- the octets of the message, once it is whole
abbrev pub whole_of : ReceiverState → Option (List ℕ)
whole_of j = whole_if j.is_whole j.octets
