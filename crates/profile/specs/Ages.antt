-- What is too old, and how many answers live: moments and ages in milliseconds (5.4.1, 5.4.4, 5.4.5).
use Rattle.std.specs.Prelude.{ℕ, ◌+◌, ◌&&◌, Bool, nat_le, nat_lt, not}
use Rattle.profile.specs.Limits.{MAX_REMEMBERED}
use Rattle.profile.specs.Times.{GATHERING_TIMEOUT_MS, DEADLINE_MS, KEEP_MS, LIFE_MS}

-- it is before the deadline of what was issued at a moment (5.4.4)
abbrev pub is_in_time : (at now : ℕ) → Bool
is_in_time at now = nat_lt now (at + DEADLINE_MS)

-- an answer lives whose request was executed at a moment (5.4.5)
abbrev pub lives : (at now : ℕ) → Bool
lives at now = nat_le now (at + KEEP_MS)

-- a message still gathers of which a segment was heard last at a moment (5.4.4, 5.4.5)
abbrev pub gathers_still : (at now : ℕ) → Bool
gathers_still at now = nat_lt now (at + GATHERING_TIMEOUT_MS)

-- an invoke ID that is free from a moment on may be given (5.4.1)
abbrev pub is_free : (free_from now : ℕ) → Bool
is_free free_from now = nat_le free_from now

-- what was said at a moment is young enough to be heard
abbrev pub is_heard_in_time : (stamp now : ℕ) → Bool
is_heard_in_time stamp now = nat_le now (stamp + LIFE_MS)

-- the end of the quiet time of a device that restarts at a moment (5.4.5)
abbrev pub end_of_quiet : ℕ → ℕ
end_of_quiet now = now + KEEP_MS

-- there is no place for another answer: so many are remembered, and the oldest lives (5.4.5)
abbrev pub has_no_place : (count : ℕ) → (begins_dead : Bool) → Bool
has_no_place count begins_dead = nat_le MAX_REMEMBERED count && not begins_dead
