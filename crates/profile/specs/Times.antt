-- Times of the profile, all in milliseconds (5.4.1, 9.5.6, 12.11).
use Rattle.std.specs.Prelude.{ℕ, ◌^◌}

-- how long a client waits for an answer before it says the request again (12.11)
abbrev pub APDU_TIMEOUT_MS : ℕ
APDU_TIMEOUT_MS = 3000

-- how long a sender waits for a SegmentACK (12.11)
abbrev pub APDU_SEGMENT_TIMEOUT_MS : ℕ
APDU_SEGMENT_TIMEOUT_MS = 2000

-- how long a receiver waits for the next segment: four segment timeouts (5.4.4)
abbrev pub GATHERING_TIMEOUT_MS : ℕ
GATHERING_TIMEOUT_MS = 8000

-- a client says a request, and takes its answer, only while fewer have passed since its issue (5.4.4)
abbrev pub DEADLINE_MS : ℕ
DEADLINE_MS = 12000

-- the greatest age at which a message is heard
abbrev pub LIFE_MS : ℕ
LIFE_MS = 1000

-- how long after the execution a remembered answer lives, and after a restart no request is taken (5.4.5)
abbrev pub KEEP_MS : ℕ
KEEP_MS = 13000

-- how many pass after the issue of a request before its invoke ID is given again (5.4.1)
abbrev pub REUSE_MS : ℕ
REUSE_MS = 27001

-- the greatest moment
abbrev pub MAX_MOMENT_MS : ℕ
MAX_MOMENT_MS = 2 ^ 62

-- how many pass at once at most
abbrev pub MAX_TICK_MS : ℕ
MAX_TICK_MS = 60000

-- for how many seconds more than it asked for a foreign device stays registered (J.5.2.3)
abbrev pub GRACE_SECONDS : ℕ
GRACE_SECONDS = 30

-- how long a master node hears nothing before it takes the token for lost (9.5.6)
abbrev pub T_NO_TOKEN_MS : ℕ
T_NO_TOKEN_MS = 500

-- the slot of a master node, by whose number it waits longer (9.5.6)
abbrev pub T_SLOT_MS : ℕ
T_SLOT_MS = 10

-- how long a master node waits for the reply to what it said (9.5.6)
abbrev pub T_REPLY_TIMEOUT_MS : ℕ
T_REPLY_TIMEOUT_MS = 255

-- how long a master node may take for a reply (9.5.6)
abbrev pub T_REPLY_DELAY_MS : ℕ
T_REPLY_DELAY_MS = 250

-- how long a master node waits for another's first octet, after it gave the token or polled (9.5.6)
abbrev pub T_USAGE_TIMEOUT_MS : ℕ
T_USAGE_TIMEOUT_MS = 20

-- the silence behind which a frame that is cut is given up (9.5.6)
abbrev pub T_FRAME_ABORT_MS : ℕ
T_FRAME_ABORT_MS = 100
