-- The table of a master node (9.5.6, Master Node Finite State Machine): what each input leads to, by the state. Of a
-- state's lines the first that fits holds; where none does, the state stays, nothing is put out, and a frame is
-- dropped. Done_With_Token and Use_Token stand first: other lines pass them through. Clause 9.5.6 is the pattern; the
-- lines are this product's.
use Rattle.std.specs.Prelude.{ℕ, ◌+◌, ◌-◌, ◌*◌, ◌==◌, ◌&&◌, nat_le, nat_lt, not, min, Bool, true, false, if◌then◌else◌}
use Rattle.std.specs.Prelude.{List, [], ◌∷◌, ◌++◌, Option, Some, None}
use Rattle.mstp_frame.specs.declared.frame_type.FrameType.{FrameType}
use Rattle.mstp_frame.specs.declared.frame_type.FrameType.TheVariants.{Token, PollForMaster as Poll}
use Rattle.mstp_frame.specs.declared.frame_type.FrameType.TheVariants.{ReplyToPollForMaster, TestRequest, TestResponse}
use Rattle.mstp_frame.specs.declared.frame_type.FrameType.TheVariants.{BacnetDataExpectingReply}
use Rattle.mstp_frame.specs.declared.frame_type.FrameType.TheVariants.{BacnetDataNotExpectingReply, ReplyPostponed}
use Rattle.npdu.specs.declared.parcel.Parcel.{Parcel}
use Rattle.profile.specs.Limits.{N_MIN_OCTETS, N_POLL, N_RETRY_TOKEN}
use Rattle.profile.specs.Times.{T_NO_TOKEN_MS, T_REPLY_DELAY_MS, T_REPLY_TIMEOUT_MS, T_SLOT_MS, T_USAGE_TIMEOUT_MS}
use Rattle.mstp_table.specs.Node.{NamedFrame, NodeState, Outcome, Picked, PutOut, after, expects_reply, first_to}
use Rattle.mstp_table.specs.Node.{is_broadcast, silence, waiting_of, whom, young}
use Rattle.mstp_table.specs.declared.state.State.{State}
use Rattle.mstp_table.specs.declared.state.State.TheVariants.{Idle, WaitForReply, DoneWithToken, PassToken, NoToken}
use Rattle.mstp_table.specs.declared.state.State.TheVariants.{PollForMaster, AnswerDataRequest}
use Rattle.mstp_table.specs.declared.state.Whom.{Whom}
use Rattle.mstp_table.specs.declared.state.Whom.TheVariants.{ToUs, ToAll}
use Rattle.mstp_table.specs.declared.waiting.Waiting.{Waiting}

-- nothing is put out
abbrev pub quiet : {A : Type 0} → NodeState A → Outcome A
quiet s = record { up = false; left = s; frames = [] }

-- the data heard are handed up
abbrev pub handed_up : {A : Type 0} → Outcome A → Outcome A
handed_up o = record o { up = true }

-- a frame of this station, said now: it ends the silence
abbrev pub says : {A : Type 0} → FrameType → (destination : ℕ) → (contents : List ℕ) → NodeState A → (now : ℕ) →
    Outcome A
says kind destination contents s now = record {
  up = false;
  left = record s { last = now };
  frames = record {
    frame = record { frame_type = kind; destination = destination; source = s.ts; contents = contents };
    stamp = now;
  } ∷ [];
}

-- what waited at this station, as data of this type, with its stamp
abbrev pub data_of : {A : Type 0} → FrameType → (ts : ℕ) → Waiting A → PutOut
data_of kind ts w = record {
  frame = record { frame_type = kind; destination = w.destination; source = ts; contents = w.npdu };
  stamp = w.stamp;
}

-- these data, and then what follows
abbrev pub says_first : {A : Type 0} → PutOut → Outcome A → Outcome A
says_first p o = record o { frames = p ∷ o.frames }

-- Token to NS; Pass_Token
abbrev pub gives_token : {A : Type 0} → NodeState A → (now : ℕ) → Outcome A
gives_token s now = says Token s.ns [] (record s { state = PassToken; heard = 0 }) now

-- PS = this, Poll For Master to PS; Poll_For_Master
abbrev pub polls : {A : Type 0} → (ps : ℕ) → NodeState A → (now : ℕ) → Outcome A
polls ps s now = says Poll ps [] (record s { state = PollForMaster; ps = ps }) now

-- Initialize: NS = PS = TS, count 50, sole no; Idle
abbrev pub made : {A : Type 0} → (ts now : ℕ) → NodeState A
made ts now = record {
  state = Idle;
  ts = ts;
  ns = ts;
  ps = ts;
  count = N_POLL;
  retries = 0;
  sole = false;
  heard = 0;
  last = now;
  moment = now;
  queue = [];
}

-- Done_With_Token
unfoldable pub done : {A : Type 0} → NodeState A → (now : ℕ) → Outcome A
done s now =
    -- count < 49, sole: count + 1; wait for the next tick
    if nat_lt s.count (N_POLL - 1) && s.sole then quiet (record s { state = DoneWithToken; count = s.count + 1 })
    -- count < 49, not sole, NS = TS: PS = TS+1, Poll For Master to PS; Poll_For_Master
    else if nat_lt s.count (N_POLL - 1) && s.ns == s.ts then polls (after s.ts) s now
    -- count < 49, not sole, NS other: count + 1, retries 0, Token to NS; Pass_Token
    else if nat_lt s.count (N_POLL - 1) then gives_token (record s { count = s.count + 1; retries = 0 }) now
    -- count >= 49, PS+1 not NS: PS = PS+1, Poll For Master to PS; Poll_For_Master
    else if not (after s.ps == s.ns) then polls (after s.ps) s now
    -- count >= 49, PS+1 = NS, not sole: PS = TS, count 1, retries 0, Token to NS; Pass_Token
    else if not s.sole then gives_token (record s { ps = s.ts; count = 1; retries = 0 }) now
    -- count >= 49, PS+1 = NS, sole: PS = NS+1, NS = TS, count 1, Poll For Master to PS; Poll_For_Master
    else polls (after s.ns) (record s { ns = s.ts; count = 1 }) now

-- Use_Token, where this waits
unfoldable pub used : {A : Type 0} → NodeState A → List (Waiting A) → (now : ℕ) → Outcome A
-- queue empty: Done_With_Token
used s [] now = done (record s { queue = [] }) now
used s (w ∷ rest) now =
    -- head expects a reply and isn't broadcast: Data Expecting Reply; Wait_For_Reply
    if expects_reply w.npdu && not (is_broadcast w) then says_first (data_of BacnetDataExpectingReply s.ts w)
    (quiet (record s { state = WaitForReply; queue = rest; last = now }))
    -- other head: Data Not Expecting Reply; Done_With_Token
    else says_first (data_of BacnetDataNotExpectingReply s.ts w) (done (record s { queue = rest; last = now }) now)

-- Use_Token: what is older than LIFE is dropped first
unfoldable pub use_token : {A : Type 0} → NodeState A → (now : ℕ) → Outcome A
use_token s now = used (record s { queue = young s.queue now }) (young s.queue now) now

-- Idle, silence >= 500: No_Token
abbrev pub idle_ticks : {A : Type 0} → NodeState A → (now : ℕ) → Outcome A
idle_ticks s now = quiet (record s { state = NoToken; heard = 0 })

-- Idle, a frame
unfoldable pub idle_hears : {A : Type 0} → NodeState A → NamedFrame → FrameType → Whom → (now : ℕ) → Outcome A
-- Token to TS: Use_Token
idle_hears s f Token ToUs now = use_token s now
-- Poll For Master to TS: Reply To Poll For Master to its source; Idle
idle_hears s f Poll ToUs now = says ReplyToPollForMaster f.source [] s now
-- Test_Request to TS: Test_Response with its data, to its source; Idle
idle_hears s f TestRequest ToUs now = says TestResponse f.source f.contents s now
-- Data Not Expecting Reply to TS or 255, Data Expecting Reply to 255: handed up; Idle
idle_hears s f BacnetDataNotExpectingReply ToUs now = handed_up (quiet s)
idle_hears s f BacnetDataNotExpectingReply ToAll now = handed_up (quiet s)
idle_hears s f BacnetDataExpectingReply ToAll now = handed_up (quiet s)
-- Data Expecting Reply to TS: handed up; Answer_Data_Request
idle_hears s f BacnetDataExpectingReply ToUs now = handed_up (quiet (record s { state = AnswerDataRequest f.source }))
-- other: Idle
idle_hears s f kind to now = quiet s

-- Wait_For_Reply, silence >= 255: Done_With_Token
abbrev pub wait_ticks : {A : Type 0} → NodeState A → (now : ℕ) → Outcome A
wait_ticks s now = done s now

-- Wait_For_Reply, a frame
unfoldable pub wait_hears : {A : Type 0} → NodeState A → FrameType → Whom → (now : ℕ) → Outcome A
-- Data Not Expecting Reply to TS: handed up; Done_With_Token
wait_hears s BacnetDataNotExpectingReply ToUs now = handed_up (done s now)
-- Test_Response or Reply Postponed to TS: Done_With_Token
wait_hears s TestResponse ToUs now = done s now
wait_hears s ReplyPostponed ToUs now = done s now
-- other frame: dropped; Idle
wait_hears s kind to now = quiet (record s { state = Idle })

-- Pass_Token, 4 octets heard since the Token: Idle. No_Token, 4 octets heard: Idle
abbrev pub heeded : State → (heard : ℕ) → State
heeded PassToken heard = if nat_le N_MIN_OCTETS heard then Idle else PassToken
heeded NoToken heard = if nat_le N_MIN_OCTETS heard then Idle else NoToken
heeded state heard = state

-- Pass_Token, silence >= 20
unfoldable pub pass_ticks : {A : Type 0} → NodeState A → (now : ℕ) → Outcome A
pass_ticks s now =
    -- retries 0: retries 1, Token to NS; Pass_Token
    if nat_lt s.retries N_RETRY_TOKEN then gives_token (record s { retries = s.retries + 1 }) now
    -- retries 1: PS = NS+1, NS = TS, count 0, Poll For Master to PS; Poll_For_Master
    else polls (after s.ns) (record s { ns = s.ts; count = 0 }) now

-- No_Token, silence >= 500 + 10 TS: PS = TS+1, NS = TS, count 0, Poll For Master to PS; Poll_For_Master
abbrev pub no_token_ticks : {A : Type 0} → NodeState A → (now : ℕ) → Outcome A
no_token_ticks s now = polls (after s.ts) (record s { ns = s.ts; count = 0 }) now

-- Poll_For_Master, a frame
unfoldable pub poll_hears : {A : Type 0} → NodeState A → NamedFrame → FrameType → Whom → (now : ℕ) → Outcome A
-- Reply To Poll For Master to TS: sole no, NS = source, PS = TS, count 0, retries 0, Token to NS; Pass_Token
poll_hears s f ReplyToPollForMaster ToUs now =
    gives_token (record s { sole = false; ns = f.source; ps = s.ts; count = 0; retries = 0 }) now
-- other frame: dropped; Idle
poll_hears s f kind to now = quiet (record s { state = Idle })

-- Poll_For_Master, silence >= 20
unfoldable pub poll_ticks : {A : Type 0} → NodeState A → (now : ℕ) → Outcome A
poll_ticks s now =
    -- sole: Use_Token
    if s.sole then use_token s now
    -- not sole, NS not TS: retries 0, Token to NS; Pass_Token
    else if not (s.ns == s.ts) then gives_token (record s { retries = 0 }) now
    -- not sole, NS = TS, PS+1 not TS: PS = PS+1, Poll For Master to PS; stays
    else if not (after s.ps == s.ts) then polls (after s.ps) s now
    -- not sole, NS = TS, PS+1 = TS: sole yes; Use_Token
    else use_token (record s { sole = true }) now

-- Answer_Data_Request, by the first that waits for the asker
unfoldable pub answers : {A : Type 0} → (asker : ℕ) → NodeState A → Option (Picked A) → (now : ℕ) → Outcome A
-- a parcel to the asker is queued: Data Not Expecting Reply to it; Idle
answers asker s (Some x) now = says_first (data_of BacnetDataNotExpectingReply s.ts x.picked)
    (quiet (record s { state = Idle; queue = x.rest; last = now }))
-- silence >= 250: Reply Postponed to it; Idle
answers asker s None now = if nat_le T_REPLY_DELAY_MS (silence s now)
    then says ReplyPostponed asker [] (record s { state = Idle }) now else quiet s

-- Answer_Data_Request: what is older than LIFE is dropped first
unfoldable pub answer_ticks : {A : Type 0} → (asker : ℕ) → NodeState A → (now : ℕ) → Outcome A
answer_ticks asker s now =
    answers asker (record s { queue = young s.queue now }) (first_to asker (young s.queue now)) now

-- the silence, in milliseconds, that a tick needs to lead on from a state
abbrev pub patience : State → (ts : ℕ) → ℕ
patience Idle ts = T_NO_TOKEN_MS
patience WaitForReply ts = T_REPLY_TIMEOUT_MS
patience DoneWithToken ts = 0
patience PassToken ts = T_USAGE_TIMEOUT_MS
patience NoToken ts = T_NO_TOKEN_MS + T_SLOT_MS * ts
patience PollForMaster ts = T_USAGE_TIMEOUT_MS
patience (AnswerDataRequest asker) ts = 0

-- a tick after such a silence, by the state
unfoldable pub ticks_in : {A : Type 0} → State → NodeState A → (now : ℕ) → Outcome A
ticks_in Idle s now = idle_ticks s now
ticks_in WaitForReply s now = wait_ticks s now
-- Done_With_Token, the next tick: Use_Token
ticks_in DoneWithToken s now = use_token s now
ticks_in PassToken s now = pass_ticks s now
ticks_in NoToken s now = no_token_ticks s now
ticks_in PollForMaster s now = poll_ticks s now
ticks_in (AnswerDataRequest asker) s now = answer_ticks asker s now

-- a frame, by the state
unfoldable pub hears_in : {A : Type 0} → State → NodeState A → NamedFrame → (now : ℕ) → Outcome A
hears_in Idle s f now = idle_hears s f f.frame_type (whom s.ts f.destination) now
hears_in WaitForReply s f now = wait_hears s f.frame_type (whom s.ts f.destination) now
hears_in PollForMaster s f now = poll_hears s f f.frame_type (whom s.ts f.destination) now
-- Answer_Data_Request, any frame: taken as in Idle
hears_in (AnswerDataRequest asker) s f now =
    idle_hears (record s { state = Idle }) f f.frame_type (whom s.ts f.destination) now
-- Done_With_Token waits for the next tick, Pass_Token and No_Token for four octets: dropped
hears_in state s f now = quiet s

-- the same node at a later moment
abbrev pub at_moment : {A : Type 0} → NodeState A → (now : ℕ) → NodeState A
at_moment s now = record s { moment = now }

-- anything is due at a tick
abbrev pub is_due : {A : Type 0} → NodeState A → (now : ℕ) → Bool
is_due s now = nat_le (patience s.state s.ts) (silence s now)

-- a parcel is queued, in every state
unfoldable pub after_queued : {A : Type 0} → Parcel A → NodeState A → NodeState A
after_queued p s = record s { queue = s.queue ++ waiting_of p ∷ [] }

-- so many octets are heard, in every state; at most four are counted, and none is no input
unfoldable pub after_octets : {A : Type 0} → (count : ℕ) → NodeState A → (now : ℕ) → NodeState A
after_octets count s now = if count == 0 then at_moment s now else record s {
  state = heeded s.state (min N_MIN_OCTETS (s.heard + count));
  heard = min N_MIN_OCTETS (s.heard + count);
  last = now;
  moment = now;
}

unfoldable pub after_frame : {A : Type 0} → NamedFrame → NodeState A → (now : ℕ) → Outcome A
after_frame f s now = hears_in s.state (at_moment s now) f now

unfoldable pub after_tick : {A : Type 0} → NodeState A → (now : ℕ) → Outcome A
after_tick s now = if is_due s now then ticks_in s.state (at_moment s now) now else quiet (at_moment s now)

-- an input of a node
pub data Input (A : Type 0) : Type 0 where
  Queued : Parcel A → Input A
  Octets : (count now : ℕ) → Input A
  Frame : NamedFrame → (now : ℕ) → Input A
  Tick : (now : ℕ) → Input A

-- the table: what an input leads to
unfoldable pub step : {A : Type 0} → NodeState A → Input A → Outcome A
step s (Queued p) = quiet (after_queued p s)
step s (Octets count now) = quiet (after_octets count s now)
step s (Frame f now) = after_frame f s now
step s (Tick now) = after_tick s now
