-- A transaction of a client (5.4.4).
use Rattle.std.specs.Prelude.{ℕ, ◌==◌, ◌&&◌, not, Bool, true, List, [], Option, Some, None}
use Rattle.npdu.specs.Mac.{same_station}
use Rattle.npdu.specs.declared.mac.Station.{Station}
use Rattle.npdu.specs.declared.mac.Way.{Way}
use Rattle.primitives.specs.declared.plain_data.Request.{Request}
use Rattle.segments.specs.Sender.{SenderState, has_ended}
use Rattle.profile.specs.Ages as age
use Rattle.client_tsm.specs.declared.gathering.Gathering.{Gathering}
use Rattle.bindings.specs.Accepts.{PlainAccepts}

-- a request that has neither an answer nor an end (5.4.4). max_apdu: how many octets an APDU on the way has at most;
-- at: when it was issued; sent: when it, or a window of it, was said last, or a SegmentACK of it counted; repeats: how
-- often it was said again from its beginning; sending: what goes on sending it, until each segment is acknowledged;
-- gathering: the segments of its answer
pub record Open (A : Type 0) : Type 0 where
  pub invoke_id : ℕ
  pub station : Station
  pub way : Way
  pub request : Request A
  pub max_apdu : ℕ
  pub accepts : PlainAccepts
  pub at : ℕ
  pub sent : ℕ
  pub repeats : ℕ
  pub sending : Option SenderState
  pub gathering : Option (Gathering A)

-- the octets of the segments of an answer that came, in order
abbrev pub got_of : {A : Type 0} → Option (Gathering A) → List ℕ
got_of None = []
got_of (Some g) = g.receiver.octets

-- what is gathered of an answer isn't too old (5.4.4.4, Timeout)
abbrev pub gathers_still : {A : Type 0} → ℕ → Option (Gathering A) → Bool
gathers_still now None = true
gathers_still now (Some g) = age.gathers_still g.at now

-- no window of the request was repeated in vain (5.4.4.2, FinalTimeout)
abbrev pub sends_still : ℕ → Option SenderState → Bool
sends_still now None = true
sends_still now (Some c) = not (has_ended now c)

-- the transaction has no end yet: it is before the deadline, its answer not too old, its request not in vain (5.4.4)
abbrev pub goes_on : {A : Type 0} → ℕ → Open A → Bool
goes_on now o = age.is_in_time o.at now && (gathers_still now o.gathering && sends_still now o.sending)

-- it takes what this station says under this invoke ID (5.4.1)
abbrev pub takes : {A : Type 0} → ℕ → Station → ℕ → Open A → Bool
takes now from id o = (o.invoke_id == id) && (same_station o.station from && goes_on now o)
