-- When an issue of a world has come to its end, when it is open still, and what a wake ends.
use Rattle.std.specs.Prelude.{◌≡◌, ◌⊎◌, ◌≤◌, ◌+◌, ℕ, Some, slice_get}
use Rattle.carry_world.specs.carry_said.client.Client.{ClientState}
use Rattle.carry_world.specs.carry_said.client_tsm.Open.{Open}
use Rattle.carry_world.specs.carry_said.headline_site.headline.Protocol.{IsSite}
use Rattle.carry_world.specs.carry_said.headline_site.headline_bacnet.Protocol.{bacnet}
use Rattle.carry_world.specs.carry_said.headline_site.headline_bacnet.Refined.{ObjectSite}
use Rattle.carry_world.specs.carry_said.headline_site.headline_client.Safe.{station_of}
use Rattle.carry_world.specs.Laws.{IsFresh}
use Rattle.carry_world.specs.PlainSteps.{ClientWakes, StepsTo}
use Rattle.carry_world.specs.PlainWorld.{PlainWorld, last_key}
use Rattle.headline_ends.specs.Ends.{IsClosed}
use Rattle.history.specs.Legal.{closes}
use Rattle.history.specs.Lists.{Has, count}
use Rattle.history.specs.declared.Entry.TheVariants.{Issue}
use Rattle.npdu.specs.declared.mac.Station.{Station}
use Rattle.primitives.specs.declared.plain_data.Request.{Request}
use Rattle.profile.specs.Times.{DEADLINE_MS}

-- a client at this station has a transaction with this request since this moment, which is of the issue i: the last one
-- of the client under its invoke ID (5.4.1)
pub record IsOpen {A : Type 0} (w : PlainWorld A) (i : ℕ) (x : Station) (request : Request A) (moment : ℕ) :
    Type 0 where
  pub place : ℕ
  pub client : ClientState A
  pub there : slice_get w.clients place ≡ Some client
  pub station : station_of client ≡ x
  pub transaction : Open A
  pub has : Has client.machine.open_ones transaction
  pub asked : transaction.request ≡ request
  pub at : transaction.at ≡ moment
  pub last : last_key x transaction.invoke_id w.keys ≡ Some i

-- each issue of the history was answered or ended, once, or is open (5.4.4)
abbrev pub IssuesAreAccountedFor : {A : Type 0} → PlainWorld A → Type 0
IssuesAreAccountedFor {A} w = (i : ℕ) (x : Station) (instance : ℕ) (request : Request A) (moment : ℕ) →
    Has w.history (Issue i x instance request moment) → IsClosed w.history i ⊎ IsOpen w i x request moment

-- a transaction of the client at this station is of its last issue under that invoke ID, which was neither answered nor
-- ended
pub record IsUnclosed {A : Type 0} (w : PlainWorld A) (x : Station) (o : Open A) : Type 0 where
  pub i : ℕ
  pub instance : ℕ
  pub issue : Has w.history (Issue i x instance o.request o.at)
  pub last : last_key x o.invoke_id w.keys ≡ Some i
  pub none : count (closes i) w.history ≡ 0

-- so is each transaction that is open
abbrev pub OpenAreUnclosed : {A : Type 0} → PlainWorld A → Type 0
OpenAreUnclosed {A} w = (place : ℕ) (c : ClientState A) (o : Open A) → slice_get w.clients place ≡ Some c →
    Has c.machine.open_ones o → IsUnclosed w (station_of c) o

-- where a client has just woken, each of its issues that is DEADLINE_MS old was answered or ended, once, whatever was
-- lost, repeated or late before (5.4.4.2, 5.4.4.3, 5.4.4.4)
abbrev pub WakesEnd : Type 0 → Type 0
WakesEnd A = (s : ObjectSite A) (w v u : PlainWorld A) → IsSite (bacnet A) s → IsFresh s w → StepsTo s w v →
    (k : ClientWakes v u) → (i instance : ℕ) (request : Request A) (moment : ℕ) →
    Has u.history (Issue i (station_of k.c) instance request moment) → moment + DEADLINE_MS ≤ v.moment →
    IsClosed u.history i
