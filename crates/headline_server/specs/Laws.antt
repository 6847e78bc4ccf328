-- What holds of the server of transactions of any device, among all stations: each of its steps is a list of honest
-- happenings of the promise, and it stays one that keeps its answers well.
use Rattle.std.specs.Prelude.{◌≡◌, ◌≤◌, ℕ, [], ◌∷◌, Some}
use Rattle.apdu.specs.Apdu.{PlainApdu, Spells, apdu_of, HasNamedNumbers}
use Rattle.apdu.specs.declared.apdu.Apdu.{Apdu}
use Rattle.apdu.specs.declared.sizes.MaxApdu.{MaxApdu}
use Rattle.headline.specs.Happenings.{says}
use Rattle.headline.specs.Honest.{IsAsked, IsHeard, MayExecute}
use Rattle.headline.specs.Stations.{Record, new_device}
use Rattle.history.specs.Book.{Broadcast, I_am, Message}
use Rattle.npdu.specs.declared.mac.Station.{Station}
use Rattle.headline_bacnet.specs.Bodies.{Says, head_of, led_to}
use Rattle.headline_bacnet.specs.Protocol.{bacnet}
use Rattle.headline_bacnet.specs.Refined.{ObjectSite, Refined, ObjectCore}
use Rattle.object_model.specs.Objects.{PlainTable}
use Rattle.headline_server.specs.Keeping.{IsWellKept}
use Rattle.headline_server.specs.Refines.{begun_anew, said_body, served}
use Rattle.headline_server.specs.Safe.{safe_device}
use Rattle.server_tsm.specs.Hearing.{Whole, completes, heard_of, reached}
use Rattle.headline_bacnet.specs.server_answers.Plan.{ServerChange, ServerPlan}
use Rattle.headline_bacnet.specs.server_answers.Said.{said_octets}
use Rattle.server_tsm.specs.Server.{ServerTsmState, committed, new_server, restarted}
use Rattle.server_tsm.specs.Steps.{IsPlan, IsStep, told_of_plan}
use Rattle.server_tsm.specs.Waking.{woken}
use Rattle.headline_bacnet.specs.server_answers.declared.asked.Origin.{Origin}
use Rattle.headline_bacnet.specs.server_answers.ServerTold.{ServerTold}
use Rattle.headline_bacnet.specs.server_answers.Executed.{Executed}
use Rattle.headline_bacnet.specs.server_answers.declared.said.ServerSaid.{ServerSaid}

-- the device at this station is what safety sees of this server, which keeps its answers well
pub record IsServed {A : Type 0} (w : ObjectCore A) (d : Station) (st : ServerTsmState A) : Type 0 where
  pub device : w.devices d ≡ safe_device st
  pub well : IsWellKept d.net st
  pub order : st.moment ≤ w.book.moment

-- the station heard this APDU from there: it was said to it, and an answer on that way goes to who said it (6.5.2)
pub record IsHeardFrom {A : Type 0} (w : ObjectCore A) (d : Station) (own : MaxApdu) (from : Origin) (a : Apdu) :
    Type 0 where
  pub message : Message Station
  pub heard : IsHeard w.book d message
  pub sayer : message.from ≡ from.station
  pub says : Says own (apdu_of a) message.body
  pub named : HasNamedNumbers a
  pub way : led_to d.net from.way ≡ from.station

-- a step on an APDU that is heard is honest (5.4.5)
abbrev pub StepRefines : Type 0 → Type 0
StepRefines A = (s : ObjectSite A) (w : ObjectCore A) (d : Station) (st left : ServerTsmState A)
    (from : Origin) (a : Apdu) (server_told : ServerTold A) → IsServed w d st → IsHeardFrom w d st.max_apdu from a →
    IsStep w.book.moment from (heard_of a) st server_told left →
    Refined s w (served d server_told left w)

-- a request that comes whole by what a server hears was said whole, in one message or by its last piece (5.4.5.1,
-- 5.4.5.2)
abbrev pub WholeWasAsked : Type 0 → Type 0
WholeWasAsked A = (w : ObjectCore A) (d : Station) (st : ServerTsmState A) (from : Origin) (a : Apdu) (x : Whole A) →
    IsServed w d st → IsHeardFrom w d st.max_apdu from a →
    reached w.book.moment from (heard_of a) st ≡ completes x →
    IsAsked w.book d (safe_device st) x.asked.asker.station x.asked.asker.invoke_id
    (head_of st.max_apdu x.asked.limits x.asked.service) x.octets

-- a server may execute this, for the asker and as it remembers it (5.4.5)
pub record MayBeExecuted {A : Type 0} (w : ObjectCore A) (d : Station) (st : ServerTsmState A) (e : Executed A) :
    Type 0 where
  pub remembered : Record Station
  pub may : MayExecute (bacnet A) w.book d (safe_device st) e.request remembered
  pub client : remembered.client ≡ e.asker.station
  pub key : remembered.invoke_id ≡ e.asker.invoke_id

-- what it executes on an APDU that is heard may be executed
abbrev pub ToldMayBeExecuted : Type 0 → Type 0
ToldMayBeExecuted A = (w : ObjectCore A) (d : Station) (st : ServerTsmState A) (from : Origin) (a : Apdu)
    (plan : ServerPlan A) (e : Executed A) → IsServed w d st → IsHeardFrom w d st.max_apdu from a →
    IsPlan w.book.moment from (heard_of a) st plan → plan.executed ≡ Some e → MayBeExecuted w d st e

-- a wake of a server is honest (5.4.5)
abbrev pub WakeRefines : Type 0 → Type 0
WakeRefines A = (s : ObjectSite A) (w : ObjectCore A) (d : Station) (st : ServerTsmState A) →
    IsServed w d st → let plan = woken w.book.moment st.records in
    Refined s w (served d (told_of_plan plan) (committed w.book.moment plan.change st) w)

-- a restart with the opening objects of the station is honest (5.4.1)
abbrev pub RestartRefines : Type 0 → Type 0
RestartRefines A = (s : ObjectSite A) (w : ObjectCore A) (d : Station) (n : ℕ)
    (st : ServerTsmState A) → s.instance_of d ≡ Some n →
    Refined s w (begun_anew d n (restarted w.book.moment (s.opening d) st) w)

-- an I-Am of the instance of the station is honest (16.10.3)
abbrev pub AnnounceRefines : Type 0 → Type 0
AnnounceRefines A = (s : ObjectSite A) (w : ObjectCore A) (d : Station) (n : ℕ) →
    s.instance_of d ≡ Some n → Refined s w (says d Broadcast (I_am n ∷ []) w)

-- a server keeps its answers well after each of its steps on an APDU that is heard (5.4.5)
abbrev pub StepKeeps : Type 0 → Type 0
StepKeeps A = (w : ObjectCore A) (d : Station) (st left : ServerTsmState A) (from : Origin) (a : Apdu)
    (server_told : ServerTold A) → IsServed w d st → IsHeardFrom w d st.max_apdu from a →
    IsStep w.book.moment from (heard_of a) st server_told left → IsServed (served d server_told left w) d left

-- a server keeps its answers well after each wake (5.4.5)
abbrev pub WakeKeeps : Type 0 → Type 0
WakeKeeps A = (w : ObjectCore A) (d : Station) (st : ServerTsmState A) → IsServed w d st →
    let plan = woken w.book.moment st.records in
    let left = committed w.book.moment plan.change st in
    IsServed (served d (told_of_plan plan) left w) d left

-- a server keeps its answers well after a restart (5.4.1)
abbrev pub RestartKeeps : Type 0 → Type 0
RestartKeeps A = (w : ObjectCore A) (d : Station) (n : ℕ) (table : PlainTable A) (st : ServerTsmState A) →
    let left = restarted w.book.moment table st in IsServed (begun_anew d n left w) d left

-- what its link carries stays, whatever changes of a server
abbrev pub SizeStays : Type 0 → Type 0
SizeStays A = (now : ℕ) (change : ServerChange A) (st : ServerTsmState A) →
    (committed now change st).max_apdu ≡ st.max_apdu

-- a new server is a device at the start, and keeps its answers well
abbrev pub NewIsServed : Type 0 → Type 0
NewIsServed A = (net : ℕ) (table : PlainTable A) (own : MaxApdu) →
    (safe_device (new_server table own) ≡ new_device table) × IsWellKept net (new_server table own)

-- what is read of what a server says is what it says, to any station (20.1)
abbrev pub SaidIsHeard : Type 0 → Type 0
SaidIsHeard A = (own : MaxApdu) (x : ServerSaid A) (a : PlainApdu) → Spells (said_octets x) a → Says own a (said_body x)
