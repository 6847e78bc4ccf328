-- Each step of a client is a list of honest happenings.
use Rattle.std.specs.Prelude.{◌≡◌, ◌<◌, ℕ, Bool, List, [], ◌∷◌, ◌++◌, None}
use Rattle.std.specs.List.{AllByRecursion}
use Rattle.apdu.specs.Apdu.{PlainApdu, Spells}
use Rattle.apdu.specs.ApduWriting.{CanBeWritten, canonical}
use Rattle.apdu.specs.Sizes.{apdu_code}
use Rattle.apdu.specs.declared.sizes.MaxApdu.{MaxApdu}
use Rattle.client.specs.Client.{ClientState, new_client}
use Rattle.client.specs.Hearing.{ClientHears}
use Rattle.client.specs.Issuing.{Issues, refusal}
use Rattle.client.specs.Saying.{parcels_of}
use Rattle.client.specs.declared.plan.ClientIssued.{ClientIssued}
use Rattle.client.specs.ClientTold.{ClientTold}
use Rattle.client.specs.client_tsm.Client.{committed}
use Rattle.client.specs.client_tsm.Issuing.{issued}
use Rattle.client.specs.client_tsm.Open.{Open}
use Rattle.client.specs.client_tsm.Said.{said_apdu}
use Rattle.client.specs.client_tsm.Waking.{woken}
use Rattle.client.specs.client_tsm.declared.plan.TransactionOutcome.{TransactionOutcome}
use Rattle.bindings.specs.declared.bound.Bound.{Bound}
use Rattle.client.specs.client_tsm.declared.said.ClientSaid.{ClientSaid}
use Rattle.headline.specs.Honest.{MayClose}
use Rattle.headline.specs.Stations as safe
use Rattle.history.specs.Book.{Book, Broadcast, Other}
use Rattle.history.specs.Lists.{Has}
use Rattle.npdu.specs.declared.mac.Mac.{Mac}
use Rattle.npdu.specs.declared.mac.Station.{Station}
use Rattle.npdu.specs.declared.mac.Target.{Target}
use Rattle.npdu.specs.declared.parcel.Parcel.{Parcel}
use Rattle.headline_bacnet.specs.Bodies.{Says, body_of}
use Rattle.headline_bacnet.specs.Network.{BringsWhatWasSaid}
use Rattle.headline_bacnet.specs.Protocol.{bacnet}
use Rattle.headline_bacnet.specs.Refined.{ObjectSite, Refined, ObjectCore}
use Rattle.primitives.specs.Sound.{IsSoundRequest}
use Rattle.primitives.specs.declared.plain_data.Reply.{Reply}
use Rattle.primitives.specs.declared.plain_data.Request.{Request}
use Rattle.headline_client.specs.Kept.{IsWellKept}
use Rattle.headline_client.specs.Safe.{safe_client, safe_transaction, station_of}
use Rattle.headline_client.specs.Heard.{said_in}
use Rattle.headline_client.specs.Told.{acts, issues, outcome_of, row_of}

-- the client at its station is what safety sees of this one, which is well kept
pub record IsClient {A : Type 0} (own : Station → MaxApdu) (w : ObjectCore A) (c : ClientState A) : Type 0 where
  pub seen : w.clients (station_of c) ≡ safe_client own c
  pub kept : IsWellKept c

-- what a client says has octets (20.1)
abbrev pub CanWrite : {A : Type 0} → ClientSaid A → Type 0
CanWrite s = CanBeWritten (said_apdu s)

-- what is told is an outcome of a transaction of the client, which may close so
pub record ClosesHonestly {A : Type 0} (own : Station → MaxApdu) (b : Book Station (Request A) (Reply A)) (c : Station)
    (os : List (Open A)) (t : TransactionOutcome A) : Type 0 where
  pub transaction : Open A
  pub there : Has os transaction
  pub id : t.invoke_id ≡ transaction.invoke_id
  pub may : MayClose (bacnet A) b c (safe_transaction own transaction) (outcome_of t.outcome)

-- a step in which a client says this, in these parcels, tells of these transactions and then is this is a list of
-- happenings
pub record ActsHonestly {A : Type 0} (own : Station → MaxApdu) (s : ObjectSite A) (w : ObjectCore A) (c : ClientState A)
    (says : List (ClientSaid A)) (parcels : List (Parcel A)) (tells : List (TransactionOutcome A))
    (next : ClientState A) : Type 0 where
  pub parcels_are : parcels ≡ parcels_of w.book.moment c.mac says
  pub written : AllByRecursion CanWrite says
  pub refined : Refined s w (acts own (station_of c) says tells (safe_client own next) w)
  pub closed : AllByRecursion (ClosesHonestly own w.book (station_of c) c.machine.open_ones) tells
  pub stays : station_of next ≡ station_of c
  pub kept : IsWellKept next

-- what a client does on an NPDU that it hears
abbrev pub HearingIsHonest : Type 0 → Type 0
HearingIsHonest A = (own : Station → MaxApdu) (s : ObjectSite A) (w : ObjectCore A) (from : Mac) (to : Target)
    (npdu : List ℕ) (c : ClientState A) (told : ClientTold A) (next : ClientState A) → IsClient own w c →
    BringsWhatWasSaid (own (station_of c)) w.book (station_of c) from to npdu →
    (hears : ClientHears w.book.moment from to npdu c told next) →
    ActsHonestly own s w c (said_in w.book.moment from to npdu c told next hears) told.said told.outcomes next

-- the client after its wake at a moment
abbrev pub awake : {A : Type 0} → ℕ → ClientState A → ClientState A
awake now c = record c { machine = committed now (woken now c.machine.open_ones).change c.machine }

-- what a client does when it wakes
abbrev pub WakingIsHonest : Type 0 → Type 0
WakingIsHonest A = (own : Station → MaxApdu) (s : ObjectSite A) (w : ObjectCore A) (c : ClientState A) →
    IsClient own w c →
    let plan = woken w.book.moment c.machine.open_ones in
    ActsHonestly own s w c plan.said (parcels_of w.book.moment c.mac plan.said) plan.told (awake w.book.moment c)

-- a client issues a request to where a device is bound: it says this, in these parcels, and then is this
pub record IssuesHonestly {A : Type 0} (own : Station → MaxApdu) (s : ObjectSite A) (w : ObjectCore A) (instance : ℕ)
    (request : Request A) (to : Bound) (c : ClientState A) (says : List (ClientSaid A)) (parcels : List (Parcel A))
    (next : ClientState A) : Type 0 where
  pub parcels_are : parcels ≡ parcels_of w.book.moment c.mac says
  pub written : AllByRecursion CanWrite says
  pub refined : Refined s w
      (issues own (station_of c) (row_of own (station_of c) w.book.moment instance request to c.machine) says
      (safe_client own next) w)
  pub stays : station_of next ≡ station_of c
  pub kept : IsWellKept next

-- what a client does at an issue that isn't refused
abbrev pub IssueIsHonest : Type 0 → Type 0
IssueIsHonest A = (own : Station → MaxApdu) (s : ObjectSite A) (w : ObjectCore A) (instance : ℕ) (request : Request A)
    (c : ClientState A) (told : ClientIssued A) (next : ClientState A) → IsClient own w c → IsSoundRequest request →
    refusal w.book.moment instance request c ≡ None → (issues : Issues w.book.moment instance request c told next) →
    IssuesHonestly own s w instance request issues.binding.bound c
    (issued w.book.moment request issues.binding.bound c.machine).said told.said next

-- a Who-Is, which says nothing of requests and replies, may be said by any station
abbrev pub WhoIsIsHonest : Type 0 → Type 0
WhoIsIsHonest A = (s : ObjectSite A) (w : ObjectCore A) (c : Station) →
    Refined s w (record w {
      book = record w.book {
        said = w.book.said ++ record { from = c; to = Broadcast; body = Other; stamp = w.book.moment } ∷ [];
      };
    })

-- a client at its start, whose size of APDUs has a code of four bits, is one that safety sees so, and well kept
abbrev pub StartsWell : Type 0 → Type 0
StartsWell A = (own : Station → MaxApdu) (address : Station) (segmented : Bool) (max_apdu : MaxApdu) →
    apdu_code max_apdu < 16 →
    (safe_client own (new_client {A = A} address segmented max_apdu) ≡ safe.new_client)
    × IsWellKept (new_client {A = A} address segmented max_apdu)

-- what is read of what a client says is what it says, to any station: of a request, as a device sees it whose own
-- greatest APDU is this (20.1)
abbrev pub SaidIsHeard : Type 0 → Type 0
SaidIsHeard A = (own : MaxApdu) (x : ClientSaid A) (a : PlainApdu) → CanWrite x → Spells (canonical (said_apdu x)) a →
    Says own a (body_of own (said_apdu x))
