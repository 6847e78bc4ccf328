-- All stations together, and what can happen: the smallest moves of the clock, of clients and of devices.
use Rattle.std.specs.Prelude.{ℕ, ◌+◌, Bool, cond, List, [], ◌∷◌, ◌++◌, length, Option, Some, None}
use Rattle.history.specs.declared.End.{End}
use Rattle.history.specs.declared.Entry.{Entry}
use Rattle.history.specs.declared.Entry.TheVariants.{Issue, Executed, Answered, Ended, Restarted}
use Rattle.history.specs.Pieces.{piece, has_more}
use Rattle.history.specs.Book.{Issued, Head, Answer, Simple, Complex, Failed, Body, Asks, Asks_piece, Tells}
use Rattle.history.specs.Book.{Tells_piece, Refuses, I_am, Other, Destination, Unicast, Broadcast, Message, Book}
use Rattle.history.specs.Book.{last_issue}
use Rattle.headline.specs.Protocol.{Protocol, Site}
use Rattle.headline.specs.Stations.{Transaction, Client, Record, Device, new_client, new_device, issued, restarted}

-- the book, and what each station knows: as a client, and as a device
pub record Core (S Q R T : Type 0) : Type 0 where
  pub book : Book S Q R
  pub clients : S → Client S Q
  pub devices : S → Device S T

-- the same of all stations, but for this one
abbrev pub put : {S A : Type 0} → (S → S → Bool) → (S → A) → S → A → S → A
put same f s v x = cond (same x s) v (f x)

-- more was said
abbrev pub with_said : {S Q R : Type 0} → List (Message S) → Book S Q R → Book S Q R
with_said ms b = record b { said = b.said ++ ms }

-- one more entry
abbrev pub with_entry : {S Q R : Type 0} → Entry S Q R → Book S Q R → Book S Q R
with_entry e b = record b { history = b.history ++ e ∷ [] }

-- the entry of an issue
abbrev pub issue_of : {S Q R : Type 0} → ℕ → Issued S Q → Entry S Q R
issue_of i x = Issue i x.client x.instance x.request x.moment

-- the book behind which this is issued
abbrev pub with_issue : {S Q R : Type 0} → Issued S Q → Book S Q R → Book S Q R
with_issue x b =
    record b { issues = b.issues ++ x ∷ []; history = b.history ++ issue_of (length b.issues) x ∷ [] }

-- what a station tells of an invoke ID is an entry of the client's last issue under it; where there is none, no entry
abbrev pub told : {S Q R : Type 0} → (ℕ → Entry S Q R) → Option ℕ → List (Entry S Q R) → List (Entry S Q R)
told entry None h = h
told entry (Some i) h = h ++ entry i ∷ []

-- the book behind which this is told of an issue, if of any
abbrev pub tell : {S Q R : Type 0} → (ℕ → Entry S Q R) → Option ℕ → Book S Q R → Book S Q R
tell entry i b = record b { history = told entry i b.history }

-- a body whole, or a piece of it
pub data Part : Type 0 where
  Whole : Part
  Piece : (n : ℕ) → Part

-- how a transaction closes: with a reply, or for another cause
pub data Outcome (R : Type 0) : Type 0 where
  Gives : (reply : R) → Outcome R
  Fails : (why : End) → Outcome R

-- the entry of it
abbrev pub closing : {S Q R : Type 0} → Outcome R → ℕ → ℕ → Entry S Q R
closing (Gives r) now i = Answered i r now
closing (Fails why) now i = Ended i why now

-- the head of a transaction's request
abbrev pub head : {S Q R T : Type 0} → Protocol S Q R T → Transaction S Q → Head
head p o = record { service = p.service o.request; room = o.room }

-- by what a client asks: the request of the transaction, or a piece of it
abbrev pub asking : {S Q R T : Type 0} → Protocol S Q R T → Part → Transaction S Q → Body
asking p Whole o = Asks o.invoke_id (head p o) (p.request_octets o.request)
asking p (Piece n) o = Asks_piece o.invoke_id (head p o) n
    (has_more o.chunk n (p.request_octets o.request)) (piece o.chunk n (p.request_octets o.request))

-- by what a device tells: the answer that it remembers, or a piece of a ComplexACK; there is no other part of one
abbrev pub telling : {S : Type 0} → Part → Option Answer → Record S → List Body
telling part None k = []
telling Whole (Some a) k = Tells k.invoke_id a ∷ []
telling (Piece n) (Some Simple) k = []
telling (Piece n) (Some (Failed octets)) k = []
telling (Piece n) (Some (Complex octets)) k =
    Tells_piece k.invoke_id n (has_more k.room n octets) (piece k.room n octets) ∷ []

-- the messages with these bodies
abbrev pub messages : {S : Type 0} → S → Destination S → ℕ → List Body → List (Message S)
messages from to now [] = []
messages from to now (y ∷ ys) = record { from = from; to = to; body = y; stamp = now } ∷ messages from to now ys

-- a station says this now
abbrev pub says : {S Q R T : Type 0} → S → Destination S → List Body → Core S Q R T → Core S Q R T
says from to ys w = record w { book = with_said (messages from to w.book.moment ys) w.book }

-- the row of a request that a client issues now under its next invoke ID
abbrev pub issue_by : {S Q : Type 0} → ℕ → S → Client S Q → S → ℕ → Q → ℕ → ℕ → Issued S Q
issue_by now c st d n q chunk room =
    record {
      client = c;
      invoke_id = st.next;
      device = d;
      instance = n;
      request = q;
      chunk = chunk;
      room = room;
      moment = now;
    }

-- a client issues a request, to the station that it takes the instance to be
abbrev pub issues : {S Q R T : Type 0} → Protocol S Q R T → S → S → ℕ → Q → ℕ → ℕ → Core S Q R T → Core S Q R T
issues p c d n q chunk room w =
    record w {
      book = with_issue (issue_by w.book.moment c (w.clients c) d n q chunk room) w.book;
      clients = put p.same w.clients c (issued w.book.moment d q chunk room (w.clients c));
    }

-- a client closes a transaction, and tells how
abbrev pub closes : {S Q R T : Type 0} → Protocol S Q R T → S → ℕ → List (Transaction S Q) → Outcome R →
    Core S Q R T → Core S Q R T
closes p c id left how w =
    record w {
      book = tell (closing how w.book.moment) (last_issue p.same c id w.book.issues) w.book;
      clients = put p.same w.clients c (record (w.clients c) { transactions = left });
    }

-- a device executes a request for the client and invoke ID of a record, and tells its reply
abbrev pub executes : {S Q R T : Type 0} → Protocol S Q R T → S → Q → Record S → Device S T → Core S Q R T →
    Core S Q R T
executes p d q k st w =
    let r = p.reply (w.devices d).table q in
    record w {
      book = tell (λ i. Executed i r w.book.moment) (last_issue p.same k.client k.invoke_id w.book.issues) w.book;
      devices = put p.same w.devices d st;
    }

-- a device restarts
abbrev pub restarts : {S Q R T : Type 0} → Protocol S Q R T → T → S → ℕ → Core S Q R T → Core S Q R T
restarts p opening d n w =
    record w {
      book = with_entry (Restarted n w.book.moment) w.book;
      devices = put p.same w.devices d (restarted w.book.moment opening);
    }

-- what can happen: which of it, when and in what order is free. What a station does in one step is a list of these
pub data Happening (S Q R T : Type 0) : Type 0 where
  Ticks : (n : ℕ) → Happening S Q R T
  Issues : (c d : S) (n : ℕ) (q : Q) (chunk room : ℕ) → Happening S Q R T
  Client_asks : (c : S) (o : Transaction S Q) (part : Part) → Happening S Q R T
  Client_becomes : (c : S) (st : Client S Q) → Happening S Q R T
  Closes : (c : S) (front : List (Transaction S Q)) (o : Transaction S Q) (rest : List (Transaction S Q))
      (how : Outcome R) → Happening S Q R T
  Device_tells : (d : S) (k : Record S) (part : Part) → Happening S Q R T
  Device_becomes : (d : S) (st : Device S T) → Happening S Q R T
  Executes : (d : S) (q : Q) (k : Record S) (st : Device S T) → Happening S Q R T
  Announces : (d : S) (n : ℕ) → Happening S Q R T
  Restarts : (d : S) (n : ℕ) → Happening S Q R T
  Says_no : (s : S) (to : Destination S) (id : ℕ) (why : End) → Happening S Q R T
  Says_other : (s : S) (to : Destination S) → Happening S Q R T

-- what comes of it. Where the state of a station changes freely, the happening names the new one
abbrev pub happens : {S Q R T : Type 0} → Protocol S Q R T → Site S T → Core S Q R T → Happening S Q R T →
    Core S Q R T
happens p s w (Ticks n) = record w { book = record w.book { moment = w.book.moment + n } }
happens p s w (Issues c d n q chunk room) = issues p c d n q chunk room w
happens p s w (Client_asks c o part) = says c (Unicast o.device) (asking p part o ∷ []) w
happens p s w (Client_becomes c st) = record w { clients = put p.same w.clients c st }
happens p s w (Closes c front o rest how) = closes p c o.invoke_id (front ++ rest) how w
happens p s w (Device_tells d k part) = says d (Unicast k.client) (telling part k.answer k) w
happens p s w (Device_becomes d st) = record w { devices = put p.same w.devices d st }
happens p s w (Executes d q k st) = executes p d q k st w
happens p s w (Announces d n) = says d Broadcast (I_am n ∷ []) w
happens p s w (Restarts d n) = restarts p (s.opening d) d n w
happens p s w (Says_no d to id why) = says d to (Refuses id why ∷ []) w
happens p s w (Says_other d to) = says d to (Other ∷ []) w

-- one after another
abbrev pub run : {S Q R T : Type 0} → Protocol S Q R T → Site S T → List (Happening S Q R T) → Core S Q R T →
    Core S Q R T
run p s [] w = w
run p s (h ∷ hs) w = run p s hs (happens p s w h)

-- nothing has happened, and each device has its opening table
abbrev pub start : {S Q R T : Type 0} → Protocol S Q R T → Site S T → Core S Q R T
start p s =
    record {
      book = record { moment = 0; issues = []; said = []; history = [] };
      clients = λ c. new_client;
      devices = λ d. new_device (s.opening d);
    }

-- all stations after these happenings, from the start
abbrev pub after_all : {S Q R T : Type 0} → Protocol S Q R T → Site S T → List (Happening S Q R T) → Core S Q R T
after_all p s hs = run p s hs (start p s)
