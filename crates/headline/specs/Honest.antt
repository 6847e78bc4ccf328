-- Which happenings are honest: what is asked of the network, of clients and of devices.
use Rattle.std.specs.Prelude.{◌≡◌, ◌⊎◌, ℕ, suc, ◌+◌, ◌≤◌, ◌<◌, Bool, false, List, [], ◌∷◌, ◌++◌, Option, Some, None}
use Rattle.std.specs.Prelude.{slice_index}
use Rattle.profile.specs.Times.{GATHERING_TIMEOUT_MS, DEADLINE_MS, KEEP_MS, LIFE_MS}
use Rattle.history.specs.Lists.{Has}
use Rattle.history.specs.Book.{Head, Answer, Complex, Asks, Asks_piece, Tells, Tells_piece, I_am, Destination, Unicast}
use Rattle.history.specs.Book.{Broadcast, Message, Book}
use Rattle.headline.specs.Protocol.{Protocol, Site}
use Rattle.headline.specs.Stations.{Transaction, Binding, Client, Record, Gathering, Device}
use Rattle.headline.specs.Happenings.{Core, Outcome, Gives, Fails, Happening, Ticks, Issues, Client_asks}
use Rattle.headline.specs.Happenings.{Client_becomes, Closes, Device_tells, Device_becomes, Executes, Announces}
use Rattle.headline.specs.Happenings.{Restarts, Says_no, Says_other, happens, start}

-- a destination covers the station that it names; a broadcast may reach any
abbrev pub Covers : {S : Type 0} → Destination S → S → Type 0
Covers (Unicast station) hearer = station ≡ hearer
Covers Broadcast hearer = Unit {0}

-- all that is asked of a network: what a station hears was said, to a destination that covers it, at most LIFE_MS ago
pub record IsHeard {S Q R : Type 0} (b : Book S Q R) (hearer : S) (m : Message S) : Type 0 where
  pub was_said : Has b.said m
  pub covers : Covers m.to hearer
  pub young : b.moment ≤ m.stamp + LIFE_MS

-- a client issues a sound request, to a station that it knows by that instance, under a free invoke ID (5.4.4):
-- no transaction has it, and REUSE_MS has passed since its last issue
pub record MayIssue {S Q R T : Type 0} (p : Protocol S Q R T) (now : ℕ) (st : Client S Q) (d : S) (n : ℕ)
    (q : Q) : Type 0 where
  pub sound : p.IsSound q
  pub bound : Has st.bindings (record { instance = n; station = d })
  pub unused : (o : Transaction S Q) → Has st.transactions o → o.invoke_id ≡ st.next → ⊥
  pub free : slice_index st.free_from st.next ≤ now

-- a client asks for a transaction that it has, before its deadline (5.4.4)
pub record MayAsk {S Q : Type 0} (now : ℕ) (st : Client S Q) (o : Transaction S Q) : Type 0 where
  pub there : Has st.transactions o
  pub early : now < o.moment + DEADLINE_MS

-- the next piece of the answer to a transaction was heard
pub record IsTaken {S Q R : Type 0} (b : Book S Q R) (c : S) (o next : Transaction S Q) : Type 0 where
  pub message : Message S
  pub more : Bool
  pub octets : List ℕ
  pub heard : IsHeard b c message
  pub body : message.body ≡ Tells_piece o.invoke_id o.pieces more octets
  pub joined : next ≡ record o { pieces = suc o.pieces; got = o.got ++ octets }

-- a transaction stays, or drops the pieces of its answer, or takes the next one
abbrev pub GoesOn : {S Q R : Type 0} → Book S Q R → S → Transaction S Q → Transaction S Q → Type 0
GoesOn b c o next = (next ≡ o) ⊎ ((next ≡ record o { pieces = 0; got = [] }) ⊎ IsTaken b c o next)

-- each transaction goes on, in its place
abbrev pub AllGoOn : {S Q R : Type 0} → Book S Q R → S → List (Transaction S Q) → List (Transaction S Q) → Type 0
AllGoOn b c [] [] = Unit {0}
AllGoOn b c [] (y ∷ ys) = ⊥
AllGoOn b c (x ∷ xs) [] = ⊥
AllGoOn b c (x ∷ xs) (y ∷ ys) = GoesOn b c x y × AllGoOn b c xs ys

-- the station of the binding was heard to say that this is its instance (16.10, I-Am)
pub record IsAnnounced {S Q R : Type 0} (b : Book S Q R) (c : S) (x : Binding S) : Type 0 where
  pub message : Message S
  pub heard : IsHeard b c message
  pub from : message.from ≡ x.station
  pub body : message.body ≡ I_am x.instance

-- how a client goes on with nothing issued and nothing closed
pub record ClientGoesOn {S Q R : Type 0} (b : Book S Q R) (c : S) (st next : Client S Q) : Type 0 where
  pub next_is : next.next ≡ st.next
  pub free : next.free_from ≡ st.free_from
  pub transactions : AllGoOn b c st.transactions next.transactions
  pub bindings : (x : Binding S) → Has next.bindings x → Has st.bindings x ⊎ IsAnnounced b c x

-- the answer to a transaction was heard in one message
pub record IsToldWhole {S Q R : Type 0} (b : Book S Q R) (c : S) (o : Transaction S Q) (a : Answer) : Type 0 where
  pub message : Message S
  pub heard : IsHeard b c message
  pub body : message.body ≡ Tells o.invoke_id a

-- an answer comes by its last piece, behind all others
pub record IsToldLast {S Q R : Type 0} (b : Book S Q R) (c : S) (o : Transaction S Q) (a : Answer) : Type 0 where
  pub message : Message S
  pub octets : List ℕ
  pub heard : IsHeard b c message
  pub body : message.body ≡ Tells_piece o.invoke_id o.pieces false octets
  pub whole : a ≡ Complex (o.got ++ octets)

-- an answer came whole, in one message or by its last piece
abbrev pub IsTold : {S Q R : Type 0} → Book S Q R → S → Transaction S Q → Answer → Type 0
IsTold b c o a = IsToldWhole b c o a ⊎ IsToldLast b c o a

-- a transaction gives a reply that its whole answer means; it may fail at any moment
abbrev pub MayClose : {S Q R T : Type 0} → Protocol S Q R T → Book S Q R → S → Transaction S Q → Outcome R → Type 0
MayClose p b c o (Gives r) = (a : Answer) × IsTold b c o a × p.MeansReply o.request a (Some r)
MayClose p b c o (Fails why) = Unit {0}

-- the transaction stands at its place, and may close so
pub record IsClosed {S Q R T : Type 0} (p : Protocol S Q R T) (b : Book S Q R) (c : S) (st : Client S Q)
    (front : List (Transaction S Q)) (o : Transaction S Q) (rest : List (Transaction S Q))
    (how : Outcome R) : Type 0 where
  pub place : st.transactions ≡ front ++ o ∷ rest
  pub may : MayClose p b c o how

-- a device tells a remembered answer that it has, while it lives
pub record MayTell {S T : Type 0} (now : ℕ) (st : Device S T) (k : Record S) : Type 0 where
  pub there : Has st.records k
  pub living : now ≤ k.moment + KEEP_MS

-- the gathering is of this client and invoke ID, and lives (5.4.5)
pub record IsLiving {S T : Type 0} (now : ℕ) (st : Device S T) (c : S) (id : ℕ) (a : Gathering S) : Type 0 where
  pub there : Has st.gatherings a
  pub client : a.client ≡ c
  pub key : a.invoke_id ≡ id
  pub young : now < a.last + GATHERING_TIMEOUT_MS

-- what came of a request before: such an gathering, or nothing
abbrev pub IsBefore : {S T : Type 0} → ℕ → Device S T → S → ℕ → Option (Gathering S) → Type 0
IsBefore now st c id None = Unit {0}
IsBefore now st c id (Some a) = IsLiving now st c id a

-- how many pieces that were
abbrev pub pieces_of : {S : Type 0} → Option (Gathering S) → ℕ
pieces_of None = 0
pieces_of (Some a) = a.pieces

-- the octets of the pieces that came before
abbrev pub got_of : {S : Type 0} → Option (Gathering S) → List ℕ
got_of None = []
got_of (Some a) = a.got

-- the head of the first piece, which is this one where none came before
abbrev pub head_of : {S : Type 0} → Head → Option (Gathering S) → Head
head_of head None = head
head_of head (Some a) = a.head

-- a piece of a request was heard, and this came before it
pub record HeardPiece {S Q R T : Type 0} (b : Book S Q R) (d : S) (st : Device S T) : Type 0 where
  pub message : Message S
  pub id : ℕ
  pub head : Head
  pub n : ℕ
  pub more : Bool
  pub octets : List ℕ
  pub before : Option (Gathering S)
  pub heard : IsHeard b d message
  pub body : message.body ≡ Asks_piece id head n more octets
  pub is_before : IsBefore b.moment st message.from id before

-- the gathering that comes of the next piece
abbrev pub joined : {S Q R T : Type 0} (b : Book S Q R) (d : S) (st : Device S T) → HeardPiece b d st → Gathering S
joined b d st h =
    record {
      client = h.message.from;
      invoke_id = h.id;
      head = head_of h.head h.before;
      pieces = suc h.n;
      got = got_of h.before ++ h.octets;
      last = b.moment;
    }

-- the gathering before, renewed by a piece that doesn't join it
abbrev pub IsRenewed : {S : Type 0} → ℕ → Option (Gathering S) → Gathering S → Type 0
IsRenewed now None a = ⊥
IsRenewed now (Some before) a = a ≡ record before { last = now }

-- an gathering that a piece began, joined or renewed; a piece joins in order alone
pub record IsGathered {S Q R T : Type 0} (b : Book S Q R) (d : S) (st : Device S T) (a : Gathering S) : Type 0 where
  pub piece : HeardPiece b d st
  pub how : ((piece.n ≡ pieces_of piece.before) × (a ≡ joined b d st piece)) ⊎ IsRenewed b.moment piece.before a

-- how a device goes on with nothing executed: it forgets no living record, and any gatherings
pub record DeviceGoesOn {S Q R T : Type 0} (b : Book S Q R) (d : S) (st next : Device S T) : Type 0 where
  pub table : next.table ≡ st.table
  pub deaf : next.deaf_until ≡ st.deaf_until
  pub records : (k : Record S) → Has next.records k → Has st.records k
  pub living : (k : Record S) → Has st.records k → b.moment ≤ k.moment + KEEP_MS → Has next.records k
  pub gatherings : (a : Gathering S) → Has next.gatherings a → Has st.gatherings a ⊎ IsGathered b d st a

-- a request was heard in one message
pub record IsAskedWhole {S Q R : Type 0} (b : Book S Q R) (d c : S) (id : ℕ) (head : Head)
    (octets : List ℕ) : Type 0 where
  pub message : Message S
  pub heard : IsHeard b d message
  pub from : message.from ≡ c
  pub body : message.body ≡ Asks id head octets

-- a request comes by its last piece, behind all others
pub record IsAskedLast {S Q R T : Type 0} (b : Book S Q R) (d : S) (st : Device S T) (c : S) (id : ℕ) (head : Head)
    (octets : List ℕ) : Type 0 where
  pub piece : HeardPiece b d st
  pub from : piece.message.from ≡ c
  pub key : piece.id ≡ id
  pub next : piece.n ≡ pieces_of piece.before
  pub last : piece.more ≡ false
  pub head_is : head ≡ head_of piece.head piece.before
  pub whole : octets ≡ got_of piece.before ++ piece.octets

-- a request came whole, in one message or by its last piece
abbrev pub IsAsked : {S Q R T : Type 0} → Book S Q R → S → Device S T → S → ℕ → Head → List ℕ → Type 0
IsAsked b d st c id head octets = IsAskedWhole b d c id head octets ⊎ IsAskedLast b d st c id head octets

-- a device may execute a request that came whole and means q, where it listens and no record of it lives (5.4.5)
pub record MayExecute {S Q R T : Type 0} (p : Protocol S Q R T) (b : Book S Q R) (d : S) (st : Device S T) (q : Q)
    (k : Record S) : Type 0 where
  pub head : Head
  pub octets : List ℕ
  pub asked : IsAsked b d st k.client k.invoke_id head octets
  pub means : p.MeansRequest head.service octets (Some q)
  pub listens : st.deaf_until ≤ b.moment
  pub anew : (x : Record S) → Has st.records x → x.client ≡ k.client → x.invoke_id ≡ k.invoke_id →
      b.moment ≤ x.moment + KEEP_MS → ⊥
  pub room : k.room ≡ head.room

-- it remembers this execution, with the answer or with none, and all that lives; the table is what the request leaves
pub record IsExecuted {S Q R T : Type 0} (p : Protocol S Q R T) (now : ℕ) (st : Device S T) (q : Q) (k : Record S)
    (next : Device S T) : Type 0 where
  pub moment : k.moment ≡ now
  pub answer : (a : Answer) → k.answer ≡ Some a → a ≡ p.answer q (p.reply st.table q)
  pub table : next.table ≡ p.after st.table q
  pub deaf : next.deaf_until ≡ st.deaf_until
  pub fresh : Has next.records k
  pub records : (x : Record S) → Has next.records x → Has st.records x ⊎ (k ≡ x)
  pub living : (x : Record S) → Has st.records x → now ≤ x.moment + KEEP_MS → Has next.records x
  pub gatherings : (a : Gathering S) → Has next.gatherings a → Has st.gatherings a

-- what is asked of each happening
abbrev pub IsHonest : {S Q R T : Type 0} → Protocol S Q R T → Site S T → Core S Q R T → Happening S Q R T → Type 0
IsHonest p s w (Ticks n) = Unit {0}
IsHonest p s w (Issues c d n q chunk room) = MayIssue p w.book.moment (w.clients c) d n q
IsHonest p s w (Client_asks c o part) = MayAsk w.book.moment (w.clients c) o
IsHonest p s w (Client_becomes c st) = ClientGoesOn w.book c (w.clients c) st
IsHonest p s w (Closes c front o rest how) = IsClosed p w.book c (w.clients c) front o rest how
IsHonest p s w (Device_tells d k part) = MayTell w.book.moment (w.devices d) k
IsHonest p s w (Device_becomes d st) = DeviceGoesOn w.book d (w.devices d) st
IsHonest p s w (Executes d q k st) =
    MayExecute p w.book d (w.devices d) q k × IsExecuted p w.book.moment (w.devices d) q k st
IsHonest p s w (Announces d n) = s.instance_of d ≡ Some n
IsHonest p s w (Restarts d n) = s.instance_of d ≡ Some n
IsHonest p s w (Says_no d to id why) = Unit {0}
IsHonest p s w (Says_other d to) = Unit {0}

-- each of a list is, at its moment
abbrev pub IsHonestRun : {S Q R T : Type 0} → Protocol S Q R T → Site S T → List (Happening S Q R T) → Core S Q R T →
    Type 0
IsHonestRun p s [] w = Unit {0}
IsHonestRun p s (h ∷ hs) w = IsHonest p s w h × IsHonestRun p s hs (happens p s w h)

-- a run from the start is honest
abbrev pub AreHonest : {S Q R T : Type 0} → Protocol S Q R T → Site S T → List (Happening S Q R T) → Type 0
AreHonest p s hs = IsHonestRun p s hs (start p s)
