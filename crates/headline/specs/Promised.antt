-- What is promised of each moment.
use Rattle.std.specs.Prelude.{◌≡◌, ℕ, List, ◌++◌, Some}
use Rattle.history.specs.declared.Entry.TheVariants.{Issue, Executed}
use Rattle.history.specs.Lists.{Has}
use Rattle.history.specs.Book.{Head, Answer, Message, Book, last_issue}
use Rattle.history.specs.Legal.{IsWhatExecutionsLeave}
use Rattle.headline.specs.Protocol.{Protocol, Site, IsSite}
use Rattle.headline.specs.Stations.{Transaction, Record, Device}
use Rattle.headline.specs.Happenings.{Core, Outcome, Gives, Fails, Happening, Closes, Executes, happens, run, after_all}
use Rattle.headline.specs.Honest.{IsTold, IsAsked, IsHonest, IsHonestRun, AreHonest}

-- over every site and every honest list of happenings, from the start, this holds of what comes of them
abbrev pub Always : {S Q R T : Type 0} (p : Protocol S Q R T) → (Site S T → Core S Q R T → Type 0) → Type 0
Always {S} {Q} {R} {T} p Holds = (s : Site S T) (hs : List (Happening S Q R T)) → IsSite p s → AreHonest p s hs →
    Holds s (after_all p s hs)

-- e. of each device, by its instance
abbrev pub AreWhatExecutionsLeave : {S Q R T : Type 0} → Protocol S Q R T → Site S T → Core S Q R T → Type 0
AreWhatExecutionsLeave {S} p s w = (d : S) (n : ℕ) → s.instance_of d ≡ Some n →
    IsWhatExecutionsLeave p.reply p.after n (s.opening d) (w.devices d).table w.book.history

-- the invoke ID of this client stands for an issue of it, which names the instance of this station, and this request
pub record IsOfIssue {S Q R T : Type 0} (p : Protocol S Q R T) (s : Site S T) (b : Book S Q R) (c : S) (id : ℕ) (d : S)
    (q : Q) : Type 0 where
  pub i : ℕ
  pub instance : ℕ
  pub moment : ℕ
  pub last : last_issue p.same c id b.issues ≡ Some i
  pub is_instance : s.instance_of d ≡ Some instance
  pub issue : Has b.history (Issue i c instance q moment)

-- what a device executes was issued to it by the client that asks
abbrev pub ExecutesWhatIsIssued : {S Q R T : Type 0} → Protocol S Q R T → Site S T → Core S Q R T → Type 0
ExecutesWhatIsIssued {S} {Q} {R} {T} p s w = (d : S) (q : Q) (k : Record S) (st : Device S T) →
    IsHonest p s w (Executes d q k st) → IsOfIssue p s w.book k.client k.invoke_id d q

-- each transaction is of an issue of its client, to the station addressed
abbrev pub TransactionsAreOfIssues : {S Q R T : Type 0} → Protocol S Q R T → Site S T → Core S Q R T → Type 0
TransactionsAreOfIssues {S} {Q} p s w = (c : S) (o : Transaction S Q) → Has (w.clients c).transactions o →
    IsOfIssue p s w.book c o.invoke_id o.device o.request

-- the reply is that of an execution of the issue
abbrev pub IsExecutedReply : {S Q R : Type 0} → Book S Q R → ℕ → Outcome R → Type 0
IsExecutedReply b i (Gives r) = (moment : ℕ) × Has b.history (Executed i r moment)
IsExecutedReply b i (Fails why) = Unit {0}

-- each outcome is of an issue of its client, to the station addressed; a reply is that of an execution of it
abbrev pub OutcomesAreOfIssues : {S Q R T : Type 0} → Protocol S Q R T → Site S T → Core S Q R T → Type 0
OutcomesAreOfIssues {S} {Q} {R} p s w = (c : S) (front : List (Transaction S Q)) (o : Transaction S Q)
    (rest : List (Transaction S Q)) (how : Outcome R) → IsHonest p s w (Closes c front o rest how) →
    (of : IsOfIssue p s w.book c o.invoke_id o.device o.request) × IsExecutedReply w.book of.i how

-- the octets are the whole request of an issue of that client to this device, and the head is that of it
pub record IsWholeRequest {S Q R T : Type 0} (p : Protocol S Q R T) (s : Site S T) (b : Book S Q R) (d c : S) (id : ℕ)
    (head : Head) (octets : List ℕ) : Type 0 where
  pub request : Q
  pub of : IsOfIssue p s b c id d request
  pub service : head.service ≡ p.service request
  pub whole : octets ≡ p.request_octets request

-- each request that a device heard whole or gathered is the whole body of one issue
abbrev pub RequestsAreWhole : {S Q R T : Type 0} → Protocol S Q R T → Site S T → Core S Q R T → Type 0
RequestsAreWhole {S} p s w = (d c : S) (id : ℕ) (head : Head) (octets : List ℕ) →
    IsAsked w.book d (w.devices d) c id head octets → IsWholeRequest p s w.book d c id head octets

-- the answer is the whole one of an execution of the transaction's issue
pub record IsWholeAnswer {S Q R T : Type 0} (p : Protocol S Q R T) (s : Site S T) (b : Book S Q R) (c : S)
    (o : Transaction S Q) (a : Answer) : Type 0 where
  pub of : IsOfIssue p s b c o.invoke_id o.device o.request
  pub reply : R
  pub moment : ℕ
  pub executed : Has b.history (Executed of.i reply moment)
  pub whole : a ≡ p.answer o.request reply

-- each answer that a client heard whole or gathered is the whole one of one execution
abbrev pub AnswersAreWhole : {S Q R T : Type 0} → Protocol S Q R T → Site S T → Core S Q R T → Type 0
AnswersAreWhole {S} {Q} p s w = (c : S) (o : Transaction S Q) (a : Answer) → Has (w.clients c).transactions o →
    IsTold w.book c o a → IsWholeAnswer p s w.book c o a

-- what was said stays said, at its place
abbrev pub StaysSaid : {S Q R : Type 0} → Book S Q R → Book S Q R → Type 0
StaysSaid {S} b later = (more : List (Message S)) × (later.said ≡ b.said ++ more)

-- what was said stays said, whatever happens
abbrev pub SaidStaysSaid : {S Q R T : Type 0} → Protocol S Q R T → Type 0
SaidStaysSaid {S} {Q} {R} {T} p = (s : Site S T) (w : Core S Q R T) (h : Happening S Q R T) →
    StaysSaid w.book (happens p s w h).book

-- lists of happenings one after another are one list ..
abbrev pub RunsCompose : {S Q R T : Type 0} → Protocol S Q R T → Type 0
RunsCompose {S} {Q} {R} {T} p = (s : Site S T) (hs more : List (Happening S Q R T)) (w : Core S Q R T) →
    run p s (hs ++ more) w ≡ run p s more (run p s hs w)

-- two honest runs, one behind the other, are an honest run
abbrev pub HonestRunsCompose : {S Q R T : Type 0} → Protocol S Q R T → Type 0
HonestRunsCompose {S} {Q} {R} {T} p = (s : Site S T) (hs more : List (Happening S Q R T)) (w : Core S Q R T) →
    IsHonestRun p s hs w → IsHonestRun p s more (run p s hs w) → IsHonestRun p s (hs ++ more) w
