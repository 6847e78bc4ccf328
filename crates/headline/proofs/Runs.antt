-- Lemmas on saying several things: a window of pieces is a list of happenings.
use Rattle.std.proofs.Common.{◌≡◌, ℕ, List, [], ◌∷◌, ◌++◌, refl, sym, ap, ◌∙◌, subst, arith}
use Rattle.std.specs.Prelude.{map}
use Rattle.std.proofs.lemmas.List.{append-nil, append_assoc}
use Rattle.history.specs.Lists.{Has}
use Rattle.history.specs.Tests.{IsTest}
use Rattle.history.specs.Book.{Body, Destination, Unicast, Message}
use Rattle.history.proofs.Lists.{has_last}
use Rattle.headline.specs.Protocol.{Protocol, Site}
use Rattle.headline.specs.Stations.{Transaction, Client, Record, Device, issued}
use Rattle.headline.specs.Happenings.{Core, Part, asking, telling, messages, says, issues, executes, Happening, Issues, Client_asks, Device_tells, Executes}
use Rattle.headline.specs.Happenings.{run}
use Rattle.headline.specs.Honest.{MayIssue, MayAsk, MayTell, MayExecute, IsExecuted, IsHonestRun}
use Rattle.headline.proofs.Puts.{put_here}

messages_append : {S : Type 0} (from : S) (to : Destination S) (now : ℕ) (ys zs : List Body) →
    messages from to now (ys ++ zs) ≡ messages from to now ys ++ messages from to now zs
messages_append from to now [] zs = refl
messages_append from to now (y ∷ ys) zs = ap (λ l. record { from = from; to = to; body = y; stamp = now } ∷ l) (messages_append from to now ys zs)

-- what is said in two parts is said as one
pub says_more : {S Q R T : Type 0} (from : S) (to : Destination S) (ys zs : List Body) (w : Core S Q R T) →
    says from to zs (says from to ys w) ≡ says from to (ys ++ zs) w
says_more {S} {Q} {R} {T} from to ys zs w =
    let now = w.book.moment in
    ap (λ (l : List (Message S)). record w { book = record w.book { said = l } })
    (append_assoc w.book.said (messages from to now ys) (messages from to now zs)
    ∙ ap (λ (l : List (Message S)). w.book.said ++ l) (sym (messages_append from to now ys zs)))

-- a client asks by several parts at once
abbrev pub asks : {S Q R T : Type 0} → S → Transaction S Q → List Part → List (Happening S Q R T)
asks c o [] = []
asks c o (part ∷ parts) = Client_asks c o part ∷ asks c o parts

pub asks_all : {S Q R T : Type 0} (p : Protocol S Q R T) (s : Site S T) (c : S) (o : Transaction S Q) (part : Part) (parts : List Part) (w : Core S Q R T) →
    run p s (asks c o (part ∷ parts)) w ≡ says c (Unicast o.device) (map (λ z. asking p z o) (part ∷ parts)) w
asks_all p s c o part [] w = refl
asks_all p s c o part (next ∷ parts) w = asks_all p s c o next parts (says c (Unicast o.device) (asking p part o ∷ []) w)
    ∙ says_more c (Unicast o.device) (asking p part o ∷ []) (map (λ z. asking p z o) (next ∷ parts)) w

pub asks_honest : {S Q R T : Type 0} (p : Protocol S Q R T) (s : Site S T) (c : S) (o : Transaction S Q) (parts : List Part) (w : Core S Q R T) →
    MayAsk w.book.moment (w.clients c) o → IsHonestRun p s (asks c o parts) w
asks_honest p s c o [] w may = tt
asks_honest p s c o (part ∷ parts) w may = (may, asks_honest p s c o parts (says c (Unicast o.device) (asking p part o ∷ []) w) may)

-- a device tells several parts of an answer at once
abbrev pub tells : {S Q R T : Type 0} → S → Record S → List Part → List (Happening S Q R T)
tells d k [] = []
tells d k (part ∷ parts) = Device_tells d k part ∷ tells d k parts

abbrev pub tellings : {S : Type 0} → Record S → List Part → List Body
tellings k [] = []
tellings k (part ∷ parts) = telling part k.answer k ++ tellings k parts

nothing_said : {S Q R T : Type 0} (from : S) (to : Destination S) (w : Core S Q R T) → w ≡ says from to [] w
nothing_said {S} {Q} {R} {T} from to w = ap (λ (l : List (Message S)). record w { book = record w.book { said = l } }) (sym (append-nil w.book.said))

pub tells_all : {S Q R T : Type 0} (p : Protocol S Q R T) (s : Site S T) (d : S) (k : Record S) (parts : List Part) (w : Core S Q R T) →
    run p s (tells d k parts) w ≡ says d (Unicast k.client) (tellings k parts) w
tells_all p s d k [] w = nothing_said d (Unicast k.client) w
tells_all p s d k (part ∷ parts) w = tells_all p s d k parts (says d (Unicast k.client) (telling part k.answer k) w)
    ∙ says_more d (Unicast k.client) (telling part k.answer k) (tellings k parts) w

pub tells_honest : {S Q R T : Type 0} (p : Protocol S Q R T) (s : Site S T) (d : S) (k : Record S) (parts : List Part) (w : Core S Q R T) →
    MayTell w.book.moment (w.devices d) k → IsHonestRun p s (tells d k parts) w
tells_honest p s d k [] w may = tt
tells_honest p s d k (part ∷ parts) w may = (may, tells_honest p s d k parts (says d (Unicast k.client) (telling part k.answer k) w) may)

-- what is executed may be told at once
pub executes_tells : {S Q R T : Type 0} (p : Protocol S Q R T) (s : Site S T) (l : IsTest p.same) (d : S) (q : Q) (k : Record S) (st : Device S T)
    (parts : List Part) (w : Core S Q R T) → MayExecute p w.book d (w.devices d) q k → IsExecuted p w.book.moment (w.devices d) q k st →
    IsHonestRun p s (Executes d q k st ∷ tells d k parts) w
executes_tells {S} {Q} {R} {T} p s l d q k st parts w may on = (
  (may, on),
  tells_honest p s d k parts (executes p d q k st w) (record {
    there = subst (λ (z : Device S T). Has z.records k) (sym (put_here l w.devices d st)) on.fresh;
    living = let now = on.moment in omega arith;
  }),
)

-- the transaction that an issue opens
abbrev pub opened : {S Q R T : Type 0} → Core S Q R T → S → S → Q → ℕ → ℕ → Transaction S Q
opened w c d q chunk room = record {
  invoke_id = (w.clients c).next;
  device = d;
  request = q;
  chunk = chunk;
  room = room;
  moment = w.book.moment;
  pieces =
      0;
  got = [];
}

-- what is issued may be asked at once
pub issues_asks : {S Q R T : Type 0} (p : Protocol S Q R T) (s : Site S T) (l : IsTest p.same) (c d : S) (n : ℕ) (q : Q) (chunk room : ℕ) (parts : List Part)
    (w : Core S Q R T) → MayIssue p w.book.moment (w.clients c) d n q → IsHonestRun p s (Issues c d n q chunk room ∷ asks c (opened w c d q chunk room) parts) w
issues_asks {S} {Q} {R} {T} p s l c d n q chunk room parts w may = (
  may,
  asks_honest p s c (opened w c d q chunk room) parts (issues p c d n q chunk room w) (record {
    there = subst (λ (z : Client S Q). Has z.transactions (opened w c d q chunk room))
        (sym (put_here l w.clients c (issued w.book.moment d q chunk room (w.clients c)))) (has_last (w.clients c).transactions _);
    early = omega arith;
  }),
)
