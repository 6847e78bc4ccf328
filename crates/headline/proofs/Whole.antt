-- What holds of all stations and the book, and that each happening keeps it.
use Rattle.std.proofs.Common.{◌≡◌, ℕ, ◌+◌, ◌<◌, ◌≤◌, Bool, true, false, cond, List, [], ◌∷◌, ◌++◌, length, Some, None, refl, sym, ap, ◌∙◌, subst, ⊎_elim, arith}
use Rattle.std.specs.Prelude.{Option, slice_get, ◌==◌}
use Rattle.std.proofs.Math.ListN.{length-replicate}
use Rattle.std.proofs.lemmas.Bool.{cases_lt, eqb-true, ne_eqb, both_ways, false_from_ne_true}
use Rattle.std.proofs.lemmas.Option.{slice_get_within, same_Some}
use Rattle.history.specs.declared.End.{End}
use Rattle.history.specs.declared.Entry.{Entry}
use Rattle.history.specs.declared.Entry.TheVariants.{Issue, Executed, Answered, Ended, Restarted}
use Rattle.profile.specs.Times.{DEADLINE_MS, KEEP_MS}
use Rattle.history.specs.Lists.{Has, count}
use Rattle.history.specs.Tests.{IsTest}
use Rattle.history.specs.Pieces.{piece, has_more}
use Rattle.history.specs.Book.{Issued, Head, Answer, Simple, Complex, Failed, Body, Tells, Tells_piece, Refuses, I_am, Other, Destination, Unicast, Broadcast}
use Rattle.history.specs.Book.{Message, Book, last_issue}
use Rattle.history.specs.Legal.{is_issue, told_of, executes, closes, Named, Did, Anew, done_at, past_of}
use Rattle.history.proofs.Lists.{none_has, has_cons, has_counted, has_middle}
use Rattle.headline.specs.Protocol.{Protocol, IsLawful, Site, IsSite}
use Rattle.headline.specs.Stations.{Transaction, Client, Record, Device, issued, restarted}
use Rattle.headline.specs.Happenings.{Core, put, with_entry, issue_of, tell, Part, Whole, Piece, Outcome, Gives, Fails, closing, asking, telling, messages}
use Rattle.headline.specs.Happenings.{says, Happening, Ticks, Issues, Client_asks, Client_becomes, Closes, Device_tells, Device_becomes, Executes, Announces}
use Rattle.headline.specs.Happenings.{Restarts, Says_no, Says_other, happens, run, start, after_all}
use Rattle.headline.specs.Honest.{MayIssue, IsClosed, MayClose, MayExecute, IsExecuted, IsHonest, IsHonestRun, AreHonest}
use Rattle.headline.proofs.Books.{WasAsked, WasTold, SaidAs, InTime, names, names_get, Good, young_is_last, MayEnter, good_tick, good_said, good_entered}
use Rattle.headline.proofs.Books.{good_issued}
use Rattle.headline.proofs.Devices.{IsRecordOf, IsKept, DeviceOk, device_tick, device_entered, device_issued, device_goes_on, device_executes, device_restarts}
use Rattle.headline.proofs.Clients.{is_open, IsOpenFor, AreOpenFor, ClientOk, open_has, opens_out, IsFree, free_from_may, client_goes_on, client_issues}
use Rattle.headline.proofs.Clients.{client_closes, client_entered, client_other}
use Rattle.headline.proofs.Heard.{WholeAsked, asked_ok, gathered_ok, WholeTold, told_ok, takes_ok, announced_ok}

-- what all keep, whatever happens
pub record Inv {S Q R T : Type 0} (p : Protocol S Q R T) (s : Site S T) (w : Core S Q R T) : Type 0 where
  pub good : Good p s w.book
  pub clients_ok : (c : S) → ClientOk p s w.book.issues w.book.history c (w.clients c)
  pub devices_ok : (d : S) → DeviceOk p s w.book.issues w.book.history w.book.moment d (w.devices d)

apart_of : {S : Type 0} {same : S → S → Bool} (t : IsTest same) (a b : S) → same a b ≡ false → a ≡ b → ⊥
apart_of {S} {same} t a b f e = let g : same a b ≡ true = subst (λ z. same a z ≡ true) e (t.itself a) in (cc)

put_all : {S A : Type 0} {same : S → S → Bool} (l : IsTest same) (P : S → A → Type 0) (f : S → A) (d : S) (v : A) → ((x : S) → (x ≡ d → ⊥) → P x (f x)) →
    P d v → (x : S) → P x (put same f d v x)
put_all {S} {A} {same} l P f d v others mine x = by_test (same x d) refl
  where
    by_test : (b : Bool) → same x d ≡ b → P x (cond b v (f x))
    by_test true t = subst (λ y. P y v) (sym (l.exact x d t)) mine
    by_test false t = others x (apart_of l x d t)

-- something is said
says_ok : {S Q R T : Type 0} (p : Protocol S Q R T) (s : Site S T) (w : Core S Q R T) (from : S) (to : Destination S) (ys : List Body) →
    ((m : Message S) → Has (messages from to w.book.moment ys) m → SaidAs p s w.book.issues w.book.history m m.body) → Inv p s w → Inv p s (says from to ys w)
says_ok p s w from to ys ok v = record {
  good = good_said p s w.book (messages from to w.book.moment ys) v.good ok;
  clients_ok = v.clients_ok;
  devices_ok =
      v.devices_ok;
}

-- one thing is said
said_ok : {S Q R T : Type 0} (p : Protocol S Q R T) (s : Site S T) (w : Core S Q R T) (from : S) (to : Destination S) (y : Body) →
    SaidAs p s w.book.issues w.book.history (record { from = from; to = to; body = y; stamp = w.book.moment }) y → Inv p s w → Inv p s (says from to (y ∷ []) w)
said_ok {S} {Q} {R} {T} p s w from to y ok v = says_ok p s w from to (y ∷ []) (λ m h. ⊎_elim
    (λ (same : record { from = from; to = to; body = y; stamp = w.book.moment } ≡ m). subst
    (λ (z : Message S). SaidAs p s w.book.issues w.book.history z z.body) same ok)
    (λ (none : Has [] m). absurd (none_has none))
    (has_cons _ [] h)) v

-- the state of one device changes
device_ok : {S Q R T : Type 0} (p : Protocol S Q R T) (s : Site S T) (l : IsTest p.same) (w : Core S Q R T) (d : S) (st : Device S T) →
    DeviceOk p s w.book.issues w.book.history w.book.moment d st → Inv p s w → Inv p s (record w { devices = put p.same w.devices d st })
device_ok p s l w d st ok v = record {
  good = v.good;
  clients_ok = v.clients_ok;
  devices_ok = put_all l (λ k o. DeviceOk p s w.book.issues w.book.history w.book.moment k o) w.devices d st (λ k _. v.devices_ok k) ok;
}

-- the state of one client changes
client_ok : {S Q R T : Type 0} (p : Protocol S Q R T) (s : Site S T) (l : IsTest p.same) (w : Core S Q R T) (c : S) (st : Client S Q) →
    ClientOk p s w.book.issues w.book.history c st → Inv p s w → Inv p s (record w { clients = put p.same w.clients c st })
client_ok p s l w c st ok v = record {
  good = v.good;
  clients_ok = put_all l (λ k o. ClientOk p s w.book.issues w.book.history k o) w.clients c st (λ k _. v.clients_ok k) ok;
  devices_ok = v.devices_ok;
}

-- the clock
tick_ok : {S Q R T : Type 0} (p : Protocol S Q R T) (s : Site S T) (w : Core S Q R T) (n : ℕ) → Inv p s w → Inv p s (happens p s w (Ticks n))
tick_ok p s w n v = record {
  good = good_tick p s w.book n v.good;
  clients_ok = v.clients_ok;
  devices_ok = λ d. device_tick p s w.book.issues w.book.history w.book.moment n d (w.devices d) (v.devices_ok d);
}

-- no entry closes an issue that isn't there yet
none_closed : {S Q R T : Type 0} (p : Protocol S Q R T) (s : Site S T) (b : Book S Q R) → Good p s b → count (closes (length b.issues)) b.history ≡ 0
none_closed {S} {Q} {R} {T} p s b g = ⊎_elim
    (λ (some : 0 < count (closes (length b.issues)) b.history).
    let found = has_counted (closes (length b.issues)) b.history some in
    let row = g.within found.0 (length b.issues) found.1 (closed_number (length b.issues) found.0 found.2) in
    let l = slice_get_within b.issues (length b.issues) row.0 row.1 in
    absurd (omega arith))
    (λ (none : count (closes (length b.issues)) b.history ≤ 0). omega arith)
    (cases_lt 0 (count (closes (length b.issues)) b.history))
  where
    closed_number : (i : ℕ) (e : Entry S Q R) → closes i e ≡ true → told_of e ≡ Some i
    closed_number i (Issue j c n q t) h = absurd (cc)
    closed_number i (Executed j r t) h = absurd (cc)
    closed_number i (Answered j r t) h = ap (λ n. Some n) (eqb-true j i h)
    closed_number i (Ended j why t) h = ap (λ n. Some n) (eqb-true j i h)
    closed_number i (Restarted n t) h = absurd (cc)

-- a client issues
issue_ok : {S Q R T : Type 0} (p : Protocol S Q R T) (s : Site S T) (l : IsTest p.same) (w : Core S Q R T) (c d : S) (n : ℕ) (q : Q) (chunk room : ℕ) →
    MayIssue p w.book.moment (w.clients c) d n q → Inv p s w → Inv p s (happens p s w (Issues c d n q chunk room))
issue_ok {S} {Q} {R} {T} p s l w c d n q chunk room may v = record {
  good = good_issued p s b x v.good refl may.sound ((v.clients_ok c).known _ may.bound) (λ i y row k m. free.apart i y row k m);
  clients_ok = put_all l (λ k o. ClientOk p s (b.issues ++ x ∷ []) (b.history ++ e ∷ []) k o) w.clients c (issued b.moment d q chunk room st)
      (λ k other. client_entered p s (b.issues ++ x ∷ []) b.history k (w.clients k) e (λ i y _ _ _. refl)
      (client_other p s l b.issues b.history k (w.clients k) x (λ z. other (sym z)) (v.clients_ok k)))
      (client_entered p s (b.issues ++ x ∷ []) b.history c (issued b.moment d q chunk room st) e (λ i y _ _ _. refl)
      (client_issues p s l b.issues b.history x st refl (v.clients_ok c) free (none_closed p s b v.good)));
  devices_ok = λ k. device_entered p s (b.issues ++ x ∷ []) b.history b.moment k (w.devices k) e (λ i r u y z _ _. (cc)) (λ _ _. refl)
      (device_issued p s b.issues b.history b.moment k (w.devices k) x (λ i r u h. v.good.within (Executed i r u) i h refl) (v.devices_ok k));
}
  where
    b : Book S Q R
    b = w.book

    st : Client S Q
    st = w.clients c

    x : Issued S Q
    x = record { client = c; invoke_id = st.next; device = d; instance = n; request = q; chunk = chunk; room = room; moment = b.moment }

    e : Entry S Q R
    e = issue_of (length b.issues) x

    free : IsFree b.issues b.moment c st
    free = free_from_may p s b.issues b.history b.moment c st d n q (v.clients_ok c) may

abbrev head_with : ℕ → ℕ → Head
head_with n m = record { service = n; room = m }

-- a client asks
abbrev was_asked : {S Q R T : Type 0} (p : Protocol S Q R T) (w : Core S Q R T) (c : S) (o : Transaction S Q) (y : Body) →
    IsOpenFor p w.book.issues w.book.history c o → w.book.moment < o.moment + DEADLINE_MS →
    WasAsked p w.book.issues (record { from = c; to = Unicast o.device; body = y; stamp = w.book.moment }) o.invoke_id
    (record { service = p.service o.request; room = o.room })
was_asked p w c o y it soon = record {
  i = it.i;
  x = it.x;
  row = it.row;
  client = it.client;
  key = it.key;
  device =
      ap (λ z. Unicast z) (sym it.device);
  head_is =
      ap (λ z. head_with (p.service z) o.room) (sym it.request) ∙ ap (head_with (p.service it.x.request)) (sym it.room_is);
  before = let at = it.moment in
      omega arith;
}

asks_ok : {S Q R T : Type 0} (p : Protocol S Q R T) (s : Site S T) (w : Core S Q R T) (c : S) (o : Transaction S Q) →
    (it : IsOpenFor p w.book.issues w.book.history c o) → w.book.moment < o.moment + DEADLINE_MS → (part : Part) →
    SaidAs p s w.book.issues w.book.history (record { from = c; to = Unicast o.device; body = asking p part o; stamp = w.book.moment }) (asking p part o)
asks_ok p s w c o it soon Whole = record { was = was_asked p w c o (asking p Whole o) it soon; whole = ap p.request_octets (sym it.request) }
asks_ok p s w c o it soon (Piece n) = record {
  was = was_asked p w c o (asking p (Piece n) o) it soon;
  part = ap (λ z. piece o.chunk n (p.request_octets z)) (sym it.request) ∙ ap (λ z. piece z n (p.request_octets it.x.request)) (sym it.chunk_is);
  more_is = ap (λ z. has_more o.chunk n (p.request_octets z)) (sym it.request) ∙ ap (λ z. has_more z n (p.request_octets it.x.request)) (sym it.chunk_is);
}

-- the entry e closes the issue i
record IsClosing {S Q R : Type 0} (h : List (Entry S Q R)) (e : Entry S Q R) (i : ℕ) : Type 0 where
  about_it : told_of e ≡ Some i
  not_issue : is_issue e ≡ false
  alone : (j : ℕ) → closes j e ≡ true → i ≡ j
  no_execution : (j : ℕ) (r : R) (t : ℕ) → e ≡ Executed j r t → ⊥
  executes_none : (j : ℕ) → executes j e ≡ true → ⊥
  was : (j : ℕ) (r : R) (t : ℕ) → e ≡ Answered j r t → (u : ℕ) × Has h (Executed j r u)
  none_of : (n : ℕ) (named : ℕ → Option (Named Q)) → past_of n named (e ∷ []) ≡ []

ends : {S Q R : Type 0} (h : List (Entry S Q R)) (i : ℕ) (why : End) (t : ℕ) → IsClosing h (Ended i why t) i
ends h i why t = record {
  about_it = refl;
  not_issue = refl;
  alone = λ j e. eqb-true i j e;
  no_execution = λ j r u e. (cc);
  executes_none = λ j e. (cc);
  was = λ j r u e. absurd (cc);
  none_of = λ n named. refl;
}

answers : {S Q R : Type 0} (h : List (Entry S Q R)) (i : ℕ) (r : R) (t u : ℕ) → Has h (Executed i r u) → IsClosing h (Answered i r t) i
answers {S} {Q} {R} h i r t u was = record {
  about_it = refl;
  not_issue = refl;
  alone = λ j e. eqb-true i j e;
  no_execution = λ j q v e. (cc);
  executes_none = λ j e. (cc);
  was = λ j q v e. let n : i ≡ j = cc in let m : r ≡ q = cc in (u, subst (λ (z : R). Has h (Executed j z u)) m (subst (λ z. Has h (Executed z r u)) n was));
  none_of = λ n named. refl;
}

closing_enters : {S Q R T : Type 0} (p : Protocol S Q R T) (b : Book S Q R) (c : S) (o : Transaction S Q) (e : Entry S Q R)
    (it : IsOpenFor p b.issues b.history c o) → IsClosing b.history e it.i → MayEnter p b e
closing_enters {S} {Q} {R} {T} p b c o e it k = record {
  not_issue = k.not_issue;
  issued = λ j t. let n : it.i ≡ j = same_Some _ _ (sym k.about_it ∙ t) in (it.x, subst (λ z. slice_get b.issues z ≡ Some it.x) n it.row);
  timely = λ i r t u. absurd (k.no_execution i r t u);
  past = λ i r t u. absurd (k.no_execution i r t u);
  first = λ i t. absurd (k.executes_none i t);
  was = k.was;
  unclosed = λ j t. subst (λ n. count (closes n) b.history ≡ 0) (k.alone j t) it.unclosed;
}

-- a transaction of the client c comes to its end
closes_ok : {S Q R T : Type 0} (p : Protocol S Q R T) (s : Site S T) (l : IsTest p.same) (w : Core S Q R T) (c : S) (front : List (Transaction S Q))
    (o : Transaction S Q) (rest : List (Transaction S Q)) (f : ℕ → Entry S Q R) (it : IsOpenFor p w.book.issues w.book.history c o) →
    (w.clients c).transactions ≡ front ++ o ∷ rest → IsClosing w.book.history (f it.i) it.i → Inv p s w →
    Inv p s (record w {
      book = tell f (last_issue p.same c o.invoke_id w.book.issues) w.book;
      clients =
          put p.same w.clients c (record (w.clients c) { transactions = front ++ rest });
    })
closes_ok {S} {Q} {R} {T} p s l w c front o rest f it place k v =
    subst (λ z. Inv p s (record w { book = tell f z b; clients = put p.same w.clients c next })) (sym it.last)
    (record {
      good = good_entered p s b e v.good (closing_enters p b c o e it k);
      clients_ok = put_all l (λ j n. ClientOk p s b.issues (b.history ++ e ∷ []) j n) w.clients c next
          (λ j other. client_entered p s b.issues b.history j (w.clients j) e
          (λ i x row mine _. false_from_ne_true _ (λ t. other (sym mine ∙ sym (ap (λ (y : Issued S Q). y.client) (same i x row t)) ∙ it.client)))
          (v.clients_ok j))
          (client_entered p s b.issues b.history c next e
          (λ i x row mine opened. false_from_ne_true _ (λ t.
          let ids : x.invoke_id ≡ o.invoke_id = sym (ap (λ (y : Issued S Q). y.invoke_id) (same i x row t)) ∙ it.key in
          both_ways _ out.1 (subst (λ n. is_open n (front ++ rest) ≡ true) ids opened)))
          (client_closes p s b.issues b.history c (front ++ rest) st out.0 (v.clients_ok c)));
      devices_ok = λ d. device_entered p s b.issues b.history b.moment d (w.devices d) e (λ i r t x u _ _. k.no_execution i r t u)
          (λ n _. k.none_of n (slice_get (names b.issues))) (v.devices_ok d);
    })
  where
    b : Book S Q R
    b = w.book

    st : Client S Q
    st = w.clients c

    next : Client S Q
    next = record st { transactions = front ++ rest }

    e : Entry S Q R
    e = f it.i

    out : AreOpenFor p b.issues b.history c (front ++ rest) × (is_open o.invoke_id (front ++ rest) ≡ false)
    out = opens_out p b.issues b.history c front o rest (subst (AreOpenFor p b.issues b.history c) place (v.clients_ok c).opens)

    same : (i : ℕ) (x : Issued S Q) → slice_get b.issues i ≡ Some x → closes i e ≡ true → it.x ≡ x
    same i x row t =
        let is : it.i ≡ i = k.alone i t in
        let there : slice_get b.issues i ≡ Some it.x = subst (λ n. slice_get b.issues n ≡ Some it.x) is it.row in
        same_Some _ _ (sym there ∙ row)

-- a transaction stands in its client
pub open_of : {S Q R T : Type 0} (p : Protocol S Q R T) (s : Site S T) (w : Core S Q R T) (c : S) (o : Transaction S Q) → Has (w.clients c).transactions o →
    Inv p s w → IsOpenFor p w.book.issues w.book.history c o
open_of p s w c o there v = open_has p w.book.issues w.book.history c (w.clients c).transactions o (v.clients_ok c).opens there

-- .. also where it is told by its place
pub open_placed : {S Q R T : Type 0} (p : Protocol S Q R T) (s : Site S T) (w : Core S Q R T) (c : S) (front : List (Transaction S Q)) (o : Transaction S Q)
    (rest : List (Transaction S Q)) → (w.clients c).transactions ≡ front ++ o ∷ rest → Inv p s w → IsOpenFor p w.book.issues w.book.history c o
open_placed {S} {Q} {R} {T} p s w c front o rest place v =
    open_of p s w c o (subst (λ (os : List (Transaction S Q)). Has os o) (sym place) (has_middle front o rest)) v

-- what a whole answer means is the reply
pub reply_found : {S Q R T : Type 0} (p : Protocol S Q R T) (s : Site S T) (l : IsLawful p) (w : Core S Q R T) (c : S) (o : Transaction S Q) (a : Answer)
    (found : Option R) → (k : WholeTold p w.book c o a) → p.MeansReply o.request a found → Inv p s w → found ≡ Some k.r
reply_found {S} {Q} {R} {T} p s l w c o a found k means v =
    let timely = v.good.in_time k.it.i k.r k.e k.was in
    let xs : timely.x ≡ k.it.x = same_Some _ _ (sym timely.row ∙ k.it.row) in
    let q : timely.x.request ≡ o.request = ap (λ (z : Issued S Q). z.request) xs ∙ k.it.request in
    let r_is : k.r ≡ p.reply timely.table o.request = timely.reply_is ∙ ap (λ z. p.reply timely.table z) q in
    let fine : p.IsSound o.request = subst p.IsSound k.it.request (v.good.sound k.it.i k.it.x k.it.row) in
    let a_is : a ≡ p.answer o.request (p.reply timely.table o.request) =
    k.whole ∙ ap (λ z. p.answer z k.r) k.it.request ∙ ap (λ z. p.answer o.request z) r_is in
    l.reply_back timely.table o.request found timely.sound fine (subst (λ (z : Answer). p.MeansReply o.request z found) a_is means)
    ∙ ap (λ z. Some z) (sym r_is)

-- a reply that a transaction may give is that of an execution of its issue
pub reply_of : {S Q R T : Type 0} (p : Protocol S Q R T) (s : Site S T) (l : IsLawful p) (w : Core S Q R T) (c : S) (o : Transaction S Q) (r : R)
    (it : IsOpenFor p w.book.issues w.book.history c o) → MayClose p w.book c o (Gives r) → Inv p s w → (u : ℕ) × Has w.book.history (Executed it.i r u)
reply_of {S} {Q} {R} {T} p s l w c o r it may v =
    let k = told_ok p s l.test w.book c o may.0 v.good it may.1 in
    let found = reply_found p s l w c o may.0 (Some r) k may.2 v in
    let number : k.it.i ≡ it.i = same_Some _ _ (sym k.it.last ∙ it.last) in (
      k.e,
      subst (λ (z : R). Has w.book.history (Executed it.i z k.e)) (sym (same_Some _ _ found))
          (subst (λ n. Has w.book.history (Executed n k.r k.e)) number k.was),
    )

outcome_ok : {S Q R T : Type 0} (p : Protocol S Q R T) (s : Site S T) (l : IsLawful p) (w : Core S Q R T) (c : S) (front : List (Transaction S Q))
    (o : Transaction S Q) (rest : List (Transaction S Q)) (how : Outcome R) → IsClosed p w.book c (w.clients c) front o rest how → Inv p s w →
    Inv p s (happens p s w (Closes c front o rest how))
outcome_ok p s l w c front o rest (Gives r) closed v =
    let it = open_placed p s w c front o rest closed.place v in
    let was = reply_of p s l w c o r it closed.may v in
    closes_ok p s l.test w c front o rest (closing (Gives r) w.book.moment) it closed.place (answers w.book.history it.i r w.book.moment was.0 was.1) v
outcome_ok p s l w c front o rest (Fails why) closed v =
    let it = open_placed p s w c front o rest closed.place v in
    closes_ok p s l.test w c front o rest (closing (Fails why) w.book.moment) it closed.place (ends w.book.history it.i why w.book.moment) v

-- what a whole request means is that of its issue
pub request_found : {S Q R T : Type 0} (p : Protocol S Q R T) (s : Site S T) (l : IsLawful p) (w : Core S Q R T) (d c : S) (id : ℕ) (head : Head)
    (octets : List ℕ) (found : Option Q) → (k : WholeAsked p w.book d c id head octets) → p.MeansRequest head.service octets found → Inv p s w →
    found ≡ Some k.x.request
request_found p s l w d c id head octets found k means v =
    l.request_back k.x.request found (v.good.sound k.i k.x k.row)
    (subst (λ z. p.MeansRequest (p.service k.x.request) z found) k.whole (subst (λ (z : Head). p.MeansRequest z.service octets found) k.head_is means))

-- the whole request that was heard is of the last issue under its invoke ID
pub last_asked : {S Q R T : Type 0} (p : Protocol S Q R T) (s : Site S T) (l : IsTest p.same) (b : Book S Q R) (d c : S) (id : ℕ) (head : Head)
    (octets : List ℕ) (k : WholeAsked p b d c id head octets) → Good p s b → last_issue p.same c id b.issues ≡ Some k.i
last_asked p s l b d c id head octets k g = let until = k.until in young_is_last p s l b g k.i k.x c id k.row k.client k.key (omega arith)

-- a device executes
executes_ok : {S Q R T : Type 0} (p : Protocol S Q R T) (s : Site S T) (l : IsLawful p) (f : IsSite p s) (w : Core S Q R T) (d : S) (q : Q) (k : Record S)
    (next : Device S T) → (may : MayExecute p w.book d (w.devices d) q k) → IsExecuted p w.book.moment (w.devices d) q k next → Inv p s w →
    Inv p s (happens p s w (Executes d q k next))
executes_ok {S} {Q} {R} {T} p s l f w d q k next may on v =
    subst (λ z. Inv p s (record w { book = tell (λ i. Executed i r b.moment) z b; devices = put p.same w.devices d next })) (sym last)
    (record {
      good = entered;
      clients_ok = λ c. client_entered p s b.issues b.history c (w.clients c) e (λ i x _ _ _. refl) (v.clients_ok c);
      devices_ok = put_all l.test (λ n o. DeviceOk p s b.issues (b.history ++ e ∷ []) b.moment n o) w.devices d next
          (λ n other. device_entered p s b.issues b.history b.moment n (w.devices n) e
          (λ i u t x g row dev. let is : a.i ≡ i = cc in let row' : slice_get b.issues i ≡ Some a.x = subst (λ z. slice_get b.issues z ≡ Some a.x) is a.row in
          let xs : a.x ≡ x = same_Some _ _ (sym row' ∙ row) in other (sym dev ∙ sym (ap (λ (y : Issued S Q). y.device) xs) ∙ a.device))
          (quiet n other) (v.devices_ok n))
          (device_executes p s l b.issues b.history b.moment d st next a.i a.x k q a.row a.device a.client a.key (sym (ap (λ (z : Head). z.room) a.head_is)
          ∙ sym may.room) q_is (subst p.IsSound q_is (v.good.sound a.i a.x a.row)) inst on (v.devices_ok d));
    })
  where
    b : Book S Q R
    b = w.book

    st : Device S T
    st = w.devices d

    a : WholeAsked p b d k.client k.invoke_id may.head may.octets
    a = asked_ok p s l.test b d st k.client k.invoke_id may.head may.octets v.good (v.devices_ok d) may.asked

    r : R
    r = p.reply st.table q

    e : Entry S Q R
    e = Executed a.i r b.moment

    q_is : a.x.request ≡ q
    q_is = sym (same_Some _ _ (request_found p s l w d k.client k.invoke_id may.head may.octets (Some q) a may.means v))

    inst : s.instance_of d ≡ Some a.x.instance
    inst = ap s.instance_of (sym a.device) ∙ v.good.bound_to a.i a.x a.row

    from_it : a.x.moment ≤ b.moment
    from_it = v.good.past a.i a.x a.row

    last : last_issue p.same k.client k.invoke_id b.issues ≡ Some a.i
    last = last_asked p s l.test b d k.client k.invoke_id may.head may.octets a v.good

    never : count (executes a.i) b.history ≡ 0
    never = ⊎_elim
        (λ (some : 0 < count (executes a.i) b.history).
        let found = has_counted (executes a.i) b.history some in
        absurd (no_execution found.0 found.1 found.2))
        (λ (none : count (executes a.i) b.history ≤ 0). omega arith)
        (cases_lt 0 (count (executes a.i) b.history))
      where
        no_execution : (g : Entry S Q R) → Has b.history g → executes a.i g ≡ true → ⊥
        no_execution (Issue j c n u t) h g = (cc)
        no_execution (Answered j u t) h g = (cc)
        no_execution (Ended j why t) h g = (cc)
        no_execution (Restarted n t) h g = (cc)
        no_execution (Executed j u t) h g =
            let same : j ≡ a.i = eqb-true j a.i g in
            let h' : Has b.history (Executed a.i u t) = subst (λ z. Has b.history (Executed z u t)) same h in
            let timely = v.good.in_time a.i u t h' in
            let row_is : timely.x ≡ a.x = same_Some _ _ (sym timely.row ∙ a.row) in
            let at : timely.x.moment ≡ a.x.moment = ap (λ (y : Issued S Q). y.moment) row_is in
            let early = timely.from in
            let until = a.until in
            let listens = may.listens in
            ⊎_elim
            (λ (o : IsKept st.records a.x t). may.anew o.k o.there (o.client ∙ a.client) (o.key ∙ a.key) (let z = o.moment in omega arith))
            (λ (deaf : t + KEEP_MS ≤ st.deaf_until). absurd (omega arith))
            ((v.devices_ok d).kept a.i u t a.x h' a.row a.device (omega arith))

    entered : Good p s (with_entry e b)
    entered = good_entered p s b e v.good (record {
      not_issue = refl;
      issued = λ j t. let n : a.i ≡ j = same_Some _ _ t in (a.x, subst (λ z. slice_get b.issues z ≡ Some a.x) n a.row);
      past = λ i u t g. let m : b.moment ≡ t = cc in omega arith;
      timely = λ i u t g.
          let n : a.i ≡ i = cc in
          let m : b.moment ≡ t = cc in
          let o : r ≡ u = cc in
          subst (λ z. InTime p b.issues z u t) n (subst (λ z. InTime p b.issues a.i z t) o
          (subst (λ z. InTime p b.issues a.i r z) m
          (record {
            x = a.x;
            row = a.row;
            from = from_it;
            until = a.until;
            table = st.table;
            sound = (v.devices_ok d).sound a.x.instance inst;
            reply_is =
                ap (λ z. p.reply st.table z) (sym q_is);
          })));
      first = λ i g. subst (λ z. count (executes z) b.history ≡ 0) (eqb-true a.i i g) never;
      was = λ i u t g. absurd (cc);
      unclosed = λ i g. absurd (cc);
    })

    quiet : (n : S) → (n ≡ d → ⊥) → (m : ℕ) → s.instance_of n ≡ Some m → past_of m (slice_get (names b.issues)) (e ∷ []) ≡ []
    quiet n other m is =
        let at = names_get b.issues a.i a.x a.row in
        let apart : (a.x.instance == m) ≡ false = ne_eqb a.x.instance m (λ g. other (f.one n d m is (inst ∙ ap (λ z. Some z) g))) in
        ap (λ o. done_at m o r []) at ∙ ap (λ t. cond t (Did a.x.request r ∷ []) []) apart

-- a device tells a remembered answer
abbrev was_told : {S Q R T : Type 0} (p : Protocol S Q R T) (w : Core S Q R T) (d : S) (k : Record S) (y : Body) →
    IsRecordOf p w.book.issues w.book.history d k → w.book.moment ≤ k.moment + KEEP_MS →
    WasTold w.book.issues w.book.history (record { from = d; to = Unicast k.client; body = y; stamp = w.book.moment }) k.invoke_id
was_told p w d k y it young = record {
  i = it.i;
  x = it.x;
  r = it.r;
  e = k.moment;
  row = it.row;
  client = ap (λ z. Unicast z) (sym it.client);
  key =
      it.key;
  was = it.was;
  before = young;
}

tells_ok : {S Q R T : Type 0} (p : Protocol S Q R T) (s : Site S T) (w : Core S Q R T) (d : S) (k : Record S) →
    IsRecordOf p w.book.issues w.book.history d k → w.book.moment ≤ k.moment + KEEP_MS → (part : Part) (o : Option Answer) → k.answer ≡ o → Inv p s w →
    Inv p s (says d (Unicast k.client) (telling part o k) w)
tells_ok p s w d k it young part None is v = says_ok p s w d (Unicast k.client) [] (λ m h. absurd (none_has h)) v
tells_ok p s w d k it young Whole (Some a) is v =
    said_ok p s w d (Unicast k.client) (Tells k.invoke_id a) (record { it = was_told p w d k _ it young; whole = it.says_it a is }) v
tells_ok p s w d k it young (Piece n) (Some Simple) is v = says_ok p s w d (Unicast k.client) [] (λ m h. absurd (none_has h)) v
tells_ok p s w d k it young (Piece n) (Some (Failed octets)) is v = says_ok p s w d (Unicast k.client) [] (λ m h. absurd (none_has h)) v
tells_ok p s w d k it young (Piece n) (Some (Complex octets)) is v =
    said_ok p s w d (Unicast k.client) (Tells_piece k.invoke_id n (has_more k.room n octets) (piece k.room n octets))
    (record {
      it = was_told p w d k _ it young;
      body = octets;
      body_is = sym (it.says_it (Complex octets) is);
      part =
          ap (λ z. piece z n octets) (sym it.room_is);
      more_is = ap (λ z. has_more z n octets) (sym it.room_is);
    }) v

-- a device restarts
restarts_ok : {S Q R T : Type 0} (p : Protocol S Q R T) (s : Site S T) (l : IsTest p.same) (f : IsSite p s) (w : Core S Q R T) (d : S) (n : ℕ) →
    s.instance_of d ≡ Some n → Inv p s w → Inv p s (happens p s w (Restarts d n))
restarts_ok {S} {Q} {R} {T} p s l f w d n is v = record {
  good = good_entered p s b e v.good (record {
    not_issue = refl;
    issued = λ i t. absurd (cc);
    past = λ i r t g. absurd (cc);
    timely = λ i r t g. absurd (cc);
    first = λ i t. absurd (cc);
    was = λ i r t g. absurd (cc);
    unclosed = λ i t. absurd (cc);
  });
  clients_ok = λ c. client_entered p s b.issues b.history c (w.clients c) e (λ i x _ _ _. refl) (v.clients_ok c);
  devices_ok = put_all l (λ k o. DeviceOk p s b.issues (b.history ++ e ∷ []) b.moment k o) w.devices d (restarted b.moment (s.opening d))
      (λ k other. device_entered p s b.issues b.history b.moment k (w.devices k) e (λ i r t x g _ _. (cc)) (elsewhere k other) (v.devices_ok k))
      (device_restarts p s b.issues b.history b.moment d n (w.devices d) is (f.sound d n is) v.good.executed_past (v.devices_ok d));
}
  where
    b : Book S Q R
    b = w.book

    e : Entry S Q R
    e = Restarted n w.book.moment

    elsewhere : (k : S) → (k ≡ d → ⊥) → (m : ℕ) → s.instance_of k ≡ Some m → past_of m (slice_get (names b.issues)) (e ∷ []) ≡ []
    elsewhere k other m at =
        let apart : (n == m) ≡ false = ne_eqb n m (λ g. other (f.one k d m at (is ∙ ap (λ z. Some z) g))) in
        ap (λ t. cond t (Anew ∷ []) []) apart

-- each happening keeps it
happens_ok : {S Q R T : Type 0} (p : Protocol S Q R T) (s : Site S T) (l : IsLawful p) (f : IsSite p s) (w : Core S Q R T) (h : Happening S Q R T) →
    IsHonest p s w h → Inv p s w → Inv p s (happens p s w h)
happens_ok p s l f w (Ticks n) honest v = tick_ok p s w n v
happens_ok p s l f w (Issues c d n q chunk room) honest v = issue_ok p s l.test w c d n q chunk room honest v
happens_ok p s l f w (Client_asks c o part) honest v =
    said_ok p s w c (Unicast o.device) (asking p part o) (asks_ok p s w c o (open_of p s w c o honest.there v) honest.early part) v
happens_ok p s l f w (Client_becomes c st) honest v =
    client_ok p s l.test w c st (client_goes_on p s w.book c (w.clients c) st honest (takes_ok p s l.test w.book c v.good) (announced_ok p s w.book c v.good)
    (v.clients_ok c)) v
happens_ok p s l f w (Closes c front o rest how) honest v = outcome_ok p s l w c front o rest how honest v
happens_ok p s l f w (Device_tells d k part) honest v = tells_ok p s w d k ((v.devices_ok d).records k honest.there) honest.living part k.answer refl v
happens_ok p s l f w (Device_becomes d st) honest v =
    device_ok p s l.test w d st (device_goes_on p s w.book d (w.devices d) st honest
    (λ a h. gathered_ok p s l.test w.book d (w.devices d) a v.good (v.devices_ok d) h) (v.devices_ok d)) v
happens_ok p s l f w (Executes d q k st) honest v = executes_ok p s l f w d q k st honest.0 honest.1 v
happens_ok p s l f w (Announces d n) honest v = said_ok p s w d Broadcast (I_am n) honest v
happens_ok p s l f w (Restarts d n) honest v = restarts_ok p s l.test f w d n honest v
happens_ok p s l f w (Says_no d to id why) honest v = said_ok p s w d to (Refuses id why) tt v
happens_ok p s l f w (Says_other d to) honest v = said_ok p s w d to Other tt v

run_ok : {S Q R T : Type 0} (p : Protocol S Q R T) (s : Site S T) (l : IsLawful p) (f : IsSite p s) (hs : List (Happening S Q R T)) (w : Core S Q R T) →
    IsHonestRun p s hs w → Inv p s w → Inv p s (run p s hs w)
run_ok p s l f [] w honest v = v
run_ok p s l f (h ∷ hs) w honest v = run_ok p s l f hs (happens p s w h) honest.1 (happens_ok p s l f w h honest.0 v)

start_ok : {S Q R T : Type 0} (p : Protocol S Q R T) (s : Site S T) (f : IsSite p s) → Inv p s (start p s)
start_ok {S} {Q} {R} {T} p s f = record {
  good = record {
    past = λ i x e. absurd (cc);
    spaced = λ i j x y l e. absurd (cc);
    sound = λ i x e. absurd (cc);
    bound_to = λ i x e. absurd (cc);
    said_ok = λ m h. absurd (none_has h);
    in_time = λ i r e h. absurd (none_has h);
    executed_past = λ i r e h. absurd (none_has h);
    within = λ e i h. absurd (none_has h);
    counted = refl;
    listed = λ i x e. absurd (cc);
    named = λ i. refl;
    numbered = λ k i c n q t g. absurd (cc);
    after_issue = λ k i e g. absurd (cc);
    once = λ i. omega arith;
    answers = λ k i r t e. absurd (cc);
    closed_once = λ i. omega arith;
  };
  clients_ok = λ c. record {
    opens = tt;
    free = λ i x e. absurd (cc);
    next_in = omega arith;
    sized = length-replicate {A = ℕ} 256 0;
    known =
        λ x h. absurd (none_has h);
  };
  devices_ok = λ d. record {
    records = λ k h. absurd (none_has h);
    kept = λ i r e x h. absurd (none_has h);
    table = λ n e. refl;
    sound =
        λ n is. f.sound d n is;
    gatherings = λ a h. absurd (none_has h);
  };
}

-- it holds after all that can honestly happen
pub from_start : {S Q R T : Type 0} (p : Protocol S Q R T) (s : Site S T) → IsLawful p → IsSite p s → (hs : List (Happening S Q R T)) → AreHonest p s hs →
    Inv p s (after_all p s hs)
from_start p s l f hs honest = run_ok p s l f hs (start p s) honest (start_ok p s f)
