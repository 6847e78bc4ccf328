-- What is promised of each moment, from what all keep.
use Rattle.std.proofs.Common.{◌≡◌, ℕ, List, [], ◌∷◌, Some, refl, sym, ap, ◌∙◌, subst}
use Rattle.std.proofs.lemmas.List.{append-nil}
use Rattle.std.specs.Prelude.{slice_get}
use Rattle.std.proofs.lemmas.Option.{same_Some}
use Rattle.history.specs.declared.Entry.TheVariants.{Issue}
use Rattle.history.specs.Lists.{Has}
use Rattle.history.specs.Book.{Head, Refuses, I_am, Other, Unicast, Broadcast}
use Rattle.history.specs.Legal.{named_in, Replays}
use Rattle.history.proofs.Past.{past_named}
use Rattle.headline.specs.Protocol.{Protocol, IsLawful, Site}
use Rattle.headline.specs.Stations.{Transaction}
use Rattle.headline.specs.Happenings.{Core, Outcome, Gives, Fails, Ticks, Issues, Client_asks, Client_becomes, Closes, Device_tells, Device_becomes, Executes}
use Rattle.headline.specs.Happenings.{Announces, Restarts, Says_no, Says_other, happens, messages, telling, asking}
use Rattle.headline.specs.Honest.{IsClosed}
use Rattle.headline.specs.Promised.{AreWhatExecutionsLeave, IsOfIssue, ExecutesWhatIsIssued, TransactionsAreOfIssues, IsExecutedReply, OutcomesAreOfIssues}
use Rattle.headline.specs.Promised.{RequestsAreWhole, AnswersAreWhole, SaidStaysSaid, RunsCompose, HonestRunsCompose}
use Rattle.headline.proofs.Books.{names}
use Rattle.headline.proofs.Clients.{IsOpenFor}
use Rattle.headline.proofs.Heard.{WholeAsked, asked_ok, told_ok}
use Rattle.headline.proofs.Whole.{Inv, open_of, open_placed, reply_of, request_found, last_asked}

-- e over the history alone
pub tables_of : {S Q R T : Type 0} (p : Protocol S Q R T) (s : Site S T) (w : Core S Q R T) → Inv p s w → AreWhatExecutionsLeave p s w
tables_of {S} {Q} {R} {T} p s w v d n is =
    subst (λ l. Replays p.reply p.after (s.opening d) (s.opening d) l (w.devices d).table)
    (past_named n (slice_get (names w.book.issues)) (named_in w.book.history) w.book.history (λ i _ _ _. sym (v.good.named i)))
    ((v.devices_ok d).table n is)

-- a request that a device heard whole is of an issue
asked_issue : {S Q R T : Type 0} (p : Protocol S Q R T) (s : Site S T) (l : IsLawful p) (w : Core S Q R T) (d c : S) (id : ℕ) (head : Head)
    (octets : List ℕ) → (k : WholeAsked p w.book d c id head octets) → Inv p s w → IsOfIssue p s w.book c id d k.x.request
asked_issue {S} {Q} {R} {T} p s l w d c id head octets k v = record {
  i = k.i;
  instance = k.x.instance;
  moment = k.x.moment;
  last = last_asked p s l.test w.book d c id head octets k v.good;
  is_instance = ap s.instance_of (sym k.device) ∙ v.good.bound_to k.i k.x k.row;
  issue = subst (λ z. Has w.book.history (Issue k.i z k.x.instance k.x.request k.x.moment)) k.client (v.good.listed k.i k.x k.row);
}

pub executed_issues : {S Q R T : Type 0} (p : Protocol S Q R T) (s : Site S T) (l : IsLawful p) (w : Core S Q R T) → Inv p s w → ExecutesWhatIsIssued p s w
executed_issues {S} {Q} {R} {T} p s l w v d q k st honest =
    let may = honest.0 in
    let a = asked_ok p s l.test w.book d (w.devices d) k.client k.invoke_id may.head may.octets v.good (v.devices_ok d) may.asked in
    let q_is : a.x.request ≡ q = sym (same_Some _ _ (request_found p s l w d k.client k.invoke_id may.head may.octets (Some q) a may.means v)) in
    subst (λ z. IsOfIssue p s w.book k.client k.invoke_id d z) q_is (asked_issue p s l w d k.client k.invoke_id may.head may.octets a v)

-- a transaction is of an issue
abbrev open_issue : {S Q R T : Type 0} (p : Protocol S Q R T) (s : Site S T) (w : Core S Q R T) (c : S) (o : Transaction S Q) →
    IsOpenFor p w.book.issues w.book.history c o → Inv p s w → IsOfIssue p s w.book c o.invoke_id o.device o.request
open_issue {S} {Q} {R} {T} p s w c o it v = record {
  i = it.i;
  instance = it.x.instance;
  moment = it.x.moment;
  last = it.last;
  is_instance = ap s.instance_of (sym it.device) ∙ v.good.bound_to it.i it.x it.row;
  issue = subst (λ z. Has w.book.history (Issue it.i c it.x.instance z it.x.moment)) it.request
      (subst (λ z. Has w.book.history (Issue it.i z it.x.instance it.x.request it.x.moment)) it.client (v.good.listed it.i it.x it.row));
}

pub transaction_issues : {S Q R T : Type 0} (p : Protocol S Q R T) (s : Site S T) (w : Core S Q R T) → Inv p s w → TransactionsAreOfIssues p s w
transaction_issues p s w v c o there = open_issue p s w c o (open_of p s w c o there v) v

outcome_reply : {S Q R T : Type 0} (p : Protocol S Q R T) (s : Site S T) (l : IsLawful p) (w : Core S Q R T) (c : S) (front : List (Transaction S Q))
    (o : Transaction S Q) (rest : List (Transaction S Q)) (how : Outcome R) → (it : IsOpenFor p w.book.issues w.book.history c o) →
    IsClosed p w.book c (w.clients c) front o rest how → Inv p s w → IsExecutedReply w.book it.i how
outcome_reply p s l w c front o rest (Gives r) it closed v = reply_of p s l w c o r it closed.may v
outcome_reply p s l w c front o rest (Fails why) it closed v = tt

pub outcome_issues : {S Q R T : Type 0} (p : Protocol S Q R T) (s : Site S T) (l : IsLawful p) (w : Core S Q R T) → Inv p s w → OutcomesAreOfIssues p s w
outcome_issues p s l w v c front o rest how closed =
    let it = open_placed p s w c front o rest closed.place v in
    (open_issue p s w c o it v, outcome_reply p s l w c front o rest how it closed v)

pub whole_requests : {S Q R T : Type 0} (p : Protocol S Q R T) (s : Site S T) (l : IsLawful p) (w : Core S Q R T) → Inv p s w → RequestsAreWhole p s w
whole_requests p s l w v d c id head octets asked =
    let k = asked_ok p s l.test w.book d (w.devices d) c id head octets v.good (v.devices_ok d) asked in
    record { request = k.x.request; of = asked_issue p s l w d c id head octets k v; service = ap (λ (z : Head). z.service) k.head_is; whole = k.whole }

pub whole_answers : {S Q R T : Type 0} (p : Protocol S Q R T) (s : Site S T) (l : IsLawful p) (w : Core S Q R T) → Inv p s w → AnswersAreWhole p s w
whole_answers p s l w v c o a there told =
    let k = told_ok p s l.test w.book c o a v.good (open_of p s w c o there v) told in
    record { of = open_issue p s w c o k.it v; reply = k.r; moment = k.e; executed = k.was; whole = k.whole ∙ ap (λ z. p.answer z k.r) k.it.request }

-- nothing that was said is taken back
pub said_stays : {S Q R T : Type 0} (p : Protocol S Q R T) → SaidStaysSaid p
said_stays p s w (Ticks n) = ([], sym (append-nil w.book.said))
said_stays p s w (Issues c d n q chunk room) = ([], sym (append-nil w.book.said))
said_stays p s w (Client_asks c o part) = (messages c (Unicast o.device) w.book.moment (asking p part o ∷ []), refl)
said_stays p s w (Client_becomes c st) = ([], sym (append-nil w.book.said))
said_stays p s w (Closes c front o rest how) = ([], sym (append-nil w.book.said))
said_stays p s w (Device_tells d k part) = (messages d (Unicast k.client) w.book.moment (telling part k.answer k), refl)
said_stays p s w (Device_becomes d st) = ([], sym (append-nil w.book.said))
said_stays p s w (Executes d q k st) = ([], sym (append-nil w.book.said))
said_stays p s w (Announces d n) = (messages d Broadcast w.book.moment (I_am n ∷ []), refl)
said_stays p s w (Restarts d n) = ([], sym (append-nil w.book.said))
said_stays p s w (Says_no d to id why) = (messages d to w.book.moment (Refuses id why ∷ []), refl)
said_stays p s w (Says_other d to) = (messages d to w.book.moment (Other ∷ []), refl)

-- lists of happenings, one after another
pub run_more : {S Q R T : Type 0} (p : Protocol S Q R T) → RunsCompose p
run_more p s [] more w = refl
run_more p s (h ∷ hs) more w = run_more p s hs more (happens p s w h)

pub honest_more : {S Q R T : Type 0} (p : Protocol S Q R T) → HonestRunsCompose p
honest_more p s [] more w first then = then
honest_more p s (h ∷ hs) more w first then = (first.0, honest_more p s hs more (happens p s w h) first.1 then)
