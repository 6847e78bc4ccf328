-- Each happening leaves each issue closed or open.
use Rattle.std.proofs.Common.{◌≡◌, ◌⊎◌, ℕ, ◌+◌, Bool, true, false, cond, List, [], ◌∷◌, ◌++◌, length, Option, Some, None, refl, sym, ap, ◌∙◌, subst, inl, inr, ⊎_elim, arith}
use Rattle.std.specs.Prelude.{◌==◌}
use Rattle.std.proofs.lemmas.Bool.{cases_eq, eq-eqb, ne_eqb}
use Rattle.std.proofs.lemmas.Option.{same_Some}
use Rattle.headline.proofs.Clients.{IsOpenFor}
use Rattle.headline.proofs.Laws.{honest_more, run_more}
use Rattle.headline.proofs.Whole.{Inv, from_start, open_of, open_placed}
use Rattle.headline.specs.Happenings.{Announces, Client_asks, Client_becomes, Closes, Core, Device_becomes, Device_tells, Executes, Fails, Gives, Happening, Issues}
use Rattle.headline.specs.Happenings.{Outcome, Restarts, Says_no, Says_other, Ticks, after_all, closing, happens, issue_of, put, run, start, told}
use Rattle.headline.specs.Honest.{AllGoOn, AreHonest, ClientGoesOn, GoesOn, IsHonest, IsHonestRun, IsTaken, MayIssue}
use Rattle.headline.specs.Protocol.{IsLawful, IsSite, Protocol, Site}
use Rattle.headline.specs.Stations.{Client, Transaction, issued}
use Rattle.history.proofs.Last.{last_is_new, last_is_other}
use Rattle.history.proofs.Lists.{count-append, count_other, has, has_cons, has_front, has_last, has_next, has_split, none_has}
use Rattle.history.specs.Book.{Book, Issued, last_issue}
use Rattle.history.specs.Legal.{closes}
use Rattle.history.specs.Lists.{Has, count}
use Rattle.history.specs.Tests.{IsTest}
use Rattle.history.specs.declared.Entry.{Entry}
use Rattle.history.specs.declared.Entry.TheVariants.{Executed, Issue, Restarted}
use Rattle.headline_ends.specs.Ends.{IssuesAreAccountedFor, OpenAreUnclosed}

-- a transaction of these has this request since this moment, and is of the issue i
pub record Stays {S Q : Type 0} (same : S → S → Bool) (issues : List (Issued S Q)) (c : S) (os : List (Transaction S Q)) (i : ℕ) (q : Q) (moment : ℕ) :
    Type 0 where
  pub o : Transaction S Q
  pub there : Has os o
  pub request : o.request ≡ q
  pub at : o.moment ≡ moment
  pub last : last_issue same c o.invoke_id issues ≡ Some i

-- the issue is closed or open, by the parts of all stations
abbrev pub EndsOrStays : {S Q R : Type 0} → (S → S → Bool) → List (Issued S Q) → List (Entry S Q R) → S → List (Transaction S Q) → ℕ → Q → ℕ → Type 0
EndsOrStays same issues h c os i q moment = (count (closes i) h ≡ 1) ⊎ Stays same issues c os i q moment

abbrev pub AllEndOrStay : {S Q R : Type 0} → (S → S → Bool) → List (Issued S Q) → List (Entry S Q R) → (S → Client S Q) → Type 0
AllEndOrStay {S} {Q} same issues h clients = (i : ℕ) (c : S) (n : ℕ) (q : Q) (moment : ℕ) →
    Has h (Issue i c n q moment) → EndsOrStays same issues h c (clients c).transactions i q moment

-- the entry is no issue
abbrev IsOther : {S Q R : Type 0} → Entry S Q R → Type 0
IsOther {S} {Q} {R} e = (i : ℕ) (c : S) (n : ℕ) (q : Q) (moment : ℕ) → e ≡ Issue i c n q moment → ⊥

module _ {S Q R T : Type 0} (p : Protocol S Q R T) where
  -- it stays, where the transactions of its client go on
  stays_with : (issues : List (Issued S Q)) (c : S) (os next : List (Transaction S Q)) (i : ℕ) (q : Q) (moment : ℕ) (k : Stays p.same issues c os i q moment) →
      (z : Transaction S Q) → Has next z → z.invoke_id ≡ k.o.invoke_id → z.request ≡ k.o.request → z.moment ≡ k.o.moment →
      Stays p.same issues c next i q moment
  stays_with issues c os next i q moment k z there id request at = record {
    o = z;
    there = there;
    request = request ∙ k.request;
    at = at ∙ k.at;
    last = ap (λ n. last_issue p.same c n issues) id ∙ k.last;
  }

  -- one more entry, which is no issue and closes none
  entered : (issues : List (Issued S Q)) (h : List (Entry S Q R)) (clients : S → Client S Q) (e : Entry S Q R) → IsOther e → ((i : ℕ) → closes i e ≡ false) →
      AllEndOrStay p.same issues h clients → AllEndOrStay p.same issues (h ++ e ∷ []) clients
  entered issues h clients e other quiet all i c n q moment there = ⊎_elim
      (λ (was : Has h (Issue i c n q moment)). ⊎_elim
      (λ (closed : count (closes i) h ≡ 1). inl (count_other (closes i) h e (quiet i) ∙ closed))
      (λ (stays : Stays p.same issues c (clients c).transactions i q moment). inr stays)
      (all i c n q moment was))
      (λ (new : e ≡ Issue i c n q moment). absurd (other i c n q moment new))
      (has_split h e there)

  -- what is told of an execution
  executed : (issues : List (Issued S Q)) (h : List (Entry S Q R)) (clients : S → Client S Q) (r : R) (now : ℕ) (of : Option ℕ) →
      AllEndOrStay p.same issues h clients → AllEndOrStay p.same issues (told (λ i. Executed i r now) of h) clients
  executed issues h clients r now None all = all
  executed issues h clients r now (Some j) all = entered issues h clients (Executed j r now) (λ i c n q moment e. (cc)) (λ i. refl) all

  -- the client of a station is another's, or its own
  at_put : (l : IsTest p.same) (issues : List (Issued S Q)) (h : List (Entry S Q R)) (clients : S → Client S Q) (d : S) (next : Client S Q) (i : ℕ) (q : Q)
      (moment : ℕ) (c : S) → (c ≡ d → EndsOrStays p.same issues h d next.transactions i q moment) →
      ((c ≡ d → ⊥) → EndsOrStays p.same issues h c (clients c).transactions i q moment) →
      EndsOrStays p.same issues h c (put p.same clients d next c).transactions i q moment
  at_put l issues h clients d next i q moment c mine others = by_test (p.same c d) refl
    where
      by_test : (b : Bool) → p.same c d ≡ b → EndsOrStays p.same issues h c (cond b next (clients c)).transactions i q moment
      by_test true t = subst (λ x. EndsOrStays p.same issues h x next.transactions i q moment) (sym (l.exact c d t)) (mine (l.exact c d t))
      by_test false t = others (λ e. let g : p.same c d ≡ true = subst (λ x. p.same c x ≡ true) e (l.itself c) in (cc))

  -- a client goes on: each of its transactions does
  abbrev Follows : Transaction S Q → Transaction S Q → Type 0
  Follows x y = (y.invoke_id ≡ x.invoke_id) × (y.request ≡ x.request) × (y.moment ≡ x.moment)

  goes_on : (b : Book S Q R) (c : S) (x y : Transaction S Q) → GoesOn b c x y → Follows x y
  goes_on b c x y on = ⊎_elim
      (λ (same : y ≡ x). subst (λ (z : Transaction S Q). Follows x z) (sym same) (refl, refl, refl))
      (λ (new : (y ≡ record x { pieces = 0; got = [] }) ⊎ IsTaken b c x y). ⊎_elim
      (λ (none : y ≡ record x { pieces = 0; got = [] }). subst (λ (z : Transaction S Q). Follows x z) (sym none) (refl, refl, refl))
      (λ (more : IsTaken b c x y). subst (λ (z : Transaction S Q). Follows x z) (sym more.joined) (refl, refl, refl))
      new)
      on

  record Next (xs ys : List (Transaction S Q)) (x : Transaction S Q) : Type 0 where
    y : Transaction S Q
    there : Has ys y
    follows : Follows x y

  next_of : (b : Book S Q R) (c : S) (xs ys : List (Transaction S Q)) (x : Transaction S Q) → AllGoOn b c xs ys → Has xs x → Next xs ys x
  next_of b c [] ys x on there = absurd (none_has there)
  next_of b c (z ∷ zs) [] x on there = absurd on
  next_of b c (z ∷ zs) (y ∷ ys) x on there = ⊎_elim
      (λ (here : z ≡ x). record { y = y; there = has 0 refl; follows = subst (λ (u : Transaction S Q). Follows u y) here (goes_on b c z y on.0) })
      (λ (later : Has zs x). let k = next_of b c zs ys x on.1 later in record { y = k.y; there = has_next y ys k.there; follows = k.follows })
      (has_cons z zs there)

  becomes : (l : IsTest p.same) (w : Core S Q R T) (c : S) (next : Client S Q) → ClientGoesOn w.book c (w.clients c) next →
      AllEndOrStay p.same w.book.issues w.book.history w.clients → AllEndOrStay p.same w.book.issues w.book.history (put p.same w.clients c next)
  becomes l w c next on all i k n q moment there = at_put l w.book.issues w.book.history w.clients c next i q moment k
      (λ same. ⊎_elim
      (λ (closed : count (closes i) w.book.history ≡ 1). inl closed)
      (λ (stays : Stays p.same w.book.issues c (w.clients c).transactions i q moment).
      let y = next_of w.book c (w.clients c).transactions next.transactions stays.o on.transactions stays.there in
      inr (stays_with w.book.issues c (w.clients c).transactions next.transactions i q moment stays y.y y.there y.follows.0 y.follows.1 y.follows.2))
      (subst (λ (x : S). EndsOrStays p.same w.book.issues w.book.history x (w.clients x).transactions i q moment) same (all i k n q moment there)))
      (λ other. all i k n q moment there)

  -- a client issues
  issued_new : (l : IsTest p.same) (w : Core S Q R T) (c d : S) (n : ℕ) (q : Q) (chunk room : ℕ) → MayIssue p w.book.moment (w.clients c) d n q →
      (x : Issued S Q) → x.client ≡ c → x.invoke_id ≡ (w.clients c).next → x.request ≡ q → x.moment ≡ w.book.moment →
      AllEndOrStay p.same w.book.issues w.book.history w.clients →
      AllEndOrStay p.same (w.book.issues ++ x ∷ []) (w.book.history ++ issue_of (length w.book.issues) x ∷ [])
      (put p.same w.clients c (issued w.book.moment d q chunk room (w.clients c)))
  issued_new l w c d n q chunk room may x mine key asked now all i k m r moment there = ⊎_elim
      (λ (was : Has h (Issue i k m r moment)). ⊎_elim
      (λ (closed : count (closes i) h ≡ 1). inl (count_other (closes i) h e refl ∙ closed))
      (λ (stays : Stays p.same w.book.issues k (w.clients k).transactions i r moment).
      at_put l more (h ++ e ∷ []) w.clients c next i r moment k
      (λ same. inr (kept_here i k r moment same stays))
      (λ other. inr (record {
        o = stays.o;
        there = stays.there;
        request = stays.request;
        at = stays.at;
        last = last_is_other l k stays.o.invoke_id w.book.issues x (λ a b. other (sym a ∙ mine)) ∙ stays.last;
      })))
      (all i k m r moment was))
      (λ (new : e ≡ Issue i k m r moment).
      at_put l more (h ++ e ∷ []) w.clients c next i r moment k
      (λ same. inr (record {
        o = one;
        there = has_last (w.clients c).transactions one;
        request = sym asked ∙ request_of i k m r moment new;
        at = sym now ∙ moment_of i k m r moment new;
        last = last_is_new l c (w.clients c).next w.book.issues x mine key ∙ number_of i k m r moment new;
      }))
      (λ other. absurd (other (sym (client_of i k m r moment new) ∙ mine))))
      (has_split h e there)
    where
      h : List (Entry S Q R)
      h = w.book.history

      e : Entry S Q R
      e = issue_of (length w.book.issues) x

      more : List (Issued S Q)
      more = w.book.issues ++ x ∷ []

      next : Client S Q
      next = issued w.book.moment d q chunk room (w.clients c)

      one : Transaction S Q
      one = record { invoke_id = (w.clients c).next; device = d; request = q; chunk = chunk; room = room; moment = w.book.moment; pieces = 0; got = [] }

      kept_here : (i : ℕ) (k : S) (r : Q) (moment : ℕ) → k ≡ c → Stays p.same w.book.issues k (w.clients k).transactions i r moment →
          Stays p.same more c next.transactions i r moment
      kept_here i k r moment same stays =
          let at_c : Stays p.same w.book.issues c (w.clients c).transactions i r moment =
          subst (λ (z : S). Stays p.same w.book.issues z (w.clients z).transactions i r moment) same stays in
          record {
            o = at_c.o;
            there = has_front (w.clients c).transactions (one ∷ []) at_c.there;
            request = at_c.request;
            at = at_c.at;
            last = last_is_other l c at_c.o.invoke_id w.book.issues x (λ a b. may.unused at_c.o at_c.there (sym b ∙ key)) ∙ at_c.last;
          }

      number_of : (i : ℕ) (k : S) (m : ℕ) (r : Q) (moment : ℕ) → e ≡ Issue i k m r moment → Some (length w.book.issues) ≡ Some i
      number_of i k m r moment new = cc new

      client_of : (i : ℕ) (k : S) (m : ℕ) (r : Q) (moment : ℕ) → e ≡ Issue i k m r moment → x.client ≡ k
      client_of i k m r moment new = cc new

      request_of : (i : ℕ) (k : S) (m : ℕ) (r : Q) (moment : ℕ) → e ≡ Issue i k m r moment → x.request ≡ r
      request_of i k m r moment new = cc new

      moment_of : (i : ℕ) (k : S) (m : ℕ) (r : Q) (moment : ℕ) → e ≡ Issue i k m r moment → x.moment ≡ moment
      moment_of i k m r moment new = cc new

  -- a client closes a transaction: what closes it closes no other issue
  abbrev closing_by : Outcome R → ℕ → ℕ → Entry S Q R
  closing_by how now j = closing how now j

  closing_closes : (how : Outcome R) (now j i : ℕ) → closes i (closing_by how now j) ≡ (j == i)
  closing_closes (Gives r) now j i = refl
  closing_closes (Fails why) now j i = refl

  closing_other : (how : Outcome R) (now j : ℕ) → IsOther (closing_by how now j)
  closing_other (Gives r) now j i c n q moment e = cc e
  closing_other (Fails why) now j i c n q moment e = cc e

  -- one of a list with a place in it is that, or another
  parted : (front : List (Transaction S Q)) (o : Transaction S Q) (rest : List (Transaction S Q)) (x : Transaction S Q) → Has (front ++ o ∷ rest) x →
      Has (front ++ rest) x ⊎ (o ≡ x)
  parted [] o rest x there = ⊎_elim (λ (here : o ≡ x). inr here) (λ (later : Has rest x). inl later) (has_cons o rest there)
  parted (y ∷ front) o rest x there = ⊎_elim
      (λ (here : y ≡ x). inl (subst (λ (z : Transaction S Q). Has (y ∷ front ++ rest) z) here (has 0 refl)))
      (λ (later : Has (front ++ o ∷ rest) x). ⊎_elim
      (λ (kept : Has (front ++ rest) x). inl (has_next y (front ++ rest) kept))
      (λ (gone : o ≡ x). inr gone)
      (parted front o rest x later))
      (has_cons y (front ++ o ∷ rest) there)

  count_here : (h : List (Entry S Q R)) (e : Entry S Q R) (i : ℕ) → closes i e ≡ true → count (closes i) h ≡ 0 → count (closes i) (h ++ e ∷ []) ≡ 1
  count_here h e i t none =
      let sum : count (closes i) (h ++ e ∷ []) ≡ count (closes i) h + (cond (closes i e) 1 0 + 0) = count-append (closes i) h (e ∷ []) in
      let was = rw t at sum in
      omega arith

  closed : (l : IsTest p.same) (w : Core S Q R T) (c : S) (front : List (Transaction S Q)) (o : Transaction S Q) (rest : List (Transaction S Q))
      (how : Outcome R) → (w.clients c).transactions ≡ front ++ o ∷ rest → IsOpenFor p w.book.issues w.book.history c o →
      AllEndOrStay p.same w.book.issues w.book.history w.clients →
      AllEndOrStay p.same w.book.issues (told (closing how w.book.moment) (last_issue p.same c o.invoke_id w.book.issues) w.book.history)
      (put p.same w.clients c (record (w.clients c) { transactions = front ++ rest }))
  closed l w c front o rest how place it all =
      subst (λ (z : Option ℕ). AllEndOrStay p.same w.book.issues (told (closing how w.book.moment) z h) clients) (sym it.last) each
    where
      h : List (Entry S Q R)
      h = w.book.history

      e : Entry S Q R
      e = closing how w.book.moment it.i

      next : Client S Q
      next = record (w.clients c) { transactions = front ++ rest }

      clients : S → Client S Q
      clients = put p.same w.clients c next

      -- another issue than that of the transaction
      elsewhere : (i : ℕ) (k : S) (q : Q) (moment : ℕ) → (it.i ≡ i → ⊥) → EndsOrStays p.same w.book.issues h k (w.clients k).transactions i q moment →
          EndsOrStays p.same w.book.issues (h ++ e ∷ []) k (clients k).transactions i q moment
      elsewhere i k q moment other was = ⊎_elim
          (λ (done : count (closes i) h ≡ 1). inl (count_other (closes i) h e (closing_closes how w.book.moment it.i i ∙ ne_eqb it.i i other) ∙ done))
          (λ (stays : Stays p.same w.book.issues k (w.clients k).transactions i q moment).
          at_put l w.book.issues (h ++ e ∷ []) w.clients c next i q moment k
          (λ same. inr (left i k q moment other same stays))
          (λ apart. inr stays))
          was
        where
          left : (i : ℕ) (k : S) (q : Q) (moment : ℕ) → (it.i ≡ i → ⊥) → k ≡ c → Stays p.same w.book.issues k (w.clients k).transactions i q moment →
              Stays p.same w.book.issues c (front ++ rest) i q moment
          left i k q moment other same stays =
              let at_c : Stays p.same w.book.issues c (w.clients c).transactions i q moment =
              subst (λ (z : S). Stays p.same w.book.issues z (w.clients z).transactions i q moment) same stays in
              ⊎_elim
              (λ (kept : Has (front ++ rest) at_c.o).
              record { o = at_c.o; there = kept; request = at_c.request; at = at_c.at; last = at_c.last })
              (λ (gone : o ≡ at_c.o). absurd (other (same_Some _ _ (sym it.last ∙ ap (λ (z : Transaction S Q). last_issue p.same c z.invoke_id w.book.issues) gone
              ∙ at_c.last))))
              (parted front o rest at_c.o (subst (λ (os : List (Transaction S Q)). Has os at_c.o) place at_c.there))

      each : AllEndOrStay p.same w.book.issues (h ++ e ∷ []) clients
      each i k n q moment there = ⊎_elim
          (λ (was : Has h (Issue i k n q moment)). ⊎_elim
          (λ (same : it.i ≡ i). inl (count_here h e i (closing_closes how w.book.moment it.i i ∙ eq-eqb it.i i same)
          (subst (λ m. count (closes m) h ≡ 0) same it.unclosed)))
          (λ (other : it.i ≡ i → ⊥). elsewhere i k q moment other (all i k n q moment was))
          (cases_eq it.i i))
          (λ (new : e ≡ Issue i k n q moment). absurd (closing_other how w.book.moment it.i i k n q moment new))
          (has_split h e there)

  -- each happening
  happens_well : (s : Site S T) (l : IsLawful p) (w : Core S Q R T) (h : Happening S Q R T) → IsHonest p s w h → Inv p s w →
      AllEndOrStay p.same w.book.issues w.book.history w.clients →
      AllEndOrStay p.same (happens p s w h).book.issues (happens p s w h).book.history (happens p s w h).clients
  happens_well s l w (Ticks n) honest v all = all
  happens_well s l w (Issues c d n q chunk room) honest v all = issued_new l.test w c d n q chunk room honest _ refl refl refl refl all
  happens_well s l w (Client_asks c o part) honest v all = all
  happens_well s l w (Client_becomes c st) honest v all = becomes l.test w c st honest all
  happens_well s l w (Closes c front o rest how) honest v all =
      closed l.test w c front o rest how honest.place (open_placed p s w c front o rest honest.place v) all
  happens_well s l w (Device_tells d k part) honest v all = all
  happens_well s l w (Device_becomes d st) honest v all = all
  happens_well s l w (Executes d q k st) honest v all =
      executed w.book.issues w.book.history w.clients (p.reply (w.devices d).table q) w.book.moment
      (last_issue p.same k.client k.invoke_id w.book.issues) all
  happens_well s l w (Announces d n) honest v all = all
  happens_well s l w (Restarts d n) honest v all =
      entered w.book.issues w.book.history w.clients (Restarted n w.book.moment) (λ i c m q moment e. (cc)) (λ i. refl) all
  happens_well s l w (Says_no d to id why) honest v all = all
  happens_well s l w (Says_other d to) honest v all = all

  -- each of a list, behind those that were
  all_run : (s : Site S T) (l : IsLawful p) (f : IsSite p s) (done hs : List (Happening S Q R T)) (w : Core S Q R T) → w ≡ after_all p s done →
      AreHonest p s done → IsHonestRun p s hs w → AllEndOrStay p.same w.book.issues w.book.history w.clients →
      AllEndOrStay p.same (run p s hs w).book.issues (run p s hs w).book.history (run p s hs w).clients
  all_run s l f done [] w is honest on all = all
  all_run s l f done (h ∷ hs) w is honest on all =
      all_run s l f (done ++ h ∷ []) hs (happens p s w h)
      (ap (λ (z : Core S Q R T). happens p s z h) is ∙ sym (run_more p s done (h ∷ []) (start p s)))
      (honest_more p s done (h ∷ []) (start p s) honest (subst (λ (z : Core S Q R T). IsHonestRun p s (h ∷ []) z) is (on.0, tt)))
      on.1
      (happens_well s l w h on.0 (subst (λ (z : Core S Q R T). Inv p s z) (sym is) (from_start p s l f done honest)) all)

  pub all_accounted : (s : Site S T) (l : IsLawful p) (f : IsSite p s) (hs : List (Happening S Q R T)) → AreHonest p s hs →
      IssuesAreAccountedFor p (after_all p s hs)
  all_accounted s l f hs honest i c n q moment there = ⊎_elim
      (λ (closed : count (closes i) w.book.history ≡ 1). inl closed)
      (λ (stays : Stays p.same w.book.issues c (w.clients c).transactions i q moment).
      inr (record { transaction = stays.o; there = stays.there; request = stays.request; at = stays.at; last = stays.last }))
      (all_run s l f [] hs (start p s) refl tt honest (λ i c n q moment k. absurd (none_has k)) i c n q moment there)
    where
      w : Core S Q R T
      w = after_all p s hs

  -- a transaction that is open is of an issue that isn't closed
  pub all_unclosed : (s : Site S T) (w : Core S Q R T) → Inv p s w → OpenAreUnclosed p w
  all_unclosed s w v c o there =
      let it = open_of p s w c o there v in
      record {
        i = it.i;
        instance = it.x.instance;
        issue = subst (λ m. Has w.book.history (Issue it.i c it.x.instance o.request m)) it.moment
            (subst (λ z. Has w.book.history (Issue it.i c it.x.instance z it.x.moment)) it.request
            (subst (λ z. Has w.book.history (Issue it.i z it.x.instance it.x.request it.x.moment)) it.client (v.good.listed it.i it.x it.row)));
        last = it.last;
        none = it.unclosed;
      }
