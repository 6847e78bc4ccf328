-- What holds of a client at each moment.
use Rattle.std.proofs.Common.{Bool, suc, zero, ◌≡◌, ◌≢◌, ◌⊎◌, ℕ, ◌+◌, ◌<◌, ◌≤◌, true, false, List, [], ◌∷◌, ◌++◌, length, take, Some, refl, sym, ap, ◌∙◌, subst}
use Rattle.std.proofs.Common.{inl, inr, ⊎_elim, arith, get_or-set_same, get_or-set_other}
use Rattle.std.specs.Prelude.{slice_get, slice_set, slice_index, ◌==◌, ◌*◌}
use Rattle.std.specs.List.{list_any}
use Rattle.std.proofs.Math.ListN.{length-set}
use Rattle.std.proofs.lemmas.List.Folds.{list_any-append}
use Rattle.std.proofs.lemmas.Bool.{cases_eq, eqb-false, eq-eqb, ne_eqb, or_parts, or_from, or_left, or_right, both_ways}
use Rattle.std.proofs.lemmas.Option.{same_Some}
use Rattle.history.specs.declared.Entry.{Entry}
use Rattle.history.specs.declared.Entry.TheVariants.{Executed}
use Rattle.profile.specs.Times.{REUSE_MS}
use Rattle.history.specs.Lists.{Has, count}
use Rattle.history.specs.Tests.{IsTest}
use Rattle.history.specs.Book.{Issued, Complex, Book, last_issue}
use Rattle.history.specs.Legal.{closes}
use Rattle.history.proofs.Lists.{has, has_next, get_front, get_last, get_split, has_front, count_other}
use Rattle.history.proofs.Last.{last_is_new, last_is_other}
use Rattle.headline.specs.Protocol.{Protocol, Site}
use Rattle.headline.specs.Stations.{Transaction, Binding, Client, issued}
use Rattle.headline.specs.Honest.{MayIssue, IsTaken, GoesOn, AllGoOn, IsAnnounced, ClientGoesOn}

-- a transaction of the list has this invoke ID
abbrev pub is_open : {S Q : Type 0} → ℕ → List (Transaction S Q) → Bool
is_open id ts = list_any (λ t. t.invoke_id == id) ts

-- these are the first pieces of the answer of an execution of the issue
pub record OfAnswer {S Q R T : Type 0} (p : Protocol S Q R T) (history : List (Entry S Q R)) (i : ℕ) (x : Issued S Q) (n : ℕ) (got : List ℕ) : Type 0 where
  pub r : R
  pub e : ℕ
  pub was : Has history (Executed i r e)
  pub body : List ℕ
  pub body_is : p.answer x.request r ≡ Complex body
  pub front : got ≡ take (n * x.room) body

-- the pieces of an answer so far: none, or the first ones of the issue's
abbrev pub AreOfAnswer : {S Q R T : Type 0} (p : Protocol S Q R T) → List (Entry S Q R) → ℕ → Issued S Q → ℕ → List ℕ → Type 0
AreOfAnswer p history i x n got = ((n ≡ 0) × (got ≡ [])) ⊎ OfAnswer p history i x n got

answer_later : {S Q R T : Type 0} (p : Protocol S Q R T) (history later : List (Entry S Q R)) (i : ℕ) (x : Issued S Q) (n : ℕ) (got : List ℕ) →
    AreOfAnswer p history i x n got → AreOfAnswer p (history ++ later) i x n got
answer_later p history later i x n got h =
    ⊎_elim (λ (none : (n ≡ 0) × (got ≡ [])). inl none)
    (λ (some : OfAnswer p history i x n got). inr
    (record { r = some.r; e = some.e; was = has_front history later some.was; body = some.body; body_is = some.body_is; front = some.front })) h

-- the transaction is of the last issue under its invoke ID, which has neither an answer nor an end
pub record IsOpenFor {S Q R T : Type 0} (p : Protocol S Q R T) (issues : List (Issued S Q)) (history : List (Entry S Q R)) (c : S)
    (o : Transaction S Q) : Type 0 where
  pub i : ℕ
  pub x : Issued S Q
  pub row : slice_get issues i ≡ Some x
  pub client : x.client ≡ c
  pub key : x.invoke_id ≡ o.invoke_id
  pub device : x.device ≡ o.device
  pub request : x.request ≡ o.request
  pub chunk_is : x.chunk ≡ o.chunk
  pub room_is : x.room ≡ o.room
  pub moment : x.moment ≡ o.moment
  pub last : last_issue p.same c o.invoke_id issues ≡ Some i
  pub unclosed : count (closes i) history ≡ 0
  pub gathered : AreOfAnswer p history i x o.pieces o.got

abbrev pub AreOpenFor : {S Q R T : Type 0} (p : Protocol S Q R T) → List (Issued S Q) → List (Entry S Q R) → S → List (Transaction S Q) → Type 0
AreOpenFor p issues history c [] = Unit {0}
AreOpenFor p issues history c (o ∷ os) = IsOpenFor p issues history c o × (is_open o.invoke_id os ≡ false) × AreOpenFor p issues history c os

-- what a client keeps, whatever happens
pub record ClientOk {S Q R T : Type 0} (p : Protocol S Q R T) (s : Site S T) (issues : List (Issued S Q)) (history : List (Entry S Q R)) (c : S)
    (st : Client S Q) : Type 0 where
  pub opens : AreOpenFor p issues history c st.transactions
  pub free : (i : ℕ) (x : Issued S Q) → slice_get issues i ≡ Some x → x.client ≡ c → x.moment + REUSE_MS ≤ slice_index st.free_from x.invoke_id
  pub next_in : st.next < 256
  pub sized : length st.free_from ≡ 256
  pub known : (x : Binding S) → Has st.bindings x → s.instance_of x.station ≡ Some x.instance

here_open : {S Q : Type 0} (o : Transaction S Q) (os : List (Transaction S Q)) → is_open o.invoke_id (o ∷ os) ≡ true
here_open o os = or_left (o.invoke_id == o.invoke_id) (is_open o.invoke_id os) (eq-eqb o.invoke_id o.invoke_id refl)

-- none has this invoke ID
not_open : {S Q : Type 0} (id : ℕ) (os : List (Transaction S Q)) → ((o : Transaction S Q) → Has os o → o.invoke_id ≡ id → ⊥) → is_open id os ≡ false
not_open id [] none = refl
not_open id (o ∷ os) none = or_from _ _ (ne_eqb o.invoke_id id (λ e. none o (has 0 refl) e)) (not_open id os (λ t h e. none t (has_next o os h) e))

-- an entry that closes none of these
pub opens_entered : {S Q R T : Type 0} (p : Protocol S Q R T) (issues : List (Issued S Q)) (history : List (Entry S Q R)) (c : S)
    (os : List (Transaction S Q)) (e : Entry S Q R) →
    ((i : ℕ) (x : Issued S Q) → slice_get issues i ≡ Some x → x.client ≡ c → is_open x.invoke_id os ≡ true → closes i e ≡ false) →
    AreOpenFor p issues history c os → AreOpenFor p issues (history ++ e ∷ []) c os
opens_entered p issues history c [] e safe h = tt
opens_entered p issues history c (o ∷ os) e safe h =
    let a = h.0 in
    let mine : is_open a.x.invoke_id (o ∷ os) ≡ true = subst (λ n. is_open n (o ∷ os) ≡ true) (sym a.key) (here_open o os) in
    let quiet = safe a.i a.x a.row a.client mine in (
      record {
        i = a.i;
        x = a.x;
        row = a.row;
        client = a.client;
        key = a.key;
        device = a.device;
        request = a.request;
        chunk_is = a.chunk_is;
        room_is =
            a.room_is;
        moment = a.moment;
        last = a.last;
        unclosed = count_other (closes a.i) history e quiet ∙ a.unclosed;
        gathered =
            answer_later p history (e ∷ []) a.i a.x o.pieces o.got a.gathered;
      },
      h.1,
      opens_entered p issues history c os e (λ i x row k t. safe i x row k (or_right (o.invoke_id == _) _ t)) h.2,
    )

-- an issue of another client or invoke ID
opens_issued : {S Q R T : Type 0} (p : Protocol S Q R T) (t : IsTest p.same) (issues : List (Issued S Q)) (history : List (Entry S Q R)) (c : S)
    (os : List (Transaction S Q)) (x : Issued S Q) → (x.client ≡ c → is_open x.invoke_id os ≡ true → ⊥) → AreOpenFor p issues history c os →
    AreOpenFor p (issues ++ x ∷ []) history c os
opens_issued p t issues history c [] x other h = tt
opens_issued p t issues history c (o ∷ os) x other h =
    let a = h.0 in
    let apart : x.client ≡ c → x.invoke_id ≡ o.invoke_id → ⊥ = λ k l. other k (subst (λ n. is_open n (o ∷ os) ≡ true) (sym l) (here_open o os)) in (
      record {
        i = a.i;
        x = a.x;
        row = get_front issues (x ∷ []) a.i a.x a.row;
        client = a.client;
        key = a.key;
        device = a.device;
        request =
            a.request;
        chunk_is = a.chunk_is;
        room_is = a.room_is;
        moment = a.moment;
        last = last_is_other t c o.invoke_id issues x apart ∙ a.last;
        unclosed =
            a.unclosed;
        gathered = a.gathered;
      },
      h.1,
      opens_issued p t issues history c os x (λ k u. other k (or_right (o.invoke_id == _) _ u)) h.2,
    )

-- one more
opens_more : {S Q R T : Type 0} (p : Protocol S Q R T) (issues : List (Issued S Q)) (history : List (Entry S Q R)) (c : S) (os : List (Transaction S Q))
    (o : Transaction S Q) → is_open o.invoke_id os ≡ false → AreOpenFor p issues history c os → IsOpenFor p issues history c o →
    AreOpenFor p issues history c (os ++ o ∷ [])
opens_more p issues history c [] o fresh h new = (new, refl, tt)
opens_more {S} {Q} {R} {T} p issues history c (k ∷ os) o fresh h new =
    let f = or_parts _ _ fresh in
    let apart : (o.invoke_id == k.invoke_id) ≡ false = ne_eqb o.invoke_id k.invoke_id (λ e. eqb-false k.invoke_id o.invoke_id f.0 (sym e)) in
    let tail : is_open k.invoke_id (os ++ o ∷ []) ≡ false = list_any-append (λ (q : Transaction S Q). q.invoke_id == k.invoke_id) os (o ∷ [])
    ∙ (rw (h.1, apart)) in
    (h.0, tail, opens_more p issues history c os o f.1 h.2 new)

-- one of them, by its place in the list
open_at : {S Q R T : Type 0} (p : Protocol S Q R T) (issues : List (Issued S Q)) (history : List (Entry S Q R)) (c : S) (os : List (Transaction S Q)) (k : ℕ)
    (o : Transaction S Q) → AreOpenFor p issues history c os → slice_get os k ≡ Some o → IsOpenFor p issues history c o
open_at p issues history c [] k o h e = absurd (cc)
open_at p issues history c (x ∷ xs) zero o h e = subst (IsOpenFor p issues history c) (same_Some _ _ e) h.0
open_at p issues history c (x ∷ xs) (suc k) o h e = open_at p issues history c xs k o h.2 e

pub open_has : {S Q R T : Type 0} (p : Protocol S Q R T) (issues : List (Issued S Q)) (history : List (Entry S Q R)) (c : S) (os : List (Transaction S Q))
    (o : Transaction S Q) → AreOpenFor p issues history c os → Has os o → IsOpenFor p issues history c o
open_has p issues history c os o h there = open_at p issues history c os there.place o h there.at_place

-- one of them is taken out of its place: what stays has other invoke IDs
open_middle : {S Q : Type 0} (n : ℕ) (front : List (Transaction S Q)) (o : Transaction S Q) (rest : List (Transaction S Q)) →
    is_open n (front ++ o ∷ rest) ≡ false → (is_open n (front ++ rest) ≡ false) × ((o.invoke_id == n) ≡ false)
open_middle n [] o rest h = let f = or_parts _ _ h in (f.1, f.0)
open_middle n (x ∷ front) o rest h =
    let f = or_parts _ _ h in
    let g = open_middle n front o rest f.1 in
    (or_from _ _ f.0 g.0, g.1)

pub opens_out : {S Q R T : Type 0} (p : Protocol S Q R T) (issues : List (Issued S Q)) (history : List (Entry S Q R)) (c : S) (front : List (Transaction S Q))
    (o : Transaction S Q) (rest : List (Transaction S Q)) → AreOpenFor p issues history c (front ++ o ∷ rest) →
    AreOpenFor p issues history c (front ++ rest) × (is_open o.invoke_id (front ++ rest) ≡ false)
opens_out p issues history c [] o rest h = (h.2, h.1)
opens_out p issues history c (x ∷ front) o rest h =
    let tail = opens_out p issues history c front o rest h.2 in
    let apart = open_middle x.invoke_id front o rest h.1 in
    let other : (x.invoke_id == o.invoke_id) ≡ false = ne_eqb x.invoke_id o.invoke_id (λ e. eqb-false o.invoke_id x.invoke_id apart.1 (sym e)) in
    ((h.0, apart.0, tail.0), or_from _ _ other tail.1)

-- transactions go on, each in its place
on_id : {S Q R : Type 0} (b : Book S Q R) (c : S) (o next : Transaction S Q) → GoesOn b c o next → next.invoke_id ≡ o.invoke_id
on_id {S} {Q} {R} b c o next h = ⊎_elim
    (λ (same : next ≡ o). ap (λ (z : Transaction S Q). z.invoke_id) same)
    (λ (new : (next ≡ record o { pieces = 0; got = [] }) ⊎ IsTaken b c o next). ⊎_elim
    (λ (none : next ≡ record o { pieces = 0; got = [] }). ap (λ (z : Transaction S Q). z.invoke_id) none)
    (λ (more : IsTaken b c o next). ap (λ (z : Transaction S Q). z.invoke_id) more.joined)
    new)
    h

on_open : {S Q R : Type 0} (b : Book S Q R) (c : S) (n : ℕ) (xs ys : List (Transaction S Q)) → AllGoOn b c xs ys → is_open n xs ≡ false → is_open n ys ≡ false
on_open b c n [] [] on h = refl
on_open b c n [] (y ∷ ys) on h = absurd on
on_open b c n (x ∷ xs) [] on h = absurd on
on_open b c n (x ∷ xs) (y ∷ ys) on h = let f = or_parts _ _ h in or_from _ _ (ap (λ z. z == n) (on_id b c x y on.0) ∙ f.0) (on_open b c n xs ys on.1 f.1)

open_with : {S Q R T : Type 0} (p : Protocol S Q R T) (issues : List (Issued S Q)) (history : List (Entry S Q R)) (c : S) (o : Transaction S Q) (n : ℕ)
    (got : List ℕ) → (a : IsOpenFor p issues history c o) → AreOfAnswer p history a.i a.x n got →
    IsOpenFor p issues history c (record o { pieces = n; got = got })
open_with p issues history c o n got a new =
    record {
      i = a.i;
      x = a.x;
      row = a.row;
      client = a.client;
      key = a.key;
      device = a.device;
      request = a.request;
      chunk_is = a.chunk_is;
      room_is =
          a.room_is;
      moment = a.moment;
      last = a.last;
      unclosed = a.unclosed;
      gathered = new;
    }

-- what a taken piece makes of a transaction
abbrev pub TakesWell : {S Q R T : Type 0} (p : Protocol S Q R T) → Book S Q R → S → Type 0
TakesWell {S} {Q} p b c = (o next : Transaction S Q) → (a : IsOpenFor p b.issues b.history c o) → (t : IsTaken b c o next) →
    AreOfAnswer p b.history a.i a.x (suc o.pieces) (o.got ++ t.octets)

open_on : {S Q R T : Type 0} (p : Protocol S Q R T) (b : Book S Q R) (c : S) (o next : Transaction S Q) → TakesWell p b c → GoesOn b c o next →
    IsOpenFor p b.issues b.history c o → IsOpenFor p b.issues b.history c next
open_on {S} {Q} {R} {T} p b c o next well h a = ⊎_elim
    (λ (same : next ≡ o). subst (IsOpenFor p b.issues b.history c) (sym same) a)
    (λ (new : (next ≡ record o { pieces = 0; got = [] }) ⊎ IsTaken b c o next). ⊎_elim
    (λ (none : next ≡ record o { pieces = 0; got = [] }). subst (IsOpenFor p b.issues b.history c) (sym none)
    (open_with p b.issues b.history c o 0 [] a (inl (refl, refl))))
    (λ (more : IsTaken b c o next). subst (IsOpenFor p b.issues b.history c) (sym more.joined)
    (open_with p b.issues b.history c o (suc o.pieces) (o.got ++ more.octets) a (well o next a more)))
    new)
    h

opens_on : {S Q R T : Type 0} (p : Protocol S Q R T) (b : Book S Q R) (c : S) (xs ys : List (Transaction S Q)) → TakesWell p b c → AllGoOn b c xs ys →
    AreOpenFor p b.issues b.history c xs → AreOpenFor p b.issues b.history c ys
opens_on p b c [] [] well on h = tt
opens_on p b c [] (y ∷ ys) well on h = absurd on
opens_on p b c (x ∷ xs) [] well on h = absurd on
opens_on p b c (x ∷ xs) (y ∷ ys) well on h = (
  open_on p b c x y well on.0 h.0,
  subst (λ n. is_open n ys ≡ false) (sym (on_id b c x y on.0)) (on_open b c x.invoke_id xs ys on.1 h.1),
  opens_on p b c xs ys well on.1 h.2,
)

-- the client goes on with nothing issued and nothing closed
pub client_goes_on : {S Q R T : Type 0} (p : Protocol S Q R T) (s : Site S T) (b : Book S Q R) (c : S) (st next : Client S Q) → ClientGoesOn b c st next →
    TakesWell p b c → ((x : Binding S) → IsAnnounced b c x → s.instance_of x.station ≡ Some x.instance) → ClientOk p s b.issues b.history c st →
    ClientOk p s b.issues b.history c next
client_goes_on {S} {Q} {R} {T} p s b c st next on well names k = record {
  opens = opens_on p b c st.transactions next.transactions well on.transactions k.opens;
  free = λ i x row mine. subst (λ f. x.moment + REUSE_MS ≤ slice_index f x.invoke_id) (sym on.free) (k.free i x row mine);
  next_in = let e = on.next_is in let l = k.next_in in omega arith;
  sized = ap (λ l. length l) on.free ∙ k.sized;
  known = λ x h. ⊎_elim (λ (was : Has st.bindings x). k.known x was) (λ (new : IsAnnounced b c x). names x new) (on.bindings x h);
}

-- the next invoke ID is free
pub record IsFree {S Q : Type 0} (issues : List (Issued S Q)) (now : ℕ) (c : S) (st : Client S Q) : Type 0 where
  pub fresh : is_open st.next st.transactions ≡ false
  pub apart : (i : ℕ) (x : Issued S Q) → slice_get issues i ≡ Some x → x.client ≡ c → x.invoke_id ≡ st.next → x.moment + REUSE_MS ≤ now

pub free_from_may : {S Q R T : Type 0} (p : Protocol S Q R T) (s : Site S T) (issues : List (Issued S Q)) (history : List (Entry S Q R)) (now : ℕ) (c : S)
    (st : Client S Q) (d : S) (n : ℕ) (q : Q) → ClientOk p s issues history c st → MayIssue p now st d n q → IsFree issues now c st
free_from_may p s issues history now c st d n q k may = record {
  fresh = not_open st.next st.transactions may.unused;
  apart = λ i x row mine same.
      let was = k.free i x row mine in
      let then : x.moment + REUSE_MS ≤ slice_index st.free_from st.next = subst (λ m. x.moment + REUSE_MS ≤ slice_index st.free_from m) same was in
      let free = may.free in
      omega arith;
}

-- the client after it issued a request
pub client_issues : {S Q R T : Type 0} (p : Protocol S Q R T) (s : Site S T) (l : IsTest p.same) (issues : List (Issued S Q)) (history : List (Entry S Q R))
    (x : Issued S Q) (st : Client S Q) → x.invoke_id ≡ st.next → ClientOk p s issues history x.client st → IsFree issues x.moment x.client st →
    count (closes (length issues)) history ≡ 0 → ClientOk p s (issues ++ x ∷ []) history x.client (issued x.moment x.device x.request x.chunk x.room st)
client_issues {S} {Q} {R} {T} p s l issues history x st id_is k may unclosed = record {
  opens = opens_more p _ history x.client st.transactions _ may.fresh
      (opens_issued p l issues history x.client st.transactions x (λ _ t. both_ways _ may.fresh (subst (λ n. is_open n st.transactions ≡ true) id_is t))
      k.opens)
      (record {
        i = length issues;
        x = x;
        row = get_last issues x;
        client = refl;
        key = id_is;
        device = refl;
        request = refl;
        chunk_is = refl;
        room_is =
            refl;
        moment = refl;
        last = last_is_new l x.client st.next issues x refl id_is;
        unclosed = unclosed;
        gathered = inl (refl, refl);
      });
  free = λ i y row mine. ⊎_elim
      (λ (was : slice_get issues i ≡ Some y). ⊎_elim
      (λ (same : y.invoke_id ≡ st.next). let then = may.apart i y was mine same in at_next y.invoke_id same (omega arith))
      (λ (other : y.invoke_id ≢ st.next). let then = k.free i y was mine in
      rw (get_or-set_other st.free_from st.next y.invoke_id (x.moment + REUSE_MS) 0 other) then)
      (cases_eq y.invoke_id st.next))
      (λ (fresh : (i ≡ length issues) × (x ≡ y)). at_next y.invoke_id (sym (ap (λ (z : Issued S Q). z.invoke_id) fresh.1) ∙ id_is)
      (let e : x.moment ≡ y.moment = ap (λ (z : Issued S Q). z.moment) fresh.1 in omega arith))
      (get_split issues x i y row);
  next_in = omega arith;
  sized = length-set st.free_from st.next (x.moment + REUSE_MS) ∙ k.sized;
  known = k.known;
}
  where
    at_next : (n : ℕ) → n ≡ st.next → {a : ℕ} → a ≤ x.moment → a + REUSE_MS ≤ slice_index (slice_set st.free_from st.next (x.moment + REUSE_MS)) n
    at_next n e {a} m =
        let within : st.next < length st.free_from = (let s = k.sized in let m = k.next_in in omega arith) in
        rw (e, get_or-set_same st.free_from st.next (x.moment + REUSE_MS) 0 within) (omega arith)

-- the client after a transaction was taken out
pub client_closes : {S Q R T : Type 0} (p : Protocol S Q R T) (s : Site S T) (issues : List (Issued S Q)) (history : List (Entry S Q R)) (c : S)
    (os : List (Transaction S Q)) (st : Client S Q) → AreOpenFor p issues history c os → ClientOk p s issues history c st →
    ClientOk p s issues history c (record st { transactions = os })
client_closes p s issues history c os st opens k = record { opens = opens; free = k.free; next_in = k.next_in; sized = k.sized; known = k.known }

pub client_entered : {S Q R T : Type 0} (p : Protocol S Q R T) (s : Site S T) (issues : List (Issued S Q)) (history : List (Entry S Q R)) (c : S)
    (st : Client S Q) (e : Entry S Q R) → ((i : ℕ) (x : Issued S Q) → slice_get issues i ≡ Some x → x.client ≡ c →
    is_open x.invoke_id st.transactions ≡ true → closes i e ≡ false) → ClientOk p s issues history c st → ClientOk p s issues (history ++ e ∷ []) c st
client_entered p s issues history c st e safe k =
    record { opens = opens_entered p issues history c st.transactions e safe k.opens; free = k.free; next_in = k.next_in; sized = k.sized; known = k.known }

-- an issue of another client
pub client_other : {S Q R T : Type 0} (p : Protocol S Q R T) (s : Site S T) (l : IsTest p.same) (issues : List (Issued S Q)) (history : List (Entry S Q R))
    (c : S) (st : Client S Q) (x : Issued S Q) → (x.client ≡ c → ⊥) → ClientOk p s issues history c st → ClientOk p s (issues ++ x ∷ []) history c st
client_other {S} {Q} {R} {T} p s l issues history c st x other k = record {
  opens = opens_issued p l issues history c st.transactions x (λ e _. other e) k.opens;
  free = λ i y row mine. ⊎_elim (λ (was : slice_get issues i ≡ Some y). k.free i y was mine)
      (λ (new : (i ≡ length issues) × (x ≡ y)). absurd (other (ap (λ (z : Issued S Q). z.client) new.1 ∙ mine))) (get_split issues x i y row);
  next_in = k.next_in;
  sized = k.sized;
  known = k.known;
}
