-- What holds of the book at each moment, and what may be added to it.
use Rattle.std.proofs.Common.{◌≡◌, ◌⊎◌, ℕ, zero, suc, ◌+◌, ◌<◌, ◌≤◌, Bool, true, false, cond, List, [], ◌∷◌, ◌++◌, length, Some, None, refl, sym, ap, ◌∙◌}
use Rattle.std.proofs.Common.{subst, ⊎_elim, arith, length-append}
use Rattle.std.specs.Prelude.{slice_get, ◌==◌}
use Rattle.std.proofs.lemmas.List.{take_all}
use Rattle.std.proofs.lemmas.Bool.{cases_order, eq-eqb}
use Rattle.std.proofs.lemmas.Option.{slice_get_within, same_Some}
use Rattle.history.specs.declared.Entry.{Entry}
use Rattle.history.specs.declared.Entry.TheVariants.{Issue, Executed, Answered}
use Rattle.profile.specs.Times.{DEADLINE_MS, KEEP_MS, LIFE_MS, REUSE_MS}
use Rattle.history.specs.Lists.{Has, count, first_of}
use Rattle.history.specs.Tests.{IsTest}
use Rattle.history.specs.Pieces.{piece, has_more}
use Rattle.history.specs.Book.{Issued, Head, Answer, Complex, Body, Asks, Asks_piece, Tells, Tells_piece, Refuses, I_am, Other, Unicast, Message, Book}
use Rattle.history.specs.Book.{last_issue}
use Rattle.history.specs.Legal.{is_issue, told_of, executes, closes, AreNumbered, IsIssuedBefore, StandAfterIssue, AreExecutedOnce, IsExecutedBefore}
use Rattle.history.specs.Legal.{AnswersWereExecuted, AreClosedOnce, Named, named_in}
use Rattle.history.proofs.Lists.{get_front, get_split, has_front, has_last, has_split, has_either, take_front, count-append, count_one, count_other}
use Rattle.history.proofs.Lists.{two_counted, get_added}
use Rattle.history.proofs.Last.{last_is}
use Rattle.history.proofs.Past.{named_entered, named_issued}
use Rattle.headline.specs.Protocol.{Protocol, Site}
use Rattle.headline.specs.Happenings.{with_said, with_entry, issue_of, with_issue}

-- the request was said for an issue of that client, under that ID, for that device, before its deadline
pub record WasAsked {S Q R T : Type 0} (p : Protocol S Q R T) (issues : List (Issued S Q)) (m : Message S) (id : ℕ) (head : Head) : Type 0 where
  pub i : ℕ
  pub x : Issued S Q
  pub row : slice_get issues i ≡ Some x
  pub client : x.client ≡ m.from
  pub key : x.invoke_id ≡ id
  pub device : m.to ≡ Unicast x.device
  pub head_is : head ≡ record { service = p.service x.request; room = x.room }
  pub before : m.stamp < x.moment + DEADLINE_MS

pub record AskedWhole {S Q R T : Type 0} (p : Protocol S Q R T) (issues : List (Issued S Q)) (m : Message S) (id : ℕ) (head : Head) (octets : List ℕ) : Type
    0 where
  pub was : WasAsked p issues m id head
  pub whole : octets ≡ p.request_octets was.x.request

pub record AskedPiece {S Q R T : Type 0} (p : Protocol S Q R T) (issues : List (Issued S Q)) (m : Message S) (id : ℕ) (head : Head) (n : ℕ) (more : Bool)
    (octets : List ℕ) : Type 0 where
  pub was : WasAsked p issues m id head
  pub part : octets ≡ piece was.x.chunk n (p.request_octets was.x.request)
  pub more_is : more ≡ has_more was.x.chunk n (p.request_octets was.x.request)

-- the answer was said for an execution of an issue of that client under that ID, while its record lived
pub record WasTold {S Q R : Type 0} (issues : List (Issued S Q)) (history : List (Entry S Q R)) (m : Message S) (id : ℕ) : Type 0 where
  pub i : ℕ
  pub x : Issued S Q
  pub r : R
  pub e : ℕ
  pub row : slice_get issues i ≡ Some x
  pub client : m.to ≡ Unicast x.client
  pub key : x.invoke_id ≡ id
  pub was : Has history (Executed i r e)
  pub before : m.stamp ≤ e + KEEP_MS

pub record ToldWhole {S Q R T : Type 0} (p : Protocol S Q R T) (issues : List (Issued S Q)) (history : List (Entry S Q R)) (m : Message S) (id : ℕ)
    (a : Answer) : Type 0 where
  pub it : WasTold issues history m id
  pub whole : a ≡ p.answer it.x.request it.r

pub record ToldPiece {S Q R T : Type 0} (p : Protocol S Q R T) (issues : List (Issued S Q)) (history : List (Entry S Q R)) (m : Message S) (id n : ℕ)
    (more : Bool) (octets : List ℕ) : Type 0 where
  pub it : WasTold issues history m id
  pub body : List ℕ
  pub body_is : p.answer it.x.request it.r ≡ Complex body
  pub part : octets ≡ piece it.x.room n body
  pub more_is : more ≡ has_more it.x.room n body

-- what may be said as this body
abbrev pub SaidAs : {S Q R T : Type 0} (p : Protocol S Q R T) (s : Site S T) → List (Issued S Q) → List (Entry S Q R) → Message S → Body → Type 0
SaidAs p s issues history m (Asks id head octets) = AskedWhole p issues m id head octets
SaidAs p s issues history m (Asks_piece id head n more octets) = AskedPiece p issues m id head n more octets
SaidAs p s issues history m (Tells id a) = ToldWhole p issues history m id a
SaidAs p s issues history m (Tells_piece id n more octets) = ToldPiece p issues history m id n more octets
SaidAs p s issues history m (Refuses id why) = Unit {0}
SaidAs p s issues history m (I_am n) = s.instance_of m.from ≡ Some n
SaidAs p s issues history m Other = Unit {0}

-- an execution comes while a sending of its request can be heard, and has the reply of a sound table
pub record InTime {S Q R T : Type 0} (p : Protocol S Q R T) (issues : List (Issued S Q)) (i : ℕ) (r : R) (e : ℕ) : Type 0 where
  pub x : Issued S Q
  pub row : slice_get issues i ≡ Some x
  pub from : x.moment ≤ e
  pub until : e < x.moment + DEADLINE_MS + LIFE_MS
  pub table : T
  pub sound : p.IsSoundTable table
  pub reply_is : r ≡ p.reply table x.request

-- the row that an issue has
abbrev pub HasRow : {S Q : Type 0} → List (Issued S Q) → ℕ → Type 0
HasRow {S} {Q} issues i = (x : Issued S Q) × (slice_get issues i ≡ Some x)

-- what the issues name
abbrev pub name_of : {S Q : Type 0} → Issued S Q → Named Q
name_of x = record { instance = x.instance; request = x.request }

abbrev pub names : {S Q : Type 0} → List (Issued S Q) → List (Named Q)
names [] = []
names (x ∷ xs) = name_of x ∷ names xs

-- what the book keeps, whatever happens
pub record Good {S Q R T : Type 0} (p : Protocol S Q R T) (s : Site S T) (b : Book S Q R) : Type 0 where
  pub past : (i : ℕ) (x : Issued S Q) → slice_get b.issues i ≡ Some x → x.moment ≤ b.moment
  pub spaced : (i j : ℕ) (x y : Issued S Q) → i < j → slice_get b.issues i ≡ Some x → slice_get b.issues j ≡ Some y → x.client ≡ y.client →
      x.invoke_id ≡ y.invoke_id → x.moment + REUSE_MS ≤ y.moment
  pub sound : (i : ℕ) (x : Issued S Q) → slice_get b.issues i ≡ Some x → p.IsSound x.request
  pub bound_to : (i : ℕ) (x : Issued S Q) → slice_get b.issues i ≡ Some x → s.instance_of x.device ≡ Some x.instance
  pub said_ok : (m : Message S) → Has b.said m → SaidAs p s b.issues b.history m m.body
  pub in_time : (i : ℕ) (r : R) (e : ℕ) → Has b.history (Executed i r e) → InTime p b.issues i r e
  pub executed_past : (i : ℕ) (r : R) (e : ℕ) → Has b.history (Executed i r e) → e ≤ b.moment
  pub within : (e : Entry S Q R) (i : ℕ) → Has b.history e → told_of e ≡ Some i → HasRow b.issues i
  pub counted : count is_issue b.history ≡ length b.issues
  pub listed : (i : ℕ) (x : Issued S Q) → slice_get b.issues i ≡ Some x → Has b.history (issue_of i x)
  pub named : (i : ℕ) → named_in b.history i ≡ slice_get (names b.issues) i
  pub numbered : AreNumbered b.history
  pub after_issue : StandAfterIssue b.history
  pub once : AreExecutedOnce b.history
  pub answers : AnswersWereExecuted b.history
  pub closed_once : AreClosedOnce b.history

-- an issue that is young is the last of its client under its ID
pub young_is_last : {S Q R T : Type 0} (p : Protocol S Q R T) (s : Site S T) (t : IsTest p.same) (b : Book S Q R) → Good p s b →
    (i : ℕ) (x : Issued S Q) (c : S) (id : ℕ) → slice_get b.issues i ≡ Some x → x.client ≡ c → x.invoke_id ≡ id → b.moment < x.moment + REUSE_MS →
    last_issue p.same c id b.issues ≡ Some i
young_is_last p s t b g i x c id row k l young =
    last_is t c id b.issues i x row k l (λ j y after other a d. let apart = g.spaced i j x y after row other (k ∙ sym a) (l ∙ sym d) in let now =
    g.past j y other in omega arith)

-- more rows, or more history
abbrev asked_more : {S Q R T : Type 0} (p : Protocol S Q R T) (issues more : List (Issued S Q)) (m : Message S) (id : ℕ) (head : Head) →
    (a : WasAsked p issues m id head) → WasAsked p (issues ++ more) m id head
asked_more p issues more m id head a = record {
  i = a.i;
  x = a.x;
  row = get_front issues more a.i a.x a.row;
  client = a.client;
  key = a.key;
  device =
      a.device;
  head_is = a.head_is;
  before = a.before;
}

abbrev told_more : {S Q R : Type 0} (issues more : List (Issued S Q)) (history later : List (Entry S Q R)) (m : Message S) (id : ℕ) →
    WasTold issues history m id → WasTold (issues ++ more) (history ++ later) m id
told_more issues more history later m id a =
    record {
      i = a.i;
      x = a.x;
      r = a.r;
      e = a.e;
      row = get_front issues more a.i a.x a.row;
      client = a.client;
      key = a.key;
      was =
          has_front history later a.was;
      before = a.before;
    }

abbrev told_later : {S Q R : Type 0} (issues : List (Issued S Q)) (history later : List (Entry S Q R)) (m : Message S) (id : ℕ) →
    WasTold issues history m id → WasTold issues (history ++ later) m id
told_later issues history later m id a = record {
  i = a.i;
  x = a.x;
  r = a.r;
  e = a.e;
  row = a.row;
  client = a.client;
  key = a.key;
  was =
      has_front history later a.was;
  before = a.before;
}

said_more : {S Q R T : Type 0} (p : Protocol S Q R T) (s : Site S T) (issues more : List (Issued S Q)) (history later : List (Entry S Q R)) (m : Message S)
    (y : Body) → SaidAs p s issues history m y → SaidAs p s (issues ++ more) (history ++ later) m y
said_more p s issues more history later m (Asks id head octets) h = record { was = asked_more p issues more m id head h.was; whole = h.whole }
said_more p s issues more history later m (Asks_piece id head n others octets) h =
    record { was = asked_more p issues more m id head h.was; part = h.part; more_is = h.more_is }
said_more p s issues more history later m (Tells id a) h = record { it = told_more issues more history later m id h.it; whole = h.whole }
said_more p s issues more history later m (Tells_piece id n others octets) h =
    record { it = told_more issues more history later m id h.it; body = h.body; body_is = h.body_is; part = h.part; more_is = h.more_is }
said_more p s issues more history later m (Refuses id why) h = tt
said_more p s issues more history later m (I_am n) h = h
said_more p s issues more history later m Other h = tt

said_later : {S Q R T : Type 0} (p : Protocol S Q R T) (s : Site S T) (issues : List (Issued S Q)) (history later : List (Entry S Q R)) (m : Message S)
    (y : Body) → SaidAs p s issues history m y → SaidAs p s issues (history ++ later) m y
said_later p s issues history later m (Asks id head octets) h = h
said_later p s issues history later m (Asks_piece id head n others octets) h = h
said_later p s issues history later m (Tells id a) h = record { it = told_later issues history later m id h.it; whole = h.whole }
said_later p s issues history later m (Tells_piece id n others octets) h =
    record { it = told_later issues history later m id h.it; body = h.body; body_is = h.body_is; part = h.part; more_is = h.more_is }
said_later p s issues history later m (Refuses id why) h = tt
said_later p s issues history later m (I_am n) h = h
said_later p s issues history later m Other h = tt

in_time_more : {S Q R T : Type 0} (p : Protocol S Q R T) (issues more : List (Issued S Q)) (i : ℕ) (r : R) (e : ℕ) → InTime p issues i r e →
    InTime p (issues ++ more) i r e
in_time_more p issues more i r e a = record {
  x = a.x;
  row = get_front issues more i a.x a.row;
  from = a.from;
  until = a.until;
  table = a.table;
  sound =
      a.sound;
  reply_is = a.reply_is;
}

-- the clock goes on
pub good_tick : {S Q R T : Type 0} (p : Protocol S Q R T) (s : Site S T) (b : Book S Q R) (n : ℕ) → Good p s b → Good p s (record b { moment = b.moment + n })
good_tick p s b n g = record {
  past = λ i x row. let old = g.past i x row in omega arith;
  spaced = g.spaced;
  sound = g.sound;
  bound_to = g.bound_to;
  said_ok = g.said_ok;
  in_time = g.in_time;
  executed_past = λ i r e h. let old = g.executed_past i r e h in omega arith;
  within = g.within;
  counted = g.counted;
  listed = g.listed;
  named = g.named;
  numbered = g.numbered;
  after_issue = g.after_issue;
  once = g.once;
  answers = g.answers;
  closed_once = g.closed_once;
}

-- messages are said
pub good_said : {S Q R T : Type 0} (p : Protocol S Q R T) (s : Site S T) (b : Book S Q R) (ms : List (Message S)) → Good p s b →
    ((m : Message S) → Has ms m → SaidAs p s b.issues b.history m m.body) → Good p s (with_said ms b)
good_said {S} {Q} {R} {T} p s b ms g ok = record {
  past = g.past;
  spaced = g.spaced;
  sound = g.sound;
  bound_to = g.bound_to;
  said_ok = λ m h. ⊎_elim (λ (was : Has b.said m). g.said_ok m was) (λ (new : Has ms m). ok m new) (has_either b.said ms h);
  in_time = g.in_time;
  executed_past = g.executed_past;
  within = g.within;
  counted = g.counted;
  listed = g.listed;
  named = g.named;
  numbered = g.numbered;
  after_issue = g.after_issue;
  once = g.once;
  answers = g.answers;
  closed_once = g.closed_once;
}

-- what may be added to the history, other than an issue
pub record MayEnter {S Q R T : Type 0} (p : Protocol S Q R T) (b : Book S Q R) (e : Entry S Q R) : Type 0 where
  pub not_issue : is_issue e ≡ false
  pub issued : (i : ℕ) → told_of e ≡ Some i → HasRow b.issues i
  pub timely : (i : ℕ) (r : R) (t : ℕ) → e ≡ Executed i r t → InTime p b.issues i r t
  pub past : (i : ℕ) (r : R) (t : ℕ) → e ≡ Executed i r t → t ≤ b.moment
  pub first : (i : ℕ) → executes i e ≡ true → count (executes i) b.history ≡ 0
  pub was : (i : ℕ) (r : R) (t : ℕ) → e ≡ Answered i r t → (u : ℕ) × Has b.history (Executed i r u)
  pub unclosed : (i : ℕ) → closes i e ≡ true → count (closes i) b.history ≡ 0

names_more : {S Q : Type 0} (xs : List (Issued S Q)) (x : Issued S Q) → names (xs ++ x ∷ []) ≡ names xs ++ name_of x ∷ []
names_more [] x = refl
names_more (y ∷ xs) x = ap (λ l. name_of y ∷ l) (names_more xs x)

pub names_length : {S Q : Type 0} (xs : List (Issued S Q)) → length (names xs) ≡ length xs
names_length [] = refl
names_length (x ∷ xs) = ap suc (names_length xs)

pub names_get : {S Q : Type 0} (xs : List (Issued S Q)) (i : ℕ) (x : Issued S Q) → slice_get xs i ≡ Some x → slice_get (names xs) i ≡ Some (name_of x)
names_get [] i x e = absurd (cc)
names_get {S} {Q} (y ∷ xs) zero x e = ap (λ (z : Issued S Q). Some (name_of z)) (same_Some _ _ e)
names_get (y ∷ xs) (suc i) x e = names_get xs i x e

-- what stood at a place still does
pub names_still : {S Q : Type 0} (xs : List (Issued S Q)) (x : Issued S Q) (i : ℕ) (y : Issued S Q) → slice_get xs i ≡ Some y →
    slice_get (names xs) i ≡ slice_get (names (xs ++ x ∷ [])) i
names_still xs x i y row = names_get xs i y row ∙ sym (names_get (xs ++ x ∷ []) i y (get_front xs (x ∷ []) i y row))

name_added : {S Q : Type 0} (xs : List (Issued S Q)) (x : Issued S Q) (i : ℕ) →
    slice_get (names (xs ++ x ∷ [])) i ≡ first_of (slice_get (names xs) i) (cond (length xs == i) (Some (name_of x)) None)
name_added xs x i = ap (λ l. slice_get l i) (names_more xs x) ∙ get_added (names xs) (name_of x) i
    ∙ ap (λ n. first_of (slice_get (names xs) i) (cond (n == i) (Some (name_of x)) None)) (names_length xs)

before_later : {S Q R : Type 0} (h later : List (Entry S Q R)) (k i : ℕ) → IsIssuedBefore h k i → IsIssuedBefore (h ++ later) k i
before_later h later k i a = record {
  client = a.client;
  instance = a.instance;
  request = a.request;
  moment = a.moment;
  there =
      has_front h later a.there;
  before = a.before;
}

executed_later : {S Q R : Type 0} (h later : List (Entry S Q R)) (k i : ℕ) (r : R) → IsExecutedBefore h k i r → IsExecutedBefore (h ++ later) k i r
executed_later h later k i r a = record { moment = a.moment; there = has_front h later a.there; before = a.before }

-- an entry that is no issue
pub good_entered : {S Q R T : Type 0} (p : Protocol S Q R T) (s : Site S T) (b : Book S Q R) (e : Entry S Q R) → Good p s b → MayEnter p b e →
    Good p s (with_entry e b)
good_entered {S} {Q} {R} {T} p s b e g may = record {
  past = g.past;
  spaced = g.spaced;
  sound = g.sound;
  bound_to = g.bound_to;
  said_ok = λ m h. said_later p s b.issues b.history (e ∷ []) m m.body (g.said_ok m h);
  in_time = λ i r t h. ⊎_elim (λ (was : Has b.history (Executed i r t)). g.in_time i r t was) (λ (same : e ≡ Executed i r t). may.timely i r t same)
      (has_split b.history e h);
  executed_past = λ i r t h. ⊎_elim (λ (was : Has b.history (Executed i r t)). g.executed_past i r t was) (λ (same : e ≡ Executed i r t). may.past i r t same)
      (has_split b.history e h);
  within = λ f i h n. ⊎_elim (λ (was : Has b.history f). g.within f i was n) (λ (same : e ≡ f). may.issued i (ap (λ (y : Entry S Q R). told_of y) same ∙ n))
      (has_split b.history e h);
  counted = count_other is_issue b.history e may.not_issue ∙ g.counted;
  listed = λ i x row. has_front b.history (e ∷ []) (g.listed i x row);
  named = λ i. named_entered b.history e i may.not_issue ∙ g.named i;
  numbered = λ k i c n q t h. ⊎_elim
      (λ (was : slice_get b.history k ≡ Some (Issue i c n q t)). let l = slice_get_within b.history k _ was in
      ap (count is_issue) (take_front b.history (e ∷ []) k (omega arith)) ∙ g.numbered k i c n q t was)
      (λ (same : (k ≡ length b.history) × (e ≡ Issue i c n q t)). let never : true ≡ false =
      subst (λ (y : Entry S Q R). is_issue y ≡ false) same.1 may.not_issue in absurd (cc))
      (get_split b.history e k _ h);
  after_issue = λ k i f h n. ⊎_elim
      (λ (was : slice_get b.history k ≡ Some f). before_later b.history (e ∷ []) k i (g.after_issue k i f was n))
      (λ (same : (k ≡ length b.history) × (e ≡ f)).
      let found = may.issued i (ap (λ (y : Entry S Q R). told_of y) same.1 ∙ n) in
      let a = g.listed i found.0 found.1 in
      let l = slice_get_within b.history a.place _ a.at_place in
      record {
        client = found.0.client;
        instance = found.0.instance;
        request = found.0.request;
        moment = found.0.moment;
        there =
            has_front b.history (e ∷ []) a;
        before = omega (arith, same.0);
      })
      (get_split b.history e k _ h);
  once = λ i. count_one (executes i) b.history e (may.first i) (g.once i);
  answers = λ k i r t h. ⊎_elim
      (λ (was : slice_get b.history k ≡ Some (Answered i r t)). executed_later b.history (e ∷ []) k i r (g.answers k i r t was))
      (λ (same : (k ≡ length b.history) × (e ≡ Answered i r t)).
      let a = may.was i r t same.1 in
      let l = slice_get_within b.history a.1.place _ a.1.at_place in
      record { moment = a.0; there = has_front b.history (e ∷ []) a.1; before = omega (arith, same.0) })
      (get_split b.history e k _ h);
  closed_once = λ i. count_one (closes i) b.history e (may.unclosed i) (g.closed_once i);
}

-- a new issue, if the last one under its client and ID is long ago
pub good_issued : {S Q R T : Type 0} (p : Protocol S Q R T) (s : Site S T) (b : Book S Q R) (x : Issued S Q) → Good p s b → x.moment ≡ b.moment →
    p.IsSound x.request → s.instance_of x.device ≡ Some x.instance →
    ((i : ℕ) (y : Issued S Q) → slice_get b.issues i ≡ Some y → y.client ≡ x.client → y.invoke_id ≡ x.invoke_id → y.moment + REUSE_MS ≤ x.moment) →
    Good p s (with_issue x b)
good_issued {S} {Q} {R} {T} p s b x g now sound bound_is free = record {
  past = λ i y h. ⊎_elim (λ (was : slice_get b.issues i ≡ Some y). g.past i y was) (λ (same : (i ≡ length b.issues) × (x ≡ y)). let e : x.moment ≡ y.moment =
      ap (λ (z : Issued S Q). z.moment) same.1 in omega arith) (get_split b.issues x i y h);
  spaced = λ i j y z l h k c d. ⊎_elim
      (λ (was : slice_get b.issues j ≡ Some z). ⊎_elim
      (λ (old : slice_get b.issues i ≡ Some y). g.spaced i j y z l old was c d)
      (λ (same : (i ≡ length b.issues) × (x ≡ y)). let w = slice_get_within b.issues j z was in absurd (omega (arith, same.0)))
      (get_split b.issues x i y h))
      (λ (new : (j ≡ length b.issues) × (x ≡ z)). ⊎_elim
      (λ (old : slice_get b.issues i ≡ Some y).
      let a : x.moment ≡ z.moment = ap (λ (o : Issued S Q). o.moment) new.1 in
      let apart = free i y old (c ∙ sym (ap (λ (o : Issued S Q). o.client) new.1)) (d ∙ sym (ap (λ (o : Issued S Q). o.invoke_id) new.1)) in
      omega arith)
      (λ (same : (i ≡ length b.issues) × (x ≡ y)). absurd (omega (arith, same.0, new.0)))
      (get_split b.issues x i y h))
      (get_split b.issues x j z k);
  sound = λ i y h. ⊎_elim (λ (was : slice_get b.issues i ≡ Some y). g.sound i y was)
      (λ (same : (i ≡ length b.issues) × (x ≡ y)). subst (λ (z : Issued S Q). p.IsSound z.request) same.1 sound) (get_split b.issues x i y h);
  bound_to = λ i y h. ⊎_elim (λ (was : slice_get b.issues i ≡ Some y). g.bound_to i y was)
      (λ (same : (i ≡ length b.issues) × (x ≡ y)). subst (λ (z : Issued S Q). s.instance_of z.device ≡ Some z.instance) same.1 bound_is)
      (get_split b.issues x i y h);
  said_ok = λ m h. said_more p s b.issues (x ∷ []) b.history (e ∷ []) m m.body (g.said_ok m h);
  in_time = λ i r t h. ⊎_elim (λ (was : Has b.history (Executed i r t)). in_time_more p b.issues (x ∷ []) i r t (g.in_time i r t was))
      (λ (same : e ≡ Executed i r t). absurd (cc)) (has_split b.history e h);
  executed_past = λ i r t h. ⊎_elim (λ (was : Has b.history (Executed i r t)). g.executed_past i r t was) (λ (same : e ≡ Executed i r t). absurd (cc))
      (has_split b.history e h);
  within = λ f i h n. ⊎_elim
      (λ (was : Has b.history f). let a = g.within f i was n in (a.0, get_front b.issues (x ∷ []) i a.0 a.1))
      (λ (same : e ≡ f). let never : None ≡ Some i = ap (λ (y : Entry S Q R). told_of y) same ∙ n in absurd (cc))
      (has_split b.history e h);
  counted = let c = count-append is_issue b.history (e ∷ []) in let o = g.counted in omega (arith, longer);
  listed = λ i y row. ⊎_elim
      (λ (was : slice_get b.issues i ≡ Some y). has_front b.history (e ∷ []) (g.listed i y was))
      (λ (new : (i ≡ length b.issues) × (x ≡ y)). subst (λ n. Has (b.history ++ e ∷ []) (issue_of n y)) (sym new.0)
      (subst (λ (z : Issued S Q). Has (b.history ++ e ∷ []) (issue_of (length b.issues) z)) new.1 (has_last b.history e)))
      (get_split b.issues x i y row);
  named = λ i. named_issued b.history (length b.issues) x.client x.instance x.request x.moment i
      ∙ ap (λ o. first_of o (cond (length b.issues == i) (Some (name_of x)) None)) (g.named i) ∙ sym (name_added b.issues x i);
  numbered = λ k i c n q t h. ⊎_elim
      (λ (was : slice_get b.history k ≡ Some (Issue i c n q t)). let l = slice_get_within b.history k _ was in
      ap (count is_issue) (take_front b.history _ k (omega arith)) ∙ g.numbered k i c n q t was)
      (λ (same : (k ≡ length b.history) × (e ≡ Issue i c n q t)). let same_number : length b.issues ≡ i = cc in
      ap (count is_issue) (take_front b.history _ k (omega (arith, same.0)) ∙ take_all k b.history (omega (arith, same.0))) ∙ g.counted ∙ same_number)
      (get_split b.history _ k _ h);
  after_issue = λ k i f h n. ⊎_elim
      (λ (was : slice_get b.history k ≡ Some f). before_later b.history (e ∷ []) k i (g.after_issue k i f was n))
      (λ (same : (k ≡ length b.history) × (e ≡ f)). let never : None ≡ Some i = ap (λ (y : Entry S Q R). told_of y) same.1 ∙ n in absurd (cc))
      (get_split b.history _ k _ h);
  once = λ i. let c = count_other (executes i) b.history e refl in let o = g.once i in omega arith;
  answers = λ k i r t h. ⊎_elim
      (λ (was : slice_get b.history k ≡ Some (Answered i r t)). executed_later b.history (e ∷ []) k i r (g.answers k i r t was))
      (λ (same : (k ≡ length b.history) × (e ≡ Answered i r t)). absurd (cc))
      (get_split b.history _ k _ h);
  closed_once = λ i. let c = count_other (closes i) b.history e refl in let o = g.closed_once i in omega arith;
}
  where
    e : Entry S Q R
    e = issue_of (length b.issues) x

    longer : length (b.issues ++ x ∷ []) ≡ length b.issues + 1
    longer = length-append b.issues (x ∷ [])

-- an issue has one reply
pub same_execution : {S Q R T : Type 0} (p : Protocol S Q R T) (s : Site S T) (b : Book S Q R) → Good p s b → (i : ℕ) (r : R) (e : ℕ) (q : R) (f : ℕ) →
    Has b.history (Executed i r e) → Has b.history (Executed i q f) → r ≡ q
same_execution {S} {Q} {R} {T} p s b g i r e q f h k = ⊎_elim
    (λ (same : h.place ≡ k.place).
    let there : slice_get b.history h.place ≡ Some (Executed i q f) = subst (λ n. slice_get b.history n ≡ Some (Executed i q f)) (sym same) k.at_place in
    let before = h.at_place in
    cc)
    (λ (apart : (h.place < k.place) ⊎ (k.place < h.place)). ⊎_elim
    (λ (l : h.place < k.place). let two = two_counted (executes i) b.history h.place k.place _ _ l h.at_place k.at_place (eq-eqb i i refl)
    (eq-eqb i i refl) in let one = g.once i in absurd (omega arith))
    (λ (l : k.place < h.place). let two = two_counted (executes i) b.history k.place h.place _ _ l k.at_place h.at_place (eq-eqb i i refl)
    (eq-eqb i i refl) in let one = g.once i in absurd (omega arith))
    apart)
    (cases_order h.place k.place)
