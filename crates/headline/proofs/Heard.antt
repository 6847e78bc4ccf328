-- What stations hear is of an issue, or of an execution of it.
use Rattle.std.proofs.Common.{◌≡◌, ℕ, ◌+◌, ◌<◌, Bool, false, List, [], ◌++◌, take, Some, None, sym, ap, ◌∙◌, subst, inr, ⊎_elim, arith}
use Rattle.std.specs.Prelude.{Option, slice_get, ◌*◌}
use Rattle.std.proofs.lemmas.Option.{same_Some}
use Rattle.history.specs.declared.Entry.TheVariants.{Executed}
use Rattle.profile.specs.Times.{DEADLINE_MS, LIFE_MS}
use Rattle.history.specs.Lists.{Has}
use Rattle.history.specs.Tests.{IsTest}
use Rattle.history.specs.Pieces.{piece, has_more}
use Rattle.history.specs.Book.{Issued, Head, Answer, Complex, Tells_piece, Destination, Unicast, Message, Book, last_issue}
use Rattle.history.proofs.Pieces.{gathers_none, gathers_more, gathers_all}
use Rattle.headline.specs.Protocol.{Protocol, Site}
use Rattle.headline.specs.Stations.{Transaction, Binding, Gathering, Device}
use Rattle.headline.specs.Honest.{Covers, IsHeard, IsAnnounced, IsToldWhole, IsToldLast, IsTold, IsBefore, pieces_of, got_of, head_of, HeardPiece, joined}
use Rattle.headline.specs.Honest.{IsRenewed, IsGathered, IsAskedWhole, IsAskedLast, IsAsked}
use Rattle.headline.proofs.Books.{WasAsked, AskedPiece, WasTold, SaidAs, Good, young_is_last, same_execution}
use Rattle.headline.proofs.Devices.{IsAssemblyOf, DeviceOk}
use Rattle.headline.proofs.Clients.{OfAnswer, AreOfAnswer, IsOpenFor, TakesWell}

covered : {S : Type 0} {to : Destination S} {a b : S} → to ≡ Unicast a → Covers to b → a ≡ b
covered {S} {to} {a} {b} e h = subst (λ (z : Destination S). Covers z b) e h

-- the whole request of an issue, while its sendings can be heard
pub record WholeAsked {S Q R T : Type 0} (p : Protocol S Q R T) (b : Book S Q R) (d c : S) (id : ℕ) (head : Head) (octets : List ℕ) : Type 0 where
  pub i : ℕ
  pub x : Issued S Q
  pub row : slice_get b.issues i ≡ Some x
  pub client : x.client ≡ c
  pub key : x.invoke_id ≡ id
  pub device : x.device ≡ d
  pub head_is : head ≡ record { service = p.service x.request; room = x.room }
  pub whole : octets ≡ p.request_octets x.request
  pub until : b.moment < x.moment + DEADLINE_MS + LIFE_MS

abbrev head_at : ℕ → ℕ → Head
head_at n m = record { service = n; room = m }

-- a heard piece was said of an issue
pub piece_asked : {S Q R T : Type 0} (p : Protocol S Q R T) (s : Site S T) (b : Book S Q R) (d : S) (st : Device S T) → Good p s b → (h : HeardPiece b d st) →
    AskedPiece p b.issues h.message h.id h.head h.n h.more h.octets
piece_asked p s b d st g h = subst (SaidAs p s b.issues b.history h.message) h.body (g.said_ok h.message h.heard.was_said)

-- what was gathered before it is of the same issue
front_is : {S Q R T : Type 0} (p : Protocol S Q R T) (s : Site S T) (l : IsTest p.same) (b : Book S Q R) (d : S) (st : Device S T) (m : Message S) (id : ℕ)
    (head : Head) → Good p s b → DeviceOk p s b.issues b.history b.moment d st → (a : WasAsked p b.issues m id head) → IsHeard b d m →
    (o : Option (Gathering S)) → IsBefore b.moment st m.from id o → (got_of o ≡ take (pieces_of o * a.x.chunk) (p.request_octets a.x.request)) ×
    (head_of head o ≡ record { service = p.service a.x.request; room = a.x.room })
front_is p s l b d st m id head g k a heard None before = (gathers_none _ _, a.head_is)
front_is {S} {Q} {R} {T} p s l b d st m id head g k a heard (Some o) before =
    let it = k.gatherings o before.there in
    let lively = before.young in
    let old = it.before in
    let new = a.before in
    let young = heard.young in
    let last_old : last_issue p.same m.from id b.issues ≡ Some it.i =
    young_is_last p s l b g it.i it.x m.from id it.row (it.client ∙ before.client) (it.key ∙ before.key) (omega arith) in
    let last_new : last_issue p.same m.from id b.issues ≡ Some a.i = young_is_last p s l b g a.i a.x m.from id a.row a.client a.key (omega arith) in
    let same : it.i ≡ a.i = same_Some _ _ (sym last_old ∙ last_new) in
    let row : slice_get b.issues a.i ≡ Some it.x = subst (λ z. slice_get b.issues z ≡ Some it.x) same it.row in
    let xs : it.x ≡ a.x = same_Some _ _ (sym row ∙ a.row) in (
      it.front ∙ ap (λ (z : Issued S Q). take (o.pieces * z.chunk) (p.request_octets z.request)) xs,
      it.head_is
          ∙ ap (λ (z : Issued S Q). head_at (p.service z.request) z.room) xs,
    )

-- an gathering renewed by a piece that doesn't join it
renewed_ok : {S Q R T : Type 0} (p : Protocol S Q R T) (issues : List (Issued S Q)) (b : Book S Q R) (d : S) (st : Device S T) (m : Message S) (id : ℕ)
    (head : Head) (a : Gathering S) (was : WasAsked p b.issues m id head) → IsHeard b d m → (o : Option (Gathering S)) → IsBefore b.moment st m.from id o →
    (got_of o ≡ take (pieces_of o * was.x.chunk) (p.request_octets was.x.request)) ×
    (head_of head o ≡ record { service = p.service was.x.request; room = was.x.room }) → IsRenewed b.moment o a → IsAssemblyOf p b.issues a
renewed_ok p issues b d st m id head a was heard None before so_far h = absurd h
renewed_ok p issues b d st m id head a was heard (Some o) before so_far h = subst (IsAssemblyOf p b.issues) (sym h) (record {
  i = was.i;
  x = was.x;
  head_is = so_far.1;
  row = was.row;
  client = was.client ∙ sym before.client;
  key = was.key ∙ sym before.key;
  front = so_far.0;
  before = let young = heard.young in let before = was.before in omega arith;
})

pub gathered_ok : {S Q R T : Type 0} (p : Protocol S Q R T) (s : Site S T) (l : IsTest p.same) (b : Book S Q R) (d : S) (st : Device S T) (a : Gathering S) →
    Good p s b → DeviceOk p s b.issues b.history b.moment d st → IsGathered b d st a → IsAssemblyOf p b.issues a
gathered_ok {S} {Q} {R} {T} p s l b d st a g k h = ⊎_elim
    (λ (new : (h.piece.n ≡ pieces_of h.piece.before) × (a ≡ joined b d st h.piece)). subst (IsAssemblyOf p b.issues) (sym new.1) (record {
      i = asked.was.i;
      x = asked.was.x;
      head_is = so_far.1;
      row = asked.was.row;
      client = asked.was.client;
      key = asked.was.key;
      front =
          let body = p.request_octets asked.was.x.request in
          let got = got_of h.piece.before in
          let from_n : got ≡ take (h.piece.n * asked.was.x.chunk) body = so_far.0 ∙ ap (λ z. take (z * asked.was.x.chunk) body) (sym new.0) in
          ap (λ z. got ++ z) asked.part ∙ gathers_more asked.was.x.chunk body got h.piece.n from_n;
      before = let young = h.piece.heard.young in let before = asked.was.before in omega arith;
    }))
    (λ (again : IsRenewed b.moment h.piece.before a). renewed_ok p b.issues b d st h.piece.message h.piece.id h.piece.head a asked.was h.piece.heard
    h.piece.before h.piece.is_before so_far again)
    h.how
  where
    asked : AskedPiece p b.issues h.piece.message h.piece.id h.piece.head h.piece.n h.piece.more h.piece.octets
    asked = piece_asked p s b d st g h.piece

    so_far : (got_of h.piece.before ≡ take (pieces_of h.piece.before * asked.was.x.chunk) (p.request_octets asked.was.x.request)) ×
        (head_of h.piece.head h.piece.before ≡ record { service = p.service asked.was.x.request; room = asked.was.x.room })
    so_far = front_is p s l b d st h.piece.message h.piece.id h.piece.head g k asked.was h.piece.heard h.piece.before h.piece.is_before

whole_of : {S Q R T : Type 0} (p : Protocol S Q R T) (b : Book S Q R) (d c : S) (m : Message S) (id : ℕ) (first head : Head) (octets : List ℕ) → m.from ≡ c →
    (a : WasAsked p b.issues m id first) → head ≡ record { service = p.service a.x.request; room = a.x.room } → IsHeard b d m →
    octets ≡ p.request_octets a.x.request → WholeAsked p b d c id head octets
whole_of p b d c m id first head octets from a head_is heard whole = record {
  i = a.i;
  x = a.x;
  row = a.row;
  client = a.client ∙ from;
  key = a.key;
  device = covered a.device heard.covers;
  head_is = head_is;
  whole = whole;
  until = let young = heard.young in let before = a.before in omega arith;
}

-- what came whole to a device, in one message or by its last piece, is the request of one issue
pub asked_ok : {S Q R T : Type 0} (p : Protocol S Q R T) (s : Site S T) (l : IsTest p.same) (b : Book S Q R) (d : S) (st : Device S T) (c : S) (id : ℕ)
    (head : Head) (octets : List ℕ) → Good p s b → DeviceOk p s b.issues b.history b.moment d st → IsAsked b d st c id head octets →
    WholeAsked p b d c id head octets
asked_ok {S} {Q} {R} {T} p s l b d st c id head octets g k h = ⊎_elim
    (λ (one : IsAskedWhole b d c id head octets).
    let a = subst (SaidAs p s b.issues b.history one.message) one.body (g.said_ok one.message one.heard.was_said) in
    whole_of p b d c one.message id head head octets one.from a.was a.was.head_is one.heard a.whole)
    (λ (last : IsAskedLast b d st c id head octets). by_last last)
    h
  where
    by_last : IsAskedLast b d st c id head octets → WholeAsked p b d c id head octets
    by_last o =
        let h = o.piece in
        let a = piece_asked p s b d st g h in
        let so_far = front_is p s l b d st h.message h.id h.head g k a.was h.heard h.before h.is_before in
        let body = p.request_octets a.was.x.request in
        let got = got_of h.before in
        let from_n : got ≡ take (h.n * a.was.x.chunk) body = so_far.0 ∙ ap (λ z. take (z * a.was.x.chunk) body) (sym o.next) in
        let all : octets ≡ body = o.whole ∙ ap (λ z. got ++ z) a.part ∙ gathers_all a.was.x.chunk body got h.n from_n (sym a.more_is ∙ o.last) in
        subst (λ n. WholeAsked p b d c n head octets) o.key (whole_of p b d c h.message h.id h.head head octets o.from a.was (o.head_is ∙ so_far.1) h.heard all)

-- the whole answer of an execution of the transaction's issue
pub record WholeTold {S Q R T : Type 0} (p : Protocol S Q R T) (b : Book S Q R) (c : S) (o : Transaction S Q) (a : Answer) : Type 0 where
  pub it : IsOpenFor p b.issues b.history c o
  pub r : R
  pub e : ℕ
  pub was : Has b.history (Executed it.i r e)
  pub whole : a ≡ p.answer it.x.request r

-- what was told to a client and is heard is of the transaction's issue
record SameIssue {S Q R T : Type 0} (p : Protocol S Q R T) (b : Book S Q R) (c : S) (m : Message S) (id : ℕ) (o : Transaction S Q)
    (told : WasTold b.issues b.history m id) (it : IsOpenFor p b.issues b.history c o) : Type 0 where
  number : told.i ≡ it.i
  row : told.x ≡ it.x
  was : Has b.history (Executed it.i told.r told.e)

same_issue : {S Q R T : Type 0} (p : Protocol S Q R T) (s : Site S T) (l : IsTest p.same) (b : Book S Q R) (c : S) (m : Message S) (o : Transaction S Q) →
    Good p s b → IsHeard b c m → (told : WasTold b.issues b.history m o.invoke_id) → (it : IsOpenFor p b.issues b.history c o) →
    SameIssue p b c m o.invoke_id o told it
same_issue {S} {Q} {R} {T} p s l b c m o g heard told it =
    let timely = g.in_time told.i told.r told.e told.was in
    let same_row : timely.x ≡ told.x = same_Some _ _ (sym timely.row ∙ told.row) in
    let at : timely.x.moment ≡ told.x.moment = ap (λ (y : Issued S Q). y.moment) same_row in
    let until = timely.until in
    let young = heard.young in
    let before = told.before in
    let last_told : last_issue p.same c o.invoke_id b.issues ≡ Some told.i =
    young_is_last p s l b g told.i told.x c o.invoke_id told.row (covered told.client heard.covers) told.key (omega arith) in
    let number : told.i ≡ it.i = same_Some _ _ (sym last_told ∙ it.last) in
    let row : slice_get b.issues it.i ≡ Some told.x = subst (λ z. slice_get b.issues z ≡ Some told.x) number told.row in
    record { number = number; row = same_Some _ _ (sym row ∙ it.row); was = subst (λ z. Has b.history (Executed z told.r told.e)) number told.was }

told_front : {S Q R T : Type 0} (p : Protocol S Q R T) (s : Site S T) (b : Book S Q R) (o : Transaction S Q) (i : ℕ) (x : Issued S Q) (r : R) (e : ℕ)
    (body : List ℕ) → Good p s b → AreOfAnswer p b.history i x o.pieces o.got → Has b.history (Executed i r e) → p.answer x.request r ≡ Complex body →
    o.got ≡ take (o.pieces * x.room) body
told_front {S} {Q} {R} {T} p s b o i x r e body g so_far was body_is = ⊎_elim
    (λ (none : (o.pieces ≡ 0) × (o.got ≡ [])). none.1 ∙ gathers_none x.room body ∙ ap (λ z. take (z * x.room) body) (sym none.0))
    (λ (some : OfAnswer p b.history i x o.pieces o.got).
    let one : some.r ≡ r = same_execution p s b g i some.r some.e r e some.was was in
    let same : Complex some.body ≡ Complex body = sym some.body_is ∙ ap (λ z. p.answer x.request z) one ∙ body_is in
    let bodies : some.body ≡ body = cc in
    some.front ∙ ap (λ z. take (o.pieces * x.room) z) bodies)
    so_far

-- the next piece of an answer, and the pieces before it, are of one execution's answer
record NextTold {S Q R T : Type 0} (p : Protocol S Q R T) (b : Book S Q R) (c : S) (o : Transaction S Q) (it : IsOpenFor p b.issues b.history c o)
    (more : Bool) (octets : List ℕ) : Type 0 where
  r : R
  e : ℕ
  was : Has b.history (Executed it.i r e)
  body : List ℕ
  body_is : p.answer it.x.request r ≡ Complex body
  front : o.got ≡ take (o.pieces * it.x.room) body
  part : octets ≡ piece it.x.room o.pieces body
  more_is : more ≡ has_more it.x.room o.pieces body

next_told : {S Q R T : Type 0} (p : Protocol S Q R T) (s : Site S T) (l : IsTest p.same) (b : Book S Q R) (c : S) (m : Message S) (o : Transaction S Q)
    (more : Bool) (octets : List ℕ) → Good p s b → IsHeard b c m → m.body ≡ Tells_piece o.invoke_id o.pieces more octets →
    (it : IsOpenFor p b.issues b.history c o) → NextTold p b c o it more octets
next_told {S} {Q} {R} {T} p s l b c m o more octets g heard body it =
    let t = subst (SaidAs p s b.issues b.history m) body (g.said_ok m heard.was_said) in
    let same = same_issue p s l b c m o g heard t.it it in
    let body_is : p.answer it.x.request t.it.r ≡ Complex t.body = ap (λ (z : Issued S Q). p.answer z.request t.it.r) (sym same.row) ∙ t.body_is in
    record {
      r = t.it.r;
      e = t.it.e;
      was = same.was;
      body = t.body;
      body_is = body_is;
      front = told_front p s b o it.i it.x t.it.r t.it.e t.body g it.gathered same.was body_is;
      part = t.part ∙ ap (λ (z : Issued S Q). piece z.room o.pieces t.body) same.row;
      more_is = t.more_is ∙ ap (λ (z : Issued S Q). has_more z.room o.pieces t.body) same.row;
    }

-- a piece that is taken goes on with the answer
pub takes_ok : {S Q R T : Type 0} (p : Protocol S Q R T) (s : Site S T) (l : IsTest p.same) (b : Book S Q R) (c : S) → Good p s b → TakesWell p b c
takes_ok p s l b c g o next it taken =
    let t = next_told p s l b c taken.message o taken.more taken.octets g taken.heard taken.body it in
    inr (record {
      r = t.r;
      e = t.e;
      was = t.was;
      body = t.body;
      body_is = t.body_is;
      front =
          ap (λ z. o.got ++ z) t.part ∙ gathers_more it.x.room t.body o.got o.pieces t.front;
    })

-- what came whole to a client, in one message or by its last piece, is the answer of one execution
pub told_ok : {S Q R T : Type 0} (p : Protocol S Q R T) (s : Site S T) (l : IsTest p.same) (b : Book S Q R) (c : S) (o : Transaction S Q) (a : Answer) →
    Good p s b → IsOpenFor p b.issues b.history c o → IsTold b c o a → WholeTold p b c o a
told_ok {S} {Q} {R} {T} p s l b c o a g it h = ⊎_elim
    (λ (one : IsToldWhole b c o a).
    let t = subst (SaidAs p s b.issues b.history one.message) one.body (g.said_ok one.message one.heard.was_said) in
    let same = same_issue p s l b c one.message o g one.heard t.it it in
    record { it = it; r = t.it.r; e = t.it.e; was = same.was; whole = t.whole ∙ ap (λ (z : Issued S Q). p.answer z.request t.it.r) same.row })
    (λ (last : IsToldLast b c o a).
    let t = next_told p s l b c last.message o false last.octets g last.heard last.body it in
    let all : o.got ++ last.octets ≡ t.body = ap (λ z. o.got ++ z) t.part ∙ gathers_all it.x.room t.body o.got o.pieces t.front (sym t.more_is) in
    record { it = it; r = t.r; e = t.e; was = t.was; whole = last.whole ∙ ap (λ z. Complex z) all ∙ sym t.body_is })
    h

-- a station that is heard to announce an instance has it
pub announced_ok : {S Q R T : Type 0} (p : Protocol S Q R T) (s : Site S T) (b : Book S Q R) (c : S) → Good p s b → (x : Binding S) → IsAnnounced b c x →
    s.instance_of x.station ≡ Some x.instance
announced_ok p s b c g x h = subst (λ z. s.instance_of z ≡ Some x.instance) h.from
    (subst (SaidAs p s b.issues b.history h.message) h.body (g.said_ok h.message h.heard.was_said))
