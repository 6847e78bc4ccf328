-- What holds of a device at each moment.
use Rattle.std.proofs.Common.{◌≡◌, ◌⊎◌, ℕ, ◌+◌, ◌<◌, ◌≤◌, true, cond, List, [], ◌∷◌, ◌++◌, length, take, Some, refl, sym, ap, ◌∙◌, subst, inl, inr, ⊎_elim}
use Rattle.std.proofs.Common.{arith}
use Rattle.std.proofs.lemmas.List.{append-nil}
use Rattle.std.specs.Prelude.{Option, slice_get, ◌==◌, ◌*◌}
use Rattle.std.proofs.lemmas.Bool.{eq-eqb}
use Rattle.std.proofs.lemmas.Option.{same_Some, slice_get_within}
use Rattle.history.specs.declared.Entry.{Entry}
use Rattle.history.specs.declared.Entry.TheVariants.{Executed, Restarted}
use Rattle.profile.specs.Times.{DEADLINE_MS, KEEP_MS, LIFE_MS}
use Rattle.history.specs.Lists.{Has}
use Rattle.history.specs.Book.{Issued, Answer, Book}
use Rattle.history.specs.Legal.{Named, Did, Anew, done_at, past_of, Replays}
use Rattle.history.proofs.Lists.{none_has, get_front, get_split, has_front, has_last, has_split}
use Rattle.history.proofs.Past.{past_append, past_named, replays_more, replays_anew}
use Rattle.headline.specs.Protocol.{Protocol, IsLawful, Site}
use Rattle.headline.specs.Stations.{Record, Gathering, Device, restarted}
use Rattle.headline.specs.Honest.{IsGathered, DeviceGoesOn, IsExecuted}
use Rattle.headline.proofs.Books.{names, names_get, names_still, HasRow}

-- the record is of an execution of an issue for this device
pub record IsRecordOf {S Q R T : Type 0} (p : Protocol S Q R T) (issues : List (Issued S Q)) (history : List (Entry S Q R)) (d : S) (k : Record S) : Type
    0 where
  pub i : ℕ
  pub x : Issued S Q
  pub r : R
  pub row : slice_get issues i ≡ Some x
  pub client : x.client ≡ k.client
  pub key : x.invoke_id ≡ k.invoke_id
  pub device : x.device ≡ d
  pub room_is : x.room ≡ k.room
  pub was : Has history (Executed i r k.moment)
  pub says_it : (a : Answer) → k.answer ≡ Some a → a ≡ p.answer x.request r

-- a record of that issue stands among these
pub record IsKept {S Q : Type 0} (records : List (Record S)) (x : Issued S Q) (e : ℕ) : Type 0 where
  pub k : Record S
  pub there : Has records k
  pub client : k.client ≡ x.client
  pub key : k.invoke_id ≡ x.invoke_id
  pub moment : k.moment ≡ e

-- the pieces are the first of one issue's request, the last of them heard while that can be
pub record IsAssemblyOf {S Q R T : Type 0} (p : Protocol S Q R T) (issues : List (Issued S Q)) (a : Gathering S) : Type 0 where
  pub i : ℕ
  pub x : Issued S Q
  pub head_is : a.head ≡ record { service = p.service x.request; room = x.room }
  pub row : slice_get issues i ≡ Some x
  pub client : x.client ≡ a.client
  pub key : x.invoke_id ≡ a.invoke_id
  pub front : a.got ≡ take (a.pieces * x.chunk) (p.request_octets x.request)
  pub before : a.last < x.moment + DEADLINE_MS + LIFE_MS

-- what a device keeps, whatever happens
pub record DeviceOk {S Q R T : Type 0} (p : Protocol S Q R T) (s : Site S T) (issues : List (Issued S Q)) (history : List (Entry S Q R)) (now : ℕ) (d : S)
    (st : Device S T) : Type 0 where
  pub records : (k : Record S) → Has st.records k → IsRecordOf p issues history d k
  pub kept : (i : ℕ) (r : R) (e : ℕ) (x : Issued S Q) → Has history (Executed i r e) → slice_get issues i ≡ Some x → x.device ≡ d → now ≤ e + KEEP_MS →
      IsKept st.records x e ⊎ (e + KEEP_MS ≤ st.deaf_until)
  pub table : (n : ℕ) → s.instance_of d ≡ Some n → Replays p.reply p.after (s.opening d) (s.opening d) (past_of n (slice_get (names issues)) history) st.table
  pub sound : (n : ℕ) → s.instance_of d ≡ Some n → p.IsSoundTable st.table
  pub gatherings : (a : Gathering S) → Has st.gatherings a → IsAssemblyOf p issues a

record_later : {S Q R T : Type 0} (p : Protocol S Q R T) (issues : List (Issued S Q)) (history more : List (Entry S Q R)) (d : S) (k : Record S) →
    IsRecordOf p issues history d k → IsRecordOf p issues (history ++ more) d k
record_later p issues history more d k a =
    record {
      i = a.i;
      x = a.x;
      r = a.r;
      row = a.row;
      client = a.client;
      key = a.key;
      device = a.device;
      room_is = a.room_is;
      was =
          has_front history more a.was;
      says_it = a.says_it;
    }

record_issued : {S Q R T : Type 0} (p : Protocol S Q R T) (issues more : List (Issued S Q)) (history : List (Entry S Q R)) (d : S) (k : Record S) →
    IsRecordOf p issues history d k → IsRecordOf p (issues ++ more) history d k
record_issued p issues more history d k a =
    record {
      i = a.i;
      x = a.x;
      r = a.r;
      row = get_front issues more a.i a.x a.row;
      client = a.client;
      key = a.key;
      device = a.device;
      room_is =
          a.room_is;
      was = a.was;
      says_it = a.says_it;
    }

assembly_issued : {S Q R T : Type 0} (p : Protocol S Q R T) (issues more : List (Issued S Q)) (a : Gathering S) → IsAssemblyOf p issues a →
    IsAssemblyOf p (issues ++ more) a
assembly_issued p issues more a o = record {
  i = o.i;
  x = o.x;
  head_is = o.head_is;
  row = get_front issues more o.i o.x o.row;
  client = o.client;
  key =
      o.key;
  front = o.front;
  before = o.before;
}

-- the clock goes on
pub device_tick : {S Q R T : Type 0} (p : Protocol S Q R T) (s : Site S T) (issues : List (Issued S Q)) (history : List (Entry S Q R)) (now n : ℕ) (d : S)
    (st : Device S T) → DeviceOk p s issues history now d st → DeviceOk p s issues history (now + n) d st
device_tick p s issues history now n d st k = record {
  records = k.records;
  kept = λ i r e x h row dev young. k.kept i r e x h row dev (omega arith);
  table = k.table;
  sound = k.sound;
  gatherings = k.gatherings;
}

-- an entry that is no execution of this device, nor its restart
pub device_entered : {S Q R T : Type 0} (p : Protocol S Q R T) (s : Site S T) (issues : List (Issued S Q)) (history : List (Entry S Q R)) (now : ℕ) (d : S)
    (st : Device S T) (e : Entry S Q R) → ((i : ℕ) (r : R) (t : ℕ) (x : Issued S Q) → e ≡ Executed i r t → slice_get issues i ≡ Some x → x.device ≡ d → ⊥) →
    ((n : ℕ) → s.instance_of d ≡ Some n → past_of n (slice_get (names issues)) (e ∷ []) ≡ []) → DeviceOk p s issues history now d st →
    DeviceOk p s issues (history ++ e ∷ []) now d st
device_entered {S} {Q} {R} {T} p s issues history now d st e other none k = record {
  records = λ o h. record_later p issues history (e ∷ []) d o (k.records o h);
  kept = λ i r t x h row dev young. ⊎_elim (λ (was : Has history (Executed i r t)). k.kept i r t x was row dev young)
      (λ (same : e ≡ Executed i r t). absurd (other i r t x same row dev)) (has_split history e h);
  table = λ n is.
      let named = slice_get (names issues) in
      let same : past_of n named (history ++ e ∷ []) ≡ past_of n named history =
      past_append n named history (e ∷ []) ∙ ap (λ l. past_of n named history ++ l) (none n is) ∙ append-nil _ in
      subst (λ l. Replays p.reply p.after (s.opening d) (s.opening d) l st.table) (sym same) (k.table n is);
  sound = k.sound;
  gatherings = k.gatherings;
}

-- one more issue
pub device_issued : {S Q R T : Type 0} (p : Protocol S Q R T) (s : Site S T) (issues : List (Issued S Q)) (history : List (Entry S Q R)) (now : ℕ) (d : S)
    (st : Device S T) (x : Issued S Q) → ((i : ℕ) (r : R) (t : ℕ) → Has history (Executed i r t) → HasRow issues i) → DeviceOk p s issues history now d st →
    DeviceOk p s (issues ++ x ∷ []) history now d st
device_issued {S} {Q} {R} {T} p s issues history now d st x rows k = record {
  records = λ o h. record_issued p issues (x ∷ []) history d o (k.records o h);
  kept = λ i r t y h row dev young. ⊎_elim
      (λ (was : slice_get issues i ≡ Some y). k.kept i r t y h was dev young)
      (λ (new : (i ≡ length issues) × (x ≡ y)). let a = rows i r t h in let l = slice_get_within issues i a.0 a.1 in absurd (omega (arith, new.0)))
      (get_split issues x i y row);
  table = λ n is.
      let longer : past_of n (slice_get (names issues)) history ≡ past_of n (slice_get (names (issues ++ x ∷ []))) history =
      past_named n _ _ history (λ i r t h. let a = rows i r t h in names_still issues x i a.0 a.1) in
      subst (λ l. Replays p.reply p.after (s.opening d) (s.opening d) l st.table) longer (k.table n is);
  sound = k.sound;
  gatherings = λ a h. assembly_issued p issues (x ∷ []) a (k.gatherings a h);
}

kept_living : {S Q : Type 0} (now : ℕ) (old new : List (Record S)) (x : Issued S Q) (e u : ℕ) →
    ((k : Record S) → Has old k → now ≤ k.moment + KEEP_MS → Has new k) → now ≤ e + KEEP_MS → IsKept old x e ⊎ (e + KEEP_MS ≤ u) → IsKept new x e ⊎
    (e + KEEP_MS ≤ u)
kept_living {S} {Q} now old new x e u living young h = ⊎_elim
    (λ (a : IsKept old x e). inl (record {
      k = a.k;
      there = living a.k a.there (let z = a.moment in omega arith);
      client = a.client;
      key = a.key;
      moment =
          a.moment;
    }))
    (λ (deaf : e + KEEP_MS ≤ u). inr deaf)
    h

-- the device goes on with nothing executed
pub device_goes_on : {S Q R T : Type 0} (p : Protocol S Q R T) (s : Site S T) (b : Book S Q R) (d : S) (st next : Device S T) → DeviceGoesOn b d st next →
    ((a : Gathering S) → IsGathered b d st a → IsAssemblyOf p b.issues a) → DeviceOk p s b.issues b.history b.moment d st →
    DeviceOk p s b.issues b.history b.moment d next
device_goes_on {S} {Q} {R} {T} p s b d st next on gathered k = record {
  records = λ o h. k.records o (on.records o h);
  kept = λ i r t x h row dev young. subst (λ u. IsKept next.records x t ⊎
      (t + KEEP_MS ≤ u)) (sym on.deaf) (kept_living b.moment st.records next.records x t st.deaf_until on.living young (k.kept i r t x h row dev young));
  table = λ n is. subst (λ (z : T). Replays p.reply p.after (s.opening d) (s.opening d) (past_of n (slice_get (names b.issues)) b.history) z) (sym on.table)
      (k.table n is);
  sound = λ n is. subst p.IsSoundTable (sym on.table) (k.sound n is);
  gatherings = λ a h. ⊎_elim (λ (was : Has st.gatherings a). k.gatherings a was) (λ (new : IsGathered b d st a). gathered a new) (on.gatherings a h);
}

-- the device executes the request of the issue i
pub device_executes : {S Q R T : Type 0} (p : Protocol S Q R T) (s : Site S T) (l : IsLawful p) (issues : List (Issued S Q)) (history : List (Entry S Q R))
    (now : ℕ) (d : S) (st next : Device S T) (i : ℕ) (x : Issued S Q) (k : Record S) (q : Q) → slice_get issues i ≡ Some x → x.device ≡ d →
    x.client ≡ k.client → x.invoke_id ≡ k.invoke_id → x.room ≡ k.room → x.request ≡ q → p.IsSound q → s.instance_of d ≡ Some x.instance →
    IsExecuted p now st q k next → DeviceOk p s issues history now d st → DeviceOk p s issues (history ++ Executed i (p.reply st.table q) now ∷ []) now d next
device_executes {S} {Q} {R} {T} p s l issues history now d st next i x k q row dev is_c is_id is_room is_q fine inst on ok = record {
  records = λ o h. ⊎_elim
      (λ (was : Has st.records o). record_later p issues history (entry ∷ []) d o (ok.records o was))
      (λ (same : k ≡ o). subst (IsRecordOf p issues (history ++ entry ∷ []) d) same fresh)
      (on.records o h);
  kept = λ j r t y h at dev' young. subst (λ u. IsKept next.records y t ⊎ (t + KEEP_MS ≤ u)) (sym on.deaf) (⊎_elim
      (λ (was : Has history (Executed j r t)). kept_living now st.records next.records y t st.deaf_until on.living young (ok.kept j r t y was at dev' young))
      (λ (same : entry ≡ Executed j r t).
      let n : i ≡ j = cc in
      let m : now ≡ t = cc in
      let found : slice_get issues i ≡ Some y = subst (λ z. slice_get issues z ≡ Some y) (sym n) at in
      let xy : x ≡ y = same_Some _ _ (sym row ∙ found) in
      inl (record {
        k = k;
        there = on.fresh;
        client = sym is_c ∙ ap (λ (z : Issued S Q). z.client) xy;
        key =
            sym is_id ∙ ap (λ (z : Issued S Q). z.invoke_id) xy;
        moment = on.moment ∙ m;
      }))
      (has_split history entry h));
  table = λ n is.
      let mine : x.instance ≡ n = same_Some _ _ (sym inst ∙ is) in
      let split = past_append n named history (entry ∷ []) in
      subst (λ (z : T). Replays p.reply p.after (s.opening d) (s.opening d) (past_of n named (history ++ entry ∷ [])) z) (sym on.table)
      (subst (λ o. Replays p.reply p.after (s.opening d) (s.opening d) o (p.after st.table q))
      (sym (split ∙ ap (λ o. past_of n named history ++ o) (one n mine)))
      (replays_more p.reply p.after (s.opening d) (s.opening d) (past_of n named history) st.table q (p.reply st.table q) (ok.table n is) refl));
  sound = λ n is. subst p.IsSoundTable (sym on.table) (l.leaves_sound st.table q (ok.sound n is) fine);
  gatherings = λ a h. ok.gatherings a (on.gatherings a h);
}
  where
    entry : Entry S Q R
    entry = Executed i (p.reply st.table q) now

    named : ℕ → Option (Named Q)
    named = slice_get (names issues)

    fresh : IsRecordOf p issues (history ++ entry ∷ []) d k
    fresh = record {
      i = i;
      x = x;
      r = p.reply st.table q;
      row = row;
      client = is_c;
      key = is_id;
      device = dev;
      room_is = is_room;
      was =
          subst (λ t. Has (history ++ entry ∷ []) (Executed i (p.reply st.table q) t)) (sym on.moment) (has_last history entry);
      says_it =
          λ a e. on.answer a e ∙ ap (λ z. p.answer z (p.reply st.table q)) (sym is_q);
    }

    one : (n : ℕ) → x.instance ≡ n → past_of n (slice_get (names issues)) (entry ∷ []) ≡ Did q (p.reply st.table q) ∷ []
    one n mine =
        let at = names_get issues i x row in
        let test : (x.instance == n) ≡ true = eq-eqb x.instance n mine in
        ap (λ o. done_at n o (p.reply st.table q) []) at ∙ ap (λ b. cond b (Did x.request (p.reply st.table q) ∷ []) []) test
        ∙ ap (λ z. Did z (p.reply st.table q) ∷ []) is_q

-- the device restarts: what it executed is so old, when it listens again, that no request for it can come
pub device_restarts : {S Q R T : Type 0} (p : Protocol S Q R T) (s : Site S T) (issues : List (Issued S Q)) (history : List (Entry S Q R)) (now : ℕ) (d : S)
    (m : ℕ) (st : Device S T) → s.instance_of d ≡ Some m → p.IsSoundTable (s.opening d) → ((i : ℕ) (r : R) (e : ℕ) → Has history (Executed i r e) → e ≤ now) →
    DeviceOk p s issues history now d st → DeviceOk p s issues (history ++ Restarted m now ∷ []) now d (restarted now (s.opening d))
device_restarts {S} {Q} {R} {T} p s issues history now d m st inst fine past k = record {
  records = λ o h. absurd (none_has h);
  kept = λ i r t x h row dev young. ⊎_elim
      (λ (was : Has history (Executed i r t)). let l = past i r t was in inr (omega arith))
      (λ (same : Restarted m now ≡ Executed i r t). absurd (cc))
      (has_split history _ h);
  table = λ n is.
      let named = slice_get (names issues) in
      let mine : m ≡ n = same_Some _ _ (sym inst ∙ is) in
      let test : (m == n) ≡ true = eq-eqb m n mine in
      let one : past_of n named (entry ∷ []) ≡ Anew ∷ [] = ap (λ b. cond b (Anew ∷ []) []) test in
      let all = past_append n named history (entry ∷ []) ∙ ap (λ l. past_of n named history ++ l) one in
      subst (λ l. Replays p.reply p.after (s.opening d) (s.opening d) l (s.opening d)) (sym all)
      (replays_anew p.reply p.after (s.opening d) (s.opening d) (past_of n named history) st.table (k.table n is));
  sound = λ n is. fine;
  gatherings = λ a h. absurd (none_has h);
}
  where
    entry : Entry S Q R
    entry = Restarted m now
