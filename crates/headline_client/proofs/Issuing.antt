-- An issue that isn't refused is honest: the request is issued, and said from its beginning.
use Rattle.std.proofs.Common.{◌<◌, ◌≡◌, ⊎_elim, refl, sym, ap, subst, ◌∙◌, ℕ, ◌≤◌, ◌==◌, not, Bool, true, false, List, [], ◌∷◌, ◌++◌, length, map, Option, Some}
use Rattle.std.proofs.Common.{None, arith}
use Rattle.std.proofs.lemmas.Bool.{and_parts, eqb-true, eq-eqb, leb-true, ltb-false}
use Rattle.std.proofs.lemmas.List.{map-append}
use Rattle.std.specs.Prelude.{◌||◌, cond, nat_le, nat_lt, slice_index}
use Rattle.std.specs.List.{AllByRecursion, find}
use Rattle.apdu.specs.declared.sizes.MaxApdu.{MaxApdu}
use Rattle.bindings.specs.Binding.{binding_of, is_of}
use Rattle.client.specs.Issuing.{refusal_by, refusal_if}
use Rattle.bindings.specs.declared.binding.Binding.{Binding}
use Rattle.client.specs.client_tsm.Client.{ClientTsmState, is_open, may_issue, opens}
use Rattle.client.specs.client_tsm.Issuing as tsm
use Rattle.client.specs.client_tsm.Issuing.{opened}
use Rattle.client.specs.client_tsm.Asking.{asked_by}
use Rattle.bindings.specs.Limits.{apdu_limit, is_too_long, request_chunk}
use Rattle.client.specs.client_tsm.Open.{Open}
use Rattle.client.specs.client_tsm.declared.said.ClientSaid.{ClientSaid}
use Rattle.bindings.specs.declared.bound.Bound.{Bound}
use Rattle.headline.proofs.Puts.{put_here}
use Rattle.headline.specs.Happenings.{Issues, happens, issue_by}
use Rattle.headline.specs.Honest.{MayIssue}
use Rattle.headline.specs.Stations as safe
use Rattle.headline.specs.Stations.{Client, Transaction}
use Rattle.history.proofs.Lists.{has_last, has_cons, has_next, none_has}
use Rattle.history.specs.Lists.{Has}
use Rattle.npdu.specs.declared.mac.Station.{Station}
use Rattle.headline_bacnet.proofs.Refining.{refined_as, refined_one, refined_then, saying, says_refined}
use Rattle.headline_bacnet.specs.Bodies.{led_to}
use Rattle.headline_bacnet.specs.Laws.{object_laws}
use Rattle.headline_bacnet.specs.Protocol.{bacnet}
use Rattle.primitives.specs.Sound.{IsSoundRequest}
use Rattle.primitives.specs.declared.plain_data.Request.{Request}
use Rattle.profile.specs.Limits.{MAX_SEGMENTS_ACCEPTED, MAX_SERVICE_DATA_OCTETS}
use Rattle.segments.specs.Pieces.{piece_count}
use Rattle.headline_bacnet.specs.services.Asked.{request_octets}
use Rattle.headline_client.specs.Kept.{IsKept}
use Rattle.headline_bacnet.specs.Refined.{ObjectSite, Refined, ObjectCore}
use Rattle.headline_client.specs.Safe.{room_from, safe_binding, safe_transaction, safe_with}
use Rattle.headline_client.specs.Told as told
use Rattle.headline_client.specs.Told.{message_of, row_of}
use Rattle.headline_client.proofs.Acting.{IsAt}
use Rattle.headline_client.proofs.Places.{all_join, has_seen}
use Rattle.headline_client.proofs.Saying.{CanSayAll, can_ask_all}
use Rattle.headline_client.specs.Laws.{CanWrite}
use Rattle.apdu.specs.Sizes.{apdu_code}
use Rattle.headline_client.proofs.Sending.{begun_cut}

-- the binding that is found is that of its instance, and stands among all
pub record IsFound (instance : ℕ) (bs : List Binding) (b : Binding) : Type 0 where
  pub there : Has bs b
  pub instance_is : b.instance ≡ instance

some_binding : (x b : Binding) → Some x ≡ Some b → x ≡ b
some_binding x b e = cc e

found_by : (instance : ℕ) (x : Binding) (xs : List Binding) (b : Binding) (t : Bool) → is_of instance x ≡ t →
    cond t (Some x) (find (is_of instance) xs) ≡ Some b → (find (is_of instance) xs ≡ Some b → IsFound instance xs b) → IsFound instance (x ∷ xs) b
found_by instance x xs b true is e ih =
    let same = some_binding x b e in
    record { there = record { place = 0; at_place = e }; instance_is = ap (λ (z : Binding). z.instance) (sym same) ∙ eqb-true x.instance instance is }
found_by instance x xs b false is e ih = let rest = ih e in record { there = has_next x xs rest.there; instance_is = rest.instance_is }

pub binding_found : (instance : ℕ) (bs : List Binding) (b : Binding) → binding_of instance bs ≡ Some b → IsFound instance bs b
binding_found instance [] b e = absurd (cc e)
binding_found instance (x ∷ xs) b e = found_by instance x xs b (is_of instance x) refl e (λ f. binding_found instance xs b f)

or_parts : (a b : Bool) → (a || b) ≡ false → (a ≡ false) × (b ≡ false)
or_parts true b e = absurd (cc e)
or_parts false b e = (refl, e)

not_true : (b : Bool) → not b ≡ true → b ≡ false
not_true true e = absurd (cc e)
not_true false e = refl

-- no invoke ID is given that a transaction has
not_open : {A : Type 0} (own : Station → MaxApdu) (id : ℕ) (os : List (Open A)) (x : Transaction Station (Request A)) → is_open id os ≡ false →
    Has (map (safe_transaction own) os) x → x.invoke_id ≡ id → ⊥
not_open own id [] x e h same = none_has h
not_open {A} own id (o ∷ os) x e h same =
    let p = or_parts (o.invoke_id == id) (is_open id os) e in
    ⊎_elim
    (λ (here : safe_transaction own o ≡ x). let is = eq-eqb o.invoke_id id (ap (λ (z : Transaction Station (Request A)). z.invoke_id) here ∙ same) in
    absurd (cc))
    (λ (later : Has (map (safe_transaction own) os) x). not_open own id os x p.1 later same)
    (has_cons (safe_transaction own o) (map (safe_transaction own) os) h)

-- why an issue is not refused
some_none : {X : Type 0} (x : X) → Some x ≡ None → ⊥
some_none x e = cc e

pub record IsFree {A : Type 0} (now : ℕ) (request : Request A) (to : Bound) (st : ClientTsmState A) : Type 0 where
  pub short : is_too_long st.accepts.segmented (apdu_limit st.accepts to) (length (request_octets request)) ≡ false
  pub may : may_issue now st ≡ true

free_by : {A : Type 0} (now : ℕ) (request : Request A) (to : Bound) (st : ClientTsmState A) (long may : Bool) →
    is_too_long st.accepts.segmented (apdu_limit st.accepts to) (length (request_octets request)) ≡ long → may_issue now st ≡ may →
    tsm.refusal_if long may ≡ None → IsFree now request to st
free_by now request to st true may l m e = absurd (some_none _ e)
free_by now request to st false false l m e = absurd (some_none _ e)
free_by now request to st false true l m e = record { short = l; may = m }

free_if : {A : Type 0} (now : ℕ) (request : Request A) (to : Bound) (st : ClientTsmState A) (refused : Bool) → refusal_if refused now request to st ≡ None →
    IsFree now request to st
free_if now request to st true e = absurd (some_none _ e)
free_if now request to st false e = free_by now request to st _ _ refl refl e

pub not_refused : {A : Type 0} (now : ℕ) (request : Request A) (st : ClientTsmState A) (o : Option Binding) (b : Binding) → o ≡ Some b →
    refusal_by o now request st ≡ None → IsFree now request b.bound st
not_refused {A} now request st o b is e =
    free_if now request b.bound st b.refused (subst (λ (x : Option Binding). refusal_by x now request st ≡ None) is e)

module _ {A : Type 0} (own : Station → MaxApdu) (s : ObjectSite A) (w : ObjectCore A) (c : Station) (bindings : List Binding) (st : ClientTsmState A)
    (at : IsAt own s w c bindings st) (code : apdu_code st.accepts.max_apdu < 16) (instance : ℕ) (request : Request A) (to : Bound) where
  abbrev it : Open A
  it = opened w.book.moment request to st

  abbrev says : List (ClientSaid A)
  says = asked_by it.sending it

  abbrev happened : ObjectCore A
  happened = happens (bacnet A) s w (Issues c to.station instance request (request_chunk (apdu_limit st.accepts to)) (room_from (own to.station) st.accepts))

  abbrev chunk : ℕ
  chunk = request_chunk (apdu_limit st.accepts to)

  abbrev room : ℕ
  room = room_from (own to.station) st.accepts

  -- the transaction is well kept
  few : IsFree w.book.moment request to st → piece_count chunk (length (request_octets request)) ≤ MAX_SEGMENTS_ACCEPTED
  few free =
      let p = or_parts (nat_lt MAX_SERVICE_DATA_OCTETS (length (request_octets request))) _ free.short in
      let q = or_parts (nat_lt MAX_SEGMENTS_ACCEPTED (piece_count chunk (length (request_octets request)))) _ p.1 in
      ltb-false MAX_SEGMENTS_ACCEPTED (piece_count chunk (length (request_octets request))) q.0

  opened_kept : IsFree w.book.moment request to st → led_to c.net to.way ≡ to.station → IsKept c.net it
  opened_kept free leads = record {
    leads = leads;
    wide = omega arith;
    few = few free;
    cut = begun_cut w.book.moment (apdu_limit st.accepts to) (length (request_octets request));
    code = code;
  }

  -- the client that issues it
  abbrev issued_by : Client Station (Request A) → Client Station (Request A)
  issued_by z = safe.issued w.book.moment to.station request chunk room z

  left_is : safe_with own bindings (opens w.book.moment it st) ≡ issued_by (w.clients c)
  left_is = ap (λ (l : List (Transaction Station (Request A))). record (issued_by (safe_with own bindings st)) { transactions = l })
      (map-append (safe_transaction own) st.open_ones (it ∷ []))
      ∙ ap issued_by (sym at.seen)

  may_issue_it : IsSoundRequest request → IsFree w.book.moment request to st →
      Has (map safe_binding bindings) (record { instance = instance; station = to.station }) →
      MayIssue (bacnet A) w.book.moment (w.clients c) to.station instance request
  may_issue_it sound free bound =
      let p = and_parts (nat_le (slice_index st.free_from st.next) w.book.moment) (not (is_open st.next st.open_ones)) free.may in
      subst (λ (z : Client Station (Request A)). MayIssue (bacnet A) w.book.moment z to.station instance request) (sym at.seen) (record {
        sound = sound;
        bound = bound;
        unused = λ x h e. not_open own st.next st.open_ones x (not_true (is_open st.next st.open_ones) p.1) h e;
        free = leb-true (slice_index st.free_from st.next) w.book.moment p.0;
      })

  has_it : Has (happened.clients c).transactions (safe_transaction own it)
  has_it = subst (λ (z : Client Station (Request A)). Has z.transactions (safe_transaction own it))
      (left_is ∙ sym (put_here (object_laws A).test w.clients c (issued_by (w.clients c))))
      (has_seen (safe_transaction own) (st.open_ones ++ it ∷ []) it (has_last st.open_ones it))

  asked_so : IsKept c.net it → CanSayAll own s happened c says
  asked_so kept = can_ask_all own s happened c it it.sending (record { kept = kept; there = has_it; early = omega arith }) kept.cut

  pub issue_written : IsFree w.book.moment request to st → led_to c.net to.way ≡ to.station → AllByRecursion CanWrite says
  issue_written free leads = (asked_so (opened_kept free leads)).written

  pub issue : IsSoundRequest request → IsFree w.book.moment request to st →
      Has (map safe_binding bindings) (record { instance = instance; station = to.station }) → led_to c.net to.way ≡ to.station →
      Refined s w (told.issues own c (row_of own c w.book.moment instance request to st) says (safe_with own bindings (opens w.book.moment it st)) w)
  issue sound free bound leads =
      let kept = opened_kept free leads in
      let next = safe_with own bindings (opens w.book.moment it st) in
      let same : told.issues own c (row_of own c w.book.moment instance request to st) says next w
      ≡ saying (happened.book.said ++ map (message_of own c w.book.moment) says) happened =
      ap (λ (z : Client Station (Request A)). told.issues own c (row_of own c w.book.moment instance request to st) says z w) left_is
      ∙ ap (λ (z : Client Station (Request A)). told.issues own c (issue_by w.book.moment c z to.station instance request chunk room) says
      (issued_by (w.clients c)) w) (sym at.seen) in
      refined_as (bacnet A) s w (saying (happened.book.said ++ map (message_of own c w.book.moment) says) happened)
      (told.issues own c (row_of own c w.book.moment instance request to st) says next w) same
      (refined_then (bacnet A) s w happened (saying (happened.book.said ++ map (message_of own c w.book.moment) says) happened)
      (refined_one (bacnet A) s w (Issues c to.station instance request chunk room) (may_issue_it sound free bound))
      (says_refined (bacnet A) s happened (map (message_of own c w.book.moment) says)
      (asked_so kept).can))

  pub issue_kept : IsFree w.book.moment request to st → led_to c.net to.way ≡ to.station → AllByRecursion (IsKept c.net) (opens w.book.moment it st).open_ones
  issue_kept free leads = all_join (IsKept c.net) st.open_ones (it ∷ []) at.kept (opened_kept free leads, tt)
