-- What a client does when it wakes is honest: it says what is due, and then closes what has its end, one after another.
use Rattle.std.proofs.Common.{◌≡◌, refl, sym, ap, subst, ◌∙◌, inl, ℕ, ◌+◌, ◌<◌, Bool, true, false, List, [], ◌∷◌, ◌++◌, length, map, Option, Some, None}
use Rattle.std.proofs.lemmas.Bool.{and_parts, ltb-true}
use Rattle.std.proofs.lemmas.List.{append_assoc, map-append}
use Rattle.std.specs.List.{AllByRecursion, flat_map}
use Rattle.apdu.specs.declared.sizes.MaxApdu.{MaxApdu}
use Rattle.bindings.specs.declared.binding.Binding.{Binding}
use Rattle.client.specs.client_tsm.Client.{ClientTsmState, with_open}
use Rattle.bindings.specs.Limits.{request_chunk}
use Rattle.client.specs.client_tsm.Open.{Open, goes_on}
use Rattle.client.specs.client_tsm.Waking.{again, again_by, all_left, left_by, left_of, said_by, said_of, told_by, told_of, turn_of, turn_where, woken}
use Rattle.client.specs.client_tsm.declared.plan.Outcome.TheVariants.{TimedOut}
use Rattle.client.specs.client_tsm.declared.plan.TransactionOutcome.{TransactionOutcome}
use Rattle.client.specs.client_tsm.declared.said.ClientSaid.{ClientSaid}
use Rattle.headline.proofs.Puts.{put_here, put_put}
use Rattle.headline.proofs.Steps.{all_stay}
use Rattle.headline.specs.Happenings.{Client_becomes, Closes, Fails, happens, put}
use Rattle.headline.specs.Honest.{ClientGoesOn}
use Rattle.headline.specs.Stations.{Client, Transaction}
use Rattle.history.proofs.Lists.{has_next}
use Rattle.history.specs.Book.{Book, Message}
use Rattle.primitives.specs.declared.plain_data.Reply.{Reply}
use Rattle.history.specs.Lists.{Has}
use Rattle.profile.specs.Ages.{is_in_time}
use Rattle.profile.specs.Times.{DEADLINE_MS}
use Rattle.history.specs.declared.End.TheVariants as end
use Rattle.npdu.specs.Mac.{same_station}
use Rattle.npdu.specs.declared.mac.Station.{Station}
use Rattle.headline_bacnet.proofs.Refining.{CanSay, refined_as, refined_one, refined_then, says_refined}
use Rattle.headline_bacnet.specs.Laws.{object_laws}
use Rattle.headline_bacnet.specs.Protocol.{bacnet}
use Rattle.primitives.specs.declared.plain_data.Request.{Request}
use Rattle.segments.specs.Sender.{SenderState}
use Rattle.segments.specs.declared.step.Turn.{Turn}
use Rattle.segments.specs.declared.step.Turn.TheVariants.{Waits, Sends, Ends}
use Rattle.headline_bacnet.specs.services.Asked.{request_octets}
use Rattle.headline_client.specs.Kept.{CutsIn, IsKept}
use Rattle.headline_bacnet.specs.Refined.{ObjectSite, Refined, ObjectCore}
use Rattle.headline_client.specs.Safe.{safe_transaction, safe_with}
use Rattle.headline_client.specs.Told as told
use Rattle.headline_client.specs.Told.{acts, message_of}
use Rattle.headline_client.proofs.Acting.{IsActed, IsAt, having_said}
use Rattle.headline_client.proofs.Places.{all_join}
use Rattle.headline_client.proofs.Saying.{CanSayAll, can_ask_all, silent}
use Rattle.headline_client.specs.Laws.{CanWrite, ClosesHonestly}
use Rattle.headline_bacnet.proofs.Sending.{wakes_cut}
use Rattle.headline_client.proofs.Sending.{begun_cut}

-- safety sees no difference where a transaction is said again
safe_again : {A : Type 0} (own : Station → MaxApdu) (sending : Option SenderState) (now : ℕ) (o : Open A) →
    safe_transaction own (again_by sending now o) ≡ safe_transaction own o
safe_again own (Some cut) now o = refl
safe_again own None now o = refl

-- where a transaction is said again, its request is cut as before
again_cuts : {A : Type 0} (sending : Option SenderState) (now : ℕ) (o : Open A) → CutsIn (request_chunk o.max_apdu) sending →
    CutsIn (request_chunk o.max_apdu) (again_by sending now o).sending
again_cuts (Some cut) now o cuts = wakes_cut now cut ∙ cuts
again_cuts None now o cuts = begun_cut now o.max_apdu (length (request_octets o.request))

kept_again : {A : Type 0} (net : ℕ) (sending : Option SenderState) (now : ℕ) (o : Open A) → IsKept net o → CutsIn (request_chunk o.max_apdu) sending →
    IsKept net (again_by sending now o)
kept_again net (Some cut) now o k cuts = record { leads = k.leads; wide = k.wide; few = k.few; cut = again_cuts (Some cut) now o cuts; code = k.code }
kept_again net None now o k cuts = record { leads = k.leads; wide = k.wide; few = k.few; cut = again_cuts None now o cuts; code = k.code }

-- what is left of a transaction is well kept
left_kept : {A : Type 0} (net : ℕ) (t : Turn) (now : ℕ) (o : Open A) → IsKept net o → AllByRecursion (IsKept net) (left_by t now o)
left_kept net Waits now o k = (k, tt)
left_kept net Sends now o k = (kept_again net o.sending now o k k.cut, tt)
left_kept net Ends now o k = tt

all_left_kept : {A : Type 0} (net now : ℕ) (os : List (Open A)) → AllByRecursion (IsKept net) os → AllByRecursion (IsKept net) (all_left now os)
all_left_kept net now [] h = tt
all_left_kept net now (o ∷ os) h = all_join (IsKept net) (left_of now o) (all_left now os) (left_kept net (turn_of now o) now o h.0)
    (all_left_kept net now os h.1)

-- what is said again is before its deadline
again_early : {A : Type 0} (b : Bool) (now : ℕ) (o : Open A) → goes_on now o ≡ b → turn_where b now o ≡ Sends → now < o.at + DEADLINE_MS
again_early true now o e is = ltb-true now (o.at + DEADLINE_MS) (and_parts (is_in_time o.at now) _ e).0
again_early false now o e is = absurd (cc is)

module _ {A : Type 0} (own : Station → MaxApdu) (s : ObjectSite A) (w : ObjectCore A) (c : Station) where
  -- what is said of one may be said, so what is said of all
  turn_says : (o : Open A) → IsKept c.net o → Has (w.clients c).transactions (safe_transaction own o) → (t : Turn) → turn_of w.book.moment o ≡ t →
      CanSayAll own s w c (said_by t w.book.moment o)
  turn_says o kept there Waits e = silent own s w c
  turn_says o kept there Ends e = silent own s w c
  turn_says o kept there Sends e = can_ask_all own s w c o (again w.book.moment o).sending
      (record { kept = kept; there = there; early = again_early (goes_on w.book.moment o) w.book.moment o refl e })
      (again_cuts o.sending w.book.moment o kept.cut)

  all_say : (os : List (Open A)) → AllByRecursion (IsKept c.net) os →
      ((x : Transaction Station (Request A)) → Has (map (safe_transaction own) os) x → Has (w.clients c).transactions x) →
      CanSayAll own s w c (flat_map (said_of w.book.moment) os)
  all_say [] kept there = silent own s w c
  all_say (o ∷ os) kept there =
      let first = turn_says o kept.0 (there (safe_transaction own o) (record { place = 0; at_place = refl })) (turn_of w.book.moment o) refl in
      let rest = all_say os kept.1 (λ x h. there x (has_next (safe_transaction own o) (map (safe_transaction own) os) h)) in
      record {
        can = subst (λ (l : List (Message Station)). AllByRecursion (CanSay (bacnet A) s w) l)
            (sym (map-append (message_of own c w.book.moment) (said_of w.book.moment o) (flat_map (said_of w.book.moment) os)))
            (all_join (CanSay (bacnet A) s w) (map (message_of own c w.book.moment) (said_of w.book.moment o))
            (map (message_of own c w.book.moment) (flat_map (said_of w.book.moment) os)) first.can rest.can);
        written = all_join CanWrite (said_of w.book.moment o) (flat_map (said_of w.book.moment) os) first.written rest.written;
      }

-- closing, one after another
module _ {A : Type 0} (own : Station → MaxApdu) (s : ObjectSite A) (c : Station) (bindings : List Binding) (st : ClientTsmState A) where
  -- the client with these transactions
  abbrev with_those : List (Transaction Station (Request A)) → Client Station (Request A)
  with_those l = record (safe_with own bindings st) { transactions = l }

  -- all stations, once this was told and the client is this
  abbrev closed : List (TransactionOutcome A) → Client Station (Request A) → ObjectCore A → ObjectCore A
  closed tells next k =
      record k {
        book = record k.book { history = told.told_of c k.book.moment k.book.issues tells k.book.history };
        clients = put same_station k.clients c next;
      }

  abbrev safe_all : List (Open A) → List (Transaction Station (Request A))
  safe_all os = map (safe_transaction own) os

  none_closed : (front : List (Transaction Station (Request A))) (k : ObjectCore A) → k.clients c ≡ with_those (front ++ []) →
      Refined s k (closed [] (with_those (front ++ [])) k)
  none_closed front k at = refined_one (bacnet A) s k (Client_becomes c (with_those (front ++ [])))
      (subst (λ (z : Client Station (Request A)). ClientGoesOn k.book c z (with_those (front ++ []))) (sym at) (record {
        next_is = refl;
        free = refl;
        transactions = all_stay k.book c (front ++ []);
        bindings = λ x h. inl h;
      }))

  -- one more transaction before the rest stays
  stays_by : (front : List (Transaction Station (Request A))) (o x : Open A) (os left : List (Open A)) (tells : List (TransactionOutcome A))
      (k : ObjectCore A) → safe_transaction own x ≡ safe_transaction own o →
      (k.clients c ≡ with_those ((front ++ safe_transaction own o ∷ []) ++ safe_all os) →
      Refined s k (closed tells (with_those ((front ++ safe_transaction own o ∷ []) ++ safe_all left)) k)) →
      k.clients c ≡ with_those (front ++ safe_all (o ∷ os)) → Refined s k (closed tells (with_those (front ++ safe_all (x ∷ left))) k)
  stays_by front o x os left tells k same ih at =
      refined_as (bacnet A) s k (closed tells (with_those ((front ++ safe_transaction own o ∷ []) ++ safe_all left)) k)
      (closed tells (with_those (front ++ safe_all (x ∷ left))) k)
      (ap (λ (y : Transaction Station (Request A)). closed tells (with_those (front ++ y ∷ safe_all left)) k) same
      ∙ ap (λ (l : List (Transaction Station (Request A))). closed tells (with_those l) k)
      (sym (append_assoc front (safe_transaction own o ∷ []) (safe_all left))))
      (ih (at ∙ ap (λ (l : List (Transaction Station (Request A))). with_those l) (sym (append_assoc front (safe_transaction own o ∷ []) (safe_all os)))))

  -- one more transaction before the rest is closed
  ends_by : (front : List (Transaction Station (Request A))) (o : Open A) (os left : List (Open A)) (tells : List (TransactionOutcome A)) (k : ObjectCore A) →
      ((j : ObjectCore A) → j.book.moment ≡ k.book.moment → j.clients c ≡ with_those (front ++ safe_all os) →
      Refined s j (closed tells (with_those (front ++ safe_all left)) j)) → k.clients c ≡ with_those (front ++ safe_all (o ∷ os)) →
      Refined s k (closed (record { invoke_id = o.invoke_id; outcome = TimedOut } ∷ tells) (with_those (front ++ safe_all left)) k)
  ends_by front o os left tells k ih at =
      let mid : Client Station (Request A) = record (k.clients c) { transactions = front ++ safe_all os } in
      let j : ObjectCore A = happens (bacnet A) s k (Closes c front (safe_transaction own o) (safe_all os) (Fails end.TimedOut)) in
      let last : Client Station (Request A) = with_those (front ++ safe_all left) in
      let here : j.clients c ≡ with_those (front ++ safe_all os) =
      put_here (object_laws A).test k.clients c mid ∙ ap (λ (z : Client Station (Request A)). record z { transactions = front ++ safe_all os }) at in
      refined_then (bacnet A) s k j (closed (record { invoke_id = o.invoke_id; outcome = TimedOut } ∷ tells) last k)
      (refined_one (bacnet A) s k (Closes c front (safe_transaction own o) (safe_all os) (Fails end.TimedOut))
      (record { place = ap (λ (z : Client Station (Request A)). z.transactions) at; may = tt }))
      (refined_as (bacnet A) s j (closed tells last j) (closed (record { invoke_id = o.invoke_id; outcome = TimedOut } ∷ tells) last k)
      (ap (λ (f : Station → Client Station (Request A)). record (closed (record { invoke_id = o.invoke_id; outcome = TimedOut } ∷ tells) last k) {
        clients =
            f;
      }) (sym (put_put same_station k.clients c mid last)))
      (ih j refl here))

  turn_closes : (now : ℕ) (t : Turn) (front : List (Transaction Station (Request A))) (o : Open A) (os left : List (Open A))
      (tells : List (TransactionOutcome A)) (k : ObjectCore A) →
      ((f : List (Transaction Station (Request A))) (j : ObjectCore A) → j.book.moment ≡ now → j.clients c ≡ with_those (f ++ safe_all os) →
      Refined s j (closed tells (with_those (f ++ safe_all left)) j)) → k.book.moment ≡ now → k.clients c ≡ with_those (front ++ safe_all (o ∷ os)) →
      Refined s k (closed (told_by t o ++ tells) (with_those (front ++ safe_all (left_by t now o ++ left))) k)
  turn_closes now Waits front o os left tells k ih n at = stays_by front o o os left tells k refl (ih (front ++ safe_transaction own o ∷ []) k n) at
  turn_closes now Sends front o os left tells k ih n at =
      stays_by front o (again now o) os left tells k (safe_again own o.sending now o) (ih (front ++ safe_transaction own o ∷ []) k n) at
  turn_closes now Ends front o os left tells k ih n at = ends_by front o os left tells k (λ j m here. ih front j (m ∙ n) here) at

  closes_all : (now : ℕ) (os : List (Open A)) (front : List (Transaction Station (Request A))) (k : ObjectCore A) → k.book.moment ≡ now →
      k.clients c ≡ with_those (front ++ safe_all os) → Refined s k (closed (flat_map (told_of now) os) (with_those (front ++ safe_all (all_left now os))) k)
  closes_all now [] front k n at = none_closed front k at
  closes_all now (o ∷ os) front k n at =
      turn_closes now (turn_of now o) front o os (all_left now os) (flat_map (told_of now) os) k (λ f j m here. closes_all now os f j m here) n at

-- what is told is the end of one of them
turn_tells : {A : Type 0} (own : Station → MaxApdu) (b : Book Station (Request A) (Reply A)) (c : Station) (all : List (Open A)) (o : Open A) → Has all o →
    (t : Turn) → AllByRecursion (ClosesHonestly own b c all) (told_by t o)
turn_tells own b c all o there Waits = tt
turn_tells own b c all o there Sends = tt
turn_tells own b c all o there Ends = (record { transaction = o; there = there; id = refl; may = tt }, tt)

all_tell : {A : Type 0} (own : Station → MaxApdu) (b : Book Station (Request A) (Reply A)) (c : Station) (now : ℕ) (all os : List (Open A)) →
    ((o : Open A) → Has os o → Has all o) → AllByRecursion (ClosesHonestly own b c all) (flat_map (told_of now) os)
all_tell own b c now all [] there = tt
all_tell own b c now all (o ∷ os) there = all_join (ClosesHonestly own b c all) (told_of now o) (flat_map (told_of now) os)
    (turn_tells own b c all o (there o (record { place = 0; at_place = refl })) (turn_of now o))
    (all_tell own b c now all os (λ x h. there x (has_next o os h)))

-- a wake
pub wake : {A : Type 0} (own : Station → MaxApdu) (s : ObjectSite A) (w : ObjectCore A) (c : Station) (bindings : List Binding) (st : ClientTsmState A) →
    IsAt own s w c bindings st → IsActed own s w c bindings st (woken w.book.moment st.open_ones).said (woken w.book.moment st.open_ones).told
    (with_open w.book.moment (all_left w.book.moment st.open_ones) st)
wake {A} own s w c bindings st at =
    let now = w.book.moment in
    let says : List (ClientSaid A) = flat_map (said_of now) st.open_ones in
    let there : (x : Transaction Station (Request A)) → Has (map (safe_transaction own) st.open_ones) x → Has (w.clients c).transactions x =
    λ x h. subst (λ (z : Client Station (Request A)). Has z.transactions x) (sym at.seen) h in
    let can = all_say own s w c st.open_ones at.kept there in
    record {
      written = can.written;
      refined = refined_then (bacnet A) s w (having_said own s w c says)
          (acts own c says (flat_map (told_of now) st.open_ones) (safe_with own bindings (with_open now (all_left now st.open_ones) st)) w)
          (says_refined (bacnet A) s w (map (message_of own c now) says) can.can)
          (closes_all own s c bindings st now st.open_ones [] (having_said own s w c says) refl at.seen);
      closed = all_tell own w.book c now st.open_ones st.open_ones (λ o h. h);
      kept = all_left_kept c.net now st.open_ones at.kept;
    }
