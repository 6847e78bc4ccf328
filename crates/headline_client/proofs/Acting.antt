-- How a client's step is made of happenings: it says what it may, and then goes on or closes a transaction.
use Rattle.std.proofs.Common.{◌≡◌, refl, sym, ap, subst, ◌∙◌, inl, inr, ℕ, suc, List, [], ◌∷◌, ◌++◌, map, take, drop, Option, Some}
use Rattle.std.proofs.lemmas.List.{map-append}
use Rattle.std.specs.Prelude.{slice_get}
use Rattle.std.specs.List.{AllByRecursion}
use Rattle.apdu.specs.declared.sizes.MaxApdu.{MaxApdu}
use Rattle.bindings.specs.declared.binding.Binding.{Binding}
use Rattle.client.specs.client_tsm.Client.{ClientTsmState, changed_at, changed_if, with_open}
use Rattle.client.specs.client_tsm.Open.{Open}
use Rattle.client.specs.client_tsm.declared.plan.Outcome.{Outcome}
use Rattle.client.specs.client_tsm.declared.plan.TransactionOutcome.{TransactionOutcome}
use Rattle.client.specs.client_tsm.declared.said.ClientSaid.{ClientSaid}
use Rattle.headline.proofs.Steps.{all_stay, one_goes_on}
use Rattle.headline.specs.Happenings as core
use Rattle.headline.specs.Happenings.{Client_becomes, Closes, Gives, Fails, happens}
use Rattle.headline.specs.Honest.{AllGoOn, ClientGoesOn, GoesOn, IsHeard, IsTold, MayClose}
use Rattle.headline.specs.Stations.{Client, Transaction}
use Rattle.history.proofs.Lists.{has_front}
use Rattle.history.specs.Book.{Answer, Book, Message}
use Rattle.npdu.specs.declared.mac.Station.{Station}
use Rattle.headline_bacnet.proofs.Refining.{refined_as, refined_one, refined_then, saying, says_refined}
use Rattle.headline_bacnet.specs.Protocol.{bacnet}
use Rattle.primitives.specs.declared.plain_data.Reply.{Reply}
use Rattle.primitives.specs.declared.plain_data.Request.{Request}
use Rattle.headline_client.specs.Kept.{IsKept}
use Rattle.headline_bacnet.specs.Refined.{ObjectSite, Refined, ObjectCore}
use Rattle.headline_client.specs.Safe.{safe_transaction, safe_with}
use Rattle.headline_client.specs.Told.{acts, message_of, outcome_of}
use Rattle.headline_client.specs.Laws.{CanWrite, ClosesHonestly}
use Rattle.headline_client.proofs.Saying.{CanSayAll}
use Rattle.headline_client.proofs.Places.{all_back, all_front, all_join, set_at, split_at, split_map}

module _ {A : Type 0} (own : Station → MaxApdu) (s : ObjectSite A) (w : ObjectCore A) (c : Station) where
  -- all stations, once a client said this
  abbrev pub having_said : List (ClientSaid A) → ObjectCore A
  having_said says = saying (w.book.said ++ map (message_of own c w.book.moment) says) w

  -- what was heard before it said that was heard
  pub still_heard : (says : List (ClientSaid A)) (m : Message Station) → IsHeard w.book c m → IsHeard (having_said says).book c m
  still_heard says m h = record { was_said = has_front w.book.said _ h.was_said; covers = h.covers; young = h.young }

  told_still : (says : List (ClientSaid A)) (o : Transaction Station (Request A)) (a : Answer) → IsTold w.book c o a → IsTold (having_said says).book c o a
  told_still says o a (inl t) = inl (record { message = t.message; heard = still_heard says t.message t.heard; body = t.body })
  told_still says o a (inr t) = inr (record {
    message = t.message;
    octets = t.octets;
    heard = still_heard says t.message t.heard;
    body = t.body;
    whole =
        t.whole;
  })

  -- what may close before it said that may close then
  pub may_still : (says : List (ClientSaid A)) (o : Transaction Station (Request A)) (how : core.Outcome (Reply A)) → MayClose (bacnet A) w.book c o how →
      MayClose (bacnet A) (having_said says).book c o how
  may_still says o (Gives r) may = (may.0, told_still says o may.0 may.1, may.2)
  may_still says o (Fails why) may = tt

  -- it says this, and goes on
  pub acts_becomes : (says : List (ClientSaid A)) (next : Client Station (Request A)) → CanSayAll own s w c says →
      ClientGoesOn (having_said says).book c (w.clients c) next → Refined s w (acts own c says [] next w)
  acts_becomes says next can goes =
      refined_then (bacnet A) s w (having_said says) (acts own c says [] next w)
      (says_refined (bacnet A) s w (map (message_of own c w.book.moment) says) can.can)
      (refined_one (bacnet A) s (having_said says) (Client_becomes c next) goes)

  -- it says this, and closes a transaction
  pub acts_closes : (says : List (ClientSaid A)) (front : List (Transaction Station (Request A))) (o : Transaction Station (Request A))
      (rest : List (Transaction Station (Request A))) (outcome : Outcome A) (next : Client Station (Request A)) → CanSayAll own s w c says →
      (w.clients c).transactions ≡ front ++ o ∷ rest → MayClose (bacnet A) (having_said says).book c o (outcome_of outcome) →
      next ≡ record (w.clients c) { transactions = front ++ rest } →
      Refined s w (acts own c says (record { invoke_id = o.invoke_id; outcome = outcome } ∷ []) next w)
  acts_closes says front o rest outcome next can place may left =
      refined_then (bacnet A) s w (having_said says) (acts own c says (record { invoke_id = o.invoke_id; outcome = outcome } ∷ []) next w)
      (says_refined (bacnet A) s w (map (message_of own c w.book.moment) says) can.can)
      (refined_as (bacnet A) s (having_said says) (happens (bacnet A) s (having_said says) (Closes c front o rest (outcome_of outcome)))
      (acts own c says (record { invoke_id = o.invoke_id; outcome = outcome } ∷ []) next w)
      (ap (λ (z : Client Station (Request A)). acts own c says (record { invoke_id = o.invoke_id; outcome = outcome } ∷ []) z w) left)
      (refined_one (bacnet A) s (having_said says) (Closes c front o rest (outcome_of outcome)) (record { place = place; may = may })))

-- a client that safety sees so, with transactions that are well kept
module _ {A : Type 0} (own : Station → MaxApdu) (s : ObjectSite A) (w : ObjectCore A) (c : Station) (bindings : List Binding) (st : ClientTsmState A) where
  -- what is known of it
  pub record IsAt : Type 0 where
    pub seen : w.clients c ≡ safe_with own bindings st
    pub kept : AllByRecursion (IsKept c.net) st.open_ones

  -- a step that says and tells this, and leaves that, is honest
  pub record IsActed (says : List (ClientSaid A)) (tells : List (TransactionOutcome A)) (left : ClientTsmState A) : Type 0 where
    pub written : AllByRecursion CanWrite says
    pub refined : Refined s w (acts own c says tells (safe_with own bindings left) w)
    pub closed : AllByRecursion (ClosesHonestly own w.book c st.open_ones) tells
    pub kept : AllByRecursion (IsKept c.net) left.open_ones

  -- it goes on with these transactions
  goes : (b : Book Station (Request A) (Reply A)) (now : ℕ) (os : List (Open A)) → IsAt →
      AllGoOn b c (map (safe_transaction own) st.open_ones) (map (safe_transaction own) os) →
      ClientGoesOn b c (w.clients c) (safe_with own bindings (with_open now os st))
  goes b now os at on = subst (λ (z : Client Station (Request A)). ClientGoesOn b c z (safe_with own bindings (with_open now os st))) (sym at.seen) (record {
    next_is = refl;
    free = refl;
    transactions = on;
    bindings = λ x h. inl h;
  })

  -- nothing changes
  pub stays : (says : List (ClientSaid A)) → IsAt → CanSayAll own s w c says → IsActed says [] (with_open w.book.moment st.open_ones st)
  stays says at can = record {
    written = can.written;
    refined = acts_becomes own s w c says _ can
        (goes (having_said own s w c says).book w.book.moment st.open_ones at (all_stay _ c (map (safe_transaction own) st.open_ones)));
    closed = tt;
    kept = at.kept;
  }

  -- the transaction at a place changes
  module _ (place : ℕ) (o : Open A) (there : slice_get st.open_ones place ≡ Some o) where
    abbrev before : List (Open A)
    before = take place st.open_ones

    abbrev behind : List (Open A)
    behind = drop (suc place) st.open_ones

    pub was : st.open_ones ≡ before ++ o ∷ behind
    was = split_at st.open_ones place o there

    changed : (f : Open A → Open A) → changed_at place f st.open_ones ≡ before ++ f o ∷ behind
    changed f = ap (λ (x : Option (Open A)). changed_if x place f st.open_ones) there ∙ set_at st.open_ones place o (f o) there

    pub changes : (says : List (ClientSaid A)) (f : Open A → Open A) → IsAt → CanSayAll own s w c says →
        GoesOn (having_said own s w c says).book c (safe_transaction own o) (safe_transaction own (f o)) → IsKept c.net (f o) →
        IsActed says [] (with_open w.book.moment (changed_at place f st.open_ones) st)
    changes says f at can on kept =
        let b = (having_said own s w c says).book in
        let all : AllByRecursion (IsKept c.net) (before ++ o ∷ behind) = subst (λ (l : List (Open A)). AllByRecursion (IsKept c.net) l) was at.kept in
        let now_on : AllGoOn b c (map (safe_transaction own) st.open_ones) (map (safe_transaction own) (changed_at place f st.open_ones)) =
        subst (λ (l : List (Transaction Station (Request A))). AllGoOn b c l (map (safe_transaction own) (changed_at place f st.open_ones)))
        (sym (split_map (safe_transaction own) st.open_ones before behind o was))
        (subst (λ (l : List (Transaction Station (Request A))). AllGoOn b c
        (map (safe_transaction own) before ++ safe_transaction own o ∷ map (safe_transaction own) behind) l)
        (sym (split_map (safe_transaction own) (changed_at place f st.open_ones) before behind (f o) (changed f)))
        (one_goes_on b c (map (safe_transaction own) before) (safe_transaction own o) (safe_transaction own (f o)) (map (safe_transaction own) behind) on)) in
        record {
          written = can.written;
          refined = acts_becomes own s w c says _ can (goes b w.book.moment (changed_at place f st.open_ones) at now_on);
          closed = tt;
          kept = subst (λ (l : List (Open A)). AllByRecursion (IsKept c.net) l) (sym (changed f))
              (all_join (IsKept c.net) before (f o ∷ behind) (all_front (IsKept c.net) before (o ∷ behind) all)
              (kept, (all_back (IsKept c.net) before (o ∷ behind) all).1));
        }

    -- the transaction ends
    pub ends : (says : List (ClientSaid A)) (outcome : Outcome A) → IsAt → CanSayAll own s w c says →
        MayClose (bacnet A) w.book c (safe_transaction own o) (outcome_of outcome) →
        IsActed says (record { invoke_id = o.invoke_id; outcome = outcome } ∷ []) (with_open w.book.moment (before ++ behind) st)
    ends says outcome at can may =
        let all : AllByRecursion (IsKept c.net) (before ++ o ∷ behind) = subst (λ (l : List (Open A)). AllByRecursion (IsKept c.net) l) was at.kept in
        record {
          written = can.written;
          refined = acts_closes own s w c says (map (safe_transaction own) before) (safe_transaction own o) (map (safe_transaction own) behind) outcome _ can
              (ap (λ (z : Client Station (Request A)). z.transactions) at.seen ∙ split_map (safe_transaction own) st.open_ones before behind o was)
              (may_still own s w c says (safe_transaction own o) (outcome_of outcome) may)
              (ap (λ (l : List (Transaction Station (Request A))). record (safe_with own bindings st) { transactions = l })
              (map-append (safe_transaction own) before behind)
              ∙ ap (λ (z : Client Station (Request A)). record z { transactions = map (safe_transaction own) before ++ map (safe_transaction own) behind })
              (sym at.seen));
          closed = (record { transaction = o; there = record { place = place; at_place = there }; id = refl; may = may }, tt);
          kept = all_join (IsKept c.net) before behind (all_front (IsKept c.net) before (o ∷ behind) all) (all_back (IsKept c.net) before (o ∷ behind) all).1;
        }
