-- What a client does with an APDU that it hears, where it was said, is honest: arm by arm.
use Rattle.std.proofs.Common.{◌≡◌, refl, sym, ap, subst, ◌∙◌, inl, inr, ℕ, suc, ◌+◌, ◌<◌, ◌==◌, Bool, true, false, List, [], ◌∷◌, ◌++◌, Option, Some, None}
use Rattle.std.proofs.Common.{arith}
use Rattle.std.specs.Prelude.{◌&&◌, option_map, slice_get}
use Rattle.std.proofs.lemmas.Bool.{and_parts, eqb-true, ltb-true}
use Rattle.client.proofs.client_tsm.Telling.{found_at}
use Rattle.npdu.specs.Mac.{same_station}
use Rattle.profile.specs.Ages.{is_in_time}
use Rattle.profile.specs.Times.{DEADLINE_MS}
use Rattle.apdu.specs.declared.apdu.Segment.{Segment}
use Rattle.apdu.specs.declared.sizes.MaxApdu.{MaxApdu}
use Rattle.bindings.specs.declared.binding.Binding.{Binding}
use Rattle.client.specs.client_tsm.Asking.{asked_by}
use Rattle.client.specs.client_tsm.Client.{ClientTsmState, committed, gathered_at, gathers, heard_at, receiver_of, renews, sends_on}
use Rattle.client.specs.client_tsm.Hearing as tsm
use Rattle.client.specs.client_tsm.Hearing.{Message, answers, answers_in_part, acknowledges, closes, nothing, Heard, Reached, plans, completes, Whole, ack_heard}
use Rattle.client.specs.client_tsm.Hearing.{ack_if, ack_said, asked_told, finished, is_asked, gathered_by, of_service, place_of, quiet, reached}
use Rattle.client.specs.client_tsm.Hearing.{renewed_if, taken_if, Taking, told_at, told_open, told_where, turned_by, whole_with, window_for}
use Rattle.bindings.specs.Limits.{request_chunk}
use Rattle.client.specs.client_tsm.Open.{Open, goes_on, got_of, takes}
use Rattle.client.specs.client_tsm.Steps.{IsFound, IsMeant, IsPlan}
use Rattle.client.specs.client_tsm.declared.gathering.Gathering.{Gathering}
use Rattle.client.specs.client_tsm.declared.plan.ClientTsmChange.TheVariants.{Renews}
use Rattle.client.specs.client_tsm.declared.plan.Outcome.{Outcome}
use Rattle.client.specs.client_tsm.declared.plan.Outcome.TheVariants.{Answered, Aborted, Rejected, TimedOut}
use Rattle.client.specs.client_tsm.declared.plan.ClientTsmPlan.{ClientTsmPlan}
use Rattle.client.specs.client_tsm.declared.said.ClientSaid.{ClientSaid}
use Rattle.headline.specs.Honest.{IsHeard}
use Rattle.headline.specs.Stations.{Transaction}
use Rattle.history.specs.Book.{Answer, Complex, Body, Tells, Tells_piece}
use Rattle.history.specs.Book as book
use Rattle.history.specs.Lists.{Has}
use Rattle.npdu.specs.declared.mac.Station.{Station}
use Rattle.headline_bacnet.specs.Protocol.{HasContents}
use Rattle.primitives.specs.declared.plain_data.Reply.{Reply}
use Rattle.primitives.specs.declared.plain_data.Request.{Request}
use Rattle.segments.specs.Sender.{SenderState, hears}
use Rattle.segments.specs.Receiver.{ReceiverState}
use Rattle.segments.specs.declared.step.Step.{Step}
use Rattle.segments.specs.declared.step.Step.TheVariants.{Taken, Nak, Dropped, Full}
use Rattle.segments.specs.declared.step.Turn.{Turn}
use Rattle.segments.specs.declared.step.Turn.TheVariants as turn
use Rattle.headline_bacnet.specs.services.Asked.{service_asked}
use Rattle.headline_bacnet.specs.services.Contents.{PlainAnswer, complex}
use Rattle.headline_client.specs.Kept.{CutsIn, IsKept}
use Rattle.headline_bacnet.specs.Refined.{ObjectSite, ObjectCore}
use Rattle.headline_client.specs.Safe.{pieces_of, safe_transaction}
use Rattle.headline_client.proofs.Acting.{IsActed, IsAt, changes, ends, stays, still_heard}
use Rattle.headline_client.proofs.Gathered.{next_nak, next_seen, next_taken, octets_nak, octets_seen, octets_taken, taken_is_next}
use Rattle.headline_client.proofs.Places.{all_at, has_map}
use Rattle.headline_client.proofs.Saying.{CanSayAll, MayAskFor, can_acknowledge, can_ask_all, silent}
use Rattle.headline_bacnet.proofs.Sending.{hears_cut}

-- an outcome other than a reply
abbrev pub IsEnd : {A : Type 0} → Outcome A → Type 0
IsEnd (Answered reply) = ⊥
IsEnd outcome = Unit {0}

-- what a client hears, in the words of the book
pub record IsAnswer (id service : ℕ) (contents : PlainAnswer) (body : Body) : Type 0 where
  pub answer : Answer
  pub is : body ≡ Tells id answer
  pub has : HasContents service answer contents

abbrev pub IsBody : {A : Type 0} → ℕ → Message A → Body → Type 0
IsBody id (answers service contents) body = IsAnswer id service contents body
IsBody id (answers_in_part service segment octets) body = body ≡ Tells_piece id segment.sequence_number segment.more_follows octets
IsBody id (acknowledges negative number window) body = Unit {0}
IsBody id (closes outcome) body = IsEnd outcome
IsBody id nothing body = Unit {0}

-- the transaction that takes what is heard
record IsTaker {A : Type 0} (now : ℕ) (h : Heard A) (st : ClientTsmState A) (place : ℕ) : Type 0 where
  item : Open A
  there : slice_get st.open_ones place ≡ Some item
  id : item.invoke_id ≡ h.invoke_id
  early : now < item.at + DEADLINE_MS

taker : {A : Type 0} (now : ℕ) (from : Station) (h : Heard A) (st : ClientTsmState A) (place : ℕ) → place_of now from h.invoke_id st.open_ones ≡ Some place →
    IsTaker now h st place
taker {A} now from h st place e =
    let f = found_at (takes {A = A} now from h.invoke_id) 0 st.open_ones place e in
    let same : place ≡ f.after = omega (arith, f.is) in
    let p = and_parts (f.item.invoke_id == h.invoke_id) (same_station f.item.station from && goes_on now f.item) f.passes in
    let q = and_parts (same_station f.item.station from) (goes_on now f.item) p.1 in
    record {
      item = f.item;
      there = ap (slice_get st.open_ones) same ∙ f.there;
      id = eqb-true f.item.invoke_id h.invoke_id p.0;
      early = ltb-true now (f.item.at + DEADLINE_MS) (and_parts (is_in_time f.item.at now) _ q.1).0;
    }

module _ {A : Type 0} (own : Station → MaxApdu) (s : ObjectSite A) (w : ObjectCore A) (c : Station) (bindings : List Binding) (st : ClientTsmState A)
    (at : IsAt own s w c bindings st) where
  -- a step with this plan is honest
  abbrev pub Honest : ClientTsmPlan A → Type 0
  Honest plan = IsActed own s w c bindings st plan.said plan.told (committed w.book.moment plan.change st)

  -- a message that was heard
  module _ (m : book.Message Station) (heard : IsHeard w.book c m) (place : ℕ) (o : Open A) (there : slice_get st.open_ones place ≡ Some o)
      (early : w.book.moment < o.at + DEADLINE_MS) where
    -- it takes what is heard
    abbrev it : Taking A
    it = record { moment = w.book.moment; place = place; transaction = o }

    its : IsKept c.net o
    its = all_at (IsKept c.net) st.open_ones place o at.kept there

    may_ask : MayAskFor own s w c o
    may_ask = record {
      kept = its;
      there = subst (λ (l : List (Transaction Station (Request A))). Has l (safe_transaction own o)) (sym (ap (λ (z : _). z.transactions) at.seen))
          (has_map (safe_transaction own) st.open_ones place o there);
      early = early;
    }

    acks_may : (ack : Option ℕ) (segment : Segment) → CanSayAll own s w c (ack_if ack o segment)
    acks_may None segment = silent own s w c
    acks_may (Some number) segment = can_acknowledge own s w c o.way false o.invoke_id number (window_for o segment)

    -- segments renewed are as many as before
    same_gathered : (g : Option (Gathering A)) (now : ℕ) →
        record (safe_transaction own o) { pieces = pieces_of (option_map (heard_at now) g); got = got_of (option_map (heard_at now) g) }
        ≡ record (safe_transaction own o) { pieces = pieces_of g; got = got_of g }
    same_gathered None now = refl
    same_gathered (Some g) now = refl

    renewed : (says : List (ClientSaid A)) → CanSayAll own s w c says → Honest (record { said = says; told = []; change = Renews place })
    renewed says can = changes own s w c bindings st place o there says (renews w.book.moment) at can
        (inl (same_gathered o.gathering w.book.moment))
        (record { leads = its.leads; wide = its.wide; few = its.few; cut = tt; code = its.code })

    renewed_or_not : (g : Option (Gathering A)) → Honest (quiet (renewed_if g place))
    renewed_or_not None = stays own s w c bindings st [] at (silent own s w c)
    renewed_or_not (Some g) = renewed [] (silent own s w c)

    -- an answer that came whole
    whole_arm : (service : ℕ) (contents : PlainAnswer) → service ≡ service_asked o.request → IsAnswer o.invoke_id service contents m.body →
        (found : Option (Reply A)) → IsMeant o.request contents found → Honest (finished (tsm.whole_heard it contents) found)
    whole_arm service contents same is None means = stays own s w c bindings st [] at (silent own s w c)
    whole_arm service contents same is (Some reply) means = ends own s w c bindings st place o there [] (Answered reply) at (silent own s w c) (
      is.answer,
      inl (record { message = m; heard = heard; body = is.is }),
      record { contents = contents; has = subst (λ n. HasContents n is.answer contents) same is.has; means = means },
    )

    -- a segment of one
    module _ (segment : Segment) (octets : List ℕ) (is : m.body ≡ Tells_piece o.invoke_id segment.sequence_number segment.more_follows octets) where
      abbrev before_it : ReceiverState
      before_it = receiver_of o.gathering segment.window

      abbrev joined : ReceiverState
      joined = (gathered_at w.book.moment o segment octets).state

      abbrev step : Step
      step = (gathered_at w.book.moment o segment octets).step

      -- it is the next
      numbered : (ack : Option ℕ) → step ≡ Taken ack → segment.sequence_number ≡ pieces_of o.gathering
      numbered ack e = taken_is_next w.book.moment segment.sequence_number segment.more_follows octets before_it ack e ∙ next_seen o.gathering segment.window

      -- so many segments came, once it is taken
      counted : (ack : Option ℕ) → step ≡ Taken ack → joined.next ≡ suc (pieces_of o.gathering)
      counted ack e = next_taken w.book.moment segment.sequence_number segment.more_follows octets before_it ack e
          ∙ ap suc (next_seen o.gathering segment.window)

      behind_it : (ack : Option ℕ) → step ≡ Taken ack → joined.octets ≡ got_of o.gathering ++ octets
      behind_it ack e = octets_taken w.book.moment segment.sequence_number segment.more_follows octets before_it ack e
          ∙ ap (λ (l : List ℕ). l ++ octets) (octets_seen o.gathering segment.window)

      told_next : (ack : Option ℕ) → step ≡ Taken ack → (more : Bool) → segment.more_follows ≡ more →
          m.body ≡ Tells_piece o.invoke_id (pieces_of o.gathering) more octets
      told_next ack e more f = is ∙ ap (λ n. Tells_piece o.invoke_id n segment.more_follows octets) (numbered ack e)
          ∙ ap (λ b. Tells_piece o.invoke_id (pieces_of o.gathering) b octets) f

      taken_arm : (ack : Option ℕ) → step ≡ Taken ack → (more : Bool) → segment.more_follows ≡ more → (found : Option (Reply A)) →
          IsFound (taken_if more (ack_if ack o segment) it segment octets) found →
          Honest (finished (taken_if more (ack_if ack o segment) it segment octets) found)
      taken_arm ack e true f found means = changes own s w c bindings st place o there (ack_if ack o segment)
          (gathers w.book.moment segment octets) at (acks_may ack segment)
          (inr (inr (record {
            message = m;
            more = true;
            octets = octets;
            heard = still_heard own s w c (ack_if ack o segment) m heard;
            body = told_next ack e true f;
            joined = ap (λ n. record (safe_transaction own o) { pieces = n; got = joined.octets }) (counted ack e)
                ∙ ap (λ (l : List ℕ). record (safe_transaction own o) { pieces = suc (pieces_of o.gathering); got = l }) (behind_it ack e);
          })))
          (record { leads = its.leads; wide = its.wide; few = its.few; cut = tt; code = its.code })
      taken_arm ack e false f None means = renewed (ack_if ack o segment) (acks_may ack segment)
      taken_arm ack e false f (Some reply) means = ends own s w c bindings st place o there (ack_if ack o segment) (Answered reply) at (acks_may ack segment) (
        Complex (got_of o.gathering ++ octets),
        inr (record { message = m; octets = octets; heard = heard; body = told_next ack e false f; whole = refl }),
        record { contents = complex (whole_with octets o); has = refl; means = means },
      )

      nak_arm : (number : ℕ) → step ≡ Nak number → Honest (tsm.gathered (ack_said true number o segment ∷ []) it segment octets)
      nak_arm number e = changes own s w c bindings st place o there (ack_said true number o segment ∷ [])
          (gathers w.book.moment segment octets) at (can_acknowledge own s w c o.way true o.invoke_id number (window_for o segment))
          (inl (ap (λ n. record (safe_transaction own o) { pieces = n; got = joined.octets })
          (next_nak w.book.moment segment.sequence_number segment.more_follows octets before_it number e ∙ next_seen o.gathering segment.window)
          ∙ ap (λ (l : List ℕ). record (safe_transaction own o) { got = l })
          (octets_nak w.book.moment segment.sequence_number segment.more_follows octets before_it number e ∙ octets_seen o.gathering segment.window)))
          (record { leads = its.leads; wide = its.wide; few = its.few; cut = tt; code = its.code })

      gathered_arm : (x : Step) → step ≡ x → (found : Option (Reply A)) → IsFound (gathered_by x it segment octets) found →
          Honest (finished (gathered_by x it segment octets) found)
      gathered_arm (Taken ack) e found means = taken_arm ack e segment.more_follows refl found means
      gathered_arm (Nak number) e found means = nak_arm number e
      gathered_arm Dropped e found means = renewed_or_not o.gathering
      gathered_arm Full e found means = ends own s w c bindings st place o there [] TimedOut at (silent own s w c) tt

    -- a SegmentACK of the request
    turned_arm : (t : Turn) (cut : SenderState) → CutsIn (request_chunk o.max_apdu) (Some cut) → Honest (turned_by t it cut)
    turned_arm turn.Waits cut cuts = stays own s w c bindings st [] at (silent own s w c)
    turned_arm turn.Sends cut cuts = changes own s w c bindings st place o there (asked_by (Some cut) o) (sends_on w.book.moment (Some cut)) at
        (can_ask_all own s w c o (Some cut) may_ask cuts) (inl refl)
        (record { leads = its.leads; wide = its.wide; few = its.few; cut = cuts; code = its.code })
    turned_arm turn.Ends cut cuts = changes own s w c bindings st place o there [] (sends_on w.book.moment None) at (silent own s w c) (inl refl)
        (record { leads = its.leads; wide = its.wide; few = its.few; cut = tt; code = its.code })

    ack_arm : (sending : Option SenderState) → o.sending ≡ sending → (negative : Bool) (number window : ℕ) →
        Honest (ack_heard sending it negative number window)
    ack_arm None e negative number window = stays own s w c bindings st [] at (silent own s w c)
    ack_arm (Some cut) e negative number window =
        turned_arm (hears w.book.moment number window negative cut).turn (hears w.book.moment number window negative cut).state
        (hears_cut w.book.moment number window negative cut ∙ subst (λ x. CutsIn (request_chunk o.max_apdu) x) e its.cut)

    -- an end
    closes_arm : (outcome : Outcome A) → IsEnd outcome → Honest (tsm.closing [] it outcome)
    closes_arm (Answered reply) end = absurd end
    closes_arm (Aborted reason) end = ends own s w c bindings st place o there [] (Aborted reason) at (silent own s w c) tt
    closes_arm (Rejected reason) end = ends own s w c bindings st place o there [] (Rejected reason) at (silent own s w c) tt
    closes_arm TimedOut end = ends own s w c bindings st place o there [] TimedOut at (silent own s w c) tt

    -- by what is heard
    asked_arm : (x : Message A) → is_asked x o ≡ true → IsBody o.invoke_id x m.body → (found : Option (Reply A)) →
        IsFound (asked_told it x) found → Honest (finished (asked_told it x) found)
    asked_arm (answers service contents) same is found means = whole_arm service contents (eqb-true service (service_asked o.request) same) is found means
    asked_arm (answers_in_part service segment octets) same is found means = gathered_arm segment octets is (step segment octets is) refl found means
    asked_arm (acknowledges negative number window) same is found means = ack_arm o.sending refl negative number window
    asked_arm (closes outcome) same is found means = closes_arm outcome is
    asked_arm nothing same is found means = stays own s w c bindings st [] at (silent own s w c)

    told_arm : (x : Message A) (b : Bool) → is_asked x o ≡ b → IsBody o.invoke_id x m.body → (found : Option (Reply A)) →
        IsFound (of_service b (asked_told it x)) found → Honest (finished (of_service b (asked_told it x)) found)
    told_arm x true same is found means = asked_arm x same is found means
    told_arm x false same is found means = stays own s w c bindings st [] at (silent own s w c)

  -- by which transaction it is for
  module _ (m : book.Message Station) (heard : IsHeard w.book c m) (from : Station) (h : Heard A) (is : IsBody h.invoke_id h.message m.body) where
    where_arm : (place : Option ℕ) → place_of w.book.moment from h.invoke_id st.open_ones ≡ place → (found : Option (Reply A)) →
        IsFound (told_where place w.book.moment h.message st.open_ones) found → Honest (finished (told_where place w.book.moment h.message st.open_ones) found)
    where_arm None e found means = stays own s w c bindings st [] at (silent own s w c)
    where_arm (Some place) e found means =
        let f = taker w.book.moment from h st place e in
        subst (λ (x : Option (Open A)). IsFound (told_at x w.book.moment place h.message) found →
        Honest (finished (told_at x w.book.moment place h.message) found)) (sym f.there)
        (λ g. told_arm m heard place f.item f.there f.early h.message (is_asked h.message f.item) refl (subst (λ n. IsBody n h.message m.body) (sym f.id) is)
        found g) means

    pub plan_arm : (plan : ClientTsmPlan A) → IsPlan w.book.moment from h st plan → Honest plan
    plan_arm plan planned = subst (λ (x : ClientTsmPlan A). Honest x) (sym planned.is)
        (where_arm (place_of w.book.moment from h.invoke_id st.open_ones) refl planned.found planned.means)
