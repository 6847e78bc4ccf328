-- What comes whole to a client of transactions was told to it, arm by arm.
use Rattle.std.proofs.Common.{◌≡◌, refl, sym, ap, subst, ◌∙◌, inl, inr, ℕ, ◌==◌, Bool, true, false, List, [], ◌++◌, Option, Some, None, arith}
use Rattle.std.specs.Prelude.{◌&&◌, nat_lt, slice_get}
use Rattle.std.proofs.lemmas.Bool.{and_parts, eqb-true}
use Rattle.apdu.specs.declared.apdu.Segment.{Segment}
use Rattle.apdu.specs.declared.sizes.MaxApdu.{MaxApdu}
use Rattle.carry_said.proofs.headline_client.client_tsm.Telling.{found_at}
use Rattle.carry_said.specs.client_tsm.Client.{ClientTsmState, gathered_at, receiver_of}
use Rattle.carry_said.specs.client_tsm.Hearing.{Heard, Message, Reached, Taking, Whole, acknowledges, ack_if, answers, answers_in_part, asked_told, closes, completes}
use Rattle.carry_said.specs.client_tsm.Hearing.{gathered_by, is_asked, nothing, of_service, place_of, plans, reached, taken_if, told_at, told_where}
use Rattle.carry_said.specs.client_tsm.Open.{Open, goes_on, got_of, takes}
use Rattle.carry_said.specs.client_tsm.declared.gathering.Gathering.{Gathering}
use Rattle.carry_said.specs.client_tsm.declared.plan.ClientTsmChange.TheVariants.{Stays}
use Rattle.carry_said.specs.headline_site.headline.Honest.{IsHeard, IsTold}
use Rattle.carry_said.specs.headline_site.headline_bacnet.Protocol.{HasContents}
use Rattle.carry_said.specs.headline_site.headline_bacnet.Refined.{ObjectCore}
use Rattle.carry_said.proofs.headline_site.headline_client.Hearing.{IsAnswer, IsBody}
use Rattle.carry_said.specs.headline_site.headline_client.Safe.{pieces_of, safe_transaction}
use Rattle.history.proofs.Lists.{has}
use Rattle.history.specs.Book.{Answer, Complex, Tells_piece}
use Rattle.history.specs.Book as book
use Rattle.history.specs.Lists.{Has}
use Rattle.npdu.specs.Mac.{same_station}
use Rattle.npdu.specs.declared.mac.Station.{Station}
use Rattle.carry_said.specs.headline_site.headline_client.segments.Receiver.{ReceiverState, joins, may_nak, step_of, step_on, step_out_of_order}
use Rattle.carry_said.specs.headline_site.headline_client.segments.declared.step.Step.{Step}
use Rattle.carry_said.specs.headline_site.headline_client.segments.declared.step.Step.TheVariants.{Dropped, Full, Nak, Taken}
use Rattle.services.specs.Asked.{service_asked}
use Rattle.services.specs.Contents.{PlainAnswer}

-- a receiver takes no segment but the next one
not_taken : (is_begun may_nak : Bool) (j : ReceiverState) (ack : Option ℕ) → step_out_of_order is_begun may_nak j ≡ Taken ack → ⊥
not_taken false may_nak j ack e = cc e
not_taken true false j ack e = cc e
not_taken true true j ack e = cc e

next_by : (is_whole is_next : Bool) (now : ℕ) (more : Bool) (octets : List ℕ) (j : ReceiverState) (ack : Option ℕ) →
    step_on is_whole is_next now more octets j ≡ Taken ack → is_next ≡ true
next_by true is_next now more octets j ack e = absurd (cc e)
next_by false true now more octets j ack e = refl
next_by false false now more octets j ack e = absurd (not_taken (nat_lt 0 j.next) (may_nak now j.nak_at) j ack e)

taken_is_next : (now number : ℕ) (more : Bool) (octets : List ℕ) (j : ReceiverState) (ack : Option ℕ) →
    (joins now number more octets j).step ≡ Taken ack → number ≡ j.next
unfolding joins step_of
taken_is_next now number more octets j ack e = eqb-true number j.next (next_by j.is_whole (number == j.next) now more octets j ack e)

-- what a transaction has gathered is what safety sees of it
next_seen : {A : Type 0} (g : Option (Gathering A)) (window : ℕ) → (receiver_of g window).next ≡ pieces_of g
next_seen None window = refl
next_seen (Some g) window = refl

module _ {A : Type 0} (own : Station → MaxApdu) (w : ObjectCore A) (c : Station) (st : ClientTsmState A) where
  -- the transaction is open, and an answer with these contents was told to it
  pub record WasTold (x : Whole A) : Type 0 where
    pub there : Has st.open_ones x.taking.transaction
    pub answer : Answer
    pub told : IsTold w.book c (safe_transaction own x.taking.transaction) answer
    pub has : HasContents (service_asked x.taking.transaction.request) answer x.contents

  abbrev AllTold : Reached A → Type 0
  AllTold (plans plan) = Unit {0}
  AllTold (completes x) = WasTold x

  module _ (m : book.Message Station) (heard : IsHeard w.book c m) (place : ℕ) (o : Open A) (there : Has st.open_ones o) where
    abbrev it : Taking A
    it = record { moment = w.book.moment; place = place; transaction = o }

    -- in one APDU
    in_one : (service : ℕ) (contents : PlainAnswer) → service ≡ service_asked o.request → IsAnswer o.invoke_id service contents m.body →
        WasTold (record { taking = it; contents = contents; says = []; otherwise = Stays })
    in_one service contents same is = record {
      there = there;
      answer = is.answer;
      told = inl (record { message = m; heard = heard; body = is.is });
      has = subst (λ n. HasContents n is.answer contents) same is.has;
    }

    -- by its last segment
    module _ (segment : Segment) (octets : List ℕ) (is : m.body ≡ Tells_piece o.invoke_id segment.sequence_number segment.more_follows octets) where
      abbrev step : Step
      step = (gathered_at w.book.moment o segment octets).step

      numbered : (ack : Option ℕ) → step ≡ Taken ack → segment.sequence_number ≡ pieces_of o.gathering
      numbered ack e = taken_is_next w.book.moment segment.sequence_number segment.more_follows octets (receiver_of o.gathering segment.window) ack e
          ∙ next_seen o.gathering segment.window

      taken : (ack : Option ℕ) → step ≡ Taken ack → (more : Bool) → segment.more_follows ≡ more →
          AllTold (taken_if more (ack_if ack o segment) it segment octets)
      taken ack e true f = tt
      taken ack e false f = record {
        there = there;
        answer = Complex (got_of o.gathering ++ octets);
        told =
            inr (record {
              message = m;
              octets = octets;
              heard = heard;
              body = is ∙ ap (λ n. Tells_piece o.invoke_id n segment.more_follows octets) (numbered ack e)
                  ∙ ap (λ b. Tells_piece o.invoke_id (pieces_of o.gathering) b octets) f;
              whole = refl;
            });
        has = refl;
      }

      gathered : (x : Step) → step ≡ x → AllTold (gathered_by x it segment octets)
      gathered (Taken ack) e = taken ack e segment.more_follows refl
      gathered (Nak number) e = tt
      gathered Dropped e = tt
      gathered Full e = tt

    asked : (x : Message A) → is_asked x o ≡ true → IsBody o.invoke_id x m.body → AllTold (asked_told it x)
    asked (answers service contents) same is = in_one service contents (eqb-true service (service_asked o.request) same) is
    asked (answers_in_part service segment octets) same is = gathered segment octets is (step segment octets is) refl
    asked (acknowledges negative number window) same is = tt
    asked (closes outcome) same is = tt
    asked nothing same is = tt

    of_its_service : (x : Message A) (b : Bool) → is_asked x o ≡ b → IsBody o.invoke_id x m.body → AllTold (of_service b (asked_told it x))
    of_its_service x true same is = asked x same is
    of_its_service x false same is = tt

  -- the transaction that takes what is heard
  record IsTaker (h : Heard A) (place : ℕ) : Type 0 where
    item : Open A
    there : slice_get st.open_ones place ≡ Some item
    id : item.invoke_id ≡ h.invoke_id

  taker : (from : Station) (h : Heard A) (place : ℕ) → place_of w.book.moment from h.invoke_id st.open_ones ≡ Some place → IsTaker h place
  taker from h place e =
      let f = found_at (takes {A = A} w.book.moment from h.invoke_id) 0 st.open_ones place e in
      let same : place ≡ f.after = omega (arith, f.is) in
      let p = and_parts (f.item.invoke_id == h.invoke_id) (same_station f.item.station from && goes_on w.book.moment f.item) f.passes in
      record { item = f.item; there = ap (slice_get st.open_ones) same ∙ f.there; id = eqb-true f.item.invoke_id h.invoke_id p.0 }

  module _ (m : book.Message Station) (heard : IsHeard w.book c m) (from : Station) (h : Heard A) (is : IsBody h.invoke_id h.message m.body) where
    by_place : (place : Option ℕ) → place_of w.book.moment from h.invoke_id st.open_ones ≡ place →
        AllTold (told_where place w.book.moment h.message st.open_ones)
    by_place None e = tt
    by_place (Some place) e =
        let f = taker from h place e in
        subst (λ (x : Option (Open A)). AllTold (told_at x w.book.moment place h.message)) (sym f.there)
        (of_its_service m heard place f.item (has place f.there) h.message (is_asked h.message f.item) refl
        (subst (λ n. IsBody n h.message m.body) (sym f.id) is))

    -- what completes was told
    pub came_told : (x : Whole A) → reached w.book.moment from h st ≡ completes x → WasTold x
    came_told x e = subst (λ (r : Reached A). AllTold r) e (by_place (place_of w.book.moment from h.invoke_id st.open_ones) refl)
