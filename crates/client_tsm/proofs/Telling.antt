-- What is told of what is heard, and when an answer counts.
use Rattle.std.proofs.Common.{◌≡◌, ◌⊎◌, inl, inr, ◌∙◌, refl, sym, ap, subst, ℕ, ◌+◌, Bool, true, false, List, [], ◌∷◌, arith}
use Rattle.std.specs.Prelude.{◌==◌, ◌&&◌, cond, zero, suc, Option, Some, None, slice_get}
use Rattle.std.specs.List.{position_from}
use Rattle.std.proofs.lemmas.Bool.{and_from, and_left, and_parts, eqb-false, eqb-true, eq-eqb, ltb-true, ne_eqb, or_parts}
use Rattle.apdu.specs.declared.apdu.Segment.{Segment}
use Rattle.npdu.proofs.Stations.{one_station}
use Rattle.npdu.specs.Mac.{same_station}
use Rattle.npdu.specs.declared.mac.Station.{Station}
use Rattle.primitives.specs.declared.plain_data.Reply.{Reply}
use Rattle.segments.specs.Sender.{SenderState, hears}
use Rattle.profile.specs.Ages.{is_in_time}
use Rattle.profile.specs.Times.{DEADLINE_MS}
use Rattle.segments.specs.declared.step.Step.{Step}
use Rattle.segments.specs.declared.step.Step.TheVariants.{Taken, Nak, Dropped, Full}
use Rattle.segments.specs.declared.step.Turn.{Turn}
use Rattle.segments.specs.declared.step.Turn.TheVariants as turn
use Rattle.services.proofs.Contents.{one_meaning}
use Rattle.services.specs.Asked.{service_asked}
use Rattle.services.specs.Contents.{PlainAnswer, complex, MeansReply}
use Rattle.client_tsm.specs.Client.{AreApart, ClientTsmState, gathered_at, is_open}
use Rattle.client_tsm.specs.Hearing.{Message, answers, answers_in_part, acknowledges, closes, nothing, Heard, Reached, plans, completes, Whole, ack_heard}
use Rattle.client_tsm.specs.Asking.{asked_by}
use Rattle.client_tsm.specs.Hearing.{ack_if, ack_said, renewed_if, closing, finished, asked_told, is_asked, gathered_by, of_service, part_heard, place_of, quiet}
use Rattle.client_tsm.specs.Hearing.{reached, taken_if, told_at, told_open, told_where, turned_by, Taking, whole_heard, whole_with}
use Rattle.client_tsm.specs.Laws.{CountsOrNothing, HasService, IsCounted, IsOutcome, IsTold, CountedIsTold, OnePlan, ToldIsOpen}
use Rattle.client_tsm.specs.Open.{Open, goes_on, takes}
use Rattle.client_tsm.specs.Steps.{IsFinished, IsFound, IsMeant, IsPlan}
use Rattle.client_tsm.specs.declared.plan.ClientTsmChange.{ClientTsmChange}
use Rattle.client_tsm.specs.declared.plan.ClientTsmChange.TheVariants.{Stays, Opens, Sends, Gathers, Renews, Ends, Wakes}
use Rattle.client_tsm.specs.declared.gathering.Gathering.{Gathering}
use Rattle.client_tsm.specs.declared.plan.Outcome.{Outcome}
use Rattle.client_tsm.specs.declared.plan.Outcome.TheVariants.{Answered, Aborted, Rejected, TimedOut}
use Rattle.client_tsm.specs.declared.plan.ClientTsmPlan.{ClientTsmPlan}
use Rattle.client_tsm.specs.declared.said.ClientSaid.{ClientSaid}

-- a transaction that takes what is heard, and its place
abbrev pub taking : {A : Type 0} → ℕ → ℕ → Open A → Taking A
taking now place o = record { moment = now; place = place; transaction = o }

-- ---- one plan
found_once : {A : Type 0} (r : Reached A) (a b : Option (Reply A)) → IsFound r a → IsFound r b → a ≡ b
found_once (plans p) a b x y = x ∙ sym y
found_once (completes w) None None x y = refl
found_once (completes w) (Some p) (Some q) x y = ap Some (one_meaning w.taking.transaction.request w.contents p q x y)
found_once (completes w) (Some p) None x y = absurd (y.none p x)
found_once (completes w) None (Some q) x y = absurd (x.none q y)

pub one_plan : {A : Type 0} → OnePlan A
one_plan now from h st x y p q =
    p.is ∙ ap (finished (reached now from h st)) (found_once (reached now from h st) p.found q.found p.means q.means) ∙ sym q.is

-- ---- a whole answer that means a reply is given
given_by : {A : Type 0} (w : Whole A) (reply : Reply A) (found : Option (Reply A)) (plan : ClientTsmPlan A) →
    MeansReply w.taking.transaction.request w.contents reply → IsMeant w.taking.transaction.request w.contents found →
    plan ≡ finished (completes w) found →
    plan ≡ closing w.says w.taking (Answered reply)
given_by w reply None plan m means is = absurd (means.none reply m)
given_by w reply (Some q) plan m means is =
    is ∙ ap (λ (x : Reply _). closing w.says w.taking (Answered x)) (one_meaning w.taking.transaction.request w.contents q reply means m)

pub given : {A : Type 0} (r : Reached A) (w : Whole A) (reply : Reply A) (plan : ClientTsmPlan A) → r ≡ completes w →
    MeansReply w.taking.transaction.request w.contents reply → IsFinished r plan → plan ≡ closing w.says w.taking (Answered reply)
given {A} r w reply plan e m is =
    let done : IsFinished (completes w) plan = subst (λ (x : Reached A). IsFinished x plan) e is in
    given_by w reply done.found plan m done.means done.is

-- what is reached where a transaction takes what is heard
pub reached_is : {A : Type 0} (now : ℕ) (from : Station) (h : Heard A) (st : ClientTsmState A) (place : ℕ) (o : Open A) →
    place_of now from h.invoke_id st.open_ones ≡ Some place → slice_get st.open_ones place ≡ Some o →
    reached now from h st ≡ told_open (taking now place o) h.message
reached_is now from h st place o e f =
    ap (λ (p : Option ℕ). told_where p now h.message st.open_ones) e ∙ ap (λ (s : Option (Open _)). told_at s now place h.message) f

-- what is reached where there is no transaction at the place
pub reached_none : {A : Type 0} (now : ℕ) (from : Station) (h : Heard A) (st : ClientTsmState A) (place : ℕ) →
    place_of now from h.invoke_id st.open_ones ≡ Some place → slice_get st.open_ones place ≡ None → reached now from h st ≡ plans (quiet Stays)
reached_none now from h st place e f =
    ap (λ (p : Option ℕ). told_where p now h.message st.open_ones) e ∙ ap (λ (s : Option (Open _)). told_at s now place h.message) f

-- ---- what holds of each plan that what is heard may come to
-- the change opens no transaction
abbrev pub OpensNone : {A : Type 0} → ClientTsmChange A → Type 0
OpensNone Stays = Unit {0}
OpensNone (Opens o) = ⊥
OpensNone (Sends place sending) = Unit {0}
OpensNone (Gathers place segment octets) = Unit {0}
OpensNone (Renews place) = Unit {0}
OpensNone (Ends place) = Unit {0}
OpensNone Wakes = Unit {0}

-- what holds of plans of a message holds where nothing is told or opened, and where the transaction ends so as was heard
pub record Leaves {A : Type 0} (P : ClientTsmPlan A → Type 0) (t : Taking A) (m : Message A) : Type 0 where
  pub silent : (says : List (ClientSaid A)) (change : ClientTsmChange A) → OpensNone change → P (record { said = says; told = []; change = change })
  pub ends : (says : List (ClientSaid A)) (outcome : Outcome A) → IsOutcome t.moment m t.transaction outcome → P (closing says t outcome)

module _ {A : Type 0} (P : ClientTsmPlan A → Type 0) (t : Taking A) (m : Message A) (leaves : Leaves P t m) where
  answer_case : (contents : PlainAnswer) (says : List (ClientSaid A)) (otherwise : ClientTsmChange A) (found : Option (Reply A)) → OpensNone otherwise →
      ((reply : Reply A) → MeansReply t.transaction.request contents reply → IsOutcome t.moment m t.transaction (Answered reply)) →
      IsMeant t.transaction.request contents found →
      P (finished (completes (record { taking = t; contents = contents; says = says; otherwise = otherwise })) found)
  answer_case contents says otherwise None none heard means = leaves.silent says otherwise none
  answer_case contents says otherwise (Some reply) none heard means = leaves.ends says (Answered reply) (heard reply means)

  taken_case : (more : Bool) (says : List (ClientSaid A)) (segment : Segment) (octets : List ℕ) (found : Option (Reply A)) →
      (more ≡ false → (reply : Reply A) → MeansReply t.transaction.request (complex (whole_with octets t.transaction)) reply →
      IsOutcome t.moment m t.transaction (Answered reply)) → IsFound (taken_if more says t segment octets) found →
      P (finished (taken_if more says t segment octets) found)
  taken_case true says segment octets found heard means = leaves.silent says (Gathers t.place segment octets) tt
  taken_case false says segment octets found heard means =
      answer_case (complex (whole_with octets t.transaction)) says (Renews t.place) found tt (heard refl) means

  renewed_case : (g : Option (Gathering A)) → P (quiet (renewed_if g t.place))
  renewed_case None = leaves.silent [] Stays tt
  renewed_case (Some g) = leaves.silent [] (Renews t.place) tt

  gathered_case : (step : Step) (segment : Segment) (octets : List ℕ) (found : Option (Reply A)) →
      ((ack : Option ℕ) → step ≡ Taken ack → segment.more_follows ≡ false → (reply : Reply A) →
      MeansReply t.transaction.request (complex (whole_with octets t.transaction)) reply → IsOutcome t.moment m t.transaction (Answered reply)) →
      (step ≡ Full → IsOutcome t.moment m t.transaction TimedOut) → IsFound (gathered_by step t segment octets) found →
      P (finished (gathered_by step t segment octets) found)
  gathered_case (Taken ack) segment octets found heard full means =
      taken_case segment.more_follows (ack_if ack t.transaction segment) segment octets found (heard ack refl) means
  gathered_case (Nak number) segment octets found heard full means =
      leaves.silent (ack_said true number t.transaction segment ∷ []) (Gathers t.place segment octets) tt
  gathered_case Dropped segment octets found heard full means = renewed_case t.transaction.gathering
  gathered_case Full segment octets found heard full means = leaves.ends [] TimedOut (full refl)

  turned_case : (turns : Turn) (c : SenderState) → P (turned_by turns t c)
  turned_case turn.Waits c = leaves.silent [] Stays tt
  turned_case turn.Sends c = leaves.silent (asked_by (Some c) t.transaction) (Sends t.place (Some c)) tt
  turned_case turn.Ends c = leaves.silent [] (Sends t.place None) tt

  ack_case : (sending : Option SenderState) (negative : Bool) (number window : ℕ) → P (ack_heard sending t negative number window)
  ack_case None negative number window = leaves.silent [] Stays tt
  ack_case (Some c) negative number window =
      turned_case (hears t.moment number window negative c).turn (hears t.moment number window negative c).state

asked_case : {A : Type 0} (P : ClientTsmPlan A → Type 0) (t : Taking A) (m : Message A) (found : Option (Reply A)) → Leaves P t m →
    IsFound (asked_told t m) found → P (finished (asked_told t m) found)
asked_case P t (answers service contents) found leaves means =
    answer_case P t (answers service contents) leaves contents [] Stays found tt (λ reply m. m) means
asked_case P t (answers_in_part service segment octets) found leaves means =
    gathered_case P t (answers_in_part service segment octets) leaves (gathered_at t.moment t.transaction segment octets).step segment octets found
    (λ ack taken last reply m. ((ack, taken), last, m)) (λ full. full) means
asked_case P t (acknowledges negative number window) found leaves means =
    ack_case P t (acknowledges negative number window) leaves t.transaction.sending negative number window
asked_case P t (closes outcome) found leaves means = leaves.ends [] outcome refl
asked_case P t nothing found leaves means = leaves.silent [] Stays tt

-- an answer to another service comes to nothing
served_case : {A : Type 0} (P : ClientTsmPlan A → Type 0) (b : Bool) (r : Reached A) (found : Option (Reply A)) → P (quiet Stays) →
    (b ≡ true → IsFound r found → P (finished r found)) → IsFound (of_service b r) found → P (finished (of_service b r) found)
served_case P true r found none asked means = asked refl means
served_case P false r found none asked means = none

-- a message that is asked for has the service of the request
has_service : {A : Type 0} (m : Message A) (o : Open A) → is_asked m o ≡ true → HasService m o
has_service (answers service contents) o e = eqb-true service (service_asked o.request) e
has_service (answers_in_part service segment octets) o e = eqb-true service (service_asked o.request) e
has_service (acknowledges negative number window) o e = tt
has_service (closes outcome) o e = tt
has_service nothing o e = tt

is_asked_of : {A : Type 0} (m : Message A) (o : Open A) → HasService m o → is_asked m o ≡ true
is_asked_of (answers service contents) o e = eq-eqb service (service_asked o.request) e
is_asked_of (answers_in_part service segment octets) o e = eq-eqb service (service_asked o.request) e
is_asked_of (acknowledges negative number window) o e = refl
is_asked_of (closes outcome) o e = refl
is_asked_of nothing o e = refl

-- ---- the place that is found
pub record FoundAt {X : Type 0} (t : X → Bool) (i : ℕ) (xs : List X) (place : ℕ) : Type 0 where
  pub after : ℕ
  pub item : X
  pub is : place ≡ i + after
  pub there : slice_get xs after ≡ Some item
  pub passes : t item ≡ true

some_is : (a b : ℕ) → Some a ≡ Some b → a ≡ b
some_is a b e = cc e

found_if : {X : Type 0} (t : X → Bool) (i : ℕ) (x : X) (xs : List X) (place : ℕ) (b : Bool) → t x ≡ b →
    cond b (Some i) (position_from t (i + 1) xs) ≡ Some place → (position_from t (i + 1) xs ≡ Some place → FoundAt t (i + 1) xs place) →
    FoundAt t i (x ∷ xs) place
found_if t i x xs place true is e more =
    let same : i ≡ place = some_is i place e in
    record { after = 0; item = x; is = omega (arith, same); there = refl; passes = is }
found_if t i x xs place false is e more =
    let rest = more e in
    record { after = suc rest.after; item = rest.item; is = omega (arith, rest.is); there = rest.there; passes = rest.passes }

pub found_at : {X : Type 0} (t : X → Bool) (i : ℕ) (xs : List X) (place : ℕ) → position_from t i xs ≡ Some place → FoundAt t i xs place
found_at t i [] place e = absurd (cc e)
found_at t i (x ∷ xs) place e = found_if t i x xs place (t x) refl e (λ r. found_at t (i + 1) xs place r)

counts : {A : Type 0} (now : ℕ) (from : Station) (h : Heard A) (st : ClientTsmState A) (place : ℕ) (o : Open A) → slice_get st.open_ones place ≡ Some o →
    takes now from h.invoke_id o ≡ true → HasService h.message o → IsCounted now from h st place o
counts now from h st place o there e s =
    let p = and_parts (o.invoke_id == h.invoke_id) (same_station o.station from && goes_on now o) e in
    let q = and_parts (same_station o.station from) (goes_on now o) p.1 in
    record {
      there = there;
      id = eqb-true o.invoke_id h.invoke_id p.0;
      station = (one_station o.station from).same q.0;
      service = s;
      early = ltb-true now (o.at + DEADLINE_MS) (and_parts (is_in_time o.at now) _ q.1).0;
      living = q.1;
    }

-- the transaction at the place that is found takes what is heard
record TakenAt {A : Type 0} (now : ℕ) (from : Station) (h : Heard A) (st : ClientTsmState A) (place : ℕ) : Type 0 where
  pub item : Open A
  pub there : slice_get st.open_ones place ≡ Some item
  pub passes : takes now from h.invoke_id item ≡ true

taken_at : {A : Type 0} (now : ℕ) (from : Station) (h : Heard A) (st : ClientTsmState A) (place : ℕ) →
    place_of now from h.invoke_id st.open_ones ≡ Some place → TakenAt now from h st place
taken_at {A} now from h st place e =
    let f = found_at (takes {A = A} now from h.invoke_id) 0 st.open_ones place e in
    let at : place ≡ f.after = omega (arith, f.is) in
    record { item = f.item; there = ap (slice_get st.open_ones) at ∙ f.there; passes = f.passes }

-- what holds where nothing is planned, and of each plan for a transaction for which what is heard counts, holds of the plan
module _ {A : Type 0} (P : ClientTsmPlan A → Type 0) (now : ℕ) (from : Station) (h : Heard A) (st : ClientTsmState A) (none : P (quiet Stays))
    (each : (place : ℕ) (o : Open A) → IsCounted now from h st place o → Leaves P (taking now place o) h.message) where
  where_case : (found : Option (Reply A)) (p : Option ℕ) → place_of now from h.invoke_id st.open_ones ≡ p →
      IsFound (told_where p now h.message st.open_ones) found → P (finished (told_where p now h.message st.open_ones) found)
  where_case found None e means = none
  where_case found (Some place) e means =
      let f = taken_at now from h st place e in
      subst (λ (s : Option (Open A)). IsFound (told_at s now place h.message) found → P (finished (told_at s now place h.message) found)) (sym f.there)
      (served_case P (is_asked h.message f.item) (asked_told (taking now place f.item) h.message) found none
      (λ asked. asked_case P (taking now place f.item) h.message found
      (each place f.item (counts now from h st place f.item f.there f.passes (has_service h.message f.item asked))))) means

  pub heard_case : (plan : ClientTsmPlan A) → IsPlan now from h st plan → P plan
  heard_case plan is = subst P (sym is.is) (where_case is.found (place_of now from h.invoke_id st.open_ones) refl is.means)

pub told_is_open : {A : Type 0} → ToldIsOpen A
told_is_open now from h st plan is = heard_case (λ p. (p.told ≡ []) ⊎ IsTold now from h st p) now from h st (inl refl)
    (λ place o counted. record {
      silent = λ says change quietly. inl refl;
      ends = λ says outcome heard. inr (record {
        place = place;
        transaction = o;
        counted = counted;
        outcome = outcome;
        heard = heard;
        told = refl;
        ends = refl;
      });
    }) plan is

pub counts_or_nothing : {A : Type 0} → CountsOrNothing A
counts_or_nothing {A} now from h st plan is =
    heard_case (λ p. (p ≡ quiet Stays) ⊎ ((place : ℕ) × (o : Open A) × IsCounted now from h st place o)) now from h st (inl refl)
    (λ place o counted. record {
      silent = λ says change quietly. inr (place, o, counted);
      ends = λ says outcome heard. inr (place, o, counted);
    }) plan is

-- what is heard opens no transaction
pub opens_none : {A : Type 0} (now : ℕ) (from : Station) (h : Heard A) (st : ClientTsmState A) (plan : ClientTsmPlan A) → IsPlan now from h st plan →
    OpensNone plan.change
opens_none now from h st plan is = heard_case (λ p. OpensNone p.change) now from h st tt
    (λ place o counted. record { silent = λ says change none. none; ends = λ says outcome heard. tt }) plan is

-- ---- an outcome that counts is told
-- what is planned without service data, is
pub planned_is : {A : Type 0} (r : Reached A) (p plan : ClientTsmPlan A) → r ≡ plans p → IsFinished r plan → plan ≡ p
planned_is {A} r p plan e is =
    let done : IsFinished (plans p) plan = subst (λ (x : Reached A). IsFinished x plan) e is in
    done.is

same_open : {A : Type 0} (x y : Open A) → Some x ≡ Some y → x ≡ y
same_open x y e = cc e

-- the transaction with an invoke ID that no other has is the one found
none_at : {A : Type 0} (id : ℕ) (os : List (Open A)) (place : ℕ) (o : Open A) → is_open id os ≡ false → slice_get os place ≡ Some o →
    (o.invoke_id == id) ≡ false
none_at id [] place o none there = absurd (cc there)
none_at id (y ∷ os) zero o none there =
    ap (λ (x : Open _). x.invoke_id == id) (sym (same_open y o there)) ∙ (or_parts (y.invoke_id == id) (is_open id os) none).0
none_at id (y ∷ os) (suc place) o none there = none_at id os place o (or_parts (y.invoke_id == id) (is_open id os) none).1 there

found_place : {A : Type 0} (now : ℕ) (from : Station) (i : ℕ) (os : List (Open A)) (place : ℕ) (o : Open A) → AreApart os → slice_get os place ≡ Some o →
    takes now from o.invoke_id o ≡ true → position_from (takes now from o.invoke_id) i os ≡ Some (i + place)
found_place now from i [] place o apart there e = absurd (cc there)
found_place now from i (y ∷ os) zero o apart there e =
    let same : i ≡ i + 0 = omega arith in
    ap (λ (b : Bool). cond b (Some i) (position_from (takes now from o.invoke_id) (i + 1) os))
    (ap (λ (x : Open _). takes now from o.invoke_id x) (same_open y o there) ∙ e)
    ∙ ap Some same
found_place now from i (y ∷ os) (suc place) o apart there e =
    let different = none_at y.invoke_id os place o apart.0 there in
    let other : (y.invoke_id == o.invoke_id) ≡ false = ne_eqb y.invoke_id o.invoke_id (λ s. eqb-false o.invoke_id y.invoke_id different (sym s)) in
    let same : i + 1 + place ≡ i + suc place = omega arith in
    ap (λ (b : Bool). cond b (Some i) (position_from (takes now from o.invoke_id) (i + 1) os))
    (and_left (y.invoke_id == o.invoke_id) (same_station y.station from && goes_on now y) other)
    ∙ found_place now from (i + 1) os place o apart.1 there e
    ∙ ap Some same

counted_place : {A : Type 0} (now : ℕ) (from : Station) (h : Heard A) (st : ClientTsmState A) (place : ℕ) (o : Open A) → AreApart st.open_ones →
    IsCounted now from h st place o → place_of now from h.invoke_id st.open_ones ≡ Some place
counted_place {A} now from h st place o apart c =
    let station = (one_station o.station from).one c.station in
    let takes_it = and_from (o.invoke_id == o.invoke_id) (same_station o.station from && goes_on now o) (eq-eqb o.invoke_id o.invoke_id refl)
    (and_from (same_station o.station from) (goes_on now o) station c.living) in
    let zeroth : 0 + place ≡ place = omega arith in
    ap (λ (id : ℕ). place_of {A = A} now from id st.open_ones) (sym c.id)
    ∙ found_place now from 0 st.open_ones place o apart c.there takes_it
    ∙ ap Some zeroth

-- a transaction is told to have come to this, and ends
abbrev TellsOf : {A : Type 0} → ℕ → Open A → Outcome A → ClientTsmPlan A → Type 0
TellsOf place o outcome plan = (plan.told ≡ record { invoke_id = o.invoke_id; outcome = outcome } ∷ []) × (plan.change ≡ Ends place)

closes_so : {A : Type 0} (says : List (ClientSaid A)) (t : Taking A) (outcome : Outcome A) (plan : ClientTsmPlan A) → plan ≡ closing says t outcome →
    TellsOf t.place t.transaction outcome plan
closes_so says t outcome plan p = (ap (λ (x : ClientTsmPlan _). x.told) p, ap (λ (x : ClientTsmPlan _). x.change) p)

-- a message that has the service of the request comes to what is asked for
asked_of : {A : Type 0} (now place : ℕ) (o : Open A) (m : Message A) → HasService m o → told_open (taking now place o) m ≡ asked_told (taking now place o) m
asked_of now place o m s = ap (λ (b : Bool). of_service b (asked_told (taking now place o) m)) (is_asked_of m o s)

outcome_is_told : {A : Type 0} (now place : ℕ) (o : Open A) (m : Message A) (outcome : Outcome A) (plan : ClientTsmPlan A) → IsOutcome now m o outcome →
    IsFinished (asked_told (taking now place o) m) plan → TellsOf place o outcome plan
outcome_is_told {A} now place o (answers service contents) (Answered reply) plan means is =
    closes_so [] (taking now place o) (Answered reply) plan (given {A = A} (whole_heard (taking now place o) contents) _ reply plan refl means is)
outcome_is_told now place o (answers service contents) (Aborted reason) plan means is = absurd means
outcome_is_told now place o (answers service contents) (Rejected reason) plan means is = absurd means
outcome_is_told now place o (answers service contents) TimedOut plan means is = absurd means
outcome_is_told {A} now place o (answers_in_part service segment octets) (Answered reply) plan means is =
    let says = ack_if means.0.0 o segment in
    let w : Whole A = record { taking = taking now place o; contents = complex (whole_with octets o); says = says; otherwise = Renews place } in
    let r : part_heard (taking now place o) segment octets ≡ completes w =
    ap (λ (s : Step). gathered_by s (taking now place o) segment octets) means.0.1
    ∙ ap (λ (b : Bool). taken_if b says (taking now place o) segment octets) means.1 in
    closes_so says (taking now place o) (Answered reply) plan (given (part_heard (taking now place o) segment octets) w reply plan r means.2 is)
outcome_is_told now place o (answers_in_part service segment octets) (Aborted reason) plan means is = absurd means
outcome_is_told now place o (answers_in_part service segment octets) (Rejected reason) plan means is = absurd means
outcome_is_told now place o (answers_in_part service segment octets) TimedOut plan full is =
    closes_so [] (taking now place o) TimedOut plan
    (planned_is (part_heard (taking now place o) segment octets) (closing [] (taking now place o) TimedOut) plan
    (ap (λ (s : Step). gathered_by s (taking now place o) segment octets) full) is)
outcome_is_told now place o (acknowledges negative number window) outcome plan means is = absurd means
outcome_is_told now place o (closes said) outcome plan same is =
    closes_so [] (taking now place o) outcome plan (is.is ∙ ap (λ (x : Outcome _). closing [] (taking now place o) x) (sym same))
outcome_is_told now place o nothing outcome plan means is = absurd means

pub counted_is_told : {A : Type 0} → CountedIsTold A
counted_is_told {A} now from h st plan place o outcome apart c heard is =
    let r : reached now from h st ≡ asked_told (taking now place o) h.message =
    reached_is now from h st place o (counted_place now from h st place o apart c) c.there ∙ asked_of now place o h.message c.service in
    outcome_is_told now place o h.message outcome plan heard (subst (λ (x : Reached A). IsFinished x plan) r is)
