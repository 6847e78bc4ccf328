-- A change that was planned keeps the invoke IDs of the open transactions apart.
use Rattle.std.proofs.Common.{◌≡◌, ◌∙◌, refl, sym, ap, subst, ℕ, zero, suc, Bool, true, false, List, [], ◌∷◌, ◌++◌}
use Rattle.std.specs.Prelude.{◌==◌, ◌||◌, not, IfOk, Ok, Err, Option, Some, None, Result, remove, slice_get, slice_set}
use Rattle.std.proofs.lemmas.Bool.{and_parts, eqb-false, ne_eqb, or_from, or_parts, not-true}
use Rattle.apdu.specs.declared.apdu.Segment.{Segment}
use Rattle.npdu.specs.declared.mac.Station.{Station}
use Rattle.profile.specs.Ages.{is_free}
use Rattle.segments.specs.Sender.{SenderState}
use Rattle.segments.specs.declared.step.Turn.{Turn}
use Rattle.segments.specs.declared.step.Turn.TheVariants as turn
use Rattle.bindings.specs.declared.bound.Bound.{Bound}
use Rattle.primitives.specs.declared.plain_data.Request.{Request}
use Rattle.client_tsm.specs.Client.{AreApart, ClientTsmState, changed_at, changed_if, committed, gathers, is_open, may_issue, renews, sends_on}
use Rattle.client_tsm.specs.Hearing.{Heard}
use Rattle.client_tsm.specs.Issuing.{issued, opened, refusal, refusal_if}
use Rattle.client_tsm.specs.Laws.{PlannedKeepApart}
use Rattle.client_tsm.proofs.Telling.{OpensNone, opens_none}
use Rattle.client_tsm.specs.Open.{Open}
use Rattle.client_tsm.specs.Planned.{IsPlanned, for_heard, for_issue, for_wake}
use Rattle.client_tsm.specs.Steps.{IsPlan}
use Rattle.client_tsm.specs.Waking.{again, again_by, all_left, left_by, turn_of}
use Rattle.client_tsm.specs.declared.plan.ClientTsmChange.{ClientTsmChange}
use Rattle.client_tsm.specs.declared.plan.ClientTsmChange.TheVariants.{Stays, Opens, Sends, Gathers, Renews, Ends, Wakes}
use Rattle.client_tsm.specs.declared.plan.ClientTsmPlan.{ClientTsmPlan}

-- ---- a transaction that is opened has an invoke ID that no other has
may_by : (long may : Bool) → refusal_if long may ≡ None → may ≡ true
may_by true may e = absurd (cc e)
may_by false false e = absurd (cc e)
may_by false true e = refl

other : (a b : ℕ) → (a == b) ≡ false → (b == a) ≡ false
other a b e = ne_eqb b a (λ (s : b ≡ a). eqb-false a b e (sym s))

module _ {A : Type 0} where
  same_opened : (o x : Open A) → Opens o ≡ Opens x → o ≡ x
  same_opened o x e = cc e

  pub opened_is_free : (now : ℕ) (st : ClientTsmState A) (o : Open A) → IsPlanned now st (Opens o) → is_open o.invoke_id st.open_ones ≡ false
  opened_is_free now st o (for_heard from h plan is e) = absurd (subst OpensNone (sym e) (opens_none now from h st plan is))
  opened_is_free now st o (for_issue request to free e) =
      let may = may_by _ (may_issue now st) free in
      let none = (and_parts (is_free _ now) (not (is_open st.next st.open_ones)) may).1 in
      ap (λ (x : Open A). is_open x.invoke_id st.open_ones) (same_opened o (opened now request to st) e)
      ∙ not-true (is_open st.next st.open_ones) none
  opened_is_free now st o (for_wake e) = absurd (cc e)

  -- ---- what keeps the invoke IDs apart
  same_some : (x y : Open A) → Some x ≡ Some y → x ≡ y
  same_some x y e = cc e

  -- one more, whose invoke ID no other has
  open_later : (id : ℕ) (os : List (Open A)) (o : Open A) → is_open id os ≡ false → (o.invoke_id == id) ≡ false → is_open id (os ++ o ∷ []) ≡ false
  open_later id [] o none e = or_from (o.invoke_id == id) false e refl
  open_later id (y ∷ os) o none e =
      let p = or_parts (y.invoke_id == id) (is_open id os) none in
      or_from (y.invoke_id == id) (is_open id (os ++ o ∷ [])) p.0 (open_later id os o p.1 e)

  pub apart_opened : (os : List (Open A)) (o : Open A) → AreApart os → is_open o.invoke_id os ≡ false → AreApart (os ++ o ∷ [])
  apart_opened [] o apart none = (refl, tt)
  apart_opened (y ∷ os) o apart none =
      let p = or_parts (y.invoke_id == o.invoke_id) (is_open o.invoke_id os) none in
      (open_later y.invoke_id os o apart.0 (other y.invoke_id o.invoke_id p.0), apart_opened os o apart.1 p.1)

  -- one that changes, and keeps its invoke ID
  same_open : (id : ℕ) (os : List (Open A)) (i : ℕ) (x z : Open A) → slice_get os i ≡ Some x → z.invoke_id ≡ x.invoke_id →
      is_open id (slice_set os i z) ≡ is_open id os
  same_open id [] i x z there same = absurd (cc there)
  same_open id (y ∷ os) zero x z there same =
      ap (λ (n : ℕ). (n == id) || is_open id os) (same ∙ ap (λ (o : Open A). o.invoke_id) (sym (same_some y x there)))
  same_open id (y ∷ os) (suc i) x z there same = ap (λ (b : Bool). (y.invoke_id == id) || b) (same_open id os i x z there same)

  apart_set : (os : List (Open A)) (i : ℕ) (x z : Open A) → slice_get os i ≡ Some x → z.invoke_id ≡ x.invoke_id → AreApart os → AreApart (slice_set os i z)
  apart_set [] i x z there same apart = absurd (cc there)
  apart_set (y ∷ os) zero x z there same apart =
      (ap (λ (n : ℕ). is_open n os) (same ∙ ap (λ (o : Open A). o.invoke_id) (sym (same_some y x there))) ∙ apart.0, apart.1)
  apart_set (y ∷ os) (suc i) x z there same apart = (same_open y.invoke_id os i x z there same ∙ apart.0, apart_set os i x z there same apart.1)

  apart_if : (found : Option (Open A)) (os : List (Open A)) (place : ℕ) (f : Open A → Open A) → slice_get os place ≡ found →
      ((o : Open A) → (f o).invoke_id ≡ o.invoke_id) → AreApart os → AreApart (changed_if found place f os)
  apart_if None os place f e same apart = apart
  apart_if (Some x) os place f e same apart = apart_set os place x (f x) e (same x) apart

  apart_changed : (os : List (Open A)) (place : ℕ) (f : Open A → Open A) → ((o : Open A) → (f o).invoke_id ≡ o.invoke_id) → AreApart os →
      AreApart (changed_at place f os)
  apart_changed os place f same apart = apart_if (slice_get os place) os place f refl same apart

  -- one that ends
  open_removed : (id : ℕ) (os : List (Open A)) (i : ℕ) → is_open id os ≡ false → is_open id (remove os i) ≡ false
  open_removed id [] zero none = none
  open_removed id [] (suc i) none = none
  open_removed id (y ∷ os) zero none = (or_parts (y.invoke_id == id) (is_open id os) none).1
  open_removed id (y ∷ os) (suc i) none =
      let p = or_parts (y.invoke_id == id) (is_open id os) none in
      or_from (y.invoke_id == id) (is_open id (remove os i)) p.0 (open_removed id os i p.1)

  apart_removed : (os : List (Open A)) (i : ℕ) → AreApart os → AreApart (remove os i)
  apart_removed [] zero apart = tt
  apart_removed [] (suc i) apart = tt
  apart_removed (y ∷ os) zero apart = apart.1
  apart_removed (y ∷ os) (suc i) apart = (open_removed y.invoke_id os i apart.0, apart_removed os i apart.1)

  -- all, where the client wakes
  same_again : (sending : Option SenderState) (now : ℕ) (o : Open A) → (again_by sending now o).invoke_id ≡ o.invoke_id
  same_again None now o = refl
  same_again (Some c) now o = refl

  open_left_by : (t : Turn) (id now : ℕ) (o : Open A) (left : List (Open A)) → (o.invoke_id == id) ≡ false → is_open id left ≡ false →
      is_open id (left_by t now o ++ left) ≡ false
  open_left_by turn.Waits id now o left e none = or_from (o.invoke_id == id) (is_open id left) e none
  open_left_by turn.Sends id now o left e none =
      or_from ((again now o).invoke_id == id) (is_open id left) (ap (λ (n : ℕ). n == id) (same_again o.sending now o) ∙ e) none
  open_left_by turn.Ends id now o left e none = none

  open_left : (id now : ℕ) (os : List (Open A)) → is_open id os ≡ false → is_open id (all_left now os) ≡ false
  open_left id now [] none = none
  open_left id now (o ∷ os) none =
      let p = or_parts (o.invoke_id == id) (is_open id os) none in
      open_left_by (turn_of now o) id now o (all_left now os) p.0 (open_left id now os p.1)

  apart_left_by : (t : Turn) (now : ℕ) (o : Open A) (left : List (Open A)) → is_open o.invoke_id left ≡ false → AreApart left →
      AreApart (left_by t now o ++ left)
  apart_left_by turn.Waits now o left none apart = (none, apart)
  apart_left_by turn.Sends now o left none apart = (ap (λ (n : ℕ). is_open n left) (same_again o.sending now o) ∙ none, apart)
  apart_left_by turn.Ends now o left none apart = apart

  pub apart_left : (now : ℕ) (os : List (Open A)) → AreApart os → AreApart (all_left now os)
  apart_left now [] apart = tt
  apart_left now (o ∷ os) apart =
      apart_left_by (turn_of now o) now o (all_left now os) (open_left o.invoke_id now os apart.0) (apart_left now os apart.1)

  -- ---- a change that was planned
  pub kept_apart : (now : ℕ) (st : ClientTsmState A) (change : ClientTsmChange A) → IsPlanned now st change → AreApart st.open_ones →
      AreApart (committed now change st).open_ones
  kept_apart now st Stays planned apart = apart
  kept_apart now st (Opens o) planned apart = apart_opened st.open_ones o apart (opened_is_free now st o planned)
  kept_apart now st (Sends place sending) planned apart = apart_changed st.open_ones place (sends_on now sending) (λ o. refl) apart
  kept_apart now st (Gathers place segment octets) planned apart = apart_changed st.open_ones place (gathers now segment octets) (λ o. refl) apart
  kept_apart now st (Renews place) planned apart = apart_changed st.open_ones place (renews now) (λ o. refl) apart
  kept_apart now st (Ends place) planned apart = apart_removed st.open_ones place apart
  kept_apart now st Wakes planned apart = apart_left now st.open_ones apart

pub planned_keep_apart : {A : Type 0} → PlannedKeepApart A
planned_keep_apart now st change planned apart = kept_apart now st change planned apart

-- ---- what is planned is planned
pub issue_is_planned : {A : Type 0} (now : ℕ) (request : Request A) (to : Bound) (st : ClientTsmState A) (plan : ClientTsmPlan A) →
    refusal now request to st ≡ None → plan ≡ issued now request to st → IsPlanned now st plan.change
issue_is_planned now request to st plan free is = for_issue request to free (ap (λ (p : ClientTsmPlan _). p.change) is)

pub heard_is_planned : {A E : Type 0} (now : ℕ) (from : Station) (h : Heard A) (st : ClientTsmState A) (r : Result (ClientTsmPlan A) E) →
    IfOk r (IsPlan now from h st) → IfOk r (λ plan. IsPlanned now st plan.change)
heard_is_planned now from h st (Ok plan) is = for_heard from h plan is refl
heard_is_planned now from h st (Err e) is = tt

-- the same of lists that are as after a change
module _ {A : Type 0} (os new : List (Open A)) (apart : AreApart os) where
  pub opens_apart : (o : Open A) → is_open o.invoke_id os ≡ false → new ≡ os ++ o ∷ [] → AreApart new
  opens_apart o none e = subst AreApart (sym e) (apart_opened os o apart none)

  pub sends_apart : (place now : ℕ) (sending : Option SenderState) → new ≡ changed_at place (sends_on now sending) os → AreApart new
  sends_apart place now sending e = subst AreApart (sym e) (apart_changed os place (sends_on now sending) (λ o. refl) apart)

  pub gathers_apart : (place now : ℕ) (segment : Segment) (octets : List ℕ) → new ≡ changed_at place (gathers now segment octets) os → AreApart new
  gathers_apart place now segment octets e = subst AreApart (sym e) (apart_changed os place (gathers now segment octets) (λ o. refl) apart)

  pub renews_apart : (place now : ℕ) → new ≡ changed_at place (renews now) os → AreApart new
  renews_apart place now e = subst AreApart (sym e) (apart_changed os place (renews now) (λ o. refl) apart)

  pub ends_apart : (place : ℕ) → new ≡ remove os place → AreApart new
  ends_apart place e = subst AreApart (sym e) (apart_removed os place apart)

  pub wakes_apart : (now : ℕ) → new ≡ all_left now os → AreApart new
  wakes_apart now e = subst AreApart (sym e) (apart_left now os apart)

pub ruleset apart_rules = (opens_apart, sends_apart, gathers_apart, renews_apart, ends_apart, wakes_apart, opened_is_free)
