-- A history is legal: with what the core says of it, each execution is of an issue that names a device.
use Rattle.std.proofs.Common.{◌≡◌, ◌∙◌, ◌⊎◌, ⊎_elim, refl, sym, ap, subst, ℕ, List, [], ◌∷◌, ◌++◌, Option, Some, None, map}
use Rattle.std.specs.Prelude.{slice_get}
use Rattle.std.specs.List.{AllByRecursion}
use Rattle.carry_said.proofs.headline_site.headline_client.Places.{all_map, all_weaken, has_map}
use Rattle.carry_said.specs.client_tsm.Waking as client_waking
use Rattle.carry_said.specs.client_tsm.declared.plan.TransactionOutcome.{TransactionOutcome}
use Rattle.carry_said.specs.device.Device.{DeviceState}
use Rattle.carry_said.specs.headline_site.headline.Happenings as core
use Rattle.carry_said.specs.headline_site.headline.Happenings.{Fails, Gives, Outcome, closing}
use Rattle.carry_said.specs.headline_site.headline.Protocol.{IsSite}
use Rattle.carry_said.specs.headline_site.headline_bacnet.Protocol.{bacnet}
use Rattle.carry_said.specs.headline_site.headline_bacnet.Refined.{ObjectSite}
use Rattle.carry_said.specs.headline_site.headline_client.Told.{outcome_of}
use Rattle.carry_said.specs.headline_site.headline_device.Devices.{station_of}
use Rattle.carry_said.specs.server_answers.Executed as told
use Rattle.history.proofs.Lists.{has, has_front, has_split, none_has}
use Rattle.history.specs.Legal.{Anew, Did, IsWhatExecutionsLeave, Past, Replays, named_in, past_of}
use Rattle.history.specs.Lists.{Has}
use Rattle.history.specs.declared.Entry.{Entry}
use Rattle.history.specs.declared.Entry.TheVariants.{Answered, Ended, Executed, Issue, Restarted}
use Rattle.npdu.specs.declared.mac.Station.{Station}
use Rattle.object_machine.proofs.ByRows.{is_by_rows}
use Rattle.object_machine.specs.Machine.{after, reply}
use Rattle.object_machine.specs.object_model.Objects.{PlainTable}
use Rattle.primitives.specs.declared.plain_data.Reply.{Reply}
use Rattle.primitives.specs.declared.plain_data.Request.{Request}
use Rattle.services.specs.Asked.{left_by, replied}
use Rattle.carry_world.specs.Laws.{Always, ExecutionsNameOne, IsFresh, IsIssuedTo, IsLegal, Judged, NamesOne, instances_at, judged_at}
use Rattle.carry_world.specs.PlainSteps.{ArePlainSteps, ClientHearsIt, DeviceHearsIt, PlainStep, StepsTo, client_asks, client_hears, client_issues, client_wakes, device_hears, device_restarts, device_wakes}
use Rattle.carry_world.specs.PlainSteps.{last_world, something_passes, time_passes}
use Rattle.carry_world.specs.PlainWorld.{Key, PlainWorld, executed_told, last_key, outcomes_told}
use Rattle.carry_world.proofs.Promised.{IsOrdered, executed_is_issued, is_ordered, step_leads, steps_lead_on, stays_so}
use Rattle.carry_world.proofs.Staying.{same_instances, step_stays}

abbrev WorldHistory : Type 0 → Type 0
WorldHistory A = List (Entry Station (Request A) (Reply A))

same_option : (i j : ℕ) (o : Option ℕ) → o ≡ Some i → o ≡ Some j → i ≡ j
same_option i j o a b = cc (a, b)

module _ {A : Type 0} where
  -- the entry is no execution
  abbrev IsOther : Entry Station (Request A) (Reply A) → Type 0
  IsOther e = (i : ℕ) (r : Reply A) (moment : ℕ) → e ≡ Executed i r moment → ⊥

  -- what names one in a history names one in a longer one
  longer : (instances : List ℕ) (h more : WorldHistory A) (i : ℕ) → NamesOne instances h i → NamesOne instances (h ++ more) i
  longer instances h more i n = record {
    client = n.client;
    instance = n.instance;
    request = n.request;
    moment = n.moment;
    issue = has_front h more n.issue;
    one = n.one;
  }

  -- one more entry, which is no execution, or one of an issue that names one
  one_more : (instances : List ℕ) (h : WorldHistory A) (e : Entry Station (Request A) (Reply A)) → ExecutionsNameOne instances h →
      ((i : ℕ) (r : Reply A) (moment : ℕ) → e ≡ Executed i r moment → NamesOne instances h i) → ExecutionsNameOne instances (h ++ e ∷ [])
  one_more instances h e all new i r moment there = longer instances h (e ∷ []) i (⊎_elim
      (λ (was : Has h (Executed i r moment)). all i r moment was)
      (λ (is : e ≡ Executed i r moment). new i r moment is)
      (has_split h e there))

  other_more : (instances : List ℕ) (h : WorldHistory A) (e : Entry Station (Request A) (Reply A)) → IsOther e → ExecutionsNameOne instances h →
      ExecutionsNameOne instances (h ++ e ∷ [])
  other_more instances h e other all = one_more instances h e all (λ i r moment is. absurd (other i r moment is))

  closing_other : (o : Outcome (Reply A)) (now i : ℕ) → IsOther (closing o now i)
  closing_other (Gives r) now i j q moment e = cc e
  closing_other (Fails why) now i j q moment e = cc e

  told_more : (instances : List ℕ) (h : WorldHistory A) (f : ℕ → Entry Station (Request A) (Reply A)) (o : Option ℕ) → ((i : ℕ) → IsOther (f i)) →
      ExecutionsNameOne instances h → ExecutionsNameOne instances (core.told f o h)
  told_more instances h f None other all = all
  told_more instances h f (Some i) other all = other_more instances h (f i) (other i) all

  -- what clients tell are no executions
  outcomes_more : (instances : List ℕ) (c : Station) (now : ℕ) (keys : List Key) (ts : List (TransactionOutcome A)) (h : WorldHistory A) →
      ExecutionsNameOne instances h → ExecutionsNameOne instances (outcomes_told c now keys ts h)
  outcomes_more instances c now keys [] h all = all
  outcomes_more instances c now keys (t ∷ ts) h all =
      outcomes_more instances c now keys ts (core.told (closing (outcome_of t.outcome) now) (last_key c t.invoke_id keys) h)
      (told_more instances h (closing (outcome_of t.outcome) now) (last_key c t.invoke_id keys) (λ i. closing_other (outcome_of t.outcome) now i) all)

  abbrev execution : ℕ → Reply A → ℕ → Entry Station (Request A) (Reply A)
  execution i r m = Executed i r m

  executed_same : (i j : ℕ) (r q : Reply A) (m n : ℕ) → execution i r m ≡ execution j q n → i ≡ j
  executed_same i j r q m n e = cc e

  -- what a device tells is the execution of an issue that names it
  executed_at : (instances : List ℕ) (w : PlainWorld A) (d : DeviceState A) (x : told.Executed A) (o : Option ℕ) →
      last_key x.asker.station x.asker.invoke_id w.keys ≡ o → IsIssuedTo w d x → Has instances d.instance → ExecutionsNameOne instances w.history →
      ExecutionsNameOne instances (core.told (λ i. Executed i x.reply w.moment) o w.history)
  executed_at instances w d x None is of one all = all
  executed_at instances w d x (Some j) is of one all =
      one_more instances w.history (Executed j x.reply w.moment) all (λ i r moment same.
      let at : of.i ≡ i = same_option of.i j (last_key x.asker.station x.asker.invoke_id w.keys) of.last is
      ∙ executed_same j i x.reply r w.moment moment same in
      subst (λ (n : ℕ). NamesOne instances w.history n) at (record {
        client = x.asker.station;
        instance = d.instance;
        request = x.request;
        moment = of.moment;
        issue = of.issue;
        one = one;
      }))

  executed_more : (instances : List ℕ) (w : PlainWorld A) (d : DeviceState A) (o : Option (told.Executed A)) →
      ((x : told.Executed A) → o ≡ Some x → IsIssuedTo w d x) → Has instances d.instance → ExecutionsNameOne instances w.history →
      ExecutionsNameOne instances (executed_told w.moment o w.keys w.history)
  executed_more instances w d None of one all = all
  executed_more instances w d (Some x) of one all =
      executed_at instances w d x (last_key x.asker.station x.asker.invoke_id w.keys) refl (of x refl) one all

  -- each step keeps it
  abbrev Names : PlainWorld A → Type 0
  Names w = ExecutionsNameOne (instances_at w.devices) w.history

  abbrev by_history : (instances : List ℕ) (h k : WorldHistory A) → k ≡ h → ExecutionsNameOne instances h → ExecutionsNameOne instances k
  by_history instances h k e all = subst (λ (x : WorldHistory A). ExecutionsNameOne instances x) (sym e) all

  grown : (s : ObjectSite A) (w v : PlainWorld A) → ((place : ℕ) (d : DeviceState A) (x : told.Executed A) → (k : DeviceHearsIt w v) → k.d ≡ d →
      k.told.executed ≡ Some x → IsIssuedTo w d x) → PlainStep s w v → Names w → ExecutionsNameOne (instances_at w.devices) v.history
  grown s w v issued (device_hears k) all = by_history (instances_at w.devices) _ v.history k.history
      (executed_more (instances_at w.devices) w k.d k.told.executed (λ x is. issued k.place k.d x k refl is)
      (has_map (λ (d : DeviceState A). d.instance) w.devices k.place k.d k.there) all)
  grown s w v issued (client_hears k) all = by_history (instances_at w.devices) _ v.history k.history
      (outcomes_more (instances_at w.devices) _ w.moment w.keys k.told.outcomes w.history all)
  grown s w v issued (client_issues k) all = by_history (instances_at w.devices) _ v.history k.history
      (other_more (instances_at w.devices) w.history _ (λ i r moment e. cc e) all)
  grown s w v issued (client_asks k) all = by_history (instances_at w.devices) w.history v.history k.history all
  grown s w v issued (client_wakes k) all = by_history (instances_at w.devices) _ v.history k.history
      (outcomes_more (instances_at w.devices) _ w.moment w.keys (client_waking.woken w.moment k.c.machine.open_ones).told w.history all)
  grown s w v issued (device_wakes k) all = by_history (instances_at w.devices) w.history v.history k.history all
  grown s w v issued (device_restarts k) all = by_history (instances_at w.devices) _ v.history k.history
      (other_more (instances_at w.devices) w.history _ (λ i r moment e. cc e) all)
  grown s w v issued (time_passes k) all = by_history (instances_at w.devices) w.history v.history k.history all
  grown s w v issued (something_passes k) all = by_history (instances_at w.devices) w.history v.history k.history all

  module _ (s : ObjectSite A) (fresh : PlainWorld A) (site : IsSite (bacnet A) s) (begun : IsFresh s fresh) where
    step_names : (w v : PlainWorld A) → StepsTo s fresh w → PlainStep s w v → Names w → Names v
    step_names w v to step all =
        subst (λ (ns : List ℕ). ExecutionsNameOne ns v.history) (sym (same_instances w.devices v.devices (step_stays s w v step)))
        (grown s w v (λ place d x k is done. subst (λ (z : DeviceState A). IsIssuedTo w z x) is
        (executed_is_issued s fresh w site begun to k.place k.d k.left k.p k.told x k.there k.delivered k.hears done)) step all)

    steps_name : (between : List (PlainWorld A)) (w : PlainWorld A) → StepsTo s fresh w → Names w → ArePlainSteps s between w →
        Names (last_world between w)
    steps_name [] w to all steps = all
    steps_name (v ∷ vs) w to all steps =
        steps_name vs v (steps_lead_on s fresh w v to (step_leads s w v steps.0)) (step_names w v to steps.0 all) steps.1

    begins : Names fresh
    begins i r moment there =
        absurd (none_has (subst (λ (h : WorldHistory A). Has h (Executed i r moment)) begun.history there))

    names_at : (w : PlainWorld A) → StepsTo s fresh w → Names w
    names_at w to =
        subst (λ (z : PlainWorld A). Names z) (sym to.last) (steps_name to.between fresh (stays_so s fresh) begins to.steps)

  -- what a device went through leaves by rows what it leaves by properties
  replays_same : (opening table final : PlainTable A) (past : List (Past (Request A) (Reply A))) →
      Replays replied left_by opening table past final → Replays reply after opening table past final
  unfolding replied left_by
  replays_same opening table final [] r = r
  replays_same opening table final (Did q answer ∷ past) r = (
    r.0 ∙ ap (λ o. o.reply) (is_by_rows table q),
    replays_same opening (after table q) final past
        (subst (λ (t : PlainTable A). Replays replied left_by opening t past final) (ap (λ o. o.table) (is_by_rows table q)) r.1),
  )
  replays_same opening table final (Anew ∷ past) r = replays_same opening opening final past r

  instances_judged : (s : ObjectSite A) (ds : List (DeviceState A)) → map (λ j. j.instance) (map (λ d. judged_at s d) ds) ≡ instances_at ds
  instances_judged s [] = refl
  instances_judged s (d ∷ ds) = ap (λ (ns : List ℕ). d.instance ∷ ns) (instances_judged s ds)

  pub is_legal : Always A (λ s w. IsLegal (instances_at w.devices) w.history (map (λ d. judged_at s d) w.devices))
  is_legal s fresh w site begun to =
      let o : IsOrdered s w = is_ordered s fresh w site begun to in record {
        numbered = o.numbered;
        after_issue = o.after_issue;
        executed = o.executed;
        named = names_at s fresh site begun w to;
        answered = o.answered;
        closed = o.closed;
        all = instances_judged s w.devices;
        tables = all_map (λ (j : Judged A). IsWhatExecutionsLeave reply after j.instance j.opening j.table w.history) (λ d. judged_at s d) w.devices
            (all_weaken (λ (d : DeviceState A). IsWhatExecutionsLeave replied left_by d.instance (s.opening (station_of d)) d.server.table w.history)
            (λ (d : DeviceState A). IsWhatExecutionsLeave reply after d.instance (s.opening (station_of d)) d.server.table w.history) w.devices
            (λ d h. replays_same (s.opening (station_of d)) (s.opening (station_of d)) d.server.table
            (past_of d.instance (named_in w.history) w.history) h) o.tables);
      }
