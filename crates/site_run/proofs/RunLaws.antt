-- What is printed, one thing after another.
use Rattle.std.proofs.Common.{◌≡◌, ◌∙◌, refl, sym, ap, subst, arith, Bool, ℕ, ◌+◌, ◌-◌, ◌≤◌, List, [], ◌∷◌, ◌++◌, Option, Some, None, Result, Ok, Err, IfOk, OnOk, OnErr, drop, length, inl, inr, slice_get}
use Rattle.std.specs.Io.KnownBytes.{Appends}
use Rattle.std.specs.List.{AllByRecursion}
use Rattle.bus_traffic.specs.Bus.{BusState}
use Rattle.npdu.specs.declared.mac.Station as npdu
use Rattle.history.specs.declared.Entry.{Entry}
use Rattle.primitives.specs.declared.plain_data.Reply.{Reply}
use Rattle.primitives.specs.declared.plain_data.Request.{Request}
use Rattle.profile.specs.Times.{MAX_MOMENT_MS}
use Rattle.script.specs.declared.step.Step.{Step}
use Rattle.site_history.proofs.simulator.FlowLaws.{steps_pass}
use Rattle.site_history.specs.faulty_flow.Flows.{FlowState, Gives}
use Rattle.site_history.specs.simulator.Flows.{IsOfFlow, ticks_in, ticks_of}
use Rattle.site_history.specs.simulator.world.Refusals.{IsRefused}
use Rattle.site_history.specs.simulator.world.World.{WorldState}
use Rattle.site_history.specs.simulator.world.site_events.declared.event.Event.{Event}
use Rattle.site_history.specs.simulator.world.site_events.declared.event.Event.TheVariants as event
use Rattle.site_parts.specs.declared.parts.Station.{Station}
use Rattle.site_history.specs.Asked.{refused_asked_text, refused_time_text, told_of}
use Rattle.site_history.specs.Printed.{entries_text, line}
use Rattle.site_run.specs.Running.{Known, PrintsAll, PrintsEvent, PrintsEvents, PrintsGrowth, PrintsRefused, PrintsTicks, TakesStep, TakesSteps, at_line, told, trace_text}
use Rattle.site_run.specs.declared.running.Telling.{Telling}
use Rattle.site_trace.specs.Lines.{frames_text, items_text}
pub use Rattle.site_trace.proofs.TraceLaws.{appends_more, appends_nothing, texts_from}
use Rattle.tags.specs.declared.fault.Fault.{Fault}
use Rattle.tags.specs.declared.fault.Fault.TheVariants.{Memory}
use Rattle.traffic.specs.declared.item.Item.{Item}

-- a list without an element
pub none_left : {X : Type 0} (xs : List X) → length xs ≡ 0 → xs ≡ []
none_left [] e = refl
none_left (x ∷ xs) e = absurd (omega (arith, e))

module _ {A : Type 0} where
  -- a step before others
  pub step_before : (t : Telling) (ls : List ℕ) (s : Step A) (ss : List (Step A)) (was so_far now : Bool)
      (w u v : WorldState A) (old mid new : Known) → TakesStep (at_line (slice_get ls 0) t) s was so_far w u old mid →
      TakesSteps t (drop 1 ls) ss so_far now u v mid new → TakesSteps t ls (s ∷ ss) was now w v old new
  step_before t ls s ss was so_far now w u v old mid new first rest =
      record { middle = u; so_far = so_far; at_middle = mid; first = first; rest = rest }

  -- an event before others
  pub event_before : (t : Telling) (e : Event A) (es : List (Event A)) (w u v : WorldState A) (old mid new : Known) →
      PrintsEvent t e w u old mid → PrintsEvents t es u v mid new → PrintsEvents t (e ∷ es) w v old new
  event_before t e es w u v old mid new first rest = record { middle = u; at_middle = mid; first = first; rest = rest }

  -- what was put out, and then entries
  pub growth_printed : {T E : Type 0} (r : Result T E) (t : Telling) (items frames entries : ℕ) (v : WorldState A)
      (stations : List (Station A)) (h es : List (Entry npdu.Station (Request A) (Reply A))) (old mid new : Known) →
      stations ≡ v.site.stations → h ≡ v.history → es ≡ drop entries h → Appends old mid (told t.told items frames v) →
      OnOk r (Appends mid new (entries_text t.spelling stations h es)) → OnOk r (PrintsGrowth t items frames entries v old new)
  growth_printed (Ok x) t items frames entries v stations h es old mid new s k e p q = record {
    at_entries = mid;
    trace_printed = p;
    entries_printed = subst (λ (l : List (Entry npdu.Station (Request A) (Reply A))).
        Appends mid new (entries_text t.spelling v.site.stations l (drop entries l))) k
        (subst (λ (l : List (Entry npdu.Station (Request A) (Reply A))).
        Appends mid new (entries_text t.spelling v.site.stations h l)) e
        (subst (λ (l : List (Station A)). Appends mid new (entries_text t.spelling l h es)) s q));
  }
  growth_printed (Err x) t items frames entries v stations h es old mid new s k e p q = tt

  -- items, and then frames
  pub trace_printed : {T E : Type 0} (r : Result T E) (items frames : ℕ) (v : WorldState A)
      (stations : List (Station A)) (is : List (Item A)) (bs : List (BusState A)) (moment : ℕ) (old mid new : Known) →
      stations ≡ v.site.stations → is ≡ drop items v.items → bs ≡ v.buses.buses → moment ≡ v.moment →
      Appends old mid (items_text stations items is moment) →
      OnOk r (Appends mid new (frames_text stations frames bs moment)) →
      OnOk r (Appends old new (trace_text items frames v))
  trace_printed (Ok x) items frames v stations is bs moment old mid new s i b m p q =
      subst (λ (n : ℕ). Appends old new (items_text v.site.stations items (drop items v.items) n
      ++ frames_text v.site.stations frames v.buses.buses n)) m
      (subst (λ (l : List (BusState A)). Appends old new (items_text v.site.stations items (drop items v.items) moment
      ++ frames_text v.site.stations frames l moment)) b
      (subst (λ (l : List (Item A)). Appends old new (items_text v.site.stations items l moment
      ++ frames_text v.site.stations frames bs moment)) i
      (subst (λ (l : List (Station A)). Appends old new (items_text l items is moment
      ++ frames_text l frames bs moment)) s
      (appends_more old mid new (items_text stations items is moment) (frames_text stations frames bs moment) p q))))
  trace_printed (Err x) items frames v stations is bs moment old mid new s i b m p q = tt

  -- an event was refused, and that is printed
  pub refused_printed : {T E : Type 0} (r : Result T E) (t : Telling) (e : Event A) (w v : WorldState A) (fault : Fault)
      (moment : ℕ) (old new : Known) → v ≡ w → moment ≡ v.moment → IsRefused e w fault →
      OnOk r (Appends old new (line (refused_asked_text (told_of t.spelling t.line e) fault moment))) →
      OnOk r (PrintsEvent t e w v old new)
  refused_printed (Ok x) t e w v fault moment old new same at refused p = inr (record {
    fault = fault;
    refused = refused;
    same = same;
    printed = subst (λ (m : ℕ). Appends old new (line (refused_asked_text (told_of t.spelling t.line e) fault m)))
        (at ∙ ap (λ (u : WorldState A). u.moment) same) p;
  })
  refused_printed (Err x) t e w v fault moment old new same at refused p = tt

  unmoved : (w v : WorldState A) → v ≡ w → v.moment ≡ w.moment + 0
  unmoved w v same = let at = ap (λ (u : WorldState A). u.moment) same in omega (arith, at)

  -- an event of a flow is refused, and it is no tick, or one that leads beyond the greatest moment
  refused_passes : (t : Telling) (e : Event A) (w v : WorldState A) (old new : Known) → IsOfFlow e →
      PrintsRefused t e w v old new →
      w.moment + ticks_of e ≤ MAX_MOMENT_MS → v.moment ≡ w.moment + ticks_of e
  refused_passes t (event.Tick n) w v old new one r fits =
      elim r.refused [
        | inl memory ↦ absurd (memory.1)
        | inr refuses ↦ elim (refuses.1) [
          | inl few ↦ absurd (omega (arith, one, few))
          | inr more ↦ elim more [
            | inl many ↦ absurd (omega (arith, one, many))
            | inr late ↦ absurd (omega (arith, late, fits))
          ]
        ]
      ]
  refused_passes t (event.Deliver number) w v old new of_flow r fits = unmoved w v r.same
  refused_passes t (event.Hear network station octets) w v old new of_flow r fits = unmoved w v r.same
  refused_passes t (event.Wake station) w v old new of_flow r fits = unmoved w v r.same
  refused_passes t (event.Issue client instance request) w v old new of_flow r fits = unmoved w v r.same
  refused_passes t (event.WhoIs client limits) w v old new of_flow r fits = unmoved w v r.same
  refused_passes t (event.Restart station) w v old new of_flow r fits = unmoved w v r.same
  refused_passes t (event.Register station) w v old new of_flow r fits = unmoved w v r.same

  -- an event of a flow lets its milliseconds pass, unless they lead beyond the greatest moment
  event_passes : (t : Telling) (e : Event A) (w v : WorldState A) (old new : Known) → IsOfFlow e →
      PrintsEvent t e w v old new → w.moment + ticks_of e ≤ MAX_MOMENT_MS → v.moment ≡ w.moment + ticks_of e
  event_passes t e w v old new of_flow (inl made) fits = steps_pass e w v made.made
  event_passes t e w v old new of_flow (inr r) fits = refused_passes t e w v old new of_flow r fits

  -- .. so do events, one after another
  events_pass : (t : Telling) (es : List (Event A)) (w v : WorldState A) (old new : Known) →
      AllByRecursion IsOfFlow es → PrintsEvents t es w v old new → w.moment + ticks_in es ≤ MAX_MOMENT_MS →
      v.moment ≡ w.moment + ticks_in es
  events_pass t [] w v old new all p fits = unmoved w v (p.0)
  events_pass t (e ∷ es) w v old new all p fits =
      let one = event_passes t e w p.middle old p.at_middle (all.0) p.first (omega (arith, fits)) in
      let rest = events_pass t es p.middle v p.at_middle new (all.1) p.rest (omega (arith, one, fits)) in
      omega (arith, one, rest)

  -- what is left of a flow that gave this
  abbrev pub left_behind : Result (Option (Event A)) Fault → FlowState → ℕ
  left_behind (Ok (Some e)) f = f.rest + 1
  left_behind (Ok None) f = 0
  left_behind (Err fault) f = 0

  -- how many milliseconds are to go behind the events before
  abbrev pub to_go : Result (Option (Event A)) Fault → FlowState → ℕ
  to_go (Ok (Some e)) f = f.left + ticks_of e
  to_go (Ok None) f = f.left
  to_go (Err fault) f = f.left

  -- an event of a flow comes next, or all of its milliseconds have passed
  abbrev pub IsNextOf : FlowState → Option (Event A) → Type 0
  IsNextOf f (Some e) = IsOfFlow e
  IsNextOf f None = f.left ≡ 0

  pub next_of_flow : (r : Result (Option (Event A)) Fault) (old new : FlowState) → IfOk r (Gives old new) →
      IfOk r (IsNextOf new)
  next_of_flow (Ok (Some e)) old new gives = gives.0
  next_of_flow (Ok None) old new gives = gives.1
  next_of_flow (Err fault) old new gives = tt

  -- what is given is no more than was to go
  pub same_to_go : (r : Result (Option (Event A)) Fault) (old new : FlowState) → IfOk r (Gives old new) →
      OnErr r (new.left ≡ old.left) → to_go r new ≡ old.left
  same_to_go (Ok (Some e)) old new gives same = sym gives.1
  same_to_go (Ok None) old new gives same = gives.1 ∙ sym gives.0
  same_to_go (Err fault) old new gives same = same

  -- events were printed of a flow of so many milliseconds, of which so many are to go: what further ones lead to, all
  -- lead to
  pub record IsUnderWay (t : Telling) (n left : ℕ) (w u : WorldState A) (old at : Known) : Type 0 where
    pub few : left ≤ n
    pub leads : (total : ℕ) (events : List (Event A)) (v : WorldState A) (new : Known) →
        total + left ≡ n + ticks_in events → AllByRecursion IsOfFlow events → PrintsEvents t events u v at new →
        PrintsTicks t total w v old new

  -- none were
  pub flow_begins : (t : Telling) (n left : ℕ) (w : WorldState A) (old : Known) → left ≡ n →
      IsUnderWay t n left w w old old
  flow_begins t n left w old same = record {
    few = omega (arith, same);
    leads = λ total events v new sum of_flow printed. record {
      events = events;
      of_flow = of_flow;
      ticks = omega (arith, same, sum);
      printed = printed;
      passes = λ fits. let all : total ≡ ticks_in events = omega (arith, same, sum) in
          let passes = events_pass t events w v old new of_flow printed (omega (arith, all, fits)) in
          omega (arith, all, passes);
    };
  }

  -- the event that comes next was made or refused
  pub flow_goes_on : (t : Telling) (n : ℕ) (next after : Result (Option (Event A)) Fault) (f g : FlowState) (e : Event A)
      (w u v : WorldState A) (old at new : Known) → next ≡ Ok (Some e) → IfOk next (IsNextOf f) →
      to_go after g ≡ f.left → PrintsEvent t e u v at new → IsUnderWay t n (to_go next f) w u old at →
      IsUnderWay t n (to_go after g) w v old new
  flow_goes_on t n next after f g e w u v old at new is of_flow same printed way =
      let before : to_go next f ≡ f.left + ticks_of e = ap (λ (r : Result (Option (Event A)) Fault). to_go r f) is in
      record {
        few = let few = way.few in omega (arith, same, before, few);
        leads = λ total events x last sum all rest. way.leads total (e ∷ events) x last
            (omega (arith, same, before, sum))
            (subst (λ (r : Result (Option (Event A)) Fault). IfOk r (IsNextOf f)) is of_flow, all)
            (event_before t e events u v x at new last printed rest);
      }

  -- no more events, and the flow is over
  pub flow_over : (t : Telling) (n : ℕ) (next : Result (Option (Event A)) Fault) (f : FlowState) (w u : WorldState A)
      (old at : Known) → next ≡ Ok None → IfOk next (IsNextOf f) → IsUnderWay t n (to_go next f) w u old at →
      PrintsAll t n w u old at
  flow_over t n next f w u old at is over way =
      let left : to_go next f ≡ f.left = ap (λ (r : Result (Option (Event A)) Fault). to_go r f) is in
      let none = subst (λ (r : Result (Option (Event A)) Fault). IfOk r (IsNextOf f)) is over in
      inl (way.leads n [] u at (omega (arith, left, none)) tt (refl, refl))

  -- no more events, for want of memory, and that is printed
  pub flow_failed : {T E : Type 0} (r : Result T E) (t : Telling) (n left : ℕ) (w u : WorldState A)
      (old at new : Known) (fault : Fault) (moment : ℕ) → IsUnderWay t n left w u old at → fault ≡ Memory →
      moment ≡ u.moment → OnOk r (Appends at new (line (refused_time_text t.spelling t.line n fault moment))) →
      OnOk r (PrintsAll t n w u old new)
  flow_failed (Ok x) t n left w u old at new fault moment way is same p = inr (record {
    passed = n - left;
    few = omega arith;
    printed = record {
      middle = u;
      at_middle = at;
      first = way.leads (n - left) [] u at (let few = way.few in omega (arith, few)) tt (refl, refl);
      rest = record {
        same = refl;
        printed = subst (λ (f : Fault). Appends at new (line (refused_time_text t.spelling t.line n f u.moment))) is
            (subst (λ (m : ℕ). Appends at new (line (refused_time_text t.spelling t.line n fault m))) same p);
      };
    };
  })
  flow_failed (Err e) t n left w u old at new fault moment way is same p = tt

pub ruleset run_rules = (appends_nothing, appends_more, step_before, event_before)
