-- What came about from a fresh world by its events: what the promise says of it.
use Rattle.std.proofs.Common.{◌≡◌, ◌∙◌, inl, inr, refl, sym, ap, subst, arith, ℕ, zero, suc, ◌+◌, List, [], ◌∷◌, ◌++◌, Result, Ok, Err, IfErr, OnErr, OnOk}
use Rattle.bus_traffic.specs.declared.hearing.HeardFrame.{HeardFrame}
use Rattle.carry.specs.Things.{AreCarried}
use Rattle.world.proofs.carry_world.Executed.{whole_is_executed}
use Rattle.world.proofs.carry_world.Legal.{is_legal}
use Rattle.world.proofs.carry_world.Promised.{all_said, steps_lead_on, whole_is_issued}
use Rattle.world.proofs.carry_world.Staying.{devices_stay}
use Rattle.world.specs.carry_world.Answers.{WholeIsExecuted}
use Rattle.world.specs.carry_world.Laws.{IsFresh, IsLegal, Judged, WholeIsIssued, instances_at}
use Rattle.world.specs.carry_world.PlainSteps.{StepsTo}
use Rattle.headline.specs.Protocol.{IsSite}
use Rattle.simulator.proofs.JudgedLaws.{instances_are, judged_are}
use Rattle.simulator.proofs.LeadLaws.{by_place, steps_lead}
use Rattle.simulator.specs.Judged.{instances_of, judged_of}
use Rattle.simulator.specs.Laws.{IsLed, IsWhole}
use Rattle.simulator.specs.Runs.{Happens, Runs}
use Rattle.world.specs.site_node.Node.{NodeState}
use Rattle.world.specs.site_node.Steps.{NodeTold}
use Rattle.site_parts.specs.declared.parts.Parts.{Parts}
use Rattle.tags.specs.declared.fault.Fault.{Fault}
use Rattle.world.specs.Acting.{Acts}
use Rattle.world.specs.Hearing.{IsTold, TakesEach}
use Rattle.world.specs.Laws.{Stands}
use Rattle.world.specs.Refusals as world
use Rattle.world.specs.Refusals.{Comes, IsRefused}
use Rattle.world.specs.Step as step
use Rattle.world.specs.Step.{IsSoundEvent, Steps}
use Rattle.world.specs.World.{WorldState, plain}
use Rattle.world.specs.site_events.declared.event.Event.{Event}
use Rattle.world.specs.declared.happening.Happening.{Happening}
use Rattle.world.specs.declared.happening.Happening.TheVariants as happening
use Rattle.world.specs.declared.listener.Listener.{Listener}
use Rattle.world.specs.headline_bacnet.Protocol.{bacnet}
use Rattle.world.specs.world_log.Growing.{WorldHistory}
use Rattle.world.specs.world_sites.Laws.{OpenAs}
use Rattle.world.specs.world_sites.Nodes.{devices_of}
use Rattle.world.specs.world_sites.Opening.{devices_in, object_site}

-- as much was handed out and forgotten of two worlds
pub record AreAsWhole {A : Type 0} (w v : WorldState A) : Type 0 where
  pub first_item : v.first_item ≡ w.first_item
  pub first_entry : v.first_entry ≡ w.first_entry
  pub first_said : v.first_said ≡ w.first_said

-- the site of a world is the same still, this much time has passed, and nothing was handed out or forgotten
pub record HasPassed {A : Type 0} (n : ℕ) (w v : WorldState A) : Type 0 where
  pub site : v.site ≡ w.site
  pub moment : v.moment ≡ w.moment + n
  pub firsts : AreAsWhole w v

-- whatever a node does, no time passes
module _ {A : Type 0} where
  all_whole : (w v : WorldState A) → v.first_item ≡ w.first_item → v.first_entry ≡ w.first_entry →
      v.first_said ≡ w.first_said → AreAsWhole w v
  all_whole w v i e s = record { first_item = i; first_entry = e; first_said = s }

  acted : (u v : WorldState A) (place : ℕ) (n next : NodeState A) (t : NodeTold A) → Acts u v place n next t →
      HasPassed 0 u v
  acted u v place n next t acts = record {
    site = ap (λ (z : WorldState A). z.site) acts.is;
    moment = let same : v.moment ≡ u.moment = ap (λ (z : WorldState A). z.moment) acts.is in omega (arith, same);
    firsts = all_whole u v (ap (λ (z : WorldState A). z.first_item) acts.is)
        (ap (λ (z : WorldState A). z.first_entry) acts.is) (ap (λ (z : WorldState A). z.first_said) acts.is);
  }

  at_once : (u w v : WorldState A) → HasPassed 0 w u → HasPassed 0 u v → HasPassed 0 w v
  at_once u w v first then = record {
    site = then.site ∙ first.site;
    moment = let a = first.moment in let b = then.moment in omega (arith, a, b);
    firsts = all_whole w v (then.firsts.first_item ∙ first.firsts.first_item)
        (then.firsts.first_entry ∙ first.firsts.first_entry) (then.firsts.first_said ∙ first.firsts.first_said);
  }

  nothing : (w v : WorldState A) → v ≡ w → HasPassed 0 w v
  nothing w v same = subst (λ (u : WorldState A). HasPassed 0 w u) (sym same)
      (record { site = refl; moment = omega arith; firsts = all_whole w w refl refl refl })

  each_at_once : (l : Listener) (fs : List (HeardFrame A)) (w v : WorldState A) → TakesEach l fs w v → HasPassed 0 w v
  each_at_once l [] w v same = nothing w v same
  each_at_once l (f ∷ fs) w v t = at_once t.middle w v
      (acted w t.middle l.place t.first.n t.first.next t.first.told t.first.acts) (each_at_once l fs t.middle v t.rest)

  told_at_once : (l : Listener) (count : ℕ) (w v : WorldState A) → IsTold l count w v → HasPassed 0 w v
  told_at_once l zero w v same = nothing w v same
  told_at_once l (suc n) w v t = acted w v l.place t.n t.next t.told t.acts

  -- for how many milliseconds something that happens asks
  abbrev pub ticks_at : Happening A → ℕ
  ticks_at (happening.Tick n) = n
  ticks_at h = 0

  -- nothing that happens changes the site, and nothing but a tick the moment
  pub happens_so : (h : Happening A) (w v : WorldState A) → step.Happens h w v → HasPassed (ticks_at h) w v
  happens_so (happening.Issue client instance request) w v d = record {
    site = ap (λ (z : WorldState A). z.site) d.acts.is;
    moment = let same : v.moment ≡ w.moment = ap (λ (z : WorldState A). z.moment) d.acts.is in omega (arith, same);
    firsts = all_whole w v (ap (λ (z : WorldState A). z.first_item) d.acts.is)
        (ap (λ (z : WorldState A). z.first_entry) d.acts.is) (ap (λ (z : WorldState A). z.first_said) d.acts.is);
  }
  happens_so (happening.WhoIs client limits) w v d = acted w v client d.n d.next d.told d.acts
  happens_so (happening.Tick n) w v d = record {
    site = ap (λ (z : WorldState A). z.site) d.is;
    moment = ap (λ (z : WorldState A). z.moment) d.is;
    firsts = all_whole w v (ap (λ (z : WorldState A). z.first_item) d.is)
        (ap (λ (z : WorldState A). z.first_entry) d.is) (ap (λ (z : WorldState A). z.first_said) d.is);
  }
  happens_so (happening.Wake place) w v d = acted w v place d.n d.next d.told d.acts
  happens_so (happening.Deliver number) w v d = record {
    site = ap (λ (z : WorldState A). z.site) d.acts.is;
    moment = let same : v.moment ≡ w.moment = ap (λ (z : WorldState A). z.moment) d.acts.is in omega (arith, same);
    firsts = all_whole w v (ap (λ (z : WorldState A). z.first_item) d.acts.is)
        (ap (λ (z : WorldState A). z.first_entry) d.acts.is) (ap (λ (z : WorldState A). z.first_said) d.acts.is);
  }
  happens_so (happening.Restart place) w v d = record {
    site = ap (λ (z : WorldState A). z.site) d.acts.is;
    moment = let same : v.moment ≡ w.moment = ap (λ (z : WorldState A). z.moment) d.acts.is in omega (arith, same);
    firsts = all_whole w v (ap (λ (z : WorldState A). z.first_item) d.acts.is)
        (ap (λ (z : WorldState A). z.first_entry) d.acts.is) (ap (λ (z : WorldState A). z.first_said) d.acts.is);
  }
  happens_so (happening.Hear network place octets) w v d =
      let all = d.settles.does in
      at_once all.middle w v (at_once all.first.middle w all.middle
      (each_at_once d.listener d.at.hearing.frames w all.first.middle all.first.first)
      (told_at_once d.listener d.settles.rest all.first.middle all.middle all.first.rest))
      (record {
        site = ap (λ (z : WorldState A). z.site) all.rest.is;
        moment = let same : v.moment ≡ all.middle.moment = ap (λ (z : WorldState A). z.moment) all.rest.is in omega (arith, same);
        firsts = all_whole all.middle v (ap (λ (z : WorldState A). z.first_item) all.rest.is)
            (ap (λ (z : WorldState A). z.first_entry) all.rest.is) (ap (λ (z : WorldState A). z.first_said) all.rest.is);
      })
  happens_so (happening.Register place) w v d = acted w v place d.n d.next d.told d.acts

-- no event changes the site
pub same_site : {A : Type 0} (e : Event A) (w v : WorldState A) → Steps e w v → v.site ≡ w.site
same_site e w v steps = by_place (v.site ≡ w.site) w v e (λ h so happens. (happens_so h w v happens).site) steps

-- .. or hands out or forgets anything
pub as_whole : {A : Type 0} (e : Event A) (w v : WorldState A) → Steps e w v → AreAsWhole w v
as_whole e w v steps = by_place (AreAsWhole w v) w v e (λ h so happens. (happens_so h w v happens).firsts) steps

still_whole : {A : Type 0} (w v : WorldState A) → AreAsWhole w v → IsWhole w → IsWhole v
still_whole w v same whole = record {
  first_item = same.first_item ∙ whole.first_item;
  first_entry = same.first_entry ∙ whole.first_entry;
  first_said = same.first_said ∙ whole.first_said;
}

-- what an event leaves came about so
pub led_on : {A : Type 0} (e : Event A) (w v : WorldState A) → Stands w → IsSoundEvent e → Steps e w v → IsLed w →
    IsLed v
led_on {A} e w v stands sound steps led =
    let same = sym (same_site e w v steps) in record {
      is_site = subst (λ (p : Parts A). IsSite (bacnet A) (object_site p)) same led.is_site;
      fresh = led.fresh;
      begun = subst (λ (p : Parts A). IsFresh (object_site p) led.fresh) same led.begun;
      devices = subst (λ (p : Parts A). OpenAs (devices_in p.stations) led.fresh.devices) same led.devices;
      leads = subst (λ (p : Parts A). StepsTo (object_site p) led.fresh (plain v)) same
          (steps_lead_on (object_site w.site) led.fresh (plain w) (plain v) led.leads (steps_lead e w v stands sound steps));
      whole = still_whole w v (as_whole e w v steps) led.whole;
    }

-- .. and so did what one leaves that may be refused
pub led_after : {A R : Type 0} (e : Event A) (w v : WorldState A) (r : Result R Fault) → Stands w → IsSoundEvent e →
    OnOk r (Steps e w v) → OnErr r (v ≡ w) → IsLed w → IsLed v
led_after e w v (Ok x) stands sound steps same led = led_on e w v stands sound steps led
led_after e w v (Err fault) stands sound steps same led = subst (λ (u : WorldState _). IsLed u) (sym same) led

module _ {A : Type 0} (w : WorldState A) (led : IsLed w) where
  pub legal_of : IsLegal (instances_of w.site) w.history (judged_of w)
  legal_of =
      let s = object_site w.site in
      let stay = devices_stay s led.fresh (plain w) led.leads in
      subst (λ (ns : List ℕ). IsLegal ns w.history (judged_of w))
      (instances_are s (devices_in w.site.stations) led.fresh.devices (devices_of w.nodes) led.devices stay)
      (subst (λ (js : List (Judged A)). IsLegal (instances_at (devices_of w.nodes)) w.history js)
      (judged_are s (devices_in w.site.stations) led.fresh.devices (devices_of w.nodes) led.devices led.begun.devices stay)
      (is_legal s led.fresh (plain w) led.is_site led.begun led.leads))

  pub legal_as : (h : WorldHistory A) → h ≡ w.history → IsLegal (instances_of w.site) h (judged_of w)
  legal_as h same = subst (λ (x : WorldHistory A). IsLegal (instances_of w.site) x (judged_of w)) (sym same) legal_of

  pub carried_of : AreCarried w.said (plain w).things
  carried_of = all_said (object_site w.site) led.fresh (plain w) led.is_site led.begun led.leads

  pub whole_of : WholeIsIssued (plain w)
  whole_of = whole_is_issued (object_site w.site) led.fresh (plain w) led.is_site led.begun led.leads

  pub answers_of : WholeIsExecuted (plain w)
  answers_of = whole_is_executed (object_site w.site) led.fresh (plain w) led.is_site led.begun led.leads

-- one event more
pub runs_more : {A : Type 0} (es : List (Event A)) (e : Event A) (w u v : WorldState A) → Runs es w u → Happens e u v →
    Runs (es ++ e ∷ []) w v
runs_more {A} [] e w u v same one = record {
  middle = v;
  first = subst (λ (x : WorldState A). Happens e x v) same one;
  rest = refl;
}
runs_more (f ∷ es) e w u v runs one = record {
  middle = runs.middle;
  first = runs.first;
  rest = runs_more es e runs.middle u v runs.rest one;
}

-- what events leave of a world they leave of any world
pub runs_are : {A : Type 0} (es : List (Event A)) (w v : WorldState A) → Runs es w v → world.Runs es w v
runs_are [] w v same = same
runs_are (e ∷ es) w v runs = record {
  middle = runs.middle;
  first = runs.first.comes;
  rest = runs_are es runs.middle v runs.rest;
}

-- what comes of an event: it is accepted, or refused so
pub comes_of : {A R : Type 0} (e : Event A) (w v : WorldState A) (r : Result R Fault) → OnOk r (Steps e w v) →
    IfErr r (λ fault. IsRefused e w fault) → OnErr r (v ≡ w) → Comes e w v
comes_of e w v (Ok x) steps cause same = inl steps
comes_of e w v (Err fault) steps cause same = inr (record { fault = fault; refused = cause; same = same })

pub ruleset step_rules = (led_on, same_site)

pub ruleset carried_rules = (carried_of)
