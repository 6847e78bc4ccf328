-- Whatever is done with what is kept, events alone lead the whole on.
use Rattle.std.proofs.Common.{◌≡◌, inl, inr, refl, sym, subst, List, [], ◌∷◌, ◌++◌, append-nil, append_assoc}
use Rattle.std.specs.List.{AllByRecursion}
use Rattle.simulator.specs.Heard.{HasBrought}
use Rattle.simulator.specs.Laws.{IsLed}
use Rattle.simulator.specs.Runs.{Happens, Runs}
use Rattle.simulator.specs.world.Keeping.{Forgets, Keeps, handed_out}
use Rattle.simulator.specs.world.Refusals.{Comes}
use Rattle.simulator.specs.world.Step.{IsSoundEvent}
use Rattle.simulator.specs.world.World.{WorldState}
use Rattle.simulator.specs.world.site_events.declared.event.Event.{Event}
use Rattle.simulator.specs.world_log.Growing.{WorldHistory}
use Rattle.world_kept.specs.Deeds.{AreDone, Deed, DeedsLead, Forget, HandOut, IsMade, LeadsTo, Make, handed_by}
use Rattle.world_kept.specs.Kept.{BringsToAll}
use Rattle.world_past.proofs.RefusedLaws.{keeps_refused}
use Rattle.world_past.proofs.RunningLaws.{keeps_forgotten, keeps_handed}
use Rattle.world_past.proofs.SteppingLaws.{keeps_steps}

module _ {A : Type 0} where
  pub sound_both : (es fs : List (Event A)) → AllByRecursion IsSoundEvent es → AllByRecursion IsSoundEvent fs →
      AllByRecursion IsSoundEvent (es ++ fs)
  sound_both [] fs p q = q
  sound_both (e ∷ es) fs p q = (p.0, sound_both es fs (p.1) q)

  pub runs_both : (es fs : List (Event A)) (w u v : WorldState A) → Runs es w u → Runs fs u v → Runs (es ++ fs) w v
  runs_both [] fs w u v same more = subst (λ (x : WorldState A). Runs fs x v) same more
  runs_both (e ∷ es) fs w u v runs more = record {
    middle = runs.middle;
    first = runs.first;
    rest = runs_both es fs runs.middle u v runs.rest more;
  }

  -- nothing happened
  pub leads_still : (past : WorldHistory A) (w k : WorldState A) → IsLed w → Keeps past w k → LeadsTo past w k
  leads_still past w k led p =
      record { whole = w; events = []; sound = tt; runs = refl; led = led; keeps = p }

  -- .. and then something did
  pub leads_both : (past more : WorldHistory A) (w k l : WorldState A) (first : LeadsTo past w k) →
      LeadsTo more first.whole l → LeadsTo more w l
  leads_both past more w k l first next = record {
    whole = next.whole;
    events = first.events ++ next.events;
    sound = sound_both first.events next.events first.sound next.sound;
    runs = runs_both first.events next.events w first.whole next.whole first.runs next.runs;
    led = next.led;
    keeps = next.keeps;
  }

  one_event : (e : Event A) (past : WorldHistory A) (w v l : WorldState A) → IsSoundEvent e → Happens e w v → IsLed v →
      Keeps past v l → LeadsTo past w l
  one_event e past w v l sound happens led p = record {
    whole = v;
    events = e ∷ [];
    sound = (sound, tt);
    runs = record { middle = v; first = happens; rest = refl };
    led = led;
    keeps = p;
  }

  -- an event is made
  pub step_leads : (e : Event A) (past : WorldHistory A) (w k l : WorldState A) → IsLed w → Keeps past w k →
      IsSoundEvent e → Comes e k l → BringsToAll e k → LeadsTo past w l
  step_leads e past w k l led p sound (inl s) brings =
      let on = keeps_steps e past w k l p s in
      one_event e past w on.middle l sound
      (record { comes = inl on.first; brought = brings.brought past w on.middle led p on.first })
      (brings.led past w on.middle led p on.first) on.rest
  step_leads e past w k l led p sound (inr r) brings =
      subst (λ (x : WorldState A). LeadsTo past w x) (sym r.same) (leads_still past w k led p)

  -- one thing is done, and others
  all_lead : (ds : List (Deed A)) (past : WorldHistory A) (w k l : WorldState A) → IsLed w → Keeps past w k →
      (done : AreDone ds k l) → LeadsTo (past ++ handed_by ds k l done) w l
  all_lead [] past w k l led p same =
      subst (λ (h : WorldHistory A). LeadsTo h w l) (sym (append-nil past))
      (subst (λ (x : WorldState A). LeadsTo past w x) (sym same) (leads_still past w k led p))
  all_lead (Make e ∷ ds) past w k l led p done =
      let on = step_leads e past w k done.middle led p done.first.sound done.first.comes done.first.brings in
      leads_both past (past ++ handed_by ds done.middle l done.rest) w done.middle l on
      (all_lead ds past on.whole done.middle l on.led on.keeps done.rest)
  all_lead (HandOut ∷ ds) past w k l led p done =
      let kept : Keeps (past ++ k.history) w done.middle =
      subst (λ (x : WorldState A). Keeps (past ++ k.history) w x) (sym done.first) (keeps_handed past w k p) in
      subst (λ (h : WorldHistory A). LeadsTo h w l)
      (append_assoc past k.history (handed_by ds done.middle l done.rest))
      (all_lead ds (past ++ k.history) w done.middle l led kept done.rest)
  all_lead (Forget ∷ ds) past w k l led p done =
      all_lead ds past w done.middle l led (keeps_forgotten past w k done.middle p done.first) done.rest

  pub deeds_lead : DeedsLead A
  deeds_lead = all_lead
