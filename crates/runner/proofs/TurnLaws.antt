-- What turns leave is what events leave, where no stray was heard.
use Rattle.std.proofs.Common.{◌≡◌, ◌∙◌, inl, inr, refl, sym, ap, subst, Bool, true, false, List, [], ◌∷◌, ◌++◌, Option, Some, None, Result, Ok, Err}
use Rattle.std.specs.List.{AllByRecursion}
use Rattle.simulator.specs.Laws.{IsLed}
use Rattle.simulator.specs.world.Keeping.{Keeps}
use Rattle.simulator.specs.world.Step.{IsSoundEvent, IsSoundIfAny}
use Rattle.simulator.specs.world.World.{WorldState}
use Rattle.simulator.specs.world.site_events.declared.event.Event.{Event}
use Rattle.simulator.specs.world.site_events.declared.event.Event.TheVariants.{Deliver}
use Rattle.simulator.specs.world_log.Growing.{WorldHistory}
use Rattle.tags.specs.declared.fault.Fault.{Fault}
use Rattle.tags.specs.declared.fault.Fault.TheVariants.{Wire}
use Rattle.runner.specs.Laws.{AreEvents, Turn, Turns, TurnsAreSteps, TurnsKeep, TurnsLead}
use Rattle.runner.specs.Runner.{RunnerState}
use Rattle.runner.specs.Strays.{stray_on}
use Rattle.runner.specs.Turns.{HasMade, HasTurned, IsIdle, IsTurn, IsUndone, Refuses}
use Rattle.runner.specs.declared.turned.Turned.{Turned}
use Rattle.runner.specs.declared.turned.Turned.TheVariants as turned
use Rattle.wire.specs.Datagrams.{Datagram}
use Rattle.world_kept.proofs.DeedLaws.{leads_both, leads_still, runs_both, sound_both, step_leads}
use Rattle.world_kept.proofs.HistoryLaws.{events_go_on, goes_nowhere, strays_go_on}
use Rattle.world_kept.specs.Deeds.{LeadsTo}
use Rattle.world_kept.specs.Growing.{GoesOn}

-- what a turn does it does whatever the latest one did
pub turned_anew : {A : Type 0} (next : Option (Event A)) (latest : Option Datagram) (old new : RunnerState A)
    (t : Turned) → HasTurned next latest (record old { strayed = false }) new t → HasTurned next latest old new t
turned_anew (Some e) latest old new turned.Stepped h =
    record { steps = h.steps; rests = h.rests; brought = h.brought; brings = h.brings; rest = h.rest }
turned_anew (Some e) latest old new turned.Stray h = absurd h
turned_anew (Some e) latest old new turned.Dropped h = absurd h
turned_anew (Some e) latest old new turned.Nothing h = absurd h
turned_anew None (Some d) old new turned.Stepped h = record {
  number = h.number;
  whole = h.whole;
  item = h.item;
  made = record {
    steps = h.made.steps;
    rests = h.made.rests;
    brought = h.made.brought;
    brings = h.made.brings;
    rest = h.made.rest;
  };
}
turned_anew None (Some d) old new turned.Stray h = record {
  whole = h.whole;
  stray = h.stray;
  is_open = h.is_open;
  takes = h.takes;
  rest = h.rest;
}
turned_anew None (Some d) old new turned.Dropped (inl cut, idle) = (inl cut, idle)
turned_anew None (Some d) old new turned.Dropped (inr unheard, idle) =
    (inr (record { whole = unheard.whole; stray = unheard.stray; closed = unheard.closed }), idle)
turned_anew None (Some d) old new turned.Nothing h = absurd h
turned_anew None None old new turned.Stepped h = absurd h
turned_anew None None old new turned.Stray h = absurd h
turned_anew None None old new turned.Dropped h = absurd h
turned_anew None None old new turned.Nothing h = h

pub refused_anew : {A : Type 0} (next : Option (Event A)) (latest : Option Datagram) (old : RunnerState A) (f : Fault) →
    Refuses next latest (record old { strayed = false }) f → Refuses next latest old f
refused_anew (Some e) latest old f h = h
refused_anew None (Some d) old f (inl h) =
    inl (record { number = h.number; whole = h.whole; item = h.item; refused = h.refused })
refused_anew None (Some d) old f (inr h) =
    inr (record { whole = h.whole; stray = h.stray; is_open = h.is_open; refused = h.refused })
refused_anew None None old f h = h

-- nothing was done
pub undone_turn : {A : Type 0} (next : Option (Event A)) (latest : Option Datagram) (old : RunnerState A) (f : Fault) →
    IsUndone next latest (record old { strayed = false }) f →
    IsTurn next latest old (record old { strayed = false }) (Err f)
undone_turn next latest old f (inl silent) =
    inl (silent.wire, inl (record { received = silent.received; nothing = silent.nothing; idle = refl }))
undone_turn next latest old f (inr refused) =
    inr (record { refused = refused_anew next latest old f refused; idle = refl })

-- all was done, and not all was sent
pub unsent_turn : {A : Type 0} (next : Option (Event A)) (latest : Option Datagram) (old new : RunnerState A)
    (t : Turned) (f : Fault) → f ≡ Wire → HasTurned next latest (record old { strayed = false }) new t →
    IsTurn next latest old new (Err f)
unsent_turn next latest old new t f is done =
    inl (is, inr (record { turned = t; done = turned_anew next latest old new t done }))

pub ruleset turn_rules = (turned_anew, undone_turn, unsent_turn)

differ : false ≡ true → ⊥
differ e = subst IsNo e tt
  where
    IsNo : Bool → Type 0
    IsNo false = Unit {0}
    IsNo true = ⊥

-- what a turn leaves is nothing new, or what an event leaves, where no stray was heard
module _ {A : Type 0} where
  -- so it is led where no stray was heard then, and leads on whatever it is kept of
  abbrev pub Leads : (old new : RunnerState A) → Type 0
  Leads old new = new.is_led ≡ true → (old.is_led ≡ true) ×
      ((past : WorldHistory A) (w : WorldState A) → IsLed w → Keeps past w old.world → LeadsTo past w new.world)

  idle_leads : (old new : RunnerState A) → IsIdle old new → Leads old new
  idle_leads old new idle led = (
    sym (ap (λ (r : RunnerState A). r.is_led) idle) ∙ led,
    λ past w is_led keeps. leads_still past w new.world is_led
        (subst (λ (k : WorldState A). Keeps past w k) (sym (ap (λ (r : RunnerState A). r.world) idle)) keeps),
  )

  made_leads : (e : Event A) (old new : RunnerState A) → IsSoundEvent e → HasMade e old new → Leads old new
  made_leads e old new sound made led = (
    sym (ap (λ (r : RunnerState A). r.is_led) made.rest) ∙ led,
    λ past w is_led keeps. step_leads e past w old.world new.world is_led keeps sound (inl made.steps) made.brings,
  )

  stray_leads : (old new : RunnerState A) → new.is_led ≡ false → Leads old new
  stray_leads old new strayed led = absurd (differ (sym strayed ∙ led))

  done_leads : (next : Option (Event A)) (latest : Option Datagram) (old new : RunnerState A) (t : Turned) →
      IsSoundIfAny next → HasTurned next latest old new t → Leads old new
  done_leads (Some e) latest old new turned.Stepped sound h = made_leads e old new sound h
  done_leads (Some e) latest old new turned.Stray sound h = absurd h
  done_leads (Some e) latest old new turned.Dropped sound h = absurd h
  done_leads (Some e) latest old new turned.Nothing sound h = absurd h
  done_leads None (Some d) old new turned.Stepped sound h = made_leads (Deliver h.number) old new tt h.made
  done_leads None (Some d) old new turned.Stray sound h =
      stray_leads old new (ap (λ (r : RunnerState A). r.is_led) h.rest)
  done_leads None (Some d) old new turned.Dropped sound h = idle_leads old new (h.1)
  done_leads None (Some d) old new turned.Nothing sound h = absurd h
  done_leads None None old new turned.Stepped sound h = absurd h
  done_leads None None old new turned.Stray sound h = absurd h
  done_leads None None old new turned.Dropped sound h = absurd h
  done_leads None None old new turned.Nothing sound h = idle_leads old new h

  pub turn_leads : (next : Option (Event A)) (latest : Option Datagram) (old new : RunnerState A)
      (result : Result Turned Fault) → IsSoundIfAny next → IsTurn next latest old new result → Leads old new
  turn_leads next latest old new (Ok t) sound h = done_leads next latest old new t sound h
  turn_leads next latest old new (Err f) sound (inl (is, inl h)) = idle_leads old new h.idle
  turn_leads next latest old new (Err f) sound (inl (is, inr h)) =
      done_leads next latest old new h.turned sound h.done
  turn_leads next latest old new (Err f) sound (inr h) = idle_leads old new h.idle

  -- so do all of them
  all_lead : (ts : List (Turn A)) (old new : RunnerState A) → AllByRecursion (λ t. IsSoundIfAny t.next) ts →
      Turns ts old new → Leads old new
  all_lead [] old new sound same led = (
    sym (ap (λ (r : RunnerState A). r.is_led) same) ∙ led,
    λ past w is_led keeps. leads_still past w new.world is_led
        (subst (λ (k : WorldState A). Keeps past w k) (sym (ap (λ (r : RunnerState A). r.world) same)) keeps),
  )
  all_lead (t ∷ ts) old new sound h led =
      let rest = all_lead ts h.middle new (sound.1) h.rest led in
      let first = turn_leads t.next t.latest old h.middle t.result (sound.0) h.first (rest.0) in (
        first.0,
        λ past w is_led keeps.
            let on = first.1 past w is_led keeps in
            leads_both past past w h.middle.world new.world on (rest.1 past on.whole on.led on.keeps),
      )

  pub turns_lead : TurnsLead A
  turns_lead ts past w old new sound h led is_led keeps = (all_lead ts old new sound h led).1 past w is_led keeps

  pub turns_keep : TurnsKeep A
  turns_keep ts past old new sound h led kept =
      let on = turns_lead ts past kept.whole old new sound h led kept.led kept.keeps in
      record { whole = on.whole; led = on.led; keeps = on.keeps }

  -- the history goes on at each turn, whatever the wire brings
  idle_goes_on : (old new : RunnerState A) → IsIdle old new → GoesOn old.world.history new.world.history
  idle_goes_on old new idle = goes_nowhere old.world.history new.world.history
      (ap (λ (r : RunnerState A). r.world.history) idle)

  done_goes_on : (next : Option (Event A)) (latest : Option Datagram) (old new : RunnerState A) (t : Turned) →
      HasTurned next latest old new t → GoesOn old.world.history new.world.history
  done_goes_on (Some e) latest old new turned.Stepped h = (events_go_on e old.world new.world h.steps).history
  done_goes_on (Some e) latest old new turned.Stray h = absurd h
  done_goes_on (Some e) latest old new turned.Dropped h = absurd h
  done_goes_on (Some e) latest old new turned.Nothing h = absurd h
  done_goes_on None (Some d) old new turned.Stepped h =
      (events_go_on (Deliver h.number) old.world new.world h.made.steps).history
  done_goes_on None (Some d) old new turned.Stray h =
      (strays_go_on (stray_on h.takes.net d old.world.moment) old.world new.world h.takes.strays).history
  done_goes_on None (Some d) old new turned.Dropped h = idle_goes_on old new (h.1)
  done_goes_on None (Some d) old new turned.Nothing h = absurd h
  done_goes_on None None old new turned.Stepped h = absurd h
  done_goes_on None None old new turned.Stray h = absurd h
  done_goes_on None None old new turned.Dropped h = absurd h
  done_goes_on None None old new turned.Nothing h = idle_goes_on old new h

  pub turn_goes_on : (next : Option (Event A)) (latest : Option Datagram) (old new : RunnerState A)
      (result : Result Turned Fault) → IsTurn next latest old new result →
      GoesOn old.world.history new.world.history
  turn_goes_on next latest old new (Ok t) h = done_goes_on next latest old new t h
  turn_goes_on next latest old new (Err f) (inl (is, inl h)) = idle_goes_on old new h.idle
  turn_goes_on next latest old new (Err f) (inl (is, inr h)) = done_goes_on next latest old new h.turned h.done
  turn_goes_on next latest old new (Err f) (inr h) = idle_goes_on old new h.idle

  -- .. and where nothing was handed out or forgotten, all that they leave is what events leave
  abbrev Steps : (old new : RunnerState A) → Type 0
  Steps old new = new.is_led ≡ true → new.is_whole ≡ true →
      (old.is_led ≡ true) × (old.is_whole ≡ true) × AreEvents old.world new.world

  no_events : (w v : WorldState A) → v ≡ w → AreEvents w v
  no_events w v same = record { events = []; sound = tt; runs = same }

  idle_steps : (old new : RunnerState A) → IsIdle old new → Steps old new
  idle_steps old new idle led whole = (
    sym (ap (λ (r : RunnerState A). r.is_led) idle) ∙ led,
    sym (ap (λ (r : RunnerState A). r.is_whole) idle) ∙ whole,
    no_events old.world new.world (ap (λ (r : RunnerState A). r.world) idle),
  )

  made_steps : (e : Event A) (old new : RunnerState A) → IsSoundEvent e → HasMade e old new → Steps old new
  made_steps e old new sound made led whole =
      let was_led : old.is_led ≡ true = sym (ap (λ (r : RunnerState A). r.is_led) made.rest) ∙ led in
      let was_whole : old.is_whole ≡ true = sym (ap (λ (r : RunnerState A). r.is_whole) made.rest) ∙ whole in (
        was_led,
        was_whole,
        record {
          events = e ∷ [];
          sound = (sound, tt);
          runs = record {
            middle = new.world;
            first = record { comes = inl made.steps; brought = made.brought was_led was_whole };
            rest = refl;
          };
        },
      )

  done_steps : (next : Option (Event A)) (latest : Option Datagram) (old new : RunnerState A) (t : Turned) →
      IsSoundIfAny next → HasTurned next latest old new t → Steps old new
  done_steps (Some e) latest old new turned.Stepped sound h = made_steps e old new sound h
  done_steps (Some e) latest old new turned.Stray sound h = absurd h
  done_steps (Some e) latest old new turned.Dropped sound h = absurd h
  done_steps (Some e) latest old new turned.Nothing sound h = absurd h
  done_steps None (Some d) old new turned.Stepped sound h = made_steps (Deliver h.number) old new tt h.made
  done_steps None (Some d) old new turned.Stray sound h =
      λ led whole. absurd (differ (sym (ap (λ (r : RunnerState A). r.is_led) h.rest) ∙ led))
  done_steps None (Some d) old new turned.Dropped sound h = idle_steps old new (h.1)
  done_steps None (Some d) old new turned.Nothing sound h = absurd h
  done_steps None None old new turned.Stepped sound h = absurd h
  done_steps None None old new turned.Stray sound h = absurd h
  done_steps None None old new turned.Dropped sound h = absurd h
  done_steps None None old new turned.Nothing sound h = idle_steps old new h

  turn_steps : (next : Option (Event A)) (latest : Option Datagram) (old new : RunnerState A)
      (result : Result Turned Fault) → IsSoundIfAny next → IsTurn next latest old new result → Steps old new
  turn_steps next latest old new (Ok t) sound h = done_steps next latest old new t sound h
  turn_steps next latest old new (Err f) sound (inl (is, inl h)) = idle_steps old new h.idle
  turn_steps next latest old new (Err f) sound (inl (is, inr h)) =
      done_steps next latest old new h.turned sound h.done
  turn_steps next latest old new (Err f) sound (inr h) = idle_steps old new h.idle

  events_both : (w u v : WorldState A) → AreEvents w u → AreEvents u v → AreEvents w v
  events_both w u v p q = record {
    events = p.events ++ q.events;
    sound = sound_both p.events q.events p.sound q.sound;
    runs = runs_both p.events q.events w u v p.runs q.runs;
  }

  all_steps : (ts : List (Turn A)) (old new : RunnerState A) → AllByRecursion (λ t. IsSoundIfAny t.next) ts →
      Turns ts old new → Steps old new
  all_steps [] old new sound same led whole = (
    sym (ap (λ (r : RunnerState A). r.is_led) same) ∙ led,
    sym (ap (λ (r : RunnerState A). r.is_whole) same) ∙ whole,
    no_events old.world new.world (ap (λ (r : RunnerState A). r.world) same),
  )
  all_steps (t ∷ ts) old new sound h led whole =
      let rest = all_steps ts h.middle new (sound.1) h.rest led whole in
      let first = turn_steps t.next t.latest old h.middle t.result (sound.0) h.first (rest.0) (rest.1) in
      (first.0, first.1, events_both old.world h.middle.world new.world (first.2) (rest.2))

  pub turns_are_steps : TurnsAreSteps A
  turns_are_steps ts old new sound h led whole = (all_steps ts old new sound h led whole).2
