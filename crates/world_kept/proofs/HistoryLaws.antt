-- The history of a world grows at its end alone, and so does what was said: what is told stands behind what was there.
use Rattle.std.proofs.Common.{◌≡◌, ◌∙◌, refl, sym, ap, subst, ℕ, zero, suc, List, [], ◌∷◌, ◌++◌, append-nil, append_assoc, length}
use Rattle.bus_traffic.specs.declared.hearing.HeardFrame.{HeardFrame}
use Rattle.history.specs.declared.Entry.TheVariants.{Issue}
use Rattle.npdu.specs.declared.mac.Station.{Station}
use Rattle.simulator.specs.site_node.Node.{NodeState, home_of}
use Rattle.simulator.specs.site_node.Steps.{NodeTold}
use Rattle.simulator.specs.world.Acting.{Acts}
use Rattle.simulator.specs.world.Hearing.{Hears, IsTold, TakesEach}
use Rattle.simulator.specs.world.Step.{Happens, Steps, delivered, issued, restart_entry, restarted}
use Rattle.simulator.specs.world.Straying.{Strays}
use Rattle.simulator.specs.world.World.{WorldState}
use Rattle.simulator.specs.world.site_events.declared.event.Event.{Event}
use Rattle.simulator.specs.world.site_events.declared.event.Event.TheVariants as event
use Rattle.simulator.specs.world.declared.happening.Happening.{Happening}
use Rattle.simulator.specs.world.declared.happening.Happening.TheVariants as happening
use Rattle.simulator.specs.world.declared.listener.Listener.{Listener}
use Rattle.simulator.specs.world_log.Growing.{told_in}
use Rattle.traffic.specs.declared.item.Item.{Item}
use Rattle.world_kept.specs.Growing.{EventsGoOn, GoesOn, GrowsOn, StraysGoOn}
use Rattle.world_past.proofs.KeyLaws.{keys_same, tells_behind}

pub goes_nowhere : {X : Type 0} (g h : List X) → h ≡ g → GoesOn g h
goes_nowhere g h same = record { more = []; is = same ∙ sym (append-nil g) }

pub goes_then : {X : Type 0} (f g h : List X) → GoesOn f g → GoesOn g h → GoesOn f h
goes_then {X} f g h first then = record {
  more = first.more ++ then.more;
  is = then.is ∙ ap (λ (l : List X). l ++ then.more) first.is ∙ append_assoc f first.more then.more;
}

module _ {A : Type 0} where
  pub grows_nowhere : (w v : WorldState A) → v ≡ w → GrowsOn w v
  grows_nowhere w v same = record {
    history = goes_nowhere w.history v.history (ap (λ (x : WorldState A). x.history) same);
    said = goes_nowhere w.said v.said (ap (λ (x : WorldState A). x.said) same);
  }

  grows_then : (w u v : WorldState A) → GrowsOn w u → GrowsOn u v → GrowsOn w v
  grows_then w u v first then = record {
    history = goes_then w.history u.history v.history first.history then.history;
    said = goes_then w.said u.said v.said first.said then.said;
  }

  -- what a node tells and says
  acts_on : (w v : WorldState A) (place : ℕ) (n next : NodeState A) (t : NodeTold A) → Acts w v place n next t →
      GrowsOn w v
  acts_on w v place n next t acts = record {
    history = record {
      more = told_in (home_of n.part) w.moment w.keys t.told [];
      is = ap (λ (x : WorldState A). x.history) acts.is
          ∙ tells_behind w.moment w.history w.keys w.keys (keys_same w.keys) (home_of n.part) t.told w.history []
          (sym (append-nil w.history));
    };
    said = record { more = acts.fresh; is = ap (λ (x : WorldState A). x.said) acts.is };
  }

  heard_each : (l : Listener) (fs : List (HeardFrame A)) (w v : WorldState A) → TakesEach l fs w v → GrowsOn w v
  heard_each l [] w v h = grows_nowhere w v h
  heard_each l (f ∷ fs) w v h = grows_then w h.middle v
      (acts_on w h.middle l.place h.first.n h.first.next h.first.told h.first.acts) (heard_each l fs h.middle v h.rest)

  told_any : (l : Listener) (count : ℕ) (w v : WorldState A) → IsTold l count w v → GrowsOn w v
  told_any l zero w v h = grows_nowhere w v h
  told_any l (suc n) w v h = acts_on w v l.place h.n h.next h.told h.acts

  hears : (network place : ℕ) (octets : List ℕ) (w v : WorldState A) → Hears network place octets w v → GrowsOn w v
  hears network place octets w v h =
      let all = h.settles.does.first in
      let kept = h.settles.does.middle in
      grows_then w kept v
      (grows_then w all.middle kept (heard_each h.listener h.at.hearing.frames w all.middle all.first)
      (told_any h.listener h.settles.rest all.middle kept all.rest))
      (record {
        history = goes_nowhere kept.history v.history (ap (λ (x : WorldState A). x.history) h.settles.does.rest.is);
        said = goes_nowhere kept.said v.said (ap (λ (x : WorldState A). x.said) h.settles.does.rest.is);
      })

  happens_on : (h : Happening A) (w v : WorldState A) → Happens h w v → GrowsOn w v
  happens_on (happening.Issue client instance q) w v h =
      let then : WorldState A = issued (home_of h.n.part) h.id instance q w in
      grows_then w then v
      (record {
        history = record { more = Issue (length w.keys) (home_of h.n.part) instance q w.moment ∷ []; is = refl };
        said = goes_nowhere w.said then.said refl;
      })
      (acts_on then v client h.n h.next h.told h.acts)
  happens_on (happening.WhoIs client limits) w v h = acts_on w v client h.n h.next h.told h.acts
  happens_on (happening.Tick n) w v h = record {
    history = goes_nowhere w.history v.history (ap (λ (x : WorldState A). x.history) h.is);
    said = goes_nowhere w.said v.said (ap (λ (x : WorldState A). x.said) h.is);
  }
  happens_on (happening.Wake node) w v h = acts_on w v node h.n h.next h.told h.acts
  happens_on (happening.Deliver number) w v h =
      let on = acts_on (delivered number h.item w) v h.place h.n h.next h.told h.acts in
      record { history = on.history; said = on.said }
  happens_on (happening.Restart node) w v h =
      let then : WorldState A = restarted h.n.part w in
      grows_then w then v
      (record {
        history = record { more = restart_entry w.moment h.n.part; is = refl };
        said = goes_nowhere w.said then.said refl;
      })
      (acts_on then v node h.n h.next h.told h.acts)
  happens_on (happening.Hear network node octets) w v h = hears network node octets w v h
  happens_on (happening.Register node) w v h = acts_on w v node h.n h.next h.told h.acts

  -- an event
  pub events_go_on : EventsGoOn A
  events_go_on (event.Issue client instance q) w v h = happens_on (happening.Issue h.place instance q) w v h.holds
  events_go_on (event.WhoIs client limits) w v h = happens_on (happening.WhoIs h.place limits) w v h.holds
  events_go_on (event.Tick n) w v h = happens_on (happening.Tick n) w v h
  events_go_on (event.Wake station) w v h = happens_on (happening.Wake h.place) w v h.holds
  events_go_on (event.Deliver number) w v h = happens_on (happening.Deliver number) w v h
  events_go_on (event.Restart station) w v h = happens_on (happening.Restart h.place) w v h.holds
  events_go_on (event.Hear network station octets) w v h =
      happens_on (happening.Hear network h.place octets) w v h.holds
  events_go_on (event.Register station) w v h = happens_on (happening.Register h.place) w v h.holds

  -- a stray
  pub strays_go_on : StraysGoOn A
  strays_go_on i w v h = acts_on w v h.place h.n h.next h.told h.acts
