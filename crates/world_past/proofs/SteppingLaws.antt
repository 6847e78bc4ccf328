-- What an event leaves of what is kept is kept of what it leaves of the whole.
use Rattle.std.proofs.Common.{subst, ℕ, List}
use Rattle.world.specs.Laws.{Stands}
use Rattle.world.specs.Step.{AtName, Happens, HasName}
use Rattle.world.specs.World.{WorldState}
use Rattle.world.specs.site_events.declared.event.Event.TheVariants as event
use Rattle.world.specs.declared.happening.Happening.{Happening}
use Rattle.world.specs.declared.happening.Happening.TheVariants as happening
use Rattle.world.specs.site_ports.Ports.{Then}
use Rattle.world.specs.world_log.Growing.{WorldHistory}
use Rattle.world_past.proofs.EventLaws.{ask_over, deliver_over, issue_over, register_over, restart_over, tick_over, wake_over}
use Rattle.world_past.proofs.HearLaws.{hear_over}
use Rattle.world_past.proofs.ItemLaws.{all_from}
use Rattle.world_past.proofs.KeepingLaws.{over, over_is}
use Rattle.world.specs.Keeping.{Keeps}
use Rattle.world_past.specs.Laws.{HappensToAll, StandsInAll, StepsInAll}

happens_over : {A : Type 0} (h : Happening A) (past : WorldHistory A) (w k l : WorldState A) → Keeps past w k →
    Happens h (over w k) l → Then (Happens h w) (λ v. Keeps past v l)
happens_over (happening.Issue client instance request) past w k l p s =
    issue_over past w k l p client instance request s
happens_over (happening.WhoIs client limits) past w k l p s = ask_over past w k l p client limits s
happens_over (happening.Tick n) past w k l p s = tick_over past w k l p n s
happens_over (happening.Wake node) past w k l p s = wake_over past w k l p node s
happens_over (happening.Deliver number) past w k l p s = deliver_over past w k l p number s
happens_over (happening.Restart node) past w k l p s = restart_over past w k l p node s
happens_over (happening.Hear network node octets) past w k l p s = hear_over past w k l p network node octets s
happens_over (happening.Register node) past w k l p s = register_over past w k l p node s

-- THE SIMULATION, of what happens at a place
pub keeps_happens : {A : Type 0} → HappensToAll A
keeps_happens h past w k l p s = happens_over h past w k l p
    (subst (λ (x : WorldState _). Happens h x l) (over_is past w k p) s)

-- the node of a name
pub name_over : {A : Type 0} (name : List ℕ) (past : WorldHistory A) (w k : WorldState A) (place : ℕ) →
    Keeps past w k → HasName name k place → HasName name w place
name_over name past w k place p h =
    let s = subst (λ (x : WorldState _). HasName name x place) (over_is past w k p) h in
    record { n = s.n; named = s.named }

named_keeps : {A : Type 0} (name : List ℕ) (at : ℕ → Happening A) (past : WorldHistory A) (w k l : WorldState A) →
    Keeps past w k → AtName name k (λ place. Happens (at place) k l) →
    Then (λ (v : WorldState A). AtName name w (λ place. Happens (at place) w v)) (λ v. Keeps past v l)
named_keeps name at past w k l p s = let a = keeps_happens (at s.place) past w k l p s.holds in record {
  middle = a.middle;
  first = record { place = s.place; named = name_over name past w k s.place p s.named; holds = a.first };
  rest = a.rest;
}

-- .. of events by names
pub keeps_steps : {A : Type 0} → StepsInAll A
keeps_steps (event.Issue client instance request) past w k l p s =
    named_keeps client (λ place. happening.Issue place instance request) past w k l p s
keeps_steps (event.WhoIs client limits) past w k l p s =
    named_keeps client (λ place. happening.WhoIs place limits) past w k l p s
keeps_steps (event.Tick n) past w k l p s = keeps_happens (happening.Tick n) past w k l p s
keeps_steps (event.Wake station) past w k l p s =
    named_keeps station (λ place. happening.Wake place) past w k l p s
keeps_steps (event.Deliver number) past w k l p s = keeps_happens (happening.Deliver number) past w k l p s
keeps_steps (event.Restart station) past w k l p s =
    named_keeps station (λ place. happening.Restart place) past w k l p s
keeps_steps (event.Hear network station octets) past w k l p s =
    named_keeps station (λ place. happening.Hear network place octets) past w k l p s
keeps_steps (event.Register station) past w k l p s =
    named_keeps station (λ place. happening.Register place) past w k l p s

stands_over : {A : Type 0} (past : WorldHistory A) (w k : WorldState A) → Keeps past w k → Stands (over w k) → Stands w
stands_over past w k p s = record {
  each = s.each;
  from = all_from w.moment w.items k.items p.items s.from;
  greatest = s.greatest;
}

pub keeps_stands : {A : Type 0} → StandsInAll A
keeps_stands past w k p s =
    stands_over past w k p (subst (λ (x : WorldState _). Stands x) (over_is past w k p) s)
