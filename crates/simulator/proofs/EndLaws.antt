-- No issue of a world is forgotten, and a client that wakes leaves none that is overdue.
use Rattle.std.proofs.Common.{◌≡◌, ◌∙◌, refl, sym, ap, subst, ℕ, ◌+◌, ◌≤◌, List, [], Result, Ok, Err, OnOk}
use Rattle.std.specs.Prelude.{slice_get}
use Rattle.world.proofs.carry_ends.Ends.{all_accounted, all_unclosed, wakes_end}
use Rattle.world.specs.carry_ends.Ends.{IssuesAreAccountedFor, OpenAreUnclosed}
use Rattle.world.specs.carry_ends.headline_ends.Ends.{IsClosed}
use Rattle.history.specs.Lists.{Has}
use Rattle.history.specs.declared.Entry.TheVariants.{Issue}
use Rattle.primitives.specs.declared.plain_data.Request.{Request}
use Rattle.profile.specs.Times.{DEADLINE_MS}
use Rattle.simulator.proofs.ActLaws.{client_acts, mid, plain_with}
use Rattle.simulator.proofs.HearLeads.{puts, told_so}
use Rattle.simulator.proofs.LeadLaws.{with_nothing}
use Rattle.simulator.specs.Ended.{EndsOverdue, OverdueAreEnded}
use Rattle.simulator.specs.Laws.{IsLed}
use Rattle.world.specs.carry_world.PlainSteps.{ClientWakes, StepsTo}
use Rattle.world.specs.carry_world.PlainWorld.{PlainWorld}
use Rattle.world.specs.client.Client.{ClientState}
use Rattle.world.specs.headline_client.Safe.{station_of}
use Rattle.world.specs.site_node.Node.{NodeState, home_of}
use Rattle.world.specs.site_node.Part.{awake, told_awake}
use Rattle.world.specs.site_node.declared.part.Part.{Part}
use Rattle.world.specs.site_node.declared.part.Part.TheVariants.{Client}
use Rattle.tags.specs.declared.fault.Fault.{Fault}
use Rattle.world.proofs.Standing.{some_same}
use Rattle.world.specs.Step.{AtName, Happens, Steps, Wakes}
use Rattle.world.specs.World.{WorldState, plain}
use Rattle.world.specs.site_events.declared.event.Event.{Event}
use Rattle.world.specs.site_events.declared.event.Event.TheVariants as event
use Rattle.world.specs.declared.happening.Happening.TheVariants as happening
use Rattle.world.specs.world_log.Growing.{WorldHistory}
use Rattle.world.specs.world_sites.Finding.{IsNamed}
use Rattle.world.specs.world_sites.Opening.{object_site}

-- this client wakes
record WakesIt {A : Type 0} (w v : PlainWorld A) (c : ClientState A) : Type 0 where
  pub wakes : ClientWakes w v
  pub same : wakes.c ≡ c

module _ {A : Type 0} (w : WorldState A) (led : IsLed w) where
  pub accounted_of : IssuesAreAccountedFor (plain w)
  accounted_of = all_accounted (object_site w.site) led.fresh (plain w) led.is_site led.begun led.leads

  pub unclosed_of : OpenAreUnclosed (plain w)
  unclosed_of = all_unclosed (object_site w.site) led.fresh (plain w) led.is_site led.begun led.leads

  module _ (v : WorldState A) (place : ℕ) (d : Wakes place w v) (c : ClientState A) (is : d.n.part ≡ Client c) where
    abbrev woken : PlainWorld A
    woken = mid [] w v place d.n d.next d.told d.acts

    left_is : d.next.part ≡ awake w.moment (Client c)
    left_is = d.wakes.part ∙ ap (λ (q : Part A). awake w.moment q) is

    -- the client there wakes
    client_wakes_so : WakesIt (plain_with [] w) woken c
    client_wakes_so =
        let told_is = d.wakes.told ∙ ap (λ (q : Part A). told_awake w.moment q) is in
        let part = client_acts [] w v place d.n d.next d.told d.acts c _ is left_is in
        record {
          wakes = record {
            place = part.1.place;
            c = c;
            there = part.1.there;
            moment = refl;
            clients = part.1.set;
            devices = part.0;
            keys = refl;
            history = told_so [] w v place d.n d.next d.told d.acts told_is is;
            puts = puts [] w v place d.n d.next d.told d.acts told_is is;
          };
          same = refl;
        }

    same_history : v.history ≡ woken.history
    same_history = ap (λ (z : WorldState A). z.history) d.acts.is

    overdue_ended : (i instance : ℕ) (request : Request A) (moment : ℕ) →
        Has v.history (Issue i (home_of d.n.part) instance request moment) → moment + DEADLINE_MS ≤ w.moment →
        IsClosed v.history i
    overdue_ended i instance request moment issued late =
        let k = client_wakes_so in
        let steps = subst (λ (z : PlainWorld A). StepsTo (object_site w.site) led.fresh z) (sym (with_nothing w)) led.leads in
        subst (λ (h : WorldHistory A). IsClosed h i) (sym same_history)
        (wakes_end (object_site w.site) led.fresh (plain_with [] w) woken led.is_site led.begun steps k.wakes i instance
        request moment
        (subst (λ (x : ClientState A). Has woken.history (Issue i (station_of x) instance request moment)) (sym k.same)
        (subst (λ (q : Part A). Has woken.history (Issue i (home_of q) instance request moment)) is
        (subst (λ (h : WorldHistory A). Has h (Issue i (home_of d.n.part) instance request moment)) same_history issued)))
        late)

module _ {A : Type 0} (name : List ℕ) (w v : WorldState A) (led : IsLed w)
    (d : AtName name w (λ place. Happens (happening.Wake place) w v)) where
  -- the node of a name is the one that woke
  named_there : (place : ℕ) (n : NodeState A) → IsNamed name w.nodes place n → n ≡ d.holds.n
  named_there place n named =
      let same : place ≡ d.place = some_same place d.place (sym named.named ∙ d.named.named.named) in
      some_same n d.holds.n (sym named.there ∙ ap (λ (k : ℕ). slice_get w.nodes k) same ∙ d.holds.acts.there)

  ends_overdue : EndsOverdue name w v
  ends_overdue = record {
    ends = λ place n c named is i instance request moment issued late.
        let same = named_there place n named in
        overdue_ended w led v d.place d.holds c (sym (ap (λ (m : NodeState A). m.part) same) ∙ is) i instance request
        moment (subst (λ (m : NodeState A). Has v.history (Issue i (home_of m.part) instance request moment)) same issued)
        late;
  }

-- so it is at each event that is accepted
overdue_are_ended : {A : Type 0} (e : Event A) (w v : WorldState A) → IsLed w → Steps e w v → OverdueAreEnded e w v
overdue_are_ended (event.Wake name) w v led d = ends_overdue name w v led d
overdue_are_ended (event.Issue client instance request) w v led d = tt
overdue_are_ended (event.WhoIs client limits) w v led d = tt
overdue_are_ended (event.Tick n) w v led d = tt
overdue_are_ended (event.Deliver number) w v led d = tt
overdue_are_ended (event.Restart station) w v led d = tt
overdue_are_ended (event.Hear network station octets) w v led d = tt
overdue_are_ended (event.Register station) w v led d = tt

-- .. where it is known of what is within, and the event may be refused
pub ended_by : {A R : Type 0} (e : Event A) (i w v : WorldState A) (r : Result R Fault) → i ≡ w → IsLed i →
    OnOk r (Steps e i v) → OnOk r (OverdueAreEnded e w v)
ended_by {A} {R} e i w v r same led steps = by_result r steps
  where
    by_result : (q : Result R Fault) → OnOk q (Steps e i v) → OnOk q (OverdueAreEnded e w v)
    by_result (Ok x) steps =
        subst (λ (u : WorldState A). OverdueAreEnded e u v) same (overdue_are_ended e i v led steps)
    by_result (Err fault) steps = tt
