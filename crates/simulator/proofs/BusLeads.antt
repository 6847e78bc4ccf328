-- What comes of octets that are heard on a bus is steps of its clients and devices: each frame that is heard was put
-- out there, and may still be heard.
use Rattle.std.proofs.Common.{◌≡◌, ◌∙◌, ⊎_elim, inl, refl, sym, ap, subst, ◌≤◌, ◌+◌, arith, ℕ, zero, suc, List, [], ◌∷◌, ◌++◌, map, Some}
use Rattle.std.specs.Prelude.{slice_get}
use Rattle.std.specs.List.{flat_map}
use Rattle.bus_traffic.specs.declared.hearing.HeardFrame.{HeardFrame}
use Rattle.buses.proofs.HeardLaws.{heard_is_known}
use Rattle.buses.proofs.KnownLaws.{heard_known}
use Rattle.carry.specs.Things.{SentFrame, Thing}
use Rattle.world.proofs.carry_world.Promised.{stays_so, step_leads, steps_lead_on}
use Rattle.world.specs.carry_world.PlainSteps.{StepsTo, something_passes}
use Rattle.history.proofs.Lists.{has, has_back, has_either, has_front, has_next}
use Rattle.history.specs.Lists.{Has}
use Rattle.world.specs.link_site.Things.{thing_at}
use Rattle.world.proofs.node_laws.Passing.{counting_passes_on, frame_passes_on}
use Rattle.world.proofs.node_laws.Staying.{stays_at_counting, stays_at_frame}
use Rattle.npdu.specs.declared.mac.Mac.TheVariants.{One}
use Rattle.npdu.specs.declared.mac.Station.{Station}
use Rattle.profile.specs.Times.{LIFE_MS}
use Rattle.simulator.proofs.ActLaws.{acts_lead, plain_with}
use Rattle.simulator.proofs.HearLeads.{AreComing, answer_step, frame_brings, nothing_told}
use Rattle.simulator.proofs.Parts.{get_set}
use Rattle.world.specs.site_node.Node.{NodeState, node_places}
use Rattle.world.specs.site_node.Steps.{NodeTold}
use Rattle.world.proofs.Standing.{some_same}
use Rattle.world.specs.Acting.{Acts}
use Rattle.world.specs.Hearing.{Hears, IsTold, IsToldOf, Keeps, Takes, TakesEach}
use Rattle.world.specs.World.{WorldState, frames_on, thing_of, things_of, waits_in}
use Rattle.world.specs.declared.listener.Listener.{Listener}
use Rattle.world.specs.headline_bacnet.Refined.{ObjectSite}
use Rattle.world.specs.world_sites.Nodes.{clients_of, devices_of}

module _ {A : Type 0} (l : Listener) (x : Station) (now : ℕ) (extra : List (Thing A)) (s0 : ObjectSite A) where
  -- a world at this moment, where the port that listens is where it was
  pub record Here (u : WorldState A) : Type 0 where
    pub moment : u.moment ≡ now
    pub at : (n : NodeState A) → slice_get u.nodes l.place ≡ Some n → slice_get (node_places n) l.port ≡ Some x

  -- steps lead on, and it stays there
  pub record Leads (u v : WorldState A) : Type 0 where
    pub steps : StepsTo s0 (plain_with extra u) (plain_with extra v)
    pub here : Here v

  -- a frame is on its way to the listener, and may still be heard
  pub record IsComing (f : HeardFrame A) : Type 0 where
    pub there : Has extra (thing_at x.net (One l.mac) x.mac f.octets f.stamp)
    pub young : now ≤ f.stamp + LIFE_MS

  -- what is put where it was is where it was
  still_there : (u v : WorldState A) (n next : NodeState A) (t : NodeTold A) → Acts u v l.place n next t →
      node_places next ≡ node_places n → Here u → Here v
  still_there u v n next t acts same here = record {
    moment = ap (λ (z : WorldState A). z.moment) acts.is ∙ here.moment;
    at = λ r among. subst (λ (m : NodeState A). slice_get (node_places m) l.port ≡ Some x)
        (get_set u.nodes l.place n next r acts.there
        (ap (λ (z : WorldState A). slice_get z.nodes l.place) (sym acts.is) ∙ among))
        (ap (λ (ys : List Station). slice_get ys l.port) same ∙ here.at n acts.there);
  }

  pub arrives : (f : HeardFrame A) (u v : WorldState A) → IsComing f → Here u → (t : Takes l f u v) →
      AreComing (plain_with extra u).things u.moment t.n l.port (One l.mac) f.octets f.stamp
  arrives f u v coming here t = record {
    at = x;
    is = here.at t.n t.acts.there;
    mac = tt;
    there = has_back (things_of u) extra coming.there;
    young = let still = here.moment in let young = coming.young in omega (arith, still, young);
  }

  -- a node hears a frame
  pub takes : (f : HeardFrame A) (u v : WorldState A) → IsComing f → Here u → Takes l f u v → Leads u v
  takes f u v coming here t =
      let are = arrives f u v coming here t in record {
        steps = acts_lead extra u v l.place t.n t.next t.told t.acts s0 (plain_with extra u)
            (answer_step extra u v l.place t.n t.next t.told t.acts s0 l.port t.hears.heard.up t.hears.heard.middle _
            t.hears.heard.answers (λ p is host. frame_brings (plain_with extra u) t.n l.port (One l.mac) f.octets
            f.stamp are t.stands host f.used t.told t.next t.hears p is))
            (λ ts front among says. frame_passes_on A ts u.moment l.port f.used (One l.mac) f.octets f.stamp t.n t.next
            t.told are.at t.stands among says are.mac are.is (front _ are.there) t.hears);
        here = still_there u v t.n t.next t.told t.acts (stays_at_frame A u.moment l.port f.used (One l.mac) f.octets f.stamp
            t.n t.next t.told t.stands t.hears).same here;
      }

  -- .. or is told of octets
  is_told_of : (count : ℕ) (u v : WorldState A) → Here u → IsToldOf l count u v → Leads u v
  is_told_of count u v here t = record {
    steps = acts_lead extra u v l.place t.n t.next t.told t.acts s0 (plain_with extra u)
        (nothing_told extra u v l.place t.n t.next t.told t.acts s0 t.n.part t.n.part refl t.counts.same refl refl
        t.counts.silent)
        (λ ts front among says. counting_passes_on A ts u.moment l.port count t.n t.next t.told t.stands among t.counts);
    here = still_there u v t.n t.next t.told t.acts
        (stays_at_counting A u.moment l.port count t.n t.next t.told t.stands t.counts).same here;
  }

  -- nothing happens
  idles : (u v : WorldState A) → Here u → v ≡ u → Leads u v
  idles u v here same = subst (λ (z : WorldState A). Leads u z) (sym same)
      (record { steps = stays_so s0 (plain_with extra u); here = here })

  takes_each : (fs : List (HeardFrame A)) (u v : WorldState A) → ((f : HeardFrame A) → Has fs f → IsComing f) → Here u →
      TakesEach l fs u v → Leads u v
  takes_each [] u v coming here same = idles u v here same
  takes_each (f ∷ fs) u v coming here t =
      let first = takes f u t.middle (coming f (has 0 refl)) here t.first in
      let rest = takes_each fs t.middle v (λ g among. coming g (has_next f fs among)) first.here t.rest in
      record {
        steps = steps_lead_on s0 (plain_with extra u) (plain_with extra t.middle) (plain_with extra v) first.steps rest.steps;
        here = rest.here;
      }

  is_told : (count : ℕ) (u v : WorldState A) → Here u → IsTold l count u v → Leads u v
  is_told zero u v here same = idles u v here same
  is_told (suc n) u v here t = is_told_of (suc n) u v here t

-- what an ear keeps makes nothing known
keeps_things : {A : Type 0} (i j : ℕ) (octets kept : List ℕ) (u v : WorldState A) → Keeps i j octets kept u v →
    things_of v ≡ things_of u
keeps_things {A} i j octets kept u v k =
    ap (λ (z : WorldState A). things_of z) k.is
    ∙ ap (λ (ts : List (Thing A)). map (λ i. thing_of i) u.items ++ (ts ++ flat_map (λ n. waits_in n.ports) u.nodes))
    (heard_known SentFrame u.moment i j octets kept k.ear k.bus u.buses k.bus_there)

module _ {A : Type 0} (w v : WorldState A) (extra : List (Thing A)) (s0 : ObjectSite A)
    (network place : ℕ) (octets : List ℕ) (d : Hears network place octets w v) where
  -- while it goes on, all that was on its way is
  abbrev pub all : List (Thing A)
  all = things_of w ++ extra

  abbrev pub x : Station
  x = record { net = network; mac = One d.listener.mac }

  -- each frame that is heard was known on the bus
  pub comes : (f : HeardFrame A) → Has d.at.hearing.frames f → IsComing d.listener x w.moment all s0 f
  comes f among =
      let known = heard_is_known SentFrame w.moment network d.listener.mac octets w.buses.buses d.at.bus d.heard.bus d.at.ear
      d.heard.ear d.at.hearing f d.heard.found d.heard.hears among in record {
        there = has_front (things_of w) extra (has_back (map (λ i. thing_of i) w.items) _ (has_front
            (frames_on w.buses.buses) _ known.0));
        young = known.1;
      }

  -- as it begins, the listener is where it is
  pub begins : Here d.listener x w.moment all s0 w
  begins = record {
    moment = refl;
    at = λ n there. subst (λ (m : NodeState A). slice_get (node_places m) d.listener.port ≡ Some x)
        (some_same d.listens.n n (sym d.listens.there
        ∙ ap (λ (k : ℕ). slice_get w.nodes k) (sym d.listens.at) ∙ there)) d.listens.with.at;
  }

  -- all that was on its way still is
  pub all_pass : StepsTo s0 (plain_with extra w) (plain_with all w)
  all_pass = step_leads s0 (plain_with extra w) (plain_with all w) (something_passes (record {
    moment = refl;
    clients = refl;
    devices = refl;
    keys = refl;
    history = refl;
    said = refl;
    grows = λ t h. ⊎_elim (λ (old : Has (things_of w) t). inl (has_front (things_of w) extra old))
        (λ (more : Has (things_of w ++ extra) t). inl more) (has_either (things_of w) (things_of w ++ extra) h);
  }))

  abbrev heard : WorldState A
  heard = d.settles.does.middle

  abbrev kept : Keeps d.at.bus d.at.ear octets d.settles.kept heard v
  kept = d.settles.does.rest

  ends : StepsTo s0 (plain_with all heard) (plain_with extra v)
  ends = step_leads s0 (plain_with all heard) (plain_with extra v) (something_passes (record {
    moment = ap (λ (z : WorldState A). z.moment) kept.is;
    clients = ap (λ (z : WorldState A). clients_of z.nodes) kept.is;
    devices = ap (λ (z : WorldState A). devices_of z.nodes) kept.is;
    keys = ap (λ (z : WorldState A). z.keys) kept.is;
    history = ap (λ (z : WorldState A). z.history) kept.is;
    said = ap (λ (z : WorldState A). z.said) kept.is;
    grows = λ t h. ⊎_elim
        (λ (now : Has (things_of v) t). inl (has_front (things_of heard) all (subst (λ (ts : List (Thing A)). Has ts t)
        (keeps_things d.at.bus d.at.ear octets d.settles.kept heard v kept) now)))
        (λ (more : Has extra t). inl (has_back (things_of heard) all (has_back (things_of w) extra more)))
        (has_either (things_of v) extra h);
  }))

  pub hears_lead : StepsTo s0 (plain_with extra w) (plain_with extra v)
  hears_lead =
      let all_taken = d.settles.does.first in
      let each = takes_each d.listener x w.moment all s0 d.at.hearing.frames w all_taken.middle comes begins all_taken.first in
      let rest = is_told d.listener x w.moment all s0 d.settles.rest all_taken.middle heard each.here all_taken.rest in
      steps_lead_on s0 (plain_with extra w) (plain_with all w) (plain_with extra v) all_pass
      (steps_lead_on s0 (plain_with all w) (plain_with all all_taken.middle) (plain_with extra v) each.steps
      (steps_lead_on s0 (plain_with all all_taken.middle) (plain_with all heard) (plain_with extra v) rest.steps ends))
