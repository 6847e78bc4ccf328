-- What happens in a world is steps of its clients and devices.
use Rattle.std.proofs.Common.{◌≡◌, ◌∙◌, inl, refl, sym, ap, subst, arith, ◌≤◌, ◌+◌, ℕ, true, List, [], ◌∷◌, ◌++◌, length, map, Option, Some, append-nil}
use Rattle.std.proofs.lemmas.Bool.{leb-true}
use Rattle.std.specs.Prelude.{nat_le, slice_get, slice_set}
use Rattle.std.specs.List.{flat_map}
use Rattle.apdu.specs.declared.unconfirmed.Limits.{Limits}
use Rattle.buses.proofs.KnownLaws.{ears_anew_known}
use Rattle.buses.specs.Puts.{BusesState}
use Rattle.carry.specs.Things.{SentFrame, Thing}
use Rattle.world.proofs.carry_world.Promised.{step_leads}
use Rattle.world.specs.carry_world.PlainSteps.{PlainStep, StepsTo, client_asks, client_issues, device_restarts, time_passes}
use Rattle.world.specs.carry_world.PlainWorld.{Delivers, PlainWorld}
use Rattle.world.specs.device.Device.{restarts}
use Rattle.history.proofs.HasLaws.{has_map}
use Rattle.history.proofs.Lists.{has, has_front}
use Rattle.history.specs.Lists.{Has}
use Rattle.history.specs.declared.Entry.TheVariants as history
use Rattle.world.specs.link_site.Things.{thing_at}
use Rattle.world.proofs.node_laws.Passing.{asking_passes_on, hearing_passes_on, issue_passes_on, registering_passes_on}
use Rattle.world.proofs.node_laws.Passing.{restart_passes_on, wake_passes_on}
use Rattle.world.specs.node_laws.Laws.{IsRelay}
use Rattle.world.specs.node_laws.Out.{IsMac}
use Rattle.world.specs.node_laws.Stands as node
use Rattle.npdu.proofs.Stations.{one_station}
use Rattle.npdu.specs.Mac.{same_station}
use Rattle.npdu.specs.declared.mac.Mac.{Mac}
use Rattle.npdu.specs.declared.mac.Mac.TheVariants.{One, Six}
use Rattle.npdu.specs.declared.mac.Station.{Station}
use Rattle.npdu.specs.declared.parcel.Parcel.{Parcel}
use Rattle.primitives.specs.Sound.{IsSoundRequest}
use Rattle.primitives.specs.declared.plain_data.Request.{Request}
use Rattle.profile.specs.Times.{LIFE_MS}
use Rattle.simulator.proofs.ActLaws.{acts_lead, client_acts, device_acts, mid, plain_with, puts_from}
use Rattle.simulator.proofs.BusLeads.{hears_lead}
use Rattle.simulator.proofs.HearLeads.{AreComing, hearing_brings, hearing_step, nothing_told, puts, told_so, wake_step}
use Rattle.simulator.proofs.Parts.{found_there, map_same}
use Rattle.simulator.specs.Heard.{up_of}
use Rattle.world.specs.site_node.Node.{NodeState, home_of, node_places}
use Rattle.world.specs.site_node.Part.{PartAsks, PartIssues, PartRestarts}
use Rattle.world.specs.site_node.declared.part.Part.{Part}
use Rattle.world.specs.site_node.declared.part.Part.TheVariants.{Device, Client}
use Rattle.traffic.specs.declared.item.Item.{Item}
use Rattle.world.proofs.FindingLaws.{steady_there}
use Rattle.world.proofs.Standing.{all_at, set_same}
use Rattle.world.specs.Laws.{Stands}
use Rattle.world.specs.Step.{Asks, Delivers as Delivery, Happens, IsSoundEvent, IsSoundHappening, Issues, Registers, Restarts}
use Rattle.world.specs.Step.{Steps, Ticks, Wakes}
use Rattle.world.specs.Step.{addressee_of, deafened, deafened_at, delivered, issued, restart_entry, restarted}
use Rattle.world.specs.World.{WorldState, frames_on, plain, thing_of, things_of, waits_in}
use Rattle.world.specs.site_events.declared.event.Event.{Event}
use Rattle.world.specs.site_events.declared.event.Event.TheVariants as event
use Rattle.world.specs.declared.happening.Happening.{Happening}
use Rattle.world.specs.declared.happening.Happening.TheVariants as happening
use Rattle.world.specs.headline_bacnet.Refined.{ObjectSite}
use Rattle.world.specs.world_sites.Nodes.{clients_of, devices_of}
use Rattle.world.specs.world_sites.Opening.{object_site}

le_of : (m n : ℕ) → nat_le m n ≡ true → m ≤ n
le_of m n e = leb-true m n e

-- the ears of a station make nothing known
deafened_knows : {A : Type 0} (now : ℕ) (x : Station) (b : BusesState A) →
    frames_on {A = A} (deafened now x b).buses ≡ frames_on b.buses
deafened_knows {A} now x b = by_mac x.mac
  where
    by_mac : (m : Mac) → frames_on {A = A} (deafened_at now x.net m b).buses ≡ frames_on b.buses
    by_mac (One mac) = ears_anew_known SentFrame now x.net mac b
    by_mac (Six octets) = refl

-- the mark of an item changes nothing of what is on its way
marked_same : {A : Type 0} (extra : List (Thing A)) (w : WorldState A) (number : ℕ) (i : Item A) →
    slice_get w.items number ≡ Some i → plain_with extra (delivered number i w) ≡ plain_with extra w
marked_same {A} extra w number i e = ap (λ (ts : List (Thing A)). record (plain_with extra w) {
  things = (ts ++ (frames_on w.buses.buses ++ flat_map (λ n. waits_in n.ports) w.nodes)) ++ extra;
}) (map_same (λ (j : Item A). thing_of j) w.items number i (record i { is_delivered = true }) e refl)

module _ {A : Type 0} (w : WorldState A) (stands : Stands w) (extra : List (Thing A)) where
  pub node_stands : (place : ℕ) (n : NodeState A) → slice_get w.nodes place ≡ Some n → node.Stands w.moment n
  node_stands place n e = (steady_there w.site w.moment w.nodes w.items place n stands e).stands

  abbrev old : PlainWorld A
  old = plain_with extra w

  -- an item is on its way to its addressee
  module _ (number : ℕ) (v : WorldState A) (d : Delivery number w v) where
    item_comes : AreComing old.things w.moment d.n d.port d.item.from d.item.octets d.item.stamp
    item_comes =
        let x = addressee_of d.item in
        let found = found_there (λ y. same_station y x) (node_places d.n) d.port d.addressee.port_is in
        let here : d.port ≡ found.k = let is = found.is in omega (arith, is) in record {
          at = x;
          is = ap (λ (k : ℕ). slice_get (node_places d.n) k) here ∙ found.there
              ∙ ap (λ (y : Station). Some y) ((one_station found.one x).same found.passes);
          mac = all_at (λ (i : Item A). IsMac i.from) w.items number d.item stands.from d.there;
          there = has_front (things_of w) extra (has_front (map (λ i. thing_of i) w.items) _
              (has_map (λ i. thing_of i) w.items d.item (has number d.there)));
          young = le_of w.moment (d.item.stamp + LIFE_MS) d.young;
        }

    -- what comes up of it is delivered
    pub item_brings : (p : Parcel A) → up_of d.n.part w.moment d.port d.item.from d.item.octets d.item.stamp d.n d.told
        d.next d.hears ≡ Some p → (IsRelay d.n.part → ⊥) → Delivers old (home_of d.n.part).net (home_of d.n.part).mac p
    item_brings p is host = hearing_brings old d.n d.port d.item.from d.item.octets d.item.stamp item_comes
        (node_stands d.place d.n d.acts.there) host d.n.part d.told d.next d.hears p is

    delivers_lead : (s0 : ObjectSite A) → StepsTo s0 old (plain_with extra v)
    delivers_lead s0 =
        let u = delivered number d.item w in
        let it : Thing A = thing_at item_comes.at.net d.item.from item_comes.at.mac d.item.octets d.item.stamp in
        let same = marked_same extra w number d.item d.there in
        subst (λ (a : PlainWorld A). StepsTo s0 a (plain_with extra v)) same
        (acts_lead extra u v d.place d.n d.next d.told d.acts s0 (plain_with extra u)
        (hearing_step extra u v d.place d.n d.next d.told d.acts s0 d.port d.item.from d.item.octets d.item.stamp d.n.part
        refl d.hears (λ p is host. subst (λ (a : PlainWorld A). Delivers a (home_of d.n.part).net (home_of d.n.part).mac p)
        (sym same) (item_brings p is host)))
        (λ ts front among says. hearing_passes_on A ts w.moment d.port d.item.from d.item.octets d.item.stamp d.n d.next
        d.told item_comes.at (node_stands d.place d.n d.acts.there) among says item_comes.mac item_comes.is
        (front it (subst (λ (a : PlainWorld A). Has a.things it) (sym same) item_comes.there)) d.hears))

  module _ (v : WorldState A) (place : ℕ) (s0 : ObjectSite A) where
    abbrev new : PlainWorld A
    new = plain_with extra v

    -- a node wakes
    wakes_lead : Wakes place w v → StepsTo s0 old new
    wakes_lead d = acts_lead extra w v place d.n d.next d.told d.acts s0 old
        (wake_step extra w v place d.n d.next d.told d.acts s0 d.n.part refl d.wakes.told d.wakes.part)
        (λ ts front among says. wake_passes_on A ts w.moment d.n d.next d.told (node_stands place d.n d.acts.there) among
        says d.wakes)

    -- a foreign node registers
    registers_lead : Registers place w v → StepsTo s0 old new
    registers_lead d = acts_lead extra w v place d.n d.next d.told d.acts s0 old
        (nothing_told extra w v place d.n d.next d.told d.acts s0 d.n.part d.n.part refl d.registers.same refl refl
        d.registers.silent)
        (λ ts front among says. registering_passes_on A ts w.moment d.n d.next d.told
        (node_stands place d.n d.acts.there) among d.registers)

    -- a client asks who is there
    asks_lead : (limits : Option Limits) → Asks place limits w v → StepsTo s0 old new
    asks_lead limits d = acts_lead extra w v place d.n d.next d.told d.acts s0 old
        (by_part d.n.part refl d.asks.asks)
        (λ ts front among says. asking_passes_on A ts w.moment limits d.n d.next d.told (node_stands place d.n d.acts.there)
        among says d.asks)
      where
        by_part : (q : Part A) → d.n.part ≡ q → PartAsks w.moment limits q d.told.told d.next.part →
            PlainStep s0 old (mid extra w v place d.n d.next d.told d.acts)
        by_part (Client c) is asks =
            let part = client_acts extra w v place d.n d.next d.told d.acts c c is (asks.1) in
            client_asks (record {
              place = part.1.place;
              c = c;
              limits = limits;
              there = part.1.there;
              moment = refl;
              clients = part.1.set ∙ set_same (clients_of w.nodes) part.1.place c part.1.there;
              devices = part.0;
              keys = refl;
              history = told_so extra w v place d.n d.next d.told d.acts (asks.0) is;
              puts = puts extra w v place d.n d.next d.told d.acts (asks.0) is;
            })
        by_part q is asks = absurd asks

    -- a client issues a request
    module _ (instance : ℕ) (request : Request A) (sound : IsSoundRequest request)
        (d : Issues place instance request w v) where
      abbrev with_issue : WorldState A
      with_issue = issued (home_of d.n.part) d.id instance request w

      abbrev between : PlainWorld A
      between = mid extra with_issue v place d.n d.next d.told d.acts

      issue_step : (q r : Part A) → d.n.part ≡ q → d.next.part ≡ r →
          PartIssues w.moment instance request q d.id d.told.told r → PlainStep s0 old between
      issue_step (Client c) (Client left) is then issues =
          let part = client_acts extra with_issue v place d.n d.next d.told d.acts c left is then in
          client_issues (record {
            place = part.1.place;
            instance = instance;
            request = request;
            c = c;
            next = left;
            told = record { invoke_id = d.id; said = d.told.told.said };
            there = part.1.there;
            sound = sound;
            free = issues.free;
            issues = issues.issues;
            moment = refl;
            clients = part.1.set;
            devices = part.0;
            keys = ap (λ (q : Part A). w.keys ++ record { client = home_of q; invoke_id = d.id } ∷ []) is;
            history = told_so extra with_issue v place d.n d.next d.told d.acts issues.told_is is ∙ ap (λ (q : Part A).
                w.history ++ history.Issue (length w.keys) (home_of q) instance request w.moment ∷ []) is;
            puts = puts_from (plain_with extra with_issue) old between c.net d.told.told.said refl refl
                (puts extra with_issue v place d.n d.next d.told d.acts refl is);
          })
      issue_step q r is then issues = absurd issues

      issues_lead : StepsTo s0 old new
      issues_lead = acts_lead extra with_issue v place d.n d.next d.told d.acts s0 old
          (issue_step d.n.part d.next.part refl refl d.issues.issues)
          (λ ts front among says. issue_passes_on A ts w.moment instance request d.id d.n d.next d.told
          (node_stands place d.n d.acts.there) among says d.issues)

  -- a device restarts
  module _ (v : WorldState A) (place : ℕ) (d : Restarts place w v) where
    abbrev its_site : ObjectSite A
    its_site = object_site w.site

    abbrev anew : WorldState A
    anew = restarted d.n.part w

    abbrev between_restarts : PlainWorld A
    between_restarts = mid extra anew v place d.n d.next d.told d.acts

    same_things : things_of anew ++ extra ≡ things_of w ++ extra
    same_things = ap (λ (ts : List (Thing A)).
        (map (λ i. thing_of i) w.items ++ (ts ++ flat_map (λ n. waits_in n.ports) w.nodes)) ++ extra)
        (deafened_knows w.moment (home_of d.n.part) w.buses)

    restart_step : (q : Part A) → d.n.part ≡ q →
        PartRestarts w.moment (its_site.opening (home_of d.n.part)) q d.told.told d.next.part →
        PlainStep its_site old between_restarts
    restart_step (Device e) is of =
        let part = device_acts extra anew v place d.n d.next d.told d.acts e _ is (of.1) in
        device_restarts (record {
          place = part.1.place;
          d = e;
          there = part.1.there;
          moment = refl;
          clients = part.0;
          devices = part.1.set ∙ ap (λ (q : Part A). slice_set (devices_of w.nodes) part.1.place
              (restarts w.moment (its_site.opening (home_of q)) e)) is;
          keys = refl;
          history = told_so extra anew v place d.n d.next d.told d.acts (of.0) is
              ∙ ap (λ (q : Part A). w.history ++ restart_entry w.moment q) is;
          puts = puts_from (plain_with extra anew) old between_restarts e.net [] refl same_things
              (puts extra anew v place d.n d.next d.told d.acts (of.0) is);
        })
    restart_step q is of = absurd of

    restarts_lead : StepsTo its_site old (plain_with extra v)
    restarts_lead = acts_lead extra anew v place d.n d.next d.told d.acts its_site old
        (restart_step d.n.part refl d.restarts.part)
        (λ ts front among says. restart_passes_on A ts w.moment (its_site.opening (home_of d.n.part)) d.n d.next d.told
        d.restarts)

  -- time passes
  ticks_lead : (v : WorldState A) (s0 : ObjectSite A) (n : ℕ) → Ticks n w v → StepsTo s0 old (plain_with extra v)
  ticks_lead v s0 n d = step_leads s0 old (plain_with extra v)
      (subst (λ (u : WorldState A). PlainStep s0 old (plain_with extra u)) (sym d.is) (time_passes (record {
        n = n;
        moment = refl;
        clients = refl;
        devices = refl;
        keys = refl;
        history = refl;
        puts = record { fresh = []; insides = tt; said = sym (append-nil w.said); grows = λ t there. inl there };
      })))

-- what happens in a world that stands is steps of its clients and devices, whatever else is on its way
happening_leads : {A : Type 0} (h : Happening A) (w v : WorldState A) (extra : List (Thing A)) → Stands w →
    IsSoundHappening h → Happens h w v → StepsTo (object_site w.site) (plain_with extra w) (plain_with extra v)
happening_leads (happening.Issue client instance request) w v extra stands sound d =
    issues_lead w stands extra v client (object_site w.site) instance request sound d
happening_leads (happening.WhoIs client limits) w v extra stands sound d =
    asks_lead w stands extra v client (object_site w.site) limits d
happening_leads (happening.Tick n) w v extra stands sound d = ticks_lead w stands extra v (object_site w.site) n d
happening_leads (happening.Wake place) w v extra stands sound d =
    wakes_lead w stands extra v place (object_site w.site) d
happening_leads (happening.Deliver number) w v extra stands sound d =
    delivers_lead w stands extra number v d (object_site w.site)
happening_leads (happening.Restart place) w v extra stands sound d = restarts_lead w stands extra v place d
happening_leads (happening.Hear network place octets) w v extra stands sound d =
    hears_lead w v extra (object_site w.site) network place octets d
happening_leads (happening.Register place) w v extra stands sound d =
    registers_lead w stands extra v place (object_site w.site) d

-- a world without more on its way is itself
pub with_nothing : {A : Type 0} (w : WorldState A) → plain_with [] w ≡ plain w
with_nothing {A} w = ap (λ (ts : List (Thing A)). record (plain w) { things = ts }) (append-nil (things_of w))

pub happenings_lead : {A : Type 0} (h : Happening A) (w v : WorldState A) → Stands w → IsSoundHappening h →
    Happens h w v → StepsTo (object_site w.site) (plain w) (plain v)
happenings_lead {A} h w v stands sound d =
    subst (λ (a : PlainWorld A). StepsTo (object_site w.site) a (plain v)) (with_nothing w)
    (subst (λ (b : PlainWorld A). StepsTo (object_site w.site) (plain_with [] w) b) (with_nothing v)
    (happening_leads h w v [] stands sound d))

-- what an event leaves is what happens at the place of its node
pub by_place : {A : Type 0} (P : Type 0) (w v : WorldState A) (e : Event A) →
    ((h : Happening A) → (IsSoundEvent e → IsSoundHappening h) → Happens h w v → P) → Steps e w v → P
by_place P w v (event.Issue client instance request) all d =
    all (happening.Issue d.place instance request) (λ sound. sound) d.holds
by_place P w v (event.WhoIs client limits) all d = all (happening.WhoIs d.place limits) (λ sound. tt) d.holds
by_place P w v (event.Tick n) all d = all (happening.Tick n) (λ sound. tt) d
by_place P w v (event.Wake name) all d = all (happening.Wake d.place) (λ sound. tt) d.holds
by_place P w v (event.Deliver number) all d = all (happening.Deliver number) (λ sound. tt) d
by_place P w v (event.Restart name) all d = all (happening.Restart d.place) (λ sound. tt) d.holds
by_place P w v (event.Hear network name octets) all d = all (happening.Hear network d.place octets) (λ sound. tt) d.holds
by_place P w v (event.Register name) all d = all (happening.Register d.place) (λ sound. tt) d.holds

pub steps_lead : {A : Type 0} (e : Event A) (w v : WorldState A) → Stands w → IsSoundEvent e → Steps e w v →
    StepsTo (object_site w.site) (plain w) (plain v)
steps_lead e w v stands sound steps = by_place (StepsTo (object_site w.site) (plain w) (plain v)) w v e
    (λ h so happens. happenings_lead h w v stands (so sound) happens) steps
