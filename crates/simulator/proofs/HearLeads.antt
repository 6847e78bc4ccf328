-- What comes up where a node hears octets is delivered, and what a part does on it, or where it wakes, is the step of a
-- device or a client, or none.
use Rattle.std.proofs.Common.{◌≡◌, ◌∙◌, refl, sym, ap, subst, ◌≤◌, ◌+◌, arith, ℕ, zero, suc, List, [], ◌∷◌, Option, Some, None}
use Rattle.std.specs.Prelude.{slice_get}
use Rattle.carry.specs.Things.{Thing}
use Rattle.world.specs.carry_world.PlainSteps.{ClientHearsIt, DeviceHearsIt, PlainStep, client_hears, client_wakes, device_hears, device_wakes}
use Rattle.world.specs.carry_world.PlainWorld.{Delivers, PlainWorld, Puts}
use Rattle.world.specs.client.Client.{ClientState}
use Rattle.world.specs.device.Device.{DeviceState}
use Rattle.history.specs.Lists.{Has}
use Rattle.inside.specs.Inside.{Reaches}
use Rattle.world.proofs.link_site.Things.{carried_is_borne, is_on_its_network}
use Rattle.world.specs.link_site.CarryLaws.{keeps_stamp}
use Rattle.world.specs.link_site.Things.{Carries, thing_at}
use Rattle.world.specs.link_site.declared.port.SitePort.{SitePort}
use Rattle.world.proofs.node_laws.Staying.{stays_at_counting}
use Rattle.world.specs.node_laws.Laws.{IsRelay}
use Rattle.world.specs.node_laws.Out.{IsMac}
use Rattle.world.specs.node_laws.Stands.{IsAt, IsAtItsPort, Stands}
use Rattle.npdu.specs.declared.mac.Mac.{Mac}
use Rattle.npdu.specs.declared.mac.Station.{Station}
use Rattle.npdu.specs.declared.parcel.Parcel.{Parcel}
use Rattle.profile.specs.Times.{LIFE_MS}
use Rattle.router.specs.declared.plan.PortParcel.{PortParcel}
use Rattle.simulator.proofs.ActLaws.{acts_puts, client_acts, device_acts, mid, plain_with, silent_step}
use Rattle.simulator.specs.Heard.{up_of}
use Rattle.world.specs.site_node.Node.{NodeState, begun, home_of, node_places, places_by}
use Rattle.world.specs.site_node.Part.{OfClient, OfDevice, PartHears, awake, silence, told_awake}
use Rattle.world.specs.site_node.Steps.{AnswersIf, HearsAs, NodeHearsFrame, NodeTold}
use Rattle.world.specs.site_node.declared.part.Part.{Part}
use Rattle.world.specs.site_node.declared.part.Part.TheVariants.{Device, Client, Router, Manager}
use Rattle.world.specs.site_node.declared.told.PartTold.{PartTold}
use Rattle.world.proofs.site_ports.Keeping.{ComesUp, heard_comes_up}
use Rattle.world.specs.site_ports.Drafts.{PortsState}
use Rattle.world.specs.site_ports.Ports.{HearsAt, places_of}
use Rattle.world.proofs.Standing.{some_same}
use Rattle.world.specs.Acting.{Acts}
use Rattle.world.specs.World.{WorldState}
use Rattle.world.specs.headline_bacnet.Refined.{ObjectSite}
use Rattle.world.specs.world_log.Growing.{told_in}
use Rattle.world.specs.world_sites.Nodes.{client_of, device_of}

-- these octets are on their way to a place of a node, from a link address, and young enough to be heard
pub record AreComing {A : Type 0} (things : List (Thing A)) (now : ℕ) (n : NodeState A) (port : ℕ) (from : Mac)
    (octets : List ℕ) (stamp : ℕ) : Type 0 where
  pub at : Station
  pub is : slice_get (node_places n) port ≡ Some at
  pub mac : IsMac from
  pub there : Has things (thing_at at.net from at.mac octets stamp)
  pub young : now ≤ stamp + LIFE_MS

-- a device or a client is at one place alone
one_place : {A : Type 0} (x : Station) (ports : List (SitePort A)) → IsAtItsPort x ports → places_of ports ≡ x ∷ []
one_place x ports at = ap (λ (ps : List (SitePort _)). places_of ps) at.one ∙ ap (λ (y : Station). y ∷ []) at.place

-- all places of it are that one, and so are those of its ports
host_places : {A : Type 0} (part : Part A) (ports : List (SitePort A)) → IsAt part ports → (IsRelay part → ⊥) →
    (places_by part ports ≡ home_of part ∷ []) × (places_of ports ≡ home_of part ∷ [])
host_places (Device d) ports at host = let one = one_place (home_of (Device d)) ports at in (one, one)
host_places (Client c) ports at host = let one = one_place (home_of (Client c)) ports at in (one, one)
host_places (Router r) ports at host = absurd (host tt)
host_places (Manager net m) ports at host = absurd (host tt)

only_one : (x y : Station) (n : ℕ) → slice_get (x ∷ []) n ≡ Some y → y ≡ x
only_one x y zero e = sym (some_same x y e)
only_one x y (suc n) e = absurd (cc e)

module _ {A : Type 0} (w : PlainWorld A) (n : NodeState A) (port : ℕ) (from : Mac) (octets : List ℕ) (stamp : ℕ)
    (coming : AreComing w.things w.moment n port from octets stamp) (stands : Stands w.moment n)
    (host : IsRelay n.part → ⊥) where
  abbrev x : Station
  x = home_of n.part

  -- what comes up of them to a device or a client is delivered
  delivered : (p : Parcel A) → ComesUp (places_of n.ports) port from octets stamp p → Delivers w x.net x.mac p
  delivered p up =
      let places = host_places n.part n.ports stands.at host in
      let its : coming.at ≡ x = only_one x coming.at port
      (ap (λ (xs : List Station). slice_get xs port) (sym places.0) ∙ coming.is) in
      let here : up.place ≡ x = only_one x up.place port
      (ap (λ (xs : List Station). slice_get xs port) (sym places.1) ∙ up.at_port) in
      let carried : Carries from x.mac octets stamp p =
      subst (λ (y : Station). Carries from y.mac octets stamp p) here up.handed.carried in
      let stamped : p.stamp ≡ stamp = keeps_stamp from x.mac octets stamp p carried in
      let young = coming.young in
      record {
        thing = thing_at x.net from x.mac octets stamp;
        there = subst (λ (y : Station). Has w.things (thing_at y.net from y.mac octets stamp)) its coming.there;
        on = is_on_its_network A x.net from x.mac octets stamp;
        bears = (carried_is_borne A x.net from x.mac octets stamp p).0 carried;
        reaches = subst (λ (y : Station). Reaches p.to y.mac) here up.handed.reaches;
        young = omega (arith, young, stamped);
      }

  came_up : (up : Option (Parcel A)) (middle : PortsState A) (p : Parcel A) → up ≡ Some p →
      HearsAt w.moment port from octets stamp (begun n) up middle → Delivers w x.net x.mac p
  came_up up middle p is heard =
      delivered p (heard_comes_up (places_of n.ports) w.moment port from octets stamp (begun n) middle p refl
      (subst (λ (o : Option (Parcel A)). HearsAt w.moment port from octets stamp (begun n) o middle) is heard))

  pub hearing_brings : (q : Part A) (t : NodeTold A) (new : NodeState A)
      (h : HearsAs q w.moment port from octets stamp n t new) (p : Parcel A) →
      up_of q w.moment port from octets stamp n t new h ≡ Some p → Delivers w x.net x.mac p
  hearing_brings (Device d) t new h p is = came_up h.hears.up h.hears.middle p is h.hears.heard
  hearing_brings (Client c) t new h p is = came_up h.hears.up h.hears.middle p is h.hears.heard
  hearing_brings (Router r) t new h p is = came_up h.hears.up h.hears.middle p is h.hears.heard
  hearing_brings (Manager net m) t new h p is = absurd (cc is)

  -- .. of a frame, at a port that was told of its octets
  pub frame_brings : (count : ℕ) (t : NodeTold A) (new : NodeState A)
      (h : NodeHearsFrame w.moment port count from octets stamp n t new) (p : Parcel A) → h.heard.up ≡ Some p →
      Delivers w x.net x.mac p
  frame_brings count t new h p is =
      let stays = stays_at_counting A w.moment port count n (record n { ports = h.counted.ports })
      (record { told = silence; out = h.counted.out }) stands
      (record { name = refl; silent = refl; same = refl; ports = h.told }) in
      let places = (host_places n.part h.counted.ports stays.stands.at host).1
      ∙ sym (host_places n.part n.ports stands.at host).1 in
      delivered p (heard_comes_up (places_of n.ports) w.moment port from octets stamp h.counted h.heard.middle p places
      (subst (λ (up : Option (Parcel A)). HearsAt w.moment port from octets stamp h.counted up h.heard.middle) is
      h.heard.heard))

module _ {A : Type 0} (extra : List (Thing A)) (u v : WorldState A) (place : ℕ) (n next : NodeState A) (t : NodeTold A)
    (acts : Acts u v place n next t) where
  abbrev y : Station
  y = home_of n.part

  abbrev old : PlainWorld A
  old = plain_with extra u

  abbrev new : PlainWorld A
  new = mid extra u v place n next t acts

  -- what it said is put out where its part is, and what it told is in the history
  pub puts : {told : PartTold A} {q : Part A} → t.told ≡ told → n.part ≡ q → Puts old new (home_of q).net told.said
  puts {told} {q} told_is is = subst (λ (r : Part A). Puts old new (home_of r).net told.said) is
      (subst (λ (s : PartTold A). Puts old new y.net s.said) told_is (acts_puts extra u v place n next t acts))

  pub told_so : {told : PartTold A} {q : Part A} → t.told ≡ told → n.part ≡ q →
      new.history ≡ told_in (home_of q) u.moment u.keys told u.history
  told_so {told} {q} told_is is = ap (λ (s : PartTold A). told_in y u.moment u.keys s u.history) told_is
      ∙ ap (λ (r : Part A). told_in (home_of r) u.moment u.keys told u.history) is

  device_step : (p : Parcel A) (downs : List (PortParcel A)) (d left : DeviceState A) → n.part ≡ Device d →
      next.part ≡ Device left → Delivers old y.net y.mac p → OfDevice u.moment p d t.told downs left → DeviceHearsIt old new
  device_step p downs d left is then delivers of =
      let part = device_acts extra u v place n next t acts d left is then in
      record {
        place = part.1.place;
        d = d;
        left = left;
        p = p;
        told = of.by;
        there = part.1.there;
        delivered = subst (λ (q : Part A). Delivers old (home_of q).net (home_of q).mac p) is delivers;
        hears = of.hears;
        moment = refl;
        clients = part.0;
        devices = part.1.set;
        keys = refl;
        history = told_so of.told_is is;
        puts = puts of.told_is is;
      }

  client_step : (p : Parcel A) (downs : List (PortParcel A)) (c left : ClientState A) → n.part ≡ Client c →
      next.part ≡ Client left → Delivers old y.net y.mac p → OfClient u.moment p c t.told downs left → ClientHearsIt old new
  client_step p downs c left is then delivers of =
      let part = client_acts extra u v place n next t acts c left is then in
      record {
        place = part.1.place;
        c = c;
        next = left;
        p = p;
        told = of.by;
        there = part.1.there;
        delivered = subst (λ (q : Part A). Delivers old (home_of q).net (home_of q).mac p) is delivers;
        hears = of.hears;
        moment = refl;
        clients = part.1.set;
        devices = part.0;
        keys = refl;
        history = told_so of.told_is is;
        puts = puts of.told_is is;
      }

  module _ (s0 : ObjectSite A) where
    -- a part tells nothing, and stays no client and no device, or the one that it was
    pub nothing_told : (q r : Part A) → n.part ≡ q → next.part ≡ r → client_of r ≡ client_of q → device_of r ≡ device_of q →
        t.told ≡ silence → PlainStep s0 old new
    nothing_told q r is then client device silent = silent_step extra u v place n next t acts s0 silent
        (ap (λ (p : Part A). client_of p) then ∙ client ∙ sym (ap (λ (p : Part A). client_of p) is))
        (ap (λ (p : Part A). device_of p) then ∙ device ∙ sym (ap (λ (p : Part A). device_of p) is))

    -- what comes up is heard
    part_step : (port : ℕ) (p : Parcel A) (downs : List (PortParcel A)) (q r : Part A) → n.part ≡ q → next.part ≡ r →
        ((IsRelay q → ⊥) → Delivers old y.net y.mac p) → PartHears u.moment port p q t.told downs r → PlainStep s0 old new
    part_step port p downs (Device d) (Device left) is then delivers h =
        device_hears (device_step p downs d left is then (delivers (λ relay. relay)) h)
    part_step port p downs (Client c) (Client left) is then delivers h =
        client_hears (client_step p downs c left is then (delivers (λ relay. relay)) h)
    part_step port p downs (Router q) (Router left) is then delivers h =
        nothing_told (Router q) (Router left) is then refl refl (h.0)
    part_step port p downs (Manager net m) r is then delivers h =
        nothing_told (Manager net m) (Manager net m) is (then ∙ h.2) refl refl (h.0)
    part_step port p downs q r is then delivers h = absurd h

    -- .. and where nothing does, nothing happens
    pub answer_step : (port : ℕ) (up : Option (Parcel A)) (middle end : PortsState A) →
        AnswersIf u.moment port up n.part middle t.told next.part end →
        ((p : Parcel A) → up ≡ Some p → (IsRelay n.part → ⊥) → Delivers old y.net y.mac p) → PlainStep s0 old new
    answer_step port None middle end a delivers = nothing_told n.part n.part refl (a.1) refl refl (a.0)
    answer_step port (Some p) middle end a delivers =
        part_step port p a.downs n.part next.part refl refl (delivers p refl) a.hears

    -- a node hears octets
    pub hearing_step : (port : ℕ) (from : Mac) (octets : List ℕ) (stamp : ℕ) (q : Part A) → n.part ≡ q →
        (h : HearsAs q u.moment port from octets stamp n t next) → ((p : Parcel A) →
        up_of q u.moment port from octets stamp n t next h ≡ Some p → (IsRelay n.part → ⊥) → Delivers old y.net y.mac p) →
        PlainStep s0 old new
    hearing_step port from octets stamp (Device d) is h delivers =
        answer_step port h.hears.up h.hears.middle _ h.hears.answers delivers
    hearing_step port from octets stamp (Client c) is h delivers =
        answer_step port h.hears.up h.hears.middle _ h.hears.answers delivers
    hearing_step port from octets stamp (Router r) is h delivers =
        answer_step port h.hears.up h.hears.middle _ h.hears.answers delivers
    hearing_step port from octets stamp (Manager net m) is h delivers =
        nothing_told (Manager net m) (Manager net h.left) is (ap (λ (m : NodeState A). m.part) h.is) refl refl h.silent

    -- it wakes
    pub wake_step : (q : Part A) → n.part ≡ q → t.told ≡ told_awake u.moment q → next.part ≡ awake u.moment q →
        PlainStep s0 old new
    wake_step (Device d) is told_is then =
        let part = device_acts extra u v place n next t acts d _ is then in
        device_wakes (record {
          place = part.1.place;
          d = d;
          there = part.1.there;
          moment = refl;
          clients = part.0;
          devices = part.1.set;
          keys = refl;
          history = told_so told_is is;
          puts = puts told_is is;
        })
    wake_step (Client c) is told_is then =
        let part = client_acts extra u v place n next t acts c _ is then in
        client_wakes (record {
          place = part.1.place;
          c = c;
          there = part.1.there;
          moment = refl;
          clients = part.1.set;
          devices = part.0;
          keys = refl;
          history = told_so told_is is;
          puts = puts told_is is;
        })
    wake_step (Router r) is told_is then = nothing_told (Router r) _ is then refl refl told_is
    wake_step (Manager net m) is told_is then = nothing_told (Manager net m) _ is then refl refl told_is
