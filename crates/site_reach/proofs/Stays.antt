-- An event leaves managers with their tables, and items that are no stranger's registrations.
use Rattle.std.proofs.Common.{◌≡◌, ◌∙◌, refl, sym, ap, subst, ℕ, zero, suc, Bool, true, false, List, [], ◌∷◌, Option, Some, None}
use Rattle.std.proofs.lemmas.List.{append-nil, drop_at, take_at}
use Rattle.std.specs.Prelude.{if◌then◌else◌}
use Rattle.apdu.specs.declared.unconfirmed.Limits.{Limits}
use Rattle.bbmd_manager.specs.State.{ManagerState}
use Rattle.bbmd_tables.specs.Tables.{is_among}
use Rattle.bus_traffic.specs.declared.hearing.HeardFrame.{HeardFrame}
use Rattle.bvll.specs.Address.{IsAddress, address_at, address_octets}
use Rattle.bvll.specs.Datagram.{Spells, register}
use Rattle.bvll.specs.declared.address.Address.{Address}
use Rattle.byteorder.specs.Endian.{big_bytes, big_number}
use Rattle.byteorder.specs.Numbers.{big_number-reads_back}
use Rattle.carry.specs.Datagrams.{mac_at}
use Rattle.npdu.proofs.Stations.{one_station}
use Rattle.npdu.specs.Mac.{same_station}
use Rattle.npdu.specs.declared.mac.Mac.{Mac}
use Rattle.npdu.specs.declared.mac.Mac.TheVariants.{One, Six}
use Rattle.npdu.specs.declared.mac.Station as npdu
use Rattle.primitives.specs.declared.plain_data.Request.{Request}
use Rattle.site.specs.Sound.{IsSound}
use Rattle.site_node.specs.Node.{NodeState, home_of, manager_place, node_places, places_by}
use Rattle.site_node.specs.Steps.{NodeTold}
use Rattle.site_node.specs.declared.part.Part.{Part}
use Rattle.site_node.specs.declared.part.Part.TheVariants.{Manager}
use Rattle.site_parts.specs.declared.parts.Parts.{Parts}
use Rattle.site_reach.proofs.Nodes.{StaysInOrder, stays_at_asking, stays_at_counting, stays_at_frame, stays_at_hearing, stays_at_issue, stays_at_registering, stays_at_restart, stays_at_wake}
use Rattle.site_reach.proofs.Site.{one_subnet}
use Rattle.site_reach.specs.Laws.{TablesStay}
use Rattle.site_reach.specs.Tables.{HasItsTable, HasItsTables, IsForeignOf, IsInOrder, IsRightful}
use Rattle.site_views.specs.Laws.{foreigns_on, subnet_of}
use Rattle.traffic.specs.declared.item.Item.{Item}
use Rattle.world.proofs.Standing.{all_at, all_both, all_set}
use Rattle.world.specs.Acting.{Acts}
use Rattle.world.specs.Hearing.{Hears, IsTold, Keeps, Takes, TakesEach}
use Rattle.world.specs.Step.{Asks, Delivers, Issues, Registers, Restarts, Ticks, Wakes, addressee_of, delivered, issued, restarted}
use Rattle.world.specs.World.{WorldState}
use Rattle.world.specs.site_events.declared.event.Event.TheVariants as event
use Rattle.world.specs.declared.listener.Listener.{Listener}
use Rattle.world_log.specs.Growing.{items_at}
use Rattle.world_sites.specs.Finding.{place_of}
use Rattle.world_sites.specs.Opening.{object_site}

-- the octets of an address say which it is
address_again : (a : Address) → IsAddress a → address_at (address_octets a) ≡ a
address_again a fits =
    let ip = take_at a.ip (big_bytes 2 a.port) 4 fits.ip in
    let port = drop_at a.ip (big_bytes 2 a.port) 4 fits.ip in
    let whole : big_number 2 (big_bytes 2 a.port) ≡ a.port =
    ap (big_number 2) (sym (append-nil (big_bytes 2 a.port))) ∙ big_number-reads_back 2 a.port [] fits.port in
    same_address _ _ ip (ap (big_number 2) port ∙ whole)
  where
    same_address : (ip : List ℕ) (port : ℕ) → ip ≡ a.ip → port ≡ a.port → record { ip = ip; port = port } ≡ a
    same_address ip port e g = rw (e, g) refl

-- what is found at its one place is there
place_is : (x y : npdu.Station) (n : ℕ) → place_of (λ z. same_station z y) (x ∷ []) ≡ Some n → x ≡ y
place_is x y n e = by_test (same_station x y) refl e
  where
    by_test : (b : Bool) → same_station x y ≡ b → (if b then Some 0 else None) ≡ Some n → x ≡ y
    by_test true t f = (one_station x y).same t
    by_test false t f = absurd (cc f)

-- a registration that comes to a manager is that of a foreign device of its own
rightful_here : {A : Type 0} (p : Parts A) → IsSound p → (net : ℕ) (m : ManagerState) →
    (has : HasItsTable p.stations net m) → (i : Item A) → IsRightful p.stations i →
    manager_place net m ≡ addressee_of i → (seconds : ℕ) (six : List ℕ) → i.from ≡ Six six →
    Spells i.octets (register seconds) →
    is_among (address_at six) (foreigns_on (subnet_of net has.subnet) p.stations) ≡ true
rightful_here {A} p sound net m has i right at seconds six from spelled =
    let r = right.registers seconds spelled in
    let f = subst (λ (n : ℕ). IsForeignOf p.stations n r.own r.manager) (sym (ap (λ (x : npdu.Station). x.net) at))
    r.is_foreign in
    let to : mac_at m.tables.own ≡ mac_at r.manager = ap (λ (x : npdu.Station). x.mac) at ∙ r.to in
    let k : has.subnet ≡ f.subnet = one_subnet p net has.subnet f.subnet m.tables.own r.manager sound has.manages
    f.manages (six_same _ _ to) in
    let own : address_at six ≡ r.own =
    ap address_at (six_same six (address_octets r.own) (sym from ∙ r.from)) ∙ address_again r.own f.sound in
    subst (λ (a : Address). is_among a (foreigns_on (subnet_of net has.subnet) p.stations) ≡ true) (sym own)
    (subst (λ (j : ℕ). is_among r.own (foreigns_on (subnet_of net j) p.stations) ≡ true) (sym k) f.is_there)
  where
    octets_in : Mac → List ℕ
    octets_in (Six xs) = xs
    octets_in (One n) = []

    six_same : (xs ys : List ℕ) → Six xs ≡ Six ys → xs ≡ ys
    six_same xs ys e = ap octets_in e

module _ {A : Type 0} (w v : WorldState A) (has : HasItsTables w) where
  -- a node did something
  acts_stay : (place : ℕ) (n next : NodeState A) (t : NodeTold A) → Acts w v place n next t →
      (IsInOrder w.site.stations n → StaysInOrder w.site.stations w.moment n next t.out) → HasItsTables v
  acts_stay place n next t acts does =
      let done = does (all_at (IsInOrder w.site.stations) w.nodes place n has.nodes acts.there) in
      subst (λ (x : WorldState A). HasItsTables x) (sym acts.is) (record {
        sound = has.sound;
        nodes = all_set (IsInOrder w.site.stations) w.nodes place next has.nodes done.in_order;
        items = all_both (IsRightful w.site.stations) w.items (items_at w.moment (node_places n) t.out) has.items
            done.items;
      })

  wakes : (place : ℕ) → Wakes place w v → HasItsTables v
  wakes place d = acts_stay place d.n d.next d.told d.acts
      (λ good. stays_at_wake w.site.stations w.moment d.n d.next d.told good d.wakes)

  registers : (place : ℕ) → Registers place w v → HasItsTables v
  registers place d = acts_stay place d.n d.next d.told d.acts
      (λ good. stays_at_registering w.site.stations w.moment d.n d.next d.told good d.registers)

  asks : (place : ℕ) (limits : Option Limits) → Asks place limits w v → HasItsTables v
  asks place limits d = acts_stay place d.n d.next d.told d.acts
      (λ good. stays_at_asking w.site.stations w.moment d.n d.next d.told good limits d.asks)

  takes : (l : Listener) (f : HeardFrame A) → Takes l f w v → HasItsTables v
  takes l f d = acts_stay l.place d.n d.next d.told d.acts (λ good.
      stays_at_frame w.site.stations w.moment d.n d.next d.told good l.port f.used (One l.mac) f.octets f.stamp d.hears)

  is_told : (l : Listener) (count : ℕ) → IsTold l count w v → HasItsTables v
  is_told l zero same = subst (λ (x : WorldState A). HasItsTables x) (sym same) has
  is_told l (suc n) d = acts_stay l.place d.n d.next d.told d.acts
      (λ good. stays_at_counting w.site.stations w.moment d.n d.next d.told good l.port (suc n) d.counts)

  keeps : (bus_place ear_place : ℕ) (octets kept : List ℕ) → Keeps bus_place ear_place octets kept w v → HasItsTables v
  keeps bus_place ear_place octets kept k = subst (λ (x : WorldState A). HasItsTables x) (sym k.is)
      (record { sound = has.sound; nodes = has.nodes; items = has.items })

  ticks : (n : ℕ) → Ticks n w v → HasItsTables v
  ticks n d = subst (λ (x : WorldState A). HasItsTables x) (sym d.is)
      (record { sound = has.sound; nodes = has.nodes; items = has.items })

module _ {A : Type 0} where
  issues : (place instance : ℕ) (request : Request A) (w v : WorldState A) → HasItsTables w →
      Issues place instance request w v → HasItsTables v
  issues place instance request w v has d = acts_stay (issued (home_of d.n.part) d.id instance request w) v
      (record { sound = has.sound; nodes = has.nodes; items = has.items }) place d.n d.next d.told d.acts
      (λ good. stays_at_issue w.site.stations w.moment d.n d.next d.told good instance request d.id d.issues)

  restarts : (place : ℕ) (w v : WorldState A) → HasItsTables w → Restarts place w v → HasItsTables v
  restarts place w v has d = acts_stay (restarted d.n.part w) v
      (record { sound = has.sound; nodes = has.nodes; items = has.items }) place d.n d.next d.told d.acts
      (λ good. stays_at_restart w.site.stations w.moment d.n d.next d.told good
      ((object_site w.site).opening (home_of d.n.part)) d.restarts)

  -- an item is heard, and marked
  delivers : (number : ℕ) (w v : WorldState A) → HasItsTables w → Delivers number w v → HasItsTables v
  delivers number w v has d =
      let ss = w.site.stations in
      let right = all_at (IsRightful ss) w.items number d.item has.items d.there in
      acts_stay (delivered number d.item w) v (record {
        sound = has.sound;
        nodes = has.nodes;
        items = all_set (IsRightful ss) w.items number (record d.item { is_delivered = true }) has.items
            (marked d.item right);
      }) d.place d.n d.next d.told d.acts (λ good. stays_at_hearing ss w.moment d.n d.next d.told good d.port d.item.from
      d.item.octets d.item.stamp
      (λ net m table e. rightful_here w.site has.sound net m table d.item right (is_its_place net m e)) d.hears)
    where
      marked : (i : Item A) → IsRightful w.site.stations i → IsRightful w.site.stations (record i { is_delivered = true })
      marked i right = record {
        registers = λ seconds s. let r = right.registers seconds s in
            record { own = r.own; manager = r.manager; from = r.from; to = r.to; is_foreign = r.is_foreign };
      }

      is_its_place : (net : ℕ) (m : ManagerState) → d.n.part ≡ Manager net m → manager_place net m ≡ addressee_of d.item
      is_its_place net m e = place_is (manager_place net m) (addressee_of d.item) d.port
          (subst (λ (p : Part A). place_of (λ y. same_station y (addressee_of d.item)) (places_by p d.n.ports) ≡ Some d.port)
          e d.addressee.port_is)

  -- octets are heard on a bus: frames one after another, and then what is left
  takes_each : (l : Listener) (fs : List (HeardFrame A)) (w v : WorldState A) → HasItsTables w → TakesEach l fs w v →
      HasItsTables v
  takes_each l [] w v has same = subst (λ (x : WorldState A). HasItsTables x) (sym same) has
  takes_each l (f ∷ fs) w v has t = takes_each l fs t.middle v (takes w t.middle has l f t.first) t.rest

  hears : (network place : ℕ) (octets : List ℕ) (w v : WorldState A) → HasItsTables w → Hears network place octets w v →
      HasItsTables v
  hears network place octets w v has d =
      let all = d.settles.does in
      let each = takes_each d.listener d.at.hearing.frames w all.first.middle has all.first.first in
      let told = is_told all.first.middle all.middle each d.listener d.settles.rest all.first.rest in
      keeps all.middle v told d.at.bus d.at.ear octets d.settles.kept all.rest

pub tables_stay : {A : Type 0} → TablesStay A
tables_stay (event.Issue client instance request) w v has d = issues d.place instance request w v has d.holds
tables_stay (event.WhoIs client limits) w v has d = asks w v has d.place limits d.holds
tables_stay (event.Tick n) w v has d = ticks w v has n d
tables_stay (event.Wake name) w v has d = wakes w v has d.place d.holds
tables_stay (event.Deliver number) w v has d = delivers number w v has d
tables_stay (event.Restart name) w v has d = restarts d.place w v has d.holds
tables_stay (event.Hear network name octets) w v has d = hears network d.place octets w v has d.holds
tables_stay (event.Register name) w v has d = registers w v has d.place d.holds
