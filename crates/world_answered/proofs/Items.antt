-- What goes down of one parcel for one address over a network of BACnet/IP is one item, and what comes up of that is the
-- parcel.
use Rattle.std.proofs.Common.{◌≡◌, ◌∙◌, ⊎_elim, refl, sym, ap, subst, arith, ℕ, ◌+◌, ◌≤◌, Bool, true, false, List, [], ◌∷◌, ◌++◌, length, map, Option, Some, None}
use Rattle.std.proofs.lemmas.Bool.{and_from, and_parts, leb-true}
use Rattle.std.specs.Prelude.{◌==◌, option_to_list, slice_get}
use Rattle.std.specs.List.{flat_map}
use Rattle.bvll.proofs.Unique.{canonical_spells, one_datagram}
use Rattle.bvll.specs.Address.{address_octets}
use Rattle.bvll.specs.Datagram.{Datagram, canonical, unicast}
use Rattle.bvll.specs.Datagram as bvll
use Rattle.carry.specs.Ports.{datagram_to}
use Rattle.carry.specs.Ports as carry
use Rattle.carry.specs.Things.{SentDatagram, Thing}
use Rattle.history.proofs.HasLaws.{has_map}
use Rattle.history.proofs.Lists.{has, has_front}
use Rattle.history.specs.Lists.{Has}
use Rattle.inside.specs.Inside.{Reaches}
use Rattle.link.specs.Limits.{is_target}
use Rattle.link.specs.Step.{LinkStep, PortSent, over_port}
use Rattle.link.specs.declared.step.Sent.{Sent}
use Rattle.link_ip.specs.Hearing.{HandsUp, IsHeard, handed_up}
use Rattle.link_ip.specs.Port as ip
use Rattle.link_ip.specs.Port.{IpPortState}
use Rattle.link_ip.specs.Saying.{is_taken, put_out_if, things_of}
use Rattle.link_ip.specs.Steps as ip_steps
use Rattle.npdu.proofs.Stations.{one_station}
use Rattle.npdu.specs.Mac.{same_mac, same_station}
use Rattle.npdu.specs.declared.mac.Mac.{Mac}
use Rattle.npdu.specs.declared.mac.Mac.TheVariants.{One, Six}
use Rattle.npdu.specs.declared.mac.Station.{Station}
use Rattle.npdu.specs.declared.mac.Target.{Target}
use Rattle.npdu.specs.declared.mac.Target.TheVariants as target
use Rattle.npdu.specs.declared.parcel.Parcel.{Parcel}
use Rattle.profile.specs.Times.{LIFE_MS}
use Rattle.router.specs.declared.plan.PortParcel.{PortParcel}
use Rattle.simulator.proofs.Parts.{found_there}
use Rattle.traffic.specs.Seeking.{is_young}
use Rattle.traffic.specs.declared.item.Item.{Item}
use Rattle.world.proofs.site_ports.PortSteps.{mapped_at, mapped_set}
use Rattle.world.specs.Step.{addressee_of, delivered}
use Rattle.world.specs.World.{WorldState, frames_on, thing_of, things_of as all_things, waits_in}
use Rattle.world.specs.carry_world.PlainWorld.{Delivers}
use Rattle.world.specs.link_site.Port.{station_of}
use Rattle.world.specs.link_site.Steps as site
use Rattle.world.specs.link_site.Things.{thing_at}
use Rattle.world.specs.link_site.declared.port.SitePort.{SitePort}
use Rattle.world.specs.link_site.declared.port.SitePort.TheVariants.{Ip, Bus}
use Rattle.world.specs.site_node.Node.{NodeState, begun, node_places}
use Rattle.world.specs.site_ports.Drafts.{PortsState}
use Rattle.world.specs.site_ports.Ports.{DownsEach, HearsAt, Misses, Steps, places_of}
use Rattle.world.specs.world_log.Growing.{item_from, items_at}
use Rattle.world.specs.world_sites.Finding.{port_at}
use Rattle.simulator.proofs.ActLaws.{plain_with}
use Rattle.world_answered.proofs.Places.{none_mapped, none_some, put_at, some_same}

-- an item is that of a parcel that a station says to one address (J.2.11)
pub record IsItemOf {A : Type 0} (x : Station) (p : Parcel A) (to : Mac) (i : Item A) : Type 0 where
  pub net : i.net ≡ x.net
  pub from : i.from ≡ p.from
  pub own : p.from ≡ x.mac
  pub address : List ℕ
  pub six : p.from ≡ Six address
  pub for : i.to ≡ to
  pub other : List ℕ
  pub other_six : to ≡ Six other
  pub octets : i.octets ≡ canonical (unicast p.npdu)
  pub stamp : i.stamp ≡ p.stamp
  pub short : length p.npdu ≤ 1497

-- what a datagram on its way is: its addresses, its octets and its stamp
abbrev from_of : {A : Type 0} → Mac → Thing A → Mac
from_of m (SentDatagram net from to octets stamp) = from
from_of m t = m

abbrev to_of : {A : Type 0} → Mac → Thing A → Mac
to_of m (SentDatagram net from to octets stamp) = to
to_of m t = m

abbrev octets_of : {A : Type 0} → Thing A → List ℕ
octets_of (SentDatagram net from to octets stamp) = octets
octets_of t = []

abbrev stamp_of : {A : Type 0} → Thing A → ℕ
stamp_of (SentDatagram net from to octets stamp) = stamp
stamp_of t = 0

head_same : {X : Type 0} (x y : X) (xs ys : List X) → x ∷ xs ≡ y ∷ ys → x ≡ y
head_same x y xs ys e = cc e

nil_cons : {X : Type 0} (x : X) (xs : List X) → [] ≡ x ∷ xs → ⊥
nil_cons x xs e = cc e

two_one : {X : Type 0} (x y z : X) (xs : List X) → x ∷ (y ∷ xs) ≡ z ∷ [] → ⊥
two_one x y z xs e = cc e

-- one datagram is put out of it
record IsSent {A : Type 0} (x : Station) (p : Parcel A) (to : Mac) (out : List (Sent A)) : Type 0 where
  pub s : Sent A
  pub one : out ≡ s ∷ []
  pub own : x.mac ≡ p.from
  pub for : s.to ≡ to
  pub octets : s.octets ≡ canonical (unicast p.npdu)
  pub stamp : s.stamp ≡ p.stamp

one_sent : {A : Type 0} (x : Station) (p : Parcel A) (to : Mac) (out : List (Sent A)) →
    things_of x out ≡ datagram_to x.net p to (unicast p.npdu) ∷ [] → IsSent x p to out
one_sent x p to [] e = absurd (nil_cons _ [] e)
one_sent {A} x p to (s ∷ []) e =
    let it : SentDatagram x.net x.mac s.to s.octets s.stamp ≡ datagram_to x.net p to (unicast p.npdu) =
    head_same _ _ [] [] e in record {
      s = s;
      one = refl;
      own = ap (λ (t : Thing A). from_of x.mac t) it;
      for = ap (λ (t : Thing A). to_of x.mac t) it;
      octets = ap (λ (t : Thing A). octets_of t) it;
      stamp = ap (λ (t : Thing A). stamp_of t) it;
    }
one_sent x p to (s ∷ t ∷ ss) e = absurd (two_one _ _ _ (things_of x ss) e)

nothing_sent : {A : Type 0} (x : Station) (out : List (Sent A)) → things_of x out ≡ [] → out ≡ []
nothing_sent x [] e = refl
nothing_sent x (s ∷ ss) e = absurd (nil_cons _ (things_of x ss) (sym e))

six_target : (own : List ℕ) (to : Mac) → is_target (Six own) (target.One to) ≡ true → (other : List ℕ) × (to ≡ Six other)
six_target own (Six other) e = (other, refl)
six_target own (One octet) e = absurd (cc e)

-- an item of it is put out at a place, and no other
pub record IsPutOut {A : Type 0} (places : List Station) (port : ℕ) (p : Parcel A) (to : Mac) (items : List (Item A))
    (i : Item A) : Type 0 where
  pub x : Station
  pub at : slice_get places port ≡ Some x
  pub item : IsItemOf x p to i
  pub one : items ≡ i ∷ []

module _ {A : Type 0} (now : ℕ) (places : List Station) (port : ℕ) (p : Parcel A) (to : Mac) (for : p.to ≡ target.One to)
    (i : Item A) where
  abbrev Items : List (PortSent A) → Type 0
  Items out = slice_get (items_at now places out) 0 ≡ Some i

  abbrev Found : List (PortSent A) → Type 0
  Found out = IsPutOut places port p to (items_at now places out) i

  none_out : Items [] → Found []
  none_out e = absurd (none_some i e)

  -- on a bus there are no items
  no_items : (net octet : ℕ) (ss : List (Sent A)) → slice_get places port ≡ Some (record { net = net; mac = One octet }) →
      items_at now places (over_port port ss) ≡ []
  no_items net octet [] at = refl
  no_items net octet (s ∷ ss) at =
      ap (λ (o : Option Station). flat_map (λ (x : Station). item_from now x.net x.mac s) (option_to_list o)
      ++ items_at now places (over_port port ss)) at ∙ no_items net octet ss at

  ip_sent : (old : IpPortState A) (step : LinkStep A) (left : IpPortState A) → ip_steps.Downs now p old step left →
      slice_get places port ≡ Some (ip.station_of old) → (s : IsSent (ip.station_of old) p to step.out) →
      is_taken old p ≡ true → Items (over_port port step.out) → Found (over_port port step.out)
  ip_sent old step left d at s taken there =
      let x : Station = ip.station_of old in
      let fields = and_parts (same_mac p.from x.mac) (is_target x.mac p.to) taken in
      let other = six_target (address_octets old.address) to (subst (λ (t : Target). is_target x.mac t ≡ true) for (fields.1)) in
      let made : Item A = record {
        net = x.net;
        from = x.mac;
        to = s.s.to;
        octets = s.s.octets;
        stamp = s.s.stamp;
        put_out = now;
        is_delivered = false;
      } in
      let all : items_at now places (over_port port step.out) ≡ made ∷ [] =
      ap (λ (ss : List (Sent A)). items_at now places (over_port port ss)) s.one
      ∙ ap (λ (o : Option Station). flat_map (λ (y : Station). item_from now y.net y.mac s.s) (option_to_list o) ++ []) at in
      let same : made ≡ i = some_same made i (ap (λ (is : List (Item A)). slice_get is 0) (sym all) ∙ there) in
      let fits = d.fits in
      record {
        x = x;
        at = at;
        item = subst (λ (j : Item A). IsItemOf x p to j) same (record {
          net = refl;
          from = s.own;
          own = sym s.own;
          address = address_octets old.address;
          six = sym s.own;
          for = s.for;
          other = other.0;
          other_six = other.1;
          octets = s.octets;
          stamp = s.stamp;
          short = fits;
        });
        one = all ∙ ap (λ (j : Item A). j ∷ []) same;
      }

  ip_downs : (old : IpPortState A) (step : LinkStep A) (left : IpPortState A) (b : Bool) → is_taken old p ≡ b →
      ip_steps.Downs now p old step left → slice_get places port ≡ Some (ip.station_of old) →
      things_of (ip.station_of old) step.out ≡ put_out_if b old p → Items (over_port port step.out) →
      Found (over_port port step.out)
  ip_downs old step left false taken d at puts there =
      let none = nothing_sent (ip.station_of old) step.out puts in
      subst (λ (ss : List (Sent A)). Found (over_port port ss)) (sym none)
      (none_out (subst (λ (ss : List (Sent A)). Items (over_port port ss)) none there))
  ip_downs old step left true taken d at puts there =
      ip_sent old step left d at (one_sent (ip.station_of old) p to step.out
      (puts ∙ ap (λ (t : Target). carry.down_to old.net (ip.port_of old.reach) t p) for)) taken there

  port_downs : (l left : SitePort A) (step : LinkStep A) → site.Downs now p l step left →
      slice_get places port ≡ Some (station_of l) → Items (over_port port step.out) → Found (over_port port step.out)
  port_downs (Ip old) (Ip left) step d at there = ip_downs old step left (is_taken old p) refl d at d.puts there
  port_downs (Bus old) (Bus left) step d at there =
      absurd (none_some i (ap (λ (is : List (Item A)). slice_get is 0) (sym (no_items old.net old.node.ts step.out at)) ∙ there))
  port_downs (Ip old) (Bus left) step d at there = absurd d
  port_downs (Bus old) (Ip left) step d at there = absurd d

  abbrev one_parcel : List (PortParcel A)
  one_parcel = record { port = port; parcel = p } ∷ []

  -- what goes down of one parcel is one item, if any is
  pub one_down : (old new : PortsState A) → places_of old.ports ≡ places → old.out ≡ [] → DownsEach now one_parcel old new →
      Items new.out → Found new.out
  one_down old new are none downs there =
      let ends : new ≡ downs.middle = downs.rest in
      subst (λ (out : List (PortSent A)). Found out) (sym (ap (λ (s : PortsState A). s.out) ends))
      (⊎_elim
      (λ (steps : Steps (site.Downs now p) port old downs.middle).
      let out : downs.middle.out ≡ over_port port steps.step.out =
      steps.puts ∙ ap (λ (o : List (PortSent A)). o ++ over_port port steps.step.out) none in
      subst (λ (o : List (PortSent A)). Found o) (sym out)
      (port_downs steps.link steps.left steps.step steps.made
      (ap (λ (xs : List Station). slice_get xs port) (sym are)
      ∙ mapped_at (λ m. station_of m) old.ports port steps.link steps.there)
      (subst (λ (o : List (PortSent A)). Items o) (ap (λ (s : PortsState A). s.out) ends ∙ out) there)))
      (λ (misses : Misses port old downs.middle).
      let out : downs.middle.out ≡ [] = ap (λ (s : PortsState A). s.out) misses.same ∙ none in
      subst (λ (o : List (PortSent A)). Found o) (sym out)
      (none_out (subst (λ (o : List (PortSent A)). Items o) (ap (λ (s : PortsState A). s.out) ends ∙ out) there)))
      downs.first)

-- there is a first item
pub record HasFirst {A : Type 0} (items : List (Item A)) : Type 0 where
  pub made : Item A
  pub first : slice_get items 0 ≡ Some made

-- an item is put out of it over a port of BACnet/IP
module _ {A : Type 0} (now : ℕ) (places : List Station) (port : ℕ) (x : Station) (x_there : slice_get places port ≡ Some x)
    (p : Parcel A) (to : Mac) (for : p.to ≡ target.One to) (own : p.from ≡ x.mac) (address : List ℕ) (six : x.mac ≡ Six address)
    (other : List ℕ) (six_to : to ≡ Six other) where
  itself : (m : Mac) → same_mac m m ≡ true
  itself m =
      let y : Station = record { net = 0; mac = m } in
      (and_parts (0 == 0) (same_mac m m) ((one_station y y).one refl)).1

  it_takes : (old : IpPortState A) → ip.station_of old ≡ x → is_taken old p ≡ true
  it_takes old at =
      let mac : (ip.station_of old).mac ≡ x.mac = ap (λ (s : Station). s.mac) at in
      and_from (same_mac p.from (ip.station_of old).mac) (is_target (ip.station_of old).mac p.to)
      (ap (λ (m : Mac). same_mac p.from m) mac ∙ ap (λ (m : Mac). same_mac m x.mac) own ∙ itself x.mac)
      (ap (λ (m : Mac). is_target m p.to) (mac ∙ six) ∙ ap (λ (t : Target). is_target (Six address) t) for
      ∙ ap (λ (m : Mac). is_target (Six address) (target.One m)) six_to)

  first_sent : (old : IpPortState A) (out : List (Sent A)) → ip.station_of old ≡ x → IsSent (ip.station_of old) p to out →
      HasFirst (items_at now places (over_port port out))
  first_sent old out at s =
      let made : Item A = record {
        net = old.net;
        from = Six (address_octets old.address);
        to = s.s.to;
        octets = s.s.octets;
        stamp = s.s.stamp;
        put_out = now;
        is_delivered = false;
      } in
      let there : slice_get places port ≡ Some (ip.station_of old) = x_there ∙ ap (λ (y : Station). Some y) (sym at) in
      let all : items_at now places (over_port port out) ≡ made ∷ [] =
      ap (λ (ss : List (Sent A)). items_at now places (over_port port ss)) s.one
      ∙ ap (λ (o : Option Station). flat_map (λ (y : Station). item_from now y.net y.mac s.s) (option_to_list o) ++ []) there in
      record { made = made; first = ap (λ (is : List (Item A)). slice_get is 0) all }

  link_puts : (l left : SitePort A) (step : LinkStep A) → site.Downs now p l step left → station_of l ≡ x →
      HasFirst (items_at now places (over_port port step.out))
  link_puts (Ip old) (Ip left) step d at =
      first_sent old step.out at (one_sent (ip.station_of old) p to step.out
      (d.puts ∙ ap (λ (b : Bool). put_out_if b old p) (it_takes old at)
      ∙ ap (λ (t : Target). carry.down_to old.net (ip.port_of old.reach) t p) for))
  link_puts (Bus old) (Bus left) step d at =
      let no : One old.node.ts ≡ Six address = ap (λ (s : Station). s.mac) at ∙ six in absurd (cc no)
  link_puts (Ip old) (Bus left) step d at = absurd d
  link_puts (Bus old) (Ip left) step d at = absurd d

  pub one_puts : (old new : PortsState A) → places_of old.ports ≡ places → old.out ≡ [] →
      DownsEach now (record { port = port; parcel = p } ∷ []) old new → HasFirst (items_at now places new.out)
  one_puts old new are none downs =
      let ends : new ≡ downs.middle = downs.rest in
      let here : slice_get (places_of old.ports) port ≡ Some x = ap (λ (xs : List Station). slice_get xs port) are ∙ x_there in
      subst (λ (s : PortsState A). HasFirst (items_at now places s.out)) (sym ends)
      (⊎_elim
      (λ (steps : Steps (site.Downs now p) port old downs.middle).
      let out : downs.middle.out ≡ over_port port steps.step.out =
      steps.puts ∙ ap (λ (o : List (PortSent A)). o ++ over_port port steps.step.out) none in
      let at : station_of steps.link ≡ x =
      some_same (station_of steps.link) x (sym (mapped_at (λ m. station_of m) old.ports port steps.link steps.there) ∙ here) in
      subst (λ (o : List (PortSent A)). HasFirst (items_at now places o)) (sym out)
      (link_puts steps.link steps.left steps.step steps.made at))
      (λ (misses : Misses port old downs.middle).
      absurd (none_some x (sym (none_mapped (λ m. station_of m) old.ports port misses.missing) ∙ here)))
      downs.first)

-- what comes up of an item, and how the ports stand then
pub record ComesUp {A : Type 0} (p : Parcel A) (places : List Station) (port : ℕ) (here : Station)
    (up : Option (Parcel A)) (middle : PortsState A) : Type 0 where
  pub is : up ≡ Some p
  pub at : slice_get places port ≡ Some here
  pub silent : middle.out ≡ []
  pub places_are : places_of middle.ports ≡ places

module _ {A : Type 0} (now port : ℕ) (n : NodeState A) (x : Station) (p : Parcel A) (to : Mac) (i : Item A)
    (item : IsItemOf x p to i) (for : p.to ≡ target.One to) where
  abbrev here : Station
  here = record { net = x.net; mac = to }

  spells : bvll.Spells (canonical (unicast p.npdu)) (unicast p.npdu)
  spells = let short = item.short in
      canonical_spells (unicast p.npdu) (record { fields = tt; fits = omega (arith, short) })

  -- the parcel is what the datagram hands up
  parcel_is : (own : Mac) → own ≡ to → record { from = Six item.address; to = target.One own; npdu = p.npdu; stamp = i.stamp } ≡ p
  parcel_is own e =
      ap (λ (m : Mac). record { from = m; to = target.One own; npdu = p.npdu; stamp = i.stamp }) (sym item.six)
      ∙ ap (λ (m : Mac). record { from = p.from; to = target.One m; npdu = p.npdu; stamp = i.stamp }) e
      ∙ ap (λ (t : Target). record { from = p.from; to = t; npdu = p.npdu; stamp = i.stamp }) (sym for)
      ∙ ap (λ (s : ℕ). record { from = p.from; to = p.to; npdu = p.npdu; stamp = s }) item.stamp

  handed : (own : Mac) (up : Option (Parcel A)) → own ≡ to → IsHeard i.from own i.octets i.stamp up → up ≡ Some p
  handed own up e heard =
      let hands : HandsUp (Six item.address) own i.octets i.stamp up =
      subst (λ (m : Mac). IsHeard m own i.octets i.stamp up) (item.from ∙ item.six) heard in
      let spelled = subst (λ (os : List ℕ). bvll.Spells os hands.datagram) item.octets hands.spelled in
      let same = one_datagram (canonical (unicast p.npdu)) hands.datagram (unicast p.npdu) spelled spells in
      hands.is ∙ ap (λ (d : Datagram). handed_up (Six item.address) own i.stamp d) same
      ∙ ap (λ (q : Parcel A). Some q) (parcel_is own e)

  port_hears : (l left : SitePort A) (step : LinkStep A) (up : Option (Parcel A)) → station_of l ≡ here →
      site.Hears now i.from i.octets i.stamp l step left → up ≡ step.up →
      (up ≡ Some p) × (step.out ≡ []) × (station_of left ≡ station_of l)
  port_hears (Ip old) (Ip left) step up at h same = (
    same ∙ handed (ip.station_of old).mac step.up (ap (λ (s : Station). s.mac) at) h.up,
    h.silent,
    ap (λ (q : IpPortState A). ip.station_of q) h.left,
  )
  port_hears (Bus old) (Bus left) step up at h same =
      let no : One old.node.ts ≡ Six item.other = ap (λ (s : Station). s.mac) at ∙ item.other_six in absurd (cc no)
  port_hears (Ip old) (Bus left) step up at h same = absurd h
  port_hears (Bus old) (Ip left) step up at h same = absurd h

  pub comes_up : (up : Option (Parcel A)) (middle : PortsState A) → node_places n ≡ places_of n.ports →
      port_at (addressee_of i) n ≡ Some port → HearsAt now port i.from i.octets i.stamp (begun n) up middle →
      ComesUp p (places_of n.ports) port here up middle
  comes_up up middle are found heard =
      let at = found_there (λ y. same_station y (addressee_of i)) (node_places n) port found in
      let number : port ≡ at.k = let is = at.is in omega (arith, is) in
      let there : slice_get (places_of n.ports) port ≡ Some at.one =
      ap (λ (xs : List Station). slice_get xs port) (sym are) ∙ ap (λ (k : ℕ). slice_get (node_places n) k) number
      ∙ at.there in
      let addressed : addressee_of i ≡ here =
      ap (λ (m : ℕ). record { net = m; mac = i.to }) item.net ∙ ap (λ (m : Mac). record { net = x.net; mac = m }) item.for in
      let is_here : at.one ≡ here = (one_station at.one (addressee_of i)).same at.passes ∙ addressed in
      let here_is : slice_get (places_of n.ports) port ≡ Some here =
      there ∙ ap (λ (s : Station). Some s) is_here in
      ⊎_elim
      (λ (steps : Steps (λ l s m. site.Hears now i.from i.octets i.stamp l s m × (up ≡ s.up)) port (begun n) middle).
      let own : station_of steps.link ≡ here =
      some_same (station_of steps.link) here (sym (mapped_at (λ m. station_of m) n.ports port steps.link steps.there) ∙ here_is) in
      let hears = port_hears steps.link steps.left steps.step up own (steps.made.0) (steps.made.1) in record {
        is = hears.0;
        at = here_is;
        silent = steps.puts ∙ ap (λ (out : List (Sent A)). over_port port out) (hears.1);
        places_are = ap (λ (ls : List (SitePort A)). places_of ls) steps.ports
            ∙ mapped_set (λ m. station_of m) n.ports port steps.link steps.left steps.there (hears.2);
      })
      (λ (misses : Misses port (begun n) middle × (up ≡ None)).
      absurd (none_some here (sym (none_mapped (λ m. station_of m) n.ports port misses.0.missing) ∙ here_is)))
      heard

-- an item that is delivered is on its way still, and bears its parcel
module _ {A : Type 0} (w : WorldState A) (number : ℕ) (x : Station) (p : Parcel A) (to : Mac) (i : Item A)
    (there : slice_get w.items number ≡ Some i) (item : IsItemOf x p to i) (for : p.to ≡ target.One to)
    (young : is_young w.moment i ≡ true) where
  abbrev u : WorldState A
  u = delivered number i w

  thing_is : thing_of (record i { is_delivered = true }) ≡ SentDatagram x.net (Six item.address) to (canonical (unicast p.npdu)) p.stamp
  thing_is =
      ap (λ (m : Mac). thing_at i.net m i.to i.octets i.stamp) (item.from ∙ item.six)
      ∙ ap (λ (m : ℕ). SentDatagram m (Six item.address) i.to i.octets i.stamp) item.net
      ∙ ap (λ (m : Mac). SentDatagram x.net (Six item.address) m i.octets i.stamp) item.for
      ∙ ap (λ (os : List ℕ). SentDatagram x.net (Six item.address) to os i.stamp) item.octets
      ∙ ap (λ (s : ℕ). SentDatagram x.net (Six item.address) to (canonical (unicast p.npdu)) s) item.stamp

  pub item_delivers : Delivers (plain_with [] u) x.net to p
  item_delivers =
      let marked : Item A = record i { is_delivered = true } in
      let among = has_map (λ (j : Item A). thing_of j) u.items marked (has number (put_at w.items number i marked there)) in
      let old : w.moment ≤ i.stamp + LIFE_MS = leb-true w.moment (i.stamp + LIFE_MS) young in
      let stamp = item.stamp in
      let short = item.short in record {
        thing = SentDatagram x.net (Six item.address) to (canonical (unicast p.npdu)) p.stamp;
        there = has_front (all_things u) [] (has_front (map (λ (j : Item A). thing_of j) u.items)
            (frames_on u.buses.buses ++ flat_map (λ n. waits_in n.ports) u.nodes)
            (subst (λ (t : Thing A). Has (map (λ (j : Item A). thing_of j) u.items) t) thing_is among));
        on = refl;
        bears = record {
          datagram = unicast p.npdu;
          spelled = canonical_spells (unicast p.npdu) (record { fields = tt; fits = omega (arith, short) });
          carries = ap (λ (q : Parcel A). Some q) (
              ap (λ (m : Mac). record { from = m; to = target.One to; npdu = p.npdu; stamp = p.stamp }) (sym item.six)
              ∙ ap (λ (t : Target). record { from = p.from; to = t; npdu = p.npdu; stamp = p.stamp }) (sym for));
        };
        reaches = subst (λ (t : Target). Reaches t to) (sym for) refl;
        young = omega (arith, old, stamp);
      }
