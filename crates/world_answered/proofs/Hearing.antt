-- What a device, a client or a router hears of an item that is delivered to it in a world.
use Rattle.std.proofs.Common.{◌≡◌, ◌∙◌, refl, sym, ap, subst, arith, ℕ, zero, suc, List, [], ◌∷◌, ◌++◌, length, length-append, Option, Some, true}
use Rattle.std.specs.Prelude.{◌==◌, slice_get}
use Rattle.bvll.specs.Address.{IsAddress, address_octets}
use Rattle.bvll.specs.declared.address.Address.{Address}
use Rattle.npdu.proofs.Stations.{one_station}
use Rattle.npdu.specs.Mac.{is_address, same_station}
use Rattle.npdu.specs.declared.mac.Mac.{Mac}
use Rattle.npdu.specs.declared.mac.Mac.TheVariants.{One, Six}
use Rattle.npdu.specs.declared.mac.Station.{Station}
use Rattle.npdu.specs.declared.mac.Target.TheVariants as target
use Rattle.npdu.specs.declared.parcel.Parcel.{Parcel}
use Rattle.router.specs.Hearing.{RouterHears}
use Rattle.router.specs.Router.{RouterState}
use Rattle.router.specs.declared.plan.PortParcel.{PortParcel}
use Rattle.simulator.proofs.ActLaws.{device_acts, client_acts, mid, plain_with}
use Rattle.simulator.proofs.HearLeads.{puts, told_so}
use Rattle.simulator.proofs.Parts.{found_there, part_none}
use Rattle.traffic.specs.declared.item.Item.{Item}
use Rattle.unitdata.specs.Saying.{Spoken, is_spelled, parcel_of}
use Rattle.world.proofs.Standing.{all_at}
use Rattle.world.specs.Laws.{Stands}
use Rattle.world.specs.Step.{Delivers as Delivery, addressee_of, delivered}
use Rattle.world.specs.World.{WorldState}
use Rattle.world.specs.carry_world.PlainSteps.{ClientHearsIt, DeviceHearsIt}
use Rattle.world.specs.carry_world.PlainWorld.{Delivers, PlainWorld}
use Rattle.world.specs.client.Client.{ClientState}
use Rattle.world.specs.device.Device.{DeviceState}
use Rattle.world.specs.node_laws.Out.{IsMac}
use Rattle.world.specs.node_laws.Stands.{IsAt, IsAtItsPorts}
use Rattle.world.specs.site_node.Node.{NodeState, ended, home_of, node_places, places_by}
use Rattle.world.specs.site_node.Part.{OfClient, OfDevice, PartHears, silence}
use Rattle.world.specs.site_node.Steps.{Answers, AnswersIf, HearsAs, NodeHearsOn}
use Rattle.world.specs.site_node.declared.part.Part.{Part}
use Rattle.world.specs.site_node.declared.part.Part.TheVariants.{Client, Device, Router}
use Rattle.world.specs.site_node.declared.told.PartTold.{PartTold}
use Rattle.world.specs.site_ports.Drafts.{PortsState}
use Rattle.world.specs.site_ports.Ports.{DownsEach, places_of}
use Rattle.world.specs.world_log.Growing.{items_at, told_in}
use Rattle.world.specs.world_sites.Finding.{port_at}
use Rattle.world.specs.world_sites.Nodes.{client_of, clients_of, device_of, devices_of}
use Rattle.world_answered.proofs.Issuing.{IsPutOnce, IsSaidOut, one_place, said_once, said_out}
use Rattle.world_answered.proofs.Items.{ComesUp, IsItemOf, comes_up, item_delivers}
use Rattle.world_answered.proofs.Places.{ahead, get_first, length_set, none_some, part_set, part_there, some_same}
use Rattle.world_answered.proofs.Steady.{Later, node_stands}

six_octets : (a : Address) → IsAddress a → length (address_octets a) ≡ 6
six_octets a fits = simp length-append (omega (arith, fits.ip))

-- a link address has one octet or six
mac_address : (m : Mac) → IsMac m → is_address m ≡ true
mac_address (One octet) is = refl
mac_address (Six octets) is = ap (λ (m : Mac). is_address m) is.is ∙ ap (λ n. n == 6) (six_octets is.address is.sound)

only_one : (x y : Station) (n : ℕ) → slice_get (x ∷ []) n ≡ Some y → y ≡ x
only_one x y zero e = sym (some_same x y e)
only_one x y (suc n) e = absurd (none_some y e)

-- what is delivered to a node at one place is for that
its_addressee : {A : Type 0} (n : NodeState A) (x home : Station) (port : ℕ) → node_places n ≡ home ∷ [] → port_at x n ≡ Some port →
    x ≡ home
its_addressee n x home port one found =
    let at = found_there (λ y. same_station y x) (node_places n) port found in
    let is : at.one ≡ home = only_one home at.one at.k (ap (λ (xs : List Station). slice_get xs at.k) (sym one) ∙ at.there) in
    sym ((one_station at.one x).same at.passes) ∙ is

module _ {A : Type 0} (w v : WorldState A) (number : ℕ) (dl : Delivery number w v) (stands : Stands w) where
  stands_there : (q : Part A) → dl.n.part ≡ q → IsAt q dl.n.ports
  stands_there q is = subst (λ (r : Part A). IsAt r dl.n.ports) is (node_stands w dl.place dl.n stands dl.acts.there).at

  pub device_addressed : (d : DeviceState A) → dl.n.part ≡ Device d → addressee_of dl.item ≡ home_of (Device d)
  device_addressed d is = its_addressee dl.n (addressee_of dl.item) (home_of (Device d)) dl.port
      (ap (λ (q : Part A). places_by q dl.n.ports) is ∙ one_place (home_of (Device d)) dl.n.ports (stands_there (Device d) is))
      dl.addressee.port_is

  pub client_addressed : (c : ClientState A) → dl.n.part ≡ Client c → addressee_of dl.item ≡ home_of (Client c)
  client_addressed c is = its_addressee dl.n (addressee_of dl.item) (home_of (Client c)) dl.port
      (ap (λ (q : Part A). places_by q dl.n.ports) is ∙ one_place (home_of (Client c)) dl.n.ports (stands_there (Client c) is))
      dl.addressee.port_is

  -- .. is from an address
  pub from_address : is_address dl.item.from ≡ true
  from_address = mac_address dl.item.from (all_at (λ (j : Item A). IsMac j.from) w.items number dl.item stands.from dl.there)

module _ {A : Type 0} (w v : WorldState A) (number : ℕ) (dl : Delivery number w v) (stands : Stands w) (x : Station)
    (p : Parcel A) (to : Mac) (item : IsItemOf x p to dl.item) (for : p.to ≡ target.One to) where
  abbrev pub at_work : WorldState A
  at_work = delivered number dl.item w

  -- the world between, seen by its clients and devices alone
  abbrev pub hearing : PlainWorld A
  hearing = mid [] at_work v dl.place dl.n dl.next dl.told dl.acts

  abbrev here : Station
  here = record { net = x.net; mac = to }

  its_place : (q : Part A) → dl.n.part ≡ q → IsAt q dl.n.ports
  its_place q is = subst (λ (r : Part A). IsAt r dl.n.ports) is (node_stands w dl.place dl.n stands dl.acts.there).at

  -- what is put out then
  pub more_items : v.items ≡ at_work.items ++ items_at w.moment (node_places dl.n) dl.told.out
  more_items = ap (λ (z : WorldState A). z.items) dl.acts.is

  pub first_more : (i : Item A) → slice_get v.items (length w.items) ≡ Some i →
      slice_get (items_at w.moment (node_places dl.n) dl.told.out) 0 ≡ Some i
  first_more i there =
      sym (get_first at_work.items (items_at w.moment (node_places dl.n) dl.told.out))
      ∙ ap (λ (k : ℕ). slice_get (at_work.items ++ items_at w.moment (node_places dl.n) dl.told.out) k)
      (length_set w.items number (record dl.item { is_delivered = true }))
      ∙ sym (ap (λ (is : List (Item A)). slice_get is (length w.items)) more_items) ∙ there

  -- a part that is no manager hears the parcel
  module _ (hears : NodeHearsOn w.moment dl.port dl.item.from dl.item.octets dl.item.stamp dl.n dl.told dl.next)
      (are : node_places dl.n ≡ places_of dl.n.ports) where
    abbrev middle : PortsState A
    middle = hears.hears.middle

    pub came : ComesUp p (places_of dl.n.ports) dl.port here hears.hears.up middle
    came = comes_up w.moment dl.port dl.n x p to dl.item item for hears.hears.up middle are dl.addressee.port_is
        hears.hears.heard

    pub answers : Answers w.moment dl.port p dl.n.part middle dl.told.told dl.next.part (ended dl.told.out dl.next)
    answers = subst (λ (up : Option (Parcel A)). AnswersIf w.moment dl.port up dl.n.part middle dl.told.told dl.next.part
        (ended dl.told.out dl.next)) came.is hears.hears.answers

  -- a device hears it
  module _ (d : DeviceState A) (is : dl.n.part ≡ Device d) where
    abbrev device_home : Station
    device_home = home_of (Device d)

    pub device_hears : NodeHearsOn w.moment dl.port dl.item.from dl.item.octets dl.item.stamp dl.n dl.told dl.next
    device_hears = subst (λ (q : Part A). HearsAs q w.moment dl.port dl.item.from dl.item.octets dl.item.stamp dl.n dl.told dl.next)
        is dl.hears

    device_places : places_of dl.n.ports ≡ device_home ∷ []
    device_places = one_place device_home dl.n.ports (its_place (Device d) is)

    device_are : node_places dl.n ≡ places_of dl.n.ports
    device_are = ap (λ (q : Part A). places_by q dl.n.ports) is

    device_came : ComesUp p (places_of dl.n.ports) dl.port here device_hears.hears.up device_hears.hears.middle
    device_came = came device_hears device_are

    -- it is the one that the item is for
    pub device_here : here ≡ device_home
    device_here = only_one device_home here dl.port (ap (λ (xs : List Station). slice_get xs dl.port) (sym device_places) ∙ device_came.at)

    pub record IsServed (downs : List (PortParcel A)) (r : Part A) : Type 0 where
      pub left : DeviceState A
      pub left_is : r ≡ Device left
      pub of : OfDevice w.moment p d dl.told.told downs left

    served_by : (downs : List (PortParcel A)) (r : Part A) → PartHears w.moment dl.port p (Device d) dl.told.told downs r → IsServed downs r
    served_by downs (Device left) h = record { left = left; left_is = refl; of = h }
    served_by downs r h = absurd h

    pub device_answers : Answers w.moment dl.port p dl.n.part device_hears.hears.middle dl.told.told dl.next.part (ended dl.told.out dl.next)
    device_answers = answers device_hears device_are

    pub served : IsServed device_answers.downs dl.next.part
    served = served_by device_answers.downs dl.next.part
        (subst (λ (q : Part A). PartHears w.moment dl.port p q dl.told.told device_answers.downs dl.next.part) is device_answers.hears)

    -- it is the step of a device
    abbrev pub plain_serving : DeviceHearsIt (plain_with [] at_work) hearing
    plain_serving =
        let part = device_acts [] at_work v dl.place dl.n dl.next dl.told dl.acts d served.left is served.left_is in
        record {
          place = part.1.place;
          d = d;
          left = served.left;
          p = p;
          told = served.of.by;
          there = part.1.there;
          delivered = subst (λ (y : Station). Delivers (plain_with [] at_work) y.net y.mac p) device_here
              (item_delivers w number x p to dl.item dl.there item for dl.young);
          hears = served.of.hears;
          moment = refl;
          clients = part.0;
          devices = part.1.set;
          keys = refl;
          history = told_so [] at_work v dl.place dl.n dl.next dl.told dl.acts served.of.told_is is;
          puts = puts [] at_work v dl.place dl.n dl.next dl.told dl.acts served.of.told_is is;
        }

    -- .. and one item goes out of what it says
    pub serving_out : (s : Spoken) → served.of.by.said ≡ parcel_of w.moment d.mac s → (i : Item A) →
        slice_get v.items (length w.items) ≡ Some i →
        IsSaidOut w.moment device_home s served.of.by.said i
    serving_out s said i there =
        said_out w.moment device_home s served.of.by.said device_hears.hears.middle (ended dl.told.out dl.next) i
        (device_came.places_are ∙ device_places) device_came.silent
        (subst (λ (downs : List (PortParcel A)). DownsEach w.moment downs device_hears.hears.middle (ended dl.told.out dl.next))
        served.of.downs_are device_answers.goes_down)
        (subst (λ (xs : List Station). slice_get (items_at w.moment xs dl.told.out) 0 ≡ Some i) (device_are ∙ device_places)
        (first_more i there)) said

    pub serving_items : v.items ≡ at_work.items ++ items_at w.moment (device_home ∷ []) dl.told.out
    serving_items = more_items ∙ ap (λ (xs : List Station). at_work.items ++ items_at w.moment xs dl.told.out) (device_are ∙ device_places)

    -- one goes out, where that is on a network of BACnet/IP
    pub serving_puts : (s : Spoken) → served.of.by.said ≡ parcel_of w.moment d.mac s → is_spelled s.way.destination ≡ true →
        (address : List ℕ) → d.mac ≡ Six address → (other : List ℕ) → s.way.to ≡ Six other →
        IsPutOnce w.moment device_home s (items_at w.moment (device_home ∷ []) dl.told.out)
    serving_puts s said spelled address six other six_to =
        said_once w.moment device_home s served.of.by.said device_hears.hears.middle (ended dl.told.out dl.next)
        (device_came.places_are ∙ device_places) device_came.silent
        (subst (λ (downs : List (PortParcel A)). DownsEach w.moment downs device_hears.hears.middle (ended dl.told.out dl.next))
        served.of.downs_are device_answers.goes_down) said spelled address six other six_to

  -- a client hears it
  module _ (c : ClientState A) (is : dl.n.part ≡ Client c) where
    abbrev client_home : Station
    client_home = home_of (Client c)

    pub client_hears : NodeHearsOn w.moment dl.port dl.item.from dl.item.octets dl.item.stamp dl.n dl.told dl.next
    client_hears = subst (λ (q : Part A). HearsAs q w.moment dl.port dl.item.from dl.item.octets dl.item.stamp dl.n dl.told dl.next)
        is dl.hears

    client_places : places_of dl.n.ports ≡ client_home ∷ []
    client_places = one_place client_home dl.n.ports (its_place (Client c) is)

    client_are : node_places dl.n ≡ places_of dl.n.ports
    client_are = ap (λ (q : Part A). places_by q dl.n.ports) is

    client_came : ComesUp p (places_of dl.n.ports) dl.port here client_hears.hears.up client_hears.hears.middle
    client_came = came client_hears client_are

    pub client_here : here ≡ client_home
    client_here = only_one client_home here dl.port (ap (λ (xs : List Station). slice_get xs dl.port) (sym client_places) ∙ client_came.at)

    pub record IsTold (downs : List (PortParcel A)) (r : Part A) : Type 0 where
      pub left : ClientState A
      pub left_is : r ≡ Client left
      pub of : OfClient w.moment p c dl.told.told downs left

    told_by : (downs : List (PortParcel A)) (r : Part A) → PartHears w.moment dl.port p (Client c) dl.told.told downs r → IsTold downs r
    told_by downs (Client left) h = record { left = left; left_is = refl; of = h }
    told_by downs r h = absurd h

    pub client_answers : Answers w.moment dl.port p dl.n.part client_hears.hears.middle dl.told.told dl.next.part (ended dl.told.out dl.next)
    client_answers = answers client_hears client_are

    pub told : IsTold client_answers.downs dl.next.part
    told = told_by client_answers.downs dl.next.part
        (subst (λ (q : Part A). PartHears w.moment dl.port p q dl.told.told client_answers.downs dl.next.part) is client_answers.hears)

    -- it is the step of a client
    abbrev pub plain_closing : ClientHearsIt (plain_with [] at_work) hearing
    plain_closing = record {
      place = ahead (λ (m : NodeState A). client_of m.part) w.nodes dl.place;
      c = c;
      next = told.left;
      p = p;
      told = told.of.by;
      there = part_there (λ (m : NodeState A). client_of m.part) w.nodes dl.place dl.n c dl.acts.there
          (ap (λ (q : Part A). client_of q) is);
      delivered = subst (λ (y : Station). Delivers (plain_with [] at_work) y.net y.mac p) client_here
          (item_delivers w number x p to dl.item dl.there item for dl.young);
      hears = told.of.hears;
      moment = refl;
      clients = part_set (λ (m : NodeState A). client_of m.part) w.nodes dl.place dl.n dl.next c told.left dl.acts.there
          (ap (λ (q : Part A). client_of q) is) (ap (λ (q : Part A). client_of q) told.left_is);
      devices = (client_acts [] at_work v dl.place dl.n dl.next dl.told dl.acts c told.left is told.left_is).0;
      keys = refl;
      history = told_so [] at_work v dl.place dl.n dl.next dl.told dl.acts told.of.told_is is;
      puts = puts [] at_work v dl.place dl.n dl.next dl.told dl.acts told.of.told_is is;
    }

  -- a router hears it
  module _ (r : RouterState) (is : dl.n.part ≡ Router r) where
    pub router_hears : NodeHearsOn w.moment dl.port dl.item.from dl.item.octets dl.item.stamp dl.n dl.told dl.next
    router_hears = subst (λ (q : Part A). HearsAs q w.moment dl.port dl.item.from dl.item.octets dl.item.stamp dl.n dl.told dl.next)
        is dl.hears

    pub router_at : IsAtItsPorts r.ports dl.n.ports
    router_at = its_place (Router r) is

    router_are : node_places dl.n ≡ places_of dl.n.ports
    router_are = ap (λ (q : Part A). places_by q dl.n.ports) is

    router_came : ComesUp p (places_of dl.n.ports) dl.port here router_hears.hears.up router_hears.hears.middle
    router_came = came router_hears router_are

    pub router_here : slice_get r.ports dl.port ≡ Some here
    router_here = ap (λ (xs : List Station). slice_get xs dl.port) (sym router_at.places) ∙ router_came.at

    pub record IsRouting (downs : List (PortParcel A)) (q : Part A) : Type 0 where
      pub left : RouterState
      pub left_is : q ≡ Router left
      pub silent : dl.told.told ≡ silence
      pub hears : RouterHears w.moment dl.port p r downs left

    routing_by : (downs : List (PortParcel A)) (q : Part A) → PartHears w.moment dl.port p (Router r) dl.told.told downs q → IsRouting downs q
    routing_by downs (Router left) h = record { left = left; left_is = refl; silent = h.0; hears = h.1 }
    routing_by downs q h = absurd h

    pub router_answers : Answers w.moment dl.port p dl.n.part router_hears.hears.middle dl.told.told dl.next.part (ended dl.told.out dl.next)
    router_answers = answers router_hears router_are

    pub routing : IsRouting router_answers.downs dl.next.part
    routing = routing_by router_answers.downs dl.next.part
        (subst (λ (q : Part A). PartHears w.moment dl.port p q dl.told.told router_answers.downs dl.next.part) is router_answers.hears)

    -- what goes down over its ports, and what items come of that
    pub record GoesDown : Type 0 where
      pub downs : List (PortParcel A)
      pub left : RouterState
      pub hears : RouterHears w.moment dl.port p r downs left
      pub middle : PortsState A
      pub end : PortsState A
      pub places_are : places_of middle.ports ≡ r.ports
      pub silent : middle.out ≡ []
      pub goes_down : DownsEach w.moment downs middle end
      pub first : (i : Item A) → slice_get v.items (length w.items) ≡ Some i → slice_get (items_at w.moment r.ports end.out) 0 ≡ Some i
      pub items : v.items ≡ at_work.items ++ items_at w.moment r.ports end.out

    pub router_goes_down : GoesDown
    router_goes_down =
        let are : node_places dl.n ≡ r.ports = router_are ∙ router_at.places in record {
          downs = router_answers.downs;
          left = routing.left;
          hears = routing.hears;
          middle = router_hears.hears.middle;
          end = ended dl.told.out dl.next;
          places_are = router_came.places_are ∙ router_at.places;
          silent = router_came.silent;
          goes_down = router_answers.goes_down;
          first = λ i there. subst (λ (xs : List Station). slice_get (items_at w.moment xs dl.told.out) 0 ≡ Some i) are (first_more i there);
          items = more_items ∙ ap (λ (xs : List Station). at_work.items ++ items_at w.moment xs dl.told.out) are;
        }

    -- it changes no client, no device and nothing of the history
    pub router_later : Later w v
    router_later =
        let acts = dl.acts.is in
        let moment : v.moment ≡ w.moment = ap (λ (z : WorldState A). z.moment) acts in record {
          moment = omega (arith, moment);
          clients = ap (λ (z : WorldState A). clients_of z.nodes) acts
              ∙ part_none (λ (m : NodeState A). client_of m.part) w.nodes dl.place dl.n dl.next dl.acts.there
              (ap (λ (q : Part A). client_of q) routing.left_is ∙ sym (ap (λ (q : Part A). client_of q) is));
          devices = ap (λ (z : WorldState A). devices_of z.nodes) acts
              ∙ part_none (λ (m : NodeState A). device_of m.part) w.nodes dl.place dl.n dl.next dl.acts.there
              (ap (λ (q : Part A). device_of q) routing.left_is ∙ sym (ap (λ (q : Part A). device_of q) is));
          keys = ap (λ (z : WorldState A). z.keys) acts;
          history = ap (λ (z : WorldState A). z.history) acts
              ∙ ap (λ (t : PartTold A). told_in (home_of dl.n.part) w.moment w.keys t w.history) routing.silent;
        }
