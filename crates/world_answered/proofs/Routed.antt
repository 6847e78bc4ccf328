-- Over a router between two networks, what each puts out comes to the next, and is passed on there.
use Rattle.std.proofs.Common.{◌≡◌, ◌≢◌, ◌∙◌, refl, sym, ap, subst, ℕ, true, List, [], length, Option, Some}
use Rattle.std.specs.Prelude.{◌&&◌, nat_lt, slice_get, slice_set}
use Rattle.std.proofs.lemmas.Bool.{and_from, lt-ltb}
use Rattle.bindings.specs.declared.binding.Binding.{Binding}
use Rattle.carry_answered.specs.Answered.{BringsOf, GoInOne}
use Rattle.history.proofs.Lists.{has}
use Rattle.history.specs.Lists.{Has}
use Rattle.npdu.specs.Mac.{is_address}
use Rattle.npdu.specs.declared.mac.Mac.{Mac}
use Rattle.npdu.specs.declared.mac.Station.{Station}
use Rattle.npdu.specs.declared.mac.Target.TheVariants as target
use Rattle.npdu.specs.declared.mac.Way.{Way}
use Rattle.npdu.specs.declared.parcel.Parcel.{Parcel}
use Rattle.router.specs.Router.{IsNumbered, RouterState}
use Rattle.simulator.specs.Laws.{IsLed}
use Rattle.traffic.specs.declared.item.Item.{Item}
use Rattle.unitdata.specs.Hearing.{way_to}
use Rattle.unitdata.specs.Saying.{Spoken, is_named, is_spelled, npdu_to, parcel_to}
use Rattle.world.proofs.Standing.{all_at}
use Rattle.world.specs.Laws.{Stands}
use Rattle.primitives.specs.declared.plain_data.Request.{Request}
use Rattle.world.specs.Step.{Delivers as Delivery, Issues}
use Rattle.world.specs.World.{WorldState}
use Rattle.world.specs.client.Client.{ClientState}
use Rattle.world.specs.device.Device.{DeviceState}
use Rattle.world.specs.site_node.Node.{NodeState, home_of}
use Rattle.world.specs.site_node.declared.part.Part.{Part}
use Rattle.world.specs.site_node.declared.part.Part.TheVariants.{Client, Device, Router}
use Rattle.world.specs.world_sites.Nodes.{client_of}
use Rattle.world_answered.proofs.Answering.{answer_out, answer_puts, answer_spoken, answer_way, history_is}
use Rattle.world_answered.proofs.Hearing.{at_work, client_addressed, device_addressed, from_address, router_at, router_goes_down, router_here, router_later, routing, served, serving_items}
use Rattle.world_answered.proofs.Issuing.{IsSaidOut, it, issue_out, plain_issue, spoken}
use Rattle.world_answered.proofs.Items.{IsItemOf}
use Rattle.world_answered.proofs.Passing.{IsPassed, brings_on, header, passes_it}
use Rattle.world_answered.proofs.Putting.{away_way, puts_out}
use Rattle.world_answered.proofs.Places.{ahead, length_set, ahead_same, put_at, some_same}
use Rattle.world_answered.proofs.Steady.{HasWaited, Later, Stays, at_once, has_waited, later_on, later_waited, same_after, stays_delivery, stays_on, stays_waited, steady_delivery, steady_issue}
use Rattle.world_answered.specs.Exchange.{Asks, AtOnce, IsAnswered, PutsOut, Returns, RoutedAnswersPutOut, RoutedAtOnce, RoutedLater, Routes, Serves, Waits}

-- an item of what a router passes on, which brings to a station what was said to it
pub record Brought {A : Type 0} (x : Station) (p : Parcel A) (y : Station) (j : Item A) : Type 0 where
  pub z : Station
  pub q : Parcel A
  pub item : IsItemOf z q y.mac j
  pub to : q.to ≡ target.One y.mac
  pub brings : BringsOf x.net p y.net q
  pub named : is_named x ≡ true

-- a router passes on what a station says to one of another of its networks
module _ {A : Type 0} (w v : WorldState A) (number : ℕ) (dl : Delivery number w v) (stands : Stands w) (r : RouterState)
    (router : dl.n.part ≡ Router r) (x : Station) (now : ℕ) (s : Spoken) (item : IsItemOf x (parcel_to now x.mac s) s.way.to dl.item)
    (spelled : is_spelled s.way.destination ≡ true) (y : Station) (destination : s.way.destination ≡ Some y) (two : x.net ≢ y.net)
    (port : Station) (there : Has r.ports port) (on : port.net ≡ y.net) (j : Item A) (next : slice_get v.items (length w.items) ≡ Some j)
    (j_net : j.net ≡ y.net) where
  abbrev said : Parcel A
  said = parcel_to now x.mac s

  named : is_named y ≡ true
  named = subst (λ (o : Option Station). is_spelled o ≡ true) destination spelled

  passed : IsPassed x said (header s.expects_reply y s.apdu named) y j
  passed =
      let goes = router_goes_down w v number dl stands x said s.way.to item refl r router in
      passes_it w.moment dl.port r x s.way.to said s.expects_reply y s.apdu named
      (ap (λ (o : Option Station). npdu_to s.expects_reply o s.apdu) destination)
      (router_here w v number dl stands x said s.way.to item refl r router)
      goes.middle goes.end goes.places_are goes.silent j j_net two (goes.first j next) port there on goes.downs goes.left goes.hears goes.goes_down

  address : is_address x.mac ≡ true
  address = subst (λ (m : Mac). is_address m ≡ true) item.from (from_address w v number dl stands)

  numbered : IsNumbered x
  numbered = all_at IsNumbered r.ports dl.port (record { net = x.net; mac = s.way.to })
      (router_at w v number dl stands x said s.way.to item refl r router).numbered
      (router_here w v number dl stands x said s.way.to item refl r router)

  pub brought : Brought x said y j
  brought = record {
    z = passed.z;
    q = passed.q;
    item = passed.item;
    to = passed.to;
    brings = brings_on x now s y named destination address numbered passed.q passed.to passed.npdu passed.stamp;
    named = and_from (nat_lt 0 x.net && nat_lt x.net 65535) (is_address x.mac)
        (and_from (nat_lt 0 x.net) (nat_lt x.net 65535) (lt-ltb 0 x.net numbered.0) (lt-ltb x.net 65535 numbered.1)) address;
  }

  pub later : Later w v
  later = router_later w v number dl stands x said s.way.to item refl r router

  pub stays : (place : ℕ) (n : NodeState A) (c : ClientState A) → n.part ≡ Client c → Stays place n w v
  stays place n c client = stays_delivery place n c client number w v dl (ap (λ (q : Part A). client_of q) router)
      (ap (λ (q : Part A). client_of q) (routing w v number dl stands x said s.way.to item refl r router).left_is)

module _ {A : Type 0} (Between : (w v : WorldState A) → Type 0) (waited : (w v : WorldState A) → Between w v → HasWaited w v)
    (w : WorldState A) (stands : Stands w) (led : IsLed w) (name : List ℕ) (instance : ℕ) (request : Request A) (router : Mac)
    (d : DeviceState A) (asked : WorldState A) (asks : Asks name instance request router d w asked) (two : asks.c.net ≢ d.net)
    (passed_on : WorldState A) (passes : Routes Between (length w.items) d.net asked passed_on) (then : WorldState A)
    (serves : Serves Between (length asked.items) d passed_on then) where
  abbrev place : ℕ
  place = asks.issues.place

  abbrev i : Issues place instance request w asked
  i = asks.issues.holds

  abbrev c : ClientState A
  c = asks.c

  abbrev to_router : WorldState A
  to_router = passes.comes.then

  abbrev dl1 : Delivery (length w.items) to_router passed_on
  dl1 = passes.comes.delivers

  abbrev arriving : WorldState A
  arriving = serves.comes.then

  abbrev dl2 : Delivery (length asked.items) arriving then
  dl2 = serves.comes.delivers

  waits1 : HasWaited asked to_router
  waits1 = waited asked to_router passes.comes.between

  waits2 : HasWaited passed_on arriving
  waits2 = waited passed_on arriving serves.comes.between

  stands1 : Stands to_router
  stands1 = waits1.stands (steady_issue place instance request w asked stands i)

  stands2 : Stands arriving
  stands2 = waits2.stands (steady_delivery (length w.items) to_router passed_on stands1 dl1)

  -- each item is the first of those that the event before put out
  there1 : slice_get asked.items (length w.items) ≡ Some dl1.item
  there1 = ap (λ (z : WorldState A). slice_get z.items (length w.items)) (sym waits1.is) ∙ dl1.there

  there2 : slice_get passed_on.items (length to_router.items) ≡ Some dl2.item
  there2 = ap (λ (z : WorldState A). slice_get passed_on.items (length z.items)) waits1.is
      ∙ ap (λ (z : WorldState A). slice_get z.items (length asked.items)) (sym waits2.is) ∙ dl2.there

  -- the binding by which it is issued is that one
  abbrev issued_by : Binding
  issued_by = (plain_issue w asked place instance request asks.sound i c asks.client).issues.binding

  same_binding : asks.bound.binding ≡ issued_by
  same_binding = some_same asks.bound.binding issued_by
      (sym asks.bound.held ∙ (plain_issue w asked place instance request asks.sound i c asks.client).issues.held)

  whole : GoInOne c issued_by d request
  whole = subst (λ (b : Binding). GoInOne c b d request) same_binding asks.whole

  -- what it says, and the item that goes out of it
  abbrev asks_so : Spoken
  asks_so = spoken w asked place instance request asks.sound i c asks.client

  way_is : asks_so.way ≡ way_to c.net router (home_of (Device d))
  way_is = ap (λ (b : Binding). b.bound.way) (sym same_binding) ∙ asks.bound.way

  destination : asks_so.way.destination ≡ Some (home_of (Device d))
  destination = ap (λ (y : Way). y.destination) way_is ∙ away_way c.net router (home_of (Device d)) two

  out : IsSaidOut w.moment (home_of (Client c)) asks_so i.told.told.said dl1.item
  out = issue_out w asked place instance request asks.sound i c asks.client stands dl1.item there1 whole.asked

  abbrev p : Parcel A
  p = parcel_to w.moment c.mac asks_so

  says : Has i.told.told.said p
  says = subst (λ (ps : List (Parcel A)). Has ps p) (sym out.said_is) (has 0 refl)

  -- the router passes it on to the device
  there : Brought (home_of (Client c)) p (home_of (Device d)) dl2.item
  there = brought to_router passed_on (length w.items) dl1 stands1 passes.r passes.router (home_of (Client c)) w.moment asks_so out.item
      out.spelled (home_of (Device d)) destination two passes.port passes.there passes.on dl2.item there2
      (ap (λ (y : Station). y.net) (device_addressed arriving then (length asked.items) dl2 stands2 d serves.device))

  later_there : Later asked arriving
  later_there = later_on asked to_router arriving (later_waited asked to_router waits1)
      (later_on to_router passed_on arriving
      (router_later to_router passed_on (length w.items) dl1 stands1 (home_of (Client c)) p asks_so.way.to out.item refl passes.r passes.router)
      (later_waited passed_on arriving waits2))

  -- the answer
  abbrev answers_so : Spoken
  answers_so = answer_spoken w asked place instance request asks.sound i c asks.client led p says arriving then
      later_there (length asked.items) dl2 stands2 there.z there.q d.mac there.item there.to d serves.device there.brings whole serves.ready

  back_way : answers_so.way ≡ way_to d.net there.q.from (home_of (Client c))
  back_way = answer_way w asked place instance request asks.sound i c asks.client led p says arriving then
      later_there (length asked.items) dl2 stands2 there.z there.q d.mac there.item there.to d serves.device there.brings whole serves.ready

  apart : d.net ≢ c.net
  apart = λ same. two (sym same)

  back_destination : answers_so.way.destination ≡ Some (home_of (Client c))
  back_destination = ap (λ (y : Way). y.destination) back_way ∙ away_way d.net there.q.from (home_of (Client c)) apart

  abbrev its_said : List (Parcel A)
  its_said = (served arriving then (length asked.items) dl2 stands2 there.z there.q d.mac there.item there.to d serves.device).of.by.said

  -- one item goes out of it, to where the request came from
  answer_put : PutsOut (record { net = d.net; mac = dl2.item.from }) passed_on then
  answer_put =
      let spelled : is_spelled answers_so.way.destination ≡ true =
      ap (λ (o : Option Station). is_spelled o) back_destination ∙ there.named in
      let to_is : answers_so.way.to ≡ there.q.from = ap (λ (y : Way). y.to) back_way in
      puts_out passed_on then (at_work arriving then (length asked.items) dl2 stands2 there.z there.q d.mac there.item there.to).items _
      (home_of (Device d)) (record { net = d.net; mac = dl2.item.from }) arriving.moment answers_so
      (length_set arriving.items (length asked.items) _ ∙ ap (λ (z : WorldState A). length z.items) waits2.is)
      (serving_items arriving then (length asked.items) dl2 stands2 there.z there.q d.mac there.item there.to d serves.device)
      (answer_puts w asked place instance request asks.sound i c asks.client led p says arriving then
      later_there (length asked.items) dl2 stands2 there.z there.q d.mac there.item there.to d serves.device there.brings whole serves.ready
      spelled there.item.other there.item.other_six there.item.address (to_is ∙ there.item.six))
      (ap (λ (m : Mac). record { net = d.net; mac = m }) (to_is ∙ sym there.item.from))

  -- .. and it comes back to the client
  module _ (answered : WorldState A) (answers : Routes Between (length passed_on.items) asks.c.net then answered) (v : WorldState A)
      (returns : Returns Between (length then.items) place answered v) where
    abbrev from_device : WorldState A
    from_device = answers.comes.then

    abbrev dl3 : Delivery (length passed_on.items) from_device answered
    dl3 = answers.comes.delivers

    abbrev returning : WorldState A
    returning = returns.comes.then

    abbrev dl4 : Delivery (length then.items) returning v
    dl4 = returns.comes.delivers

    waits3 : HasWaited then from_device
    waits3 = waited then from_device answers.comes.between

    waits4 : HasWaited answered returning
    waits4 = waited answered returning returns.comes.between

    stands3 : Stands from_device
    stands3 = waits3.stands (steady_delivery (length asked.items) arriving then stands2 dl2)

    stands4 : Stands returning
    stands4 = waits4.stands (steady_delivery (length passed_on.items) from_device answered stands3 dl3)

    there3 : slice_get then.items (length arriving.items) ≡ Some dl3.item
    there3 = ap (λ (z : WorldState A). slice_get then.items (length z.items)) waits2.is
        ∙ ap (λ (z : WorldState A). slice_get z.items (length passed_on.items)) (sym waits3.is) ∙ dl3.there

    there4 : slice_get answered.items (length from_device.items) ≡ Some dl4.item
    there4 = ap (λ (z : WorldState A). slice_get answered.items (length z.items)) waits3.is
        ∙ ap (λ (z : WorldState A). slice_get z.items (length then.items)) (sym waits4.is) ∙ dl4.there

    out_back : IsSaidOut arriving.moment (home_of (Device d)) answers_so its_said dl3.item
    out_back = answer_out w asked place instance request asks.sound i c asks.client led p says arriving then
        later_there (length asked.items) dl2 stands2 there.z there.q d.mac there.item there.to d serves.device there.brings whole serves.ready
        dl3.item there3

    abbrev a : Parcel A
    a = parcel_to arriving.moment d.mac answers_so

    -- the client is where it was
    client_left : i.next.part ≡ Client (it w asked place instance request asks.sound i c asks.client).left
    client_left = (it w asked place instance request asks.sound i c asks.client).left_is

    client_net : (it w asked place instance request asks.sound i c asks.client).left.net ≡ c.net
    client_net = ap (λ (z : ClientState A). z.net) (it w asked place instance request asks.sound i c asks.client).issues.issues.left

    no_clients : (client_of dl2.n.part ≡ []) × (client_of dl2.next.part ≡ [])
    no_clients = (
      ap (λ (q : Part A). client_of q) serves.device,
      ap (λ (q : Part A). client_of q) (served arriving then (length asked.items) dl2 stands2 there.z there.q d.mac there.item there.to d serves.device).left_is,
    )

    stays_there : Stays place i.next asked then
    stays_there = stays_on place i.next asked to_router then (stays_waited place i.next asked to_router waits1)
        (stays_on place i.next to_router passed_on then
        (stays to_router passed_on (length w.items) dl1 stands1 passes.r passes.router (home_of (Client c)) w.moment asks_so out.item
        out.spelled (home_of (Device d)) destination two passes.port passes.there passes.on dl2.item there2
        (ap (λ (y : Station). y.net) (device_addressed arriving then (length asked.items) dl2 stands2 d serves.device))
        place i.next _ client_left)
        (stays_on place i.next passed_on arriving then (stays_waited place i.next passed_on arriving waits2)
        (stays_delivery place i.next _ client_left (length asked.items) arriving then dl2 no_clients.0 no_clients.1)))

    back_routing : client_of dl3.next.part ≡ []
    back_routing = ap (λ (q : Part A). client_of q)
        (routing from_device answered (length passed_on.items) dl3 stands3 (home_of (Device d)) a answers_so.way.to out_back.item refl answers.r
        answers.router).left_is

    stays_back : Stays place i.next then returning
    stays_back = stays_on place i.next then from_device returning (stays_waited place i.next then from_device waits3)
        (stays_on place i.next from_device answered returning
        (stays_delivery place i.next _ client_left (length passed_on.items) from_device answered dl3
        (ap (λ (q : Part A). client_of q) answers.router) back_routing)
        (stays_waited place i.next answered returning waits4))

    asked_nodes : asked.nodes ≡ slice_set w.nodes place i.next
    asked_nodes = ap (λ (z : WorldState A). z.nodes) i.acts.is

    client_there : slice_get returning.nodes place ≡ Some i.next
    client_there = stays_back.there (stays_there.there
        (ap (λ (ns : List (NodeState A)). slice_get ns place) asked_nodes ∙ put_at w.nodes place i.n i.next i.acts.there))

    client_hears : dl4.n.part ≡ Client (it w asked place instance request asks.sound i c asks.client).left
    client_hears =
        let same = some_same dl4.n i.next (sym dl4.acts.there ∙ ap (λ (k : ℕ). slice_get returning.nodes k) returns.back ∙ client_there) in
        ap (λ (m : NodeState A). m.part) same ∙ client_left

    same_place : ahead (λ (m : NodeState A). client_of m.part) returning.nodes dl4.place ≡ ahead (λ (m : NodeState A). client_of m.part) w.nodes place
    same_place =
        ap (λ (k : ℕ). ahead (λ (m : NodeState A). client_of m.part) returning.nodes k) returns.back ∙ stays_back.same ∙ stays_there.same
        ∙ ap (λ (ns : List (NodeState A)). ahead (λ (m : NodeState A). client_of m.part) ns place) asked_nodes
        ∙ ahead_same (λ (m : NodeState A). client_of m.part) w.nodes place place i.n i.next i.acts.there
        (ap (λ (q : Part A). length (client_of q)) client_left ∙ sym (ap (λ (q : Part A). length (client_of q)) asks.client))

    back_net : dl4.item.net ≡ c.net
    back_net = ap (λ (y : Station). y.net) (client_addressed returning v (length then.items) dl4 stands4 _ client_hears) ∙ client_net

    -- the router passes that on to the client
    back : Brought (home_of (Device d)) a (home_of (Client c)) dl4.item
    back = brought from_device answered (length passed_on.items) dl3 stands3 answers.r answers.router (home_of (Device d)) arriving.moment answers_so
        out_back.item out_back.spelled (home_of (Client c)) back_destination apart answers.port answers.there answers.on dl4.item there4 back_net

    later_back : Later then returning
    later_back = later_on then from_device returning (later_waited then from_device waits3)
        (later_on from_device answered returning
        (router_later from_device answered (length passed_on.items) dl3 stands3 (home_of (Device d)) a answers_so.way.to out_back.item refl answers.r
        answers.router)
        (later_waited answered returning waits4))

    all_answered : IsAnswered w v c instance request d then.moment v.moment
    all_answered = history_is w asked place instance request asks.sound i c asks.client led p says arriving then
        later_there (length asked.items) dl2 stands2 there.z there.q d.mac there.item there.to d serves.device there.brings whole serves.ready
        (ap (λ (b : Binding). b.bound.station) (sym same_binding) ∙ asks.bound.station) a
        (subst (λ (ps : List (Parcel A)). Has ps a) (sym out_back.said_is) (has 0 refl)) returning v
        later_back (length then.items) dl4 stands4 back.z back.q c.mac back.item back.to client_hears same_place
        (subst (λ (n : ℕ). BringsOf d.net a n back.q) (sym client_net) back.brings)

pub routed_later : {A : Type 0} → RoutedLater A
routed_later w v stands led e = all_answered Waits has_waited w stands led e.name e.instance e.request e.router e.d e.asked e.asks e.two e.passed e.passes e.served e.serves e.answered e.answers v e.returns

pub routed_at_once : {A : Type 0} → RoutedAtOnce A
routed_at_once {A} w v stands led e =
    let asked : e.asked.moment ≡ w.moment = ap (λ (z : WorldState A). z.moment) e.asks.issues.holds.acts.is in
    let passed_then : e.passed.moment ≡ w.moment =
    ap (λ (z : WorldState A). z.moment) e.passes.comes.delivers.acts.is
    ∙ ap (λ (z : WorldState A). z.moment) (same_after e.asked e.passes.comes.then e.passes.comes.between) ∙ asked in
    let served_then : e.served.moment ≡ w.moment =
    ap (λ (z : WorldState A). z.moment) e.serves.comes.delivers.acts.is
    ∙ ap (λ (z : WorldState A). z.moment) (same_after e.passed e.serves.comes.then e.serves.comes.between) ∙ passed_then in
    let answered_then : e.answered.moment ≡ w.moment =
    ap (λ (z : WorldState A). z.moment) e.answers.comes.delivers.acts.is
    ∙ ap (λ (z : WorldState A). z.moment) (same_after e.served e.answers.comes.then e.answers.comes.between) ∙ served_then in
    let now : v.moment ≡ w.moment =
    ap (λ (z : WorldState A). z.moment) e.returns.comes.delivers.acts.is
    ∙ ap (λ (z : WorldState A). z.moment) (same_after e.answered e.returns.comes.then e.returns.comes.between) ∙ answered_then in
    subst (λ (m : ℕ). IsAnswered w v e.asks.c e.instance e.request e.d w.moment m) now
    (subst (λ (m : ℕ). IsAnswered w v e.asks.c e.instance e.request e.d m v.moment) served_then
    (all_answered AtOnce at_once w stands led e.name e.instance e.request e.router e.d e.asked e.asks e.two e.passed e.passes e.served e.serves e.answered e.answers v e.returns))

pub routed_answers_put_out : {A : Type 0} → RoutedAnswersPutOut A
routed_answers_put_out name instance request router d w asked passed v stands led asks two passes serves =
    answer_put Waits has_waited w stands led name instance request router d asked asks two passed passes v serves
