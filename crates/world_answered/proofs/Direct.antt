-- Over one network, what the client puts out comes to the device, and what this puts out to the client.
use Rattle.std.proofs.Common.{◌≡◌, ◌∙◌, refl, sym, ap, subst, ℕ, List, [], length, Some, None, Option}
use Rattle.std.specs.Prelude.{slice_get, slice_set}
use Rattle.bindings.specs.declared.binding.Binding.{Binding}
use Rattle.carry_answered.specs.Answered.{BringsOf, GoInOne}
use Rattle.history.proofs.Lists.{has}
use Rattle.history.specs.Lists.{Has}
use Rattle.npdu.specs.declared.mac.Mac.{Mac}
use Rattle.npdu.specs.declared.mac.Mac.TheVariants.{Six}
use Rattle.npdu.specs.declared.mac.Station.{Station}
use Rattle.npdu.specs.declared.mac.Way.{Way}
use Rattle.npdu.specs.declared.parcel.Parcel.{Parcel}
use Rattle.simulator.specs.Laws.{IsLed}
use Rattle.unitdata.specs.Hearing.{way_to}
use Rattle.unitdata.specs.Saying.{Spoken, is_spelled, parcel_to}
use Rattle.world.specs.Laws.{Stands}
use Rattle.primitives.specs.declared.plain_data.Request.{Request}
use Rattle.world.specs.Step.{Delivers as Delivery, Issues}
use Rattle.world.specs.World.{WorldState}
use Rattle.world.specs.client.Client.{ClientState}
use Rattle.world.specs.device.Device.{DeviceState}
use Rattle.world.specs.site_node.Node.{NodeState, home_of}
use Rattle.world.specs.site_node.declared.part.Part.{Part}
use Rattle.world.specs.site_node.declared.part.Part.TheVariants.{Client, Device}
use Rattle.world.specs.world_sites.Nodes.{client_of}
use Rattle.world_answered.proofs.Answering.{answer_out, answer_puts, answer_spoken, answer_way, history_is}
use Rattle.world_answered.proofs.Hearing.{at_work, device_here, served, serving_items}
use Rattle.world_answered.proofs.Issuing.{IsSaidOut, it, issue_out, plain_issue, spoken}
use Rattle.world_answered.proofs.Passing.{brings_here}
use Rattle.world_answered.proofs.Putting.{here_way, puts_out}
use Rattle.world_answered.proofs.Places.{ahead, length_set, ahead_same, put_at, some_same}
use Rattle.world_answered.proofs.Steady.{HasWaited, Stays, at_once, has_waited, later_waited, same_after, stays_delivery, stays_on, stays_waited, steady_delivery, steady_issue}
use Rattle.world_answered.specs.Exchange.{AnsweredAtOnce, AnsweredLater, AnswersPutOut, Asks, AtOnce, IsAnswered, PutsOut, Returns, Serves, Waits}

module _ {A : Type 0} (Between : (w v : WorldState A) → Type 0) (waited : (w v : WorldState A) → Between w v → HasWaited w v)
    (w : WorldState A) (stands : Stands w) (led : IsLed w) (name : List ℕ) (instance : ℕ) (request : Request A) (d : DeviceState A)
    (asked : WorldState A) (asks : Asks name instance request d.mac d w asked) (then : WorldState A)
    (serves : Serves Between (length w.items) d asked then) where
  abbrev place : ℕ
  place = asks.issues.place

  abbrev i : Issues place instance request w asked
  i = asks.issues.holds

  abbrev c : ClientState A
  c = asks.c

  abbrev arriving : WorldState A
  arriving = serves.comes.then

  abbrev dl : Delivery (length w.items) arriving then
  dl = serves.comes.delivers

  waits : HasWaited asked arriving
  waits = waited asked arriving serves.comes.between

  asked_stands : Stands asked
  asked_stands = steady_issue place instance request w asked stands i

  arriving_stands : Stands arriving
  arriving_stands = waits.stands asked_stands

  -- the binding by which it is issued is that one
  abbrev issued_by : Binding
  issued_by = (plain_issue w asked place instance request asks.sound i c asks.client).issues.binding

  same_binding : asks.bound.binding ≡ issued_by
  same_binding = some_same asks.bound.binding issued_by
      (sym asks.bound.held ∙ (plain_issue w asked place instance request asks.sound i c asks.client).issues.held)

  whole : GoInOne c issued_by d request
  whole = subst (λ (b : Binding). GoInOne c b d request) same_binding asks.whole

  -- what it says, and the item that goes out of it
  abbrev asks_so : Spoken
  asks_so = spoken w asked place instance request asks.sound i c asks.client

  way_is : asks_so.way ≡ way_to c.net d.mac (home_of (Device d))
  way_is = ap (λ (b : Binding). b.bound.way) (sym same_binding) ∙ asks.bound.way

  item_there : slice_get asked.items (length w.items) ≡ Some dl.item
  item_there = ap (λ (z : WorldState A). slice_get z.items (length w.items)) (sym waits.is) ∙ dl.there

  out : IsSaidOut w.moment (home_of (Client c)) asks_so i.told.told.said dl.item
  out = issue_out w asked place instance request asks.sound i c asks.client stands dl.item item_there whole.asked

  abbrev p : Parcel A
  p = parcel_to w.moment c.mac asks_so

  one_net : c.net ≡ d.net
  one_net = ap (λ (y : Station). y.net)
      (device_here arriving then (length w.items) dl arriving_stands (home_of (Client c)) p asks_so.way.to out.item refl d serves.device)

  no_destination : asks_so.way.destination ≡ None
  no_destination = ap (λ (y : Way). y.destination) way_is ∙ here_way c.net (home_of (Device d)) one_net

  brings : BringsOf c.net p d.net p
  brings = brings_here (home_of (Client c)) w.moment asks_so no_destination d.net one_net

  says : Has i.told.told.said p
  says = subst (λ (ps : List (Parcel A)). Has ps p) (sym out.said_is) (has 0 refl)

  -- the answer
  abbrev answers_so : Spoken
  answers_so = answer_spoken w asked place instance request asks.sound i c asks.client led p says arriving then
      (later_waited asked arriving waits) (length w.items) dl arriving_stands (home_of (Client c)) p asks_so.way.to out.item refl d
      serves.device brings whole serves.ready

  back_way : answers_so.way ≡ way_to d.net c.mac (home_of (Client c))
  back_way = answer_way w asked place instance request asks.sound i c asks.client led p says arriving then
      (later_waited asked arriving waits) (length w.items) dl arriving_stands (home_of (Client c)) p asks_so.way.to out.item refl d
      serves.device brings whole serves.ready

  -- one item goes out of it, to the client
  answer_put : PutsOut (home_of (Client c)) asked then
  answer_put =
      let no_destination : answers_so.way.destination ≡ None =
      ap (λ (y : Way). y.destination) back_way ∙ here_way d.net (home_of (Client c)) (sym one_net) in
      let to_is : answers_so.way.to ≡ c.mac = ap (λ (y : Way). y.to) back_way in
      let device_six : d.mac ≡ Six out.item.other = sym (ap (λ (y : Way). y.to) way_is) ∙ out.item.other_six in
      puts_out asked then (at_work arriving then (length w.items) dl arriving_stands (home_of (Client c)) p asks_so.way.to out.item refl).items _
      (home_of (Device d)) (home_of (Client c)) arriving.moment answers_so
      (length_set arriving.items (length w.items) _ ∙ ap (λ (z : WorldState A). length z.items) waits.is)
      (serving_items arriving then (length w.items) dl arriving_stands (home_of (Client c)) p asks_so.way.to out.item refl d serves.device)
      (answer_puts w asked place instance request asks.sound i c asks.client led p says arriving then
      (later_waited asked arriving waits) (length w.items) dl arriving_stands (home_of (Client c)) p asks_so.way.to out.item refl d
      serves.device brings whole serves.ready (ap (λ (o : Option Station). is_spelled o) no_destination) out.item.other device_six
      out.item.address (to_is ∙ out.item.six))
      (ap (λ (n : ℕ). record { net = n; mac = answers_so.way.to }) (sym one_net) ∙ ap (λ (m : Mac). record { net = c.net; mac = m }) to_is)

  -- .. and it comes back to the client
  module _ (v : WorldState A) (returns : Returns Between (length asked.items) place then v) where
    abbrev returning : WorldState A
    returning = returns.comes.then

    abbrev dl2 : Delivery (length asked.items) returning v
    dl2 = returns.comes.delivers

    waits_back : HasWaited then returning
    waits_back = waited then returning returns.comes.between

    returning_stands : Stands returning
    returning_stands = waits_back.stands (steady_delivery (length w.items) arriving then arriving_stands dl)

    answer_there : slice_get then.items (length arriving.items) ≡ Some dl2.item
    answer_there =
        ap (λ (z : WorldState A). slice_get then.items (length z.items)) waits.is
        ∙ ap (λ (z : WorldState A). slice_get z.items (length asked.items)) (sym waits_back.is) ∙ dl2.there

    out_back : IsSaidOut arriving.moment (home_of (Device d)) answers_so
        (served arriving then (length w.items) dl arriving_stands (home_of (Client c)) p asks_so.way.to out.item refl d serves.device).of.by.said dl2.item
    out_back = answer_out w asked place instance request asks.sound i c asks.client led p says arriving then
        (later_waited asked arriving waits) (length w.items) dl arriving_stands (home_of (Client c)) p asks_so.way.to out.item refl d
        serves.device brings whole serves.ready dl2.item answer_there

    abbrev a : Parcel A
    a = parcel_to arriving.moment d.mac answers_so

    -- the client is where it was
    client_left : i.next.part ≡ Client (it w asked place instance request asks.sound i c asks.client).left
    client_left = (it w asked place instance request asks.sound i c asks.client).left_is

    client_net : (it w asked place instance request asks.sound i c asks.client).left.net ≡ c.net
    client_net = ap (λ (z : ClientState A). z.net) (it w asked place instance request asks.sound i c asks.client).issues.issues.left

    no_clients : (client_of dl.n.part ≡ []) × (client_of dl.next.part ≡ [])
    no_clients = (
      ap (λ (q : Part A). client_of q) serves.device,
      ap (λ (q : Part A). client_of q) (served arriving then (length w.items) dl arriving_stands (home_of (Client c)) p asks_so.way.to out.item refl d serves.device).left_is,
    )

    stays : Stays place i.next asked returning
    stays = stays_on place i.next asked arriving returning (stays_waited place i.next asked arriving waits)
        (stays_on place i.next arriving then returning
        (stays_delivery place i.next _ client_left (length w.items) arriving then dl no_clients.0 no_clients.1)
        (stays_waited place i.next then returning waits_back))

    asked_nodes : asked.nodes ≡ slice_set w.nodes place i.next
    asked_nodes = ap (λ (z : WorldState A). z.nodes) i.acts.is

    client_there : slice_get returning.nodes place ≡ Some i.next
    client_there = stays.there (ap (λ (ns : List (NodeState A)). slice_get ns place) asked_nodes ∙ put_at w.nodes place i.n i.next i.acts.there)

    client_hears : dl2.n.part ≡ Client (it w asked place instance request asks.sound i c asks.client).left
    client_hears =
        let same = some_same dl2.n i.next (sym dl2.acts.there ∙ ap (λ (k : ℕ). slice_get returning.nodes k) returns.back ∙ client_there) in
        ap (λ (m : NodeState A). m.part) same ∙ client_left

    same_place : ahead (λ (m : NodeState A). client_of m.part) returning.nodes dl2.place ≡ ahead (λ (m : NodeState A). client_of m.part) w.nodes place
    same_place =
        ap (λ (k : ℕ). ahead (λ (m : NodeState A). client_of m.part) returning.nodes k) returns.back ∙ stays.same
        ∙ ap (λ (ns : List (NodeState A)). ahead (λ (m : NodeState A). client_of m.part) ns place) asked_nodes
        ∙ ahead_same (λ (m : NodeState A). client_of m.part) w.nodes place place i.n i.next i.acts.there
        (ap (λ (q : Part A). length (client_of q)) client_left ∙ sym (ap (λ (q : Part A). length (client_of q)) asks.client))

    answered : IsAnswered w v c instance request d then.moment v.moment
    answered = history_is w asked place instance request asks.sound i c asks.client led p says arriving then
        (later_waited asked arriving waits) (length w.items) dl arriving_stands (home_of (Client c)) p asks_so.way.to out.item refl d
        serves.device brings whole serves.ready
        (ap (λ (b : Binding). b.bound.station) (sym same_binding) ∙ asks.bound.station) a
        (subst (λ (ps : List (Parcel A)). Has ps a) (sym out_back.said_is) (has 0 refl)) returning v
        (later_waited then returning waits_back) (length asked.items) dl2 returning_stands (home_of (Device d)) a answers_so.way.to
        out_back.item refl client_hears same_place
        (brings_here (home_of (Device d)) arriving.moment answers_so
        (ap (λ (y : Way). y.destination) back_way ∙ here_way d.net (home_of (Client c)) (sym one_net)) _ (sym one_net ∙ sym client_net))

pub answered_later : {A : Type 0} → AnsweredLater A
answered_later w v stands led e = answered Waits has_waited w stands led e.name e.instance e.request e.d e.asked e.asks e.served e.serves v e.returns

pub answered_at_once : {A : Type 0} → AnsweredAtOnce A
answered_at_once {A} w v stands led e =
    let asked : e.asked.moment ≡ w.moment = ap (λ (z : WorldState A). z.moment) e.asks.issues.holds.acts.is in
    let served_then : e.served.moment ≡ w.moment =
    ap (λ (z : WorldState A). z.moment) e.serves.comes.delivers.acts.is
    ∙ ap (λ (z : WorldState A). z.moment) (same_after e.asked e.serves.comes.then e.serves.comes.between) ∙ asked in
    let now : v.moment ≡ w.moment =
    ap (λ (z : WorldState A). z.moment) e.returns.comes.delivers.acts.is
    ∙ ap (λ (z : WorldState A). z.moment) (same_after e.served e.returns.comes.then e.returns.comes.between) ∙ served_then in
    subst (λ (m : ℕ). IsAnswered w v e.asks.c e.instance e.request e.d w.moment m) now
    (subst (λ (m : ℕ). IsAnswered w v e.asks.c e.instance e.request e.d m v.moment) served_then
    (answered AtOnce at_once w stands led e.name e.instance e.request e.d e.asked e.asks e.served e.serves v e.returns))

pub answers_put_out : {A : Type 0} → AnswersPutOut A
answers_put_out name instance request d w asked v stands led asks serves =
    answer_put Waits has_waited w stands led name instance request d asked asks v serves
