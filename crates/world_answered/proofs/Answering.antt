-- An exchange in a world is one of its clients and devices, and so ends in the reply.
use Rattle.std.proofs.Common.{◌≡◌, ◌∙◌, refl, sym, ap, subst, ℕ, ◌≤◌, List, [], ◌∷◌, ◌++◌, length, Some, true}
use Rattle.std.specs.Prelude.{slice_get}
use Rattle.carry_answered.proofs.Exchange.{exchanges_are_answered}
use Rattle.carry_answered.specs.Answered.{BringsOf, Exchange, GoInOne, IsReady, Waits}
use Rattle.history.specs.Lists.{Has}
use Rattle.history.specs.declared.Entry.TheVariants.{Answered, Executed, Issue}
use Rattle.npdu.specs.declared.mac.Mac.{Mac}
use Rattle.npdu.specs.declared.mac.Station.{Station}
use Rattle.npdu.specs.declared.mac.Mac.TheVariants.{Six}
use Rattle.npdu.specs.declared.mac.Target.TheVariants as target
use Rattle.npdu.specs.declared.parcel.Parcel.{Parcel}
use Rattle.primitives.specs.Sound.{IsSoundRequest}
use Rattle.primitives.specs.declared.plain_data.Request.{Request}
use Rattle.simulator.proofs.ActLaws.{plain_with}
use Rattle.simulator.proofs.LeadLaws.{with_nothing}
use Rattle.simulator.specs.Laws.{IsLed}
use Rattle.traffic.specs.declared.item.Item.{Item}
use Rattle.unitdata.specs.Hearing.{way_to}
use Rattle.unitdata.specs.Saying.{Spoken, is_spelled, parcel_of}
use Rattle.world.specs.Laws.{Stands}
use Rattle.world.specs.Step.{Delivers as Delivery, Issues, delivered}
use Rattle.world.specs.World.{WorldState}
use Rattle.world.specs.carry_world.PlainSteps.{ClientHearsIt, ClientIssues, DeviceHearsIt, StepsTo}
use Rattle.world.specs.carry_world.PlainWorld.{PlainWorld}
use Rattle.world.specs.client.Client.{ClientState}
use Rattle.world.specs.device.Device.{DeviceState}
use Rattle.world.specs.device.server_answers.Said as server_said
use Rattle.world.specs.headline_bacnet.services.Asked.{replied}
use Rattle.world.specs.site_node.Node.{NodeState, home_of}
use Rattle.world.specs.site_node.declared.part.Part.TheVariants.{Client, Device}
use Rattle.world.specs.world_log.Growing.{WorldHistory, items_at}
use Rattle.world.specs.world_sites.Nodes.{client_of, clients_of, devices_of}
use Rattle.world.specs.world_sites.Opening.{object_site}
use Rattle.world_answered.proofs.Hearing.{hearing, plain_closing, plain_serving, serving_out, serving_puts}
use Rattle.world_answered.proofs.Issuing.{IsPutOnce, IsSaidOut, asking, it, plain_issue}
use Rattle.world_answered.proofs.Items.{IsItemOf}
use Rattle.world_answered.proofs.Places.{ahead}
use Rattle.world_answered.proofs.Serving.{says_answer, tell}
use Rattle.world_answered.proofs.Steady.{Later}

module _ {A : Type 0} (w asked : WorldState A) (place instance : ℕ) (request : Request A) (sound : IsSoundRequest request)
    (i : Issues place instance request w asked) (c : ClientState A) (is : i.n.part ≡ Client c) (led : IsLed w) where
  abbrev old : PlainWorld A
  old = plain_with [] w

  abbrev begun : PlainWorld A
  begun = asking w asked place instance request sound i c is

  abbrev issue : ClientIssues old begun
  issue = plain_issue w asked place instance request sound i c is

  -- what happens then is later of all that a plain world sees
  way_there : (u : WorldState A) → Later asked u → Waits begun (plain_with [] u)
  way_there u later =
      let acts = i.acts.is in record {
        later = subst (λ (m : ℕ). m ≤ u.moment) (ap (λ (z : WorldState A). z.moment) acts) later.moment;
        clients = later.clients ∙ ap (λ (z : WorldState A). clients_of z.nodes) acts;
        devices = later.devices ∙ ap (λ (z : WorldState A). devices_of z.nodes) acts;
        keys = later.keys ∙ ap (λ (z : WorldState A). z.keys) acts;
        history = later.history ∙ ap (λ (z : WorldState A). z.history) acts;
      }

  leads : StepsTo (object_site w.site) led.fresh old
  leads = subst (λ (z : PlainWorld A). StepsTo (object_site w.site) led.fresh z) (sym (with_nothing w)) led.leads

  -- the device hears the request, wherever that was passed on
  module _ (p : Parcel A) (says : Has i.told.told.said p) (arriving served : WorldState A) (later : Later asked arriving) (number : ℕ)
      (dl : Delivery number arriving served) (stands : Stands arriving) (x : Station) (q : Parcel A) (to : Mac)
      (item : IsItemOf x q to dl.item) (for : q.to ≡ target.One to) (d : DeviceState A) (device : dl.n.part ≡ Device d)
      (brings : BringsOf c.net p d.net q) (whole : GoInOne c issue.issues.binding d request) (ready : IsReady arriving.moment d) where
    abbrev at_device : WorldState A
    at_device = delivered number dl.item arriving

    abbrev middle : PlainWorld A
    middle = hearing arriving served number dl stands x q to item for

    abbrev serving : DeviceHearsIt (plain_with [] at_device) middle
    serving = plain_serving arriving served number dl stands x q to item for d device

    arrives : Waits begun (plain_with [] at_device)
    arrives =
        let way = way_there arriving later in record {
          later = way.later;
          clients = way.clients;
          devices = way.devices;
          keys = way.keys;
          history = way.history;
        }

    abbrev pub answer_spoken : Spoken
    answer_spoken = server_said.spoken_of (tell old begun issue (plain_with [] at_device) middle p says serving brings whole ready)

    answer_said : serving.told.said ≡ parcel_of arriving.moment d.mac answer_spoken
    answer_said = says_answer old begun issue (plain_with [] at_device) middle p says serving brings whole ready
        (object_site w.site) led.fresh led.is_site led.begun leads
        (ap (λ (ds : List (DeviceState A)). slice_get ds serving.place) (sym (arrives.devices ∙ issue.devices)) ∙ serving.there)
        arrives.later

    -- it says its answer to who asked, the way that the request came
    pub answer_way : answer_spoken.way ≡ way_to d.net q.from (home_of (Client c))
    answer_way = refl

    pub answer_out : (j : Item A) → slice_get served.items (length arriving.items) ≡ Some j →
        IsSaidOut arriving.moment (home_of (Device d)) answer_spoken serving.told.said j
    answer_out j there = serving_out arriving served number dl stands x q to item for d device answer_spoken answer_said j there

    -- .. as one item, where that is on a network of BACnet/IP
    pub answer_puts : is_spelled answer_spoken.way.destination ≡ true → (address : List ℕ) → d.mac ≡ Six address → (other : List ℕ) →
        answer_spoken.way.to ≡ Six other → IsPutOnce arriving.moment (home_of (Device d)) answer_spoken
        (items_at arriving.moment (home_of (Device d) ∷ []) dl.told.out)
    answer_puts spelled address six other six_to =
        serving_puts arriving served number dl stands x q to item for d device answer_spoken answer_said spelled address six other six_to

    -- .. and the client hears that, wherever it was passed on
    module _ (bound : issue.issues.binding.bound.station ≡ home_of (Device d)) (a : Parcel A) (answers : Has serving.told.said a)
        (returning v : WorldState A) (back : Later served returning) (last : ℕ) (dl2 : Delivery last returning v)
        (stands2 : Stands returning) (x2 : Station) (q2 : Parcel A) (to2 : Mac) (item2 : IsItemOf x2 q2 to2 dl2.item)
        (for2 : q2.to ≡ target.One to2) (client : dl2.n.part ≡ Client (it w asked place instance request sound i c is).left)
        (same : ahead (λ (m : NodeState A). client_of m.part) returning.nodes dl2.place ≡
        ahead (λ (m : NodeState A). client_of m.part) w.nodes place)
        (returns : BringsOf d.net a (it w asked place instance request sound i c is).left.net q2) where
      abbrev at_client : WorldState A
      at_client = delivered last dl2.item returning

      abbrev end : PlainWorld A
      end = hearing returning v last dl2 stands2 x2 q2 to2 item2 for2

      abbrev closing : ClientHearsIt (plain_with [] at_client) end
      closing = plain_closing returning v last dl2 stands2 x2 q2 to2 item2 for2 (it w asked place instance request sound i c is).left client

      comes_back : Waits middle (plain_with [] at_client)
      comes_back =
          let acts = dl.acts.is in record {
            later = subst (λ (m : ℕ). m ≤ returning.moment) (ap (λ (z : WorldState A). z.moment) acts) back.moment;
            clients = back.clients ∙ ap (λ (z : WorldState A). clients_of z.nodes) acts;
            devices = back.devices ∙ ap (λ (z : WorldState A). devices_of z.nodes) acts;
            keys = back.keys ∙ ap (λ (z : WorldState A). z.keys) acts;
            history = back.history ∙ ap (λ (z : WorldState A). z.history) acts;
          }

      abbrev exchange : Exchange old end
      exchange = record {
        asked = begun;
        issues = issue;
        request = p;
        says = says;
        arriving = plain_with [] at_device;
        way_there = arrives;
        served = middle;
        executes = serving;
        brings = brings;
        bound = bound;
        whole = whole;
        ready = ready;
        answer = a;
        answers = answers;
        returning = plain_with [] at_client;
        way_back = comes_back;
        hears = closing;
        same = same;
        returns = returns;
      }

      abbrev history_at : (executed now : ℕ) → WorldHistory A
      history_at executed now = w.history ++
          (Issue (length w.keys) (home_of (Client c)) instance request w.moment ∷
          Executed (length w.keys) (replied d.server.table request) executed ∷
          Answered (length w.keys) (replied d.server.table request) now ∷ [])

      pub history_is : v.history ≡ history_at served.moment v.moment
      history_is =
          ap (λ (z : WorldState A). z.history) dl2.acts.is
          ∙ exchanges_are_answered (object_site w.site) led.fresh old end led.is_site led.begun leads exchange
          ∙ ap (λ (m : ℕ). history_at m returning.moment) (sym (ap (λ (z : WorldState A). z.moment) dl.acts.is))
          ∙ ap (λ (m : ℕ). history_at served.moment m) (sym (ap (λ (z : WorldState A). z.moment) dl2.acts.is))
