-- What comes of a fair event is a list of honest happenings.
use Rattle.std.proofs.Common.{◌≡◌, refl, sym, subst, ℕ, ◌+◌, ◌<◌, Bool, List, [], ◌∷◌, Option, Some, None, Result, arith}
use Rattle.std.specs.Prelude.{slice_get}
use Rattle.std.specs.List.{AllByRecursion}
use Rattle.apdu.specs.Sizes.{apdu_code}
use Rattle.apdu.specs.declared.apdu.Apdu.{Apdu}
use Rattle.apdu.specs.declared.numbers.RejectReason.{RejectReason}
use Rattle.apdu.specs.declared.sizes.MaxApdu.{MaxApdu}
use Rattle.apdu.specs.declared.unconfirmed.IAm.{IAm}
use Rattle.bindings.specs.Binding.{binding_of, introduced, mark_refused, put_binding}
use Rattle.headline_client.specs.client.Client.{ClientState}
use Rattle.headline_client.specs.client.Saying.{parcels_of}
use Rattle.bindings.specs.declared.binding.Binding.{Binding}
use Rattle.headline_client.specs.client.declared.plan.ClientIssued.{ClientIssued}
use Rattle.bindings.specs.Accepts.{PlainAccepts}
use Rattle.headline_client.specs.client_tsm.Client as client
use Rattle.headline_client.specs.client_tsm.Hearing.{heard_of}
use Rattle.headline_client.specs.client_tsm.Issuing.{issued}
use Rattle.headline_client.specs.client_tsm.Waking.{woken}
use Rattle.headline_client.specs.client_tsm.declared.plan.ClientTsmPlan.{ClientTsmPlan}
use Rattle.headline_device.proofs.Doing.{opens_at_start, restart_is_done, waking_is_done}
use Rattle.headline_device.specs.Devices.{IsDevice, announces}
use Rattle.headline_device.specs.Devices as deeds
use Rattle.headline_device.specs.device.Device.{DeviceState, restarts}
use Rattle.headline.specs.Happenings.{Says_other, Ticks, start}
use Rattle.headline.specs.Happenings as core
use Rattle.history.specs.Book.{Broadcast, Message, Other}
use Rattle.npdu.specs.declared.mac.Station.{Station}
use Rattle.npdu.specs.declared.mac.Way.{Way}
use Rattle.npdu.specs.declared.message.NetworkRejectReason as network
use Rattle.headline_client.proofs.headline_bacnet.Refining.{refined_none, refined_one, refined_then}
use Rattle.headline_client.specs.headline_bacnet.Protocol.{bacnet}
use Rattle.headline_client.specs.headline_bacnet.Refined.{ObjectSite, Refined, ObjectCore}
use Rattle.primitives.specs.declared.plain_data.Reply.{Reply}
use Rattle.primitives.specs.declared.plain_data.Request.{Request}
use Rattle.headline_device.proofs.headline_server.Executing.{step_keeps, step_refines}
use Rattle.headline_device.proofs.headline_server.Waking.{announce_refines}
use Rattle.headline_device.specs.headline_server.Laws.{IsHeardFrom}
use Rattle.headline_device.specs.server_tsm.Steps as server_steps
use Rattle.headline_device.specs.server_tsm.Steps.{told_of_plan}
use Rattle.headline_device.specs.server_tsm.Server as server
use Rattle.headline_device.specs.server_tsm.Waking as server_waking
use Rattle.headline_device.specs.server_tsm.Hearing as server_hearing
use Rattle.headline_client.specs.server_answers.declared.asked.Origin.{Origin}
use Rattle.headline_client.proofs.Acting.{IsActed, IsAt}
use Rattle.headline_client.proofs.Hearing.{plan_arm}
use Rattle.headline_client.proofs.Hears.{accepts_stay, body_is}
use Rattle.headline_client.proofs.Laws.{issuing, starts}
use Rattle.headline_client.proofs.Learning.{holds, introduces, mark_refused_leads, mark_refused_same, put_binding_leads}
use Rattle.headline_client.proofs.Places.{all_at}
use Rattle.headline_client.proofs.Waking.{wake}
use Rattle.headline_client.specs.Kept.{Leads}
use Rattle.headline_client.specs.Laws.{IsClient}
use Rattle.headline_client.specs.Safe.{safe_client, station_of}
use Rattle.headline_client.specs.Told.{acts, issues, row_of}
use Rattle.headline_site.specs.Fair.{AreFair, ClientMayHear, ClientMayLearn, DeviceMayHear, IsNewClient, IsNewDevice, MayIssue, OfOne, Stands}
use Rattle.headline_site.specs.Laws.{BeginsWell, Goes, StepRefines}
use Rattle.headline_site.specs.AllStations.{Event, Passes, Issues, Asks_who, Client_hears, Client_learns, Client_marks, Client_wakes, Device_hears, Announces}
use Rattle.headline_site.specs.AllStations.{Device_wakes, Restarts, AllStations, asked_plan, client_does, client_holds, client_issues, deed_by, device_does}
use Rattle.headline_site.specs.AllStations.{device_restarts, heard_plan, step, steps, to_one}
use Rattle.headline_site.proofs.Standing.{anew_goes, client_goes, core_goes, deed_goes}

module _ {A : Type 0} (own : Station → MaxApdu) (s : ObjectSite A) (w : AllStations A) (at : Stands own s w) where
  nothing_goes : Goes own s w w
  nothing_goes = record { refined = refined_none (bacnet A) s w.core; stands = at }

  -- by whether there is one at the place
  by_one : {X : Type 0} (P : X → Type 0) (f : X → AllStations A → AllStations A) (o l : Option X) → l ≡ o →
      ((x : X) → l ≡ Some x → P x → Goes own s w (f x w)) → OfOne P o → Goes own s w (to_one o f w)
  by_one P f None l e go fair = nothing_goes
  by_one P f (Some x) l e go fair = go x e fair

  of_any : {X : Type 0} (o : Option X) → OfOne (λ (x : X). Unit {0}) o
  of_any None = tt
  of_any (Some x) = tt

  is_client : (place : ℕ) (c : ClientState A) → slice_get w.clients place ≡ Some c → IsClient own w.core c
  is_client place c there = all_at (λ z. IsClient own w.core z) w.clients place c at.clients there

  is_device : (place : ℕ) (d : DeviceState A) → slice_get w.devices place ≡ Some d → IsDevice s w.core d
  is_device place d there = all_at (λ z. IsDevice s w.core z) w.devices place d at.devices there

  its : (c : ClientState A) → IsClient own w.core c → IsAt own s w.core (station_of c) c.bindings c.machine
  its c is = record { seen = is.seen; kept = is.kept.transactions }

  -- a client does what it planned
  plan_goes : (place : ℕ) (c : ClientState A) (plan : ClientTsmPlan A) → slice_get w.clients place ≡ Some c → IsClient own w.core c →
      IsActed own s w.core (station_of c) c.bindings c.machine plan.said plan.told (client.committed w.core.book.moment plan.change c.machine) →
      Goes own s w (client_does own place plan c w)
  plan_goes place c plan there is acted =
      let next : ClientState A = record c { machine = client.committed w.core.book.moment plan.change c.machine } in
      client_goes own s w at place c next (acts own (station_of c) plan.said plan.told (safe_client own next) w.core) there refl
      (record { clients = refl; devices = refl; moment = refl })
      (record {
        transactions = acted.kept;
        bindings = is.kept.bindings;
        code = subst (λ (x : PlainAccepts). apdu_code x.max_apdu < 16) (sym (accepts_stay w.core.book.moment plan.change c.machine)) is.kept.code;
      })
      acted.refined

  hears_goes : (place : ℕ) (m : Message Station) (apdu : Apdu) (found : Option (Reply A)) (c : ClientState A) → slice_get w.clients place ≡ Some c →
      ClientMayHear own w m apdu found c → Goes own s w (client_does own place (heard_plan w.core.book.moment m.from apdu found c) c w)
  hears_goes place m apdu found c there fair =
      let is = is_client place c there in
      let plan = heard_plan w.core.book.moment m.from apdu found c in
      plan_goes place c plan there is
      (plan_arm own s w.core (station_of c) c.bindings c.machine (its c is) m fair.heard m.from (heard_of apdu)
      (body_is A (own (station_of c)) apdu m.body fair.named fair.body) plan (record { found = found; means = fair.means; is = refl }))

  wakes_goes : (place : ℕ) (c : ClientState A) → slice_get w.clients place ≡ Some c →
      Goes own s w (client_does own place (woken w.core.book.moment c.machine.open_ones) c w)
  wakes_goes place c there =
      let is = is_client place c there in
      plan_goes place c (woken w.core.book.moment c.machine.open_ones) there is (wake own s w.core (station_of c) c.bindings c.machine (its c is))

  -- a client has other bindings
  holds_goes : (place : ℕ) (bindings : List Binding) (c : ClientState A) → slice_get w.clients place ≡ Some c → (is : IsClient own w.core c) →
      AllByRecursion (Leads c.net) bindings → Refined s w.core (acts own (station_of c) [] [] (safe_client own (record c { bindings = bindings })) w.core) →
      Goes own s w (client_holds own place bindings c w)
  holds_goes place bindings c there is leads refined =
      let next : ClientState A = record c { bindings = bindings } in
      client_goes own s w at place c next (acts own (station_of c) [] [] (safe_client own next) w.core) there refl
      (record { clients = refl; devices = refl; moment = refl })
      (record { transactions = is.kept.transactions; bindings = leads; code = is.kept.code })
      refined

  learns_goes : (place : ℕ) (m : Message Station) (way : Way) (i : IAm) (c : ClientState A) → slice_get w.clients place ≡ Some c →
      ClientMayLearn w m way i c → Goes own s w (client_holds own place (put_binding (introduced m.from way i) c.bindings) c w)
  learns_goes place m way i c there fair =
      let is = is_client place c there in
      holds_goes place (put_binding (introduced m.from way i) c.bindings) c there is
      (put_binding_leads c.net (introduced m.from way i) c.bindings fair.back is.kept.bindings)
      (introduces own s w.core (station_of c) c.bindings c.machine is.seen m.from way i m fair.heard refl fair.body)

  marks_goes : (place : ℕ) (reason : network.NetworkRejectReason) (net : ℕ) (c : ClientState A) → slice_get w.clients place ≡ Some c →
      Goes own s w (client_holds own place (mark_refused reason net c.bindings) c w)
  marks_goes place reason net c there =
      let is = is_client place c there in
      holds_goes place (mark_refused reason net c.bindings) c there is (mark_refused_leads c.net reason net c.bindings is.kept.bindings)
      (holds own s w.core (station_of c) c.bindings c.machine is.seen (mark_refused reason net c.bindings) (mark_refused_same reason net c.bindings))

  -- a client issues
  issues_goes : (place instance : ℕ) (request : Request A) (c : ClientState A) → slice_get w.clients place ≡ Some c →
      MayIssue w.core.book.moment instance request c → (o : Option Binding) → binding_of instance c.bindings ≡ o →
      Goes own s w (client_issues own place instance request o c w)
  issues_goes place instance request c there fair None held = nothing_goes
  issues_goes place instance request c there fair (Some b) held =
      let now = w.core.book.moment in
      let plan = issued now request b.bound c.machine in
      let next : ClientState A = record c { machine = client.committed now plan.change c.machine } in
      let told : ClientIssued A = record { invoke_id = c.machine.next; said = parcels_of now c.mac plan.said } in
      let done = issuing own s w.core instance request c told next (is_client place c there) fair.0 fair.1
      (record { binding = b; held = held; id = refl; said = refl; left = refl }) in
      client_goes own s w at place c next (issues own (station_of c) (row_of own (station_of c) now instance request b.bound c.machine) plan.said
      (safe_client own next) w.core) there refl
      (record { clients = refl; devices = refl; moment = refl }) done.kept done.refined

  asks_goes : (c : ClientState A) → Goes own s w (record w { core = core.says (station_of c) Broadcast (Other ∷ []) w.core })
  asks_goes c = core_goes own s w at (core.says (station_of c) Broadcast (Other ∷ []) w.core) refl refl (omega arith)
      (refined_one (bacnet A) s w.core (Says_other (station_of c) Broadcast) tt)

  passes_goes : (n : ℕ) → Goes own s w (record w { core = record w.core { book = record w.core.book { moment = w.core.book.moment + n } } })
  passes_goes n = core_goes own s w at (record w.core { book = record w.core.book { moment = w.core.book.moment + n } }) refl refl (omega arith)
      (refined_one (bacnet A) s w.core (Ticks n) tt)

  -- a device hears, announces itself, wakes, restarts
  asked_goes : (place : ℕ) (m : Message Station) (way : Way) (by_broadcast : Bool) (apdu : Apdu) (found : Option (Result (Request A) RejectReason))
      (d : DeviceState A) → slice_get w.devices place ≡ Some d → DeviceMayHear w m way by_broadcast apdu found d →
      Goes own s w (device_does place (deed_by w.core.book.moment
      (asked_plan w.core.book.moment (record { station = m.from; way = way; by_broadcast = by_broadcast }) apdu found d) d) d w)
  asked_goes place m way by_broadcast apdu found d there fair =
      let v = is_device place d there in
      let from : Origin = record { station = m.from; way = way; by_broadcast = by_broadcast } in
      let plan = asked_plan w.core.book.moment from apdu found d in
      let left = server.committed w.core.book.moment plan.change d.server in
      let heard : IsHeardFrom w.core (deeds.station_of d) d.server.max_apdu from apdu =
      record { message = m; heard = fair.heard; sayer = refl; says = fair.body; named = fair.named; way = fair.back } in
      let is : server_steps.IsStep w.core.book.moment from (server_hearing.heard_of apdu) d.server (told_of_plan plan) left =
      record { plan = plan; planned = record { found = found; means = fair.means; is = refl }; told_is = refl; left_is = refl } in
      deed_goes own s w at place d (deed_by w.core.book.moment plan d) there
      (record { instance = v.instance; served = step_keeps w.core (deeds.station_of d) d.server left from apdu (told_of_plan plan) v.served heard is })
      (step_refines s w.core (deeds.station_of d) d.server left from apdu (told_of_plan plan) v.served heard is)

  announces_goes : (place : ℕ) (d : DeviceState A) → slice_get w.devices place ≡ Some d → Goes own s w (device_does place announces d w)
  announces_goes place d there =
      let v = is_device place d there in
      deed_goes own s w at place d announces there
      (record { instance = v.instance; served = record { device = v.served.device; well = v.served.well; order = v.served.order } })
      (announce_refines s w.core (deeds.station_of d) d.instance v.instance)

  woken_goes : (place : ℕ) (d : DeviceState A) → slice_get w.devices place ≡ Some d →
      Goes own s w (device_does place (deed_by w.core.book.moment (server_waking.woken w.core.book.moment d.server.records) d) d w)
  woken_goes place d there =
      let done = waking_is_done s w.core d (is_device place d there) in
      deed_goes own s w at place d (deed_by w.core.book.moment (server_waking.woken w.core.book.moment d.server.records) d) there done.stands done.refined

  restarts_goes : (place : ℕ) (d : DeviceState A) → slice_get w.devices place ≡ Some d → Goes own s w (device_restarts s place d w)
  restarts_goes place d there =
      let done = restart_is_done s w.core d (is_device place d there) in
      anew_goes own s w at place d (restarts w.core.book.moment (s.opening (deeds.station_of d)) d) there refl done.stands done.refined

-- each event
pub step_goes : {A : Type 0} → StepRefines A
step_goes own s w (Passes n) at fair = passes_goes own s w at n
step_goes own s w (Issues place instance request) at fair =
    by_one own s w at _ _ (slice_get w.clients place) (slice_get w.clients place) refl
    (λ c there may. issues_goes own s w at place instance request c there may (binding_of instance c.bindings) refl) fair
step_goes own s w (Asks_who place) at fair =
    by_one own s w at _ _ (slice_get w.clients place) (slice_get w.clients place) refl (λ c there may. asks_goes own s w at c)
    (of_any own s w at (slice_get w.clients place))
step_goes own s w (Client_hears place m apdu found) at fair =
    by_one own s w at _ _ (slice_get w.clients place) (slice_get w.clients place) refl (λ c there may. hears_goes own s w at place m apdu found c there may)
    fair
step_goes own s w (Client_learns place m way i) at fair =
    by_one own s w at _ _ (slice_get w.clients place) (slice_get w.clients place) refl (λ c there may. learns_goes own s w at place m way i c there may) fair
step_goes own s w (Client_marks place reason net) at fair =
    by_one own s w at _ _ (slice_get w.clients place) (slice_get w.clients place) refl (λ c there may. marks_goes own s w at place reason net c there)
    (of_any own s w at (slice_get w.clients place))
step_goes own s w (Client_wakes place) at fair =
    by_one own s w at _ _ (slice_get w.clients place) (slice_get w.clients place) refl (λ c there may. wakes_goes own s w at place c there)
    (of_any own s w at (slice_get w.clients place))
step_goes own s w (Device_hears place m way by_broadcast apdu found) at fair =
    by_one own s w at _ _ (slice_get w.devices place) (slice_get w.devices place) refl
    (λ d there may. asked_goes own s w at place m way by_broadcast apdu found d there may) fair
step_goes own s w (Announces place) at fair =
    by_one own s w at _ _ (slice_get w.devices place) (slice_get w.devices place) refl (λ d there may. announces_goes own s w at place d there)
    (of_any own s w at (slice_get w.devices place))
step_goes own s w (Device_wakes place) at fair =
    by_one own s w at _ _ (slice_get w.devices place) (slice_get w.devices place) refl (λ d there may. woken_goes own s w at place d there)
    (of_any own s w at (slice_get w.devices place))
step_goes own s w (Restarts place) at fair =
    by_one own s w at _ _ (slice_get w.devices place) (slice_get w.devices place) refl (λ d there may. restarts_goes own s w at place d there)
    (of_any own s w at (slice_get w.devices place))

-- all of a list
pub steps_go : {A : Type 0} (own : Station → MaxApdu) (s : ObjectSite A) (es : List (Event A)) (w : AllStations A) → Stands own s w → AreFair own s es w →
    Goes own s w (steps own s es w)
steps_go {A} own s [] w at fair = record { refined = refined_none (bacnet A) s w.core; stands = at }
steps_go {A} own s (e ∷ es) w at fair =
    let first = step_goes own s w e at fair.0 in
    let rest = steps_go own s es (step own s w e) first.stands fair.1 in
    record {
      refined = refined_then (bacnet A) s w.core (step own s w e).core (steps own s es (step own s w e)).core first.refined rest.refined;
      stands = rest.stands;
    }

-- the start
new_clients : {A : Type 0} (own : Station → MaxApdu) (s : ObjectSite A) (cs : List (ClientState A)) → AllByRecursion IsNewClient cs →
    AllByRecursion (λ c. IsClient own (start (bacnet A) s) c) cs
new_clients own s [] h = tt
new_clients {A} own s (c ∷ cs) h =
    let new = h.0 in
    let well = starts own new.address new.segmented new.max_apdu new.code in
    (subst (λ (z : ClientState A). IsClient own (start (bacnet A) s) z) (sym new.is) (record { seen = sym well.0; kept = well.1 }), new_clients own s cs h.1)

new_devices : {A : Type 0} (s : ObjectSite A) (ds : List (DeviceState A)) → AllByRecursion (IsNewDevice s) ds →
    AllByRecursion (λ d. IsDevice s (start (bacnet A) s) d) ds
new_devices s [] h = tt
new_devices {A} s (d ∷ ds) h =
    let new = h.0 in (
      subst (λ (z : DeviceState A). IsDevice s (start (bacnet A) s) z) (sym new.is) (opens_at_start s new.objects new.address new.instance new.opening),
      new_devices s ds h.1,
    )

pub begins_well : {A : Type 0} → BeginsWell A
begins_well {A} own s w begun = record {
  clients = subst (λ (k : ObjectCore A). AllByRecursion (λ c. IsClient own k c) w.clients) (sym begun.core) (new_clients own s w.clients begun.clients);
  devices = subst (λ (k : ObjectCore A). AllByRecursion (λ d. IsDevice s k d) w.devices) (sym begun.core) (new_devices s w.devices begun.devices);
  apart = begun.apart;
}
