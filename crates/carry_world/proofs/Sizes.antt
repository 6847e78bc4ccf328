-- Each device keeps its size and its numbers.
use Rattle.std.proofs.Common.{◌≡◌, refl, sym, ap, subst, ◌∙◌, ℕ, ◌<◌, ◌^◌, List, [], ◌∷◌, Option, Some, None}
use Rattle.std.specs.Prelude.{slice_get}
use Rattle.std.specs.List.{AllByRecursion}
use Rattle.bindings.specs.Binding.{binding_of}
use Rattle.bindings.specs.declared.binding.Binding.{Binding}
use Rattle.carry_said.specs.client.Client.{ClientState}
use Rattle.carry_said.specs.device.Device.{DeviceState, restarts}
use Rattle.carry_said.specs.headline_site.headline_bacnet.Refined.{ObjectSite}
use Rattle.carry_said.specs.headline_site.headline_bacnet.Stations.{longest_of}
use Rattle.carry_said.proofs.headline_site.headline_client.Places.{all_at}
use Rattle.carry_said.specs.headline_site.headline_device.Devices.{IsItself, station_of}
use Rattle.carry_said.specs.headline_site.headline_device.Devices.{HasNumbers}
use Rattle.carry_said.proofs.headline_site.headline_server.Waking.{size_stays}
use Rattle.carry_said.specs.headline_site.AllStations.{Announces, Asks_who, Client_hears, Client_learns, Client_marks, Client_wakes, Device_hears, Device_wakes, Event}
use Rattle.carry_said.specs.headline_site.AllStations.{Issues, Passes, Restarts, AllStations, asked_plan, client_issues, deed_by, device_does, step}
use Rattle.carry_said.specs.headline_site.Fair.{IsNewDevice}
use Rattle.primitives.specs.declared.plain_data.Request.{Request}
use Rattle.profile.specs.declared.link_kind.LinkKind.{LinkKind}
use Rattle.carry_said.specs.server_answers.Plan.{ServerPlan}
use Rattle.carry_said.specs.server_tsm.Server.{ServerTsmState, committed}
use Rattle.carry_said.specs.server_tsm.Waking.{woken}
use Rattle.unitdata.specs.Sizes.{longest_apdu}
use Rattle.carry_world.specs.Internetwork.{IsSized}
use Rattle.carry_world.proofs.Lists.{all_set, by_one}

pub sized_itself : {A : Type 0} (d left : DeviceState A) → IsItself d left → IsSized d → IsSized left
sized_itself d left is sized = record {
  size = ap longest_of is.station ∙ sized.size ∙ sym is.size;
  numbers = record {
    instance = subst (λ n. n < 2 ^ 22) (sym is.instance) sized.numbers.instance;
    vendor = subst (λ n. n < 2 ^ 32) (sym is.vendor) sized.numbers.vendor;
  };
}

-- a new device has the size of its kind of link
new_sized : {A : Type 0} (s : ObjectSite A) (d : DeviceState A) → IsNewDevice s d → HasNumbers d → IsSized d
new_sized {A} s d new numbers = record {
  size = ap (λ (z : DeviceState A). longest_of (station_of z)) new.is ∙ sym (ap (λ (k : LinkKind). longest_apdu k) new.link)
      ∙ sym (ap (λ (z : DeviceState A). z.server.max_apdu) new.is);
  numbers = numbers;
}

pub all_sized : {A : Type 0} (s : ObjectSite A) (ds : List (DeviceState A)) → AllByRecursion (IsNewDevice s) ds → AllByRecursion HasNumbers ds →
    AllByRecursion IsSized ds
all_sized s [] new numbers = tt
all_sized s (d ∷ ds) new numbers = (new_sized s d new.0 numbers.0, all_sized s ds new.1 numbers.1)

module _ {A : Type 0} (s : ObjectSite A) (w : AllStations A) (sized : AllByRecursion IsSized w.devices) where
  abbrev AreSized : AllStations A → Type 0
  AreSized v = AllByRecursion IsSized v.devices

  sized_at : (place : ℕ) (d : DeviceState A) → slice_get w.devices place ≡ Some d → IsSized d
  sized_at place d there = all_at IsSized w.devices place d sized there

  deed_sized : (place : ℕ) (d : DeviceState A) (plan : ServerPlan A) → slice_get w.devices place ≡ Some d →
      AreSized (device_does place (deed_by w.core.book.moment plan d) d w)
  deed_sized place d plan there =
      let server : ServerTsmState A = committed w.core.book.moment plan.change d.server in
      let left : DeviceState A = record d { server = server } in
      all_set IsSized w.devices place left sized
      (sized_itself d left (record { size = size_stays w.core.book.moment plan.change d.server; instance = refl; vendor = refl; station = refl })
      (sized_at place d there))

  issues_sized : (place instance : ℕ) (request : Request A) (o : Option Binding) (c : ClientState A) →
      AreSized (client_issues longest_of place instance request o c w)
  issues_sized place instance request None c = sized
  issues_sized place instance request (Some b) c = sized

  pub step_sized : (e : Event A) → AreSized (step longest_of s w e)
  step_sized (Passes n) = sized
  step_sized (Issues place instance request) = by_one AreSized _ w (slice_get w.clients place) (slice_get w.clients place) refl sized
      (λ c there. issues_sized place instance request (binding_of instance c.bindings) c)
  step_sized (Asks_who place) = by_one AreSized _ w (slice_get w.clients place) (slice_get w.clients place) refl sized (λ c there. sized)
  step_sized (Client_hears place m apdu found) = by_one AreSized _ w (slice_get w.clients place) (slice_get w.clients place) refl sized (λ c there. sized)
  step_sized (Client_learns place m way i) = by_one AreSized _ w (slice_get w.clients place) (slice_get w.clients place) refl sized (λ c there. sized)
  step_sized (Client_marks place reason net) = by_one AreSized _ w (slice_get w.clients place) (slice_get w.clients place) refl sized (λ c there. sized)
  step_sized (Client_wakes place) = by_one AreSized _ w (slice_get w.clients place) (slice_get w.clients place) refl sized (λ c there. sized)
  step_sized (Device_hears place m way by_broadcast apdu found) = by_one AreSized _ w (slice_get w.devices place) (slice_get w.devices place) refl sized
      (λ d there. deed_sized place d (asked_plan w.core.book.moment
      (record { station = m.from; way = way; by_broadcast = by_broadcast }) apdu found d) there)
  step_sized (Announces place) = by_one AreSized _ w (slice_get w.devices place) (slice_get w.devices place) refl sized
      (λ d there. all_set IsSized w.devices place d sized (sized_at place d there))
  step_sized (Device_wakes place) = by_one AreSized _ w (slice_get w.devices place) (slice_get w.devices place) refl sized (λ d there. deed_sized place d
      (woken w.core.book.moment d.server.records) there)
  step_sized (Restarts place) = by_one AreSized _ w (slice_get w.devices place) (slice_get w.devices place) refl sized (λ d there.
      let left : DeviceState A = restarts w.core.book.moment (s.opening (station_of d)) d in
      all_set IsSized w.devices place left sized
      (sized_itself d left (record { size = refl; instance = refl; vendor = refl; station = refl }) (sized_at place d there)))
