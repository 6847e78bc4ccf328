-- What a station says by itself is carried.
use Rattle.carry_said.specs.headline_site.headline_bacnet.Stations.{longest_of}
use Rattle.std.proofs.Common.{◌≡◌, ⊎_elim, refl, sym, subst, ℕ, List, [], ◌∷◌, Option, Some, None}
use Rattle.std.specs.Prelude.{slice_get}
use Rattle.std.specs.List.{AllByRecursion}
use Rattle.carry_said.specs.client.Client.{ClientState}
use Rattle.carry_said.specs.client.Saying.{parcels_of, who_is_parcel}
use Rattle.carry_said.specs.client.declared.plan.ClientIssued.{ClientIssued}
use Rattle.bindings.specs.Binding.{binding_of}
use Rattle.bindings.specs.declared.binding.Binding.{Binding}
use Rattle.carry_said.specs.client_tsm.Client as client
use Rattle.carry_said.specs.client_tsm.Issuing.{issued}
use Rattle.carry_said.specs.client_tsm.Waking as client_waking
use Rattle.carry_said.specs.device.Device.{DeviceState}
use Rattle.carry_said.specs.headline_site.headline.Happenings as core
use Rattle.history.proofs.Lists.{has_cons, none_has}
use Rattle.history.specs.Book.{Broadcast, Other}
use Rattle.history.specs.Lists.{Has}
use Rattle.npdu.specs.declared.parcel.Parcel.{Parcel}
use Rattle.carry_said.specs.headline_site.headline_bacnet.Refined.{ObjectSite}
use Rattle.primitives.specs.declared.plain_data.Request.{Request}
use Rattle.carry_said.proofs.Clients.{client_asks, client_issues, client_says}
use Rattle.carry_said.proofs.Devices.{device_says}
use Rattle.carry_said.specs.Said.{CarriesSaid, ObjectBook}
use Rattle.carry_said.specs.server_tsm.Waking as server_waking
use Rattle.carry_said.specs.headline_site.Fair.{IsFair, MayIssue, OfOne, Stands}
use Rattle.carry_said.specs.headline_site.AllStations.{Announces, Asks_who, Client_hears, Client_learns, Client_marks, Client_wakes, Device_hears, Device_wakes, Event, Issues, Passes, Restarts, AllStations, client_does, deed_by, device_does, step}
use Rattle.carry_said.specs.headline_site.AllStations as stations
use Rattle.carry_said.proofs.headline_site.headline_client.Laws.{issuing, waking}
use Rattle.carry_said.proofs.headline_site.headline_client.Places.{all_at}
use Rattle.carry_said.specs.headline_site.headline_client.Laws.{IsClient}
use Rattle.carry_said.specs.headline_site.headline_client.Safe.{safe_client, station_of}
use Rattle.carry_said.specs.headline_site.headline_client.Told.{row_of}
use Rattle.carry_said.specs.headline_site.headline_device.Devices.{Deed, announces}
use Rattle.carry_world.specs.Internetwork.{IsSized}
use Rattle.carry_world.specs.InternetworkSteps.{SaysParcels, issue_says}
use Rattle.carry_world.proofs.Lists.{at_one}

module _ {A : Type 0} (s : ObjectSite A) (w : AllStations A) (at : Stands longest_of s w) (sized : AllByRecursion IsSized w.devices) where
  -- all that was said by then is inside the parcel
  abbrev Carries : ℕ → Parcel A → AllStations A → Type 0
  Carries net p v = CarriesSaid longest_of v.core.book net p

  is_client : (place : ℕ) (c : ClientState A) → slice_get w.clients place ≡ Some c → IsClient longest_of w.core c
  is_client place c there = all_at (λ z. IsClient longest_of w.core z) w.clients place c at.clients there

  -- a client issues
  issues_carry : (place instance : ℕ) (request : Request A) (c : ClientState A) (p : Parcel A) → slice_get w.clients place ≡ Some c →
      MayIssue w.core.book.moment instance request c → (o : Option Binding) → binding_of instance c.bindings ≡ o →
      Has (parcels_of w.core.book.moment c.mac (issue_says w.core.book.moment request o c)) p →
      Carries c.net p (stations.client_issues longest_of place instance request o c w)
  issues_carry place instance request c p there fair None held said = absurd (none_has said)
  issues_carry place instance request c p there fair (Some b) held said =
      let now = w.core.book.moment in
      let plan = issued now request b.bound c.machine in
      let next : ClientState A = record c { machine = client.committed now plan.change c.machine } in
      let told : ClientIssued A = record { invoke_id = c.machine.next; said = parcels_of now c.mac plan.said } in
      let done = issuing longest_of s w.core instance request c told next (is_client place c there) fair.0 fair.1
      (record { binding = b; held = held; id = refl; said = refl; left = refl }) in
      client_issues longest_of w.core c (row_of longest_of (station_of c) now instance request b.bound c.machine) plan.said
      (safe_client longest_of next) p done.written said

  -- a client wakes
  wakes_carry : (place : ℕ) (c : ClientState A) (p : Parcel A) → slice_get w.clients place ≡ Some c →
      Has (parcels_of w.core.book.moment c.mac (client_waking.woken w.core.book.moment c.machine.open_ones).said) p →
      Carries c.net p (client_does longest_of place (client_waking.woken w.core.book.moment c.machine.open_ones) c w)
  wakes_carry place c p there said =
      let now = w.core.book.moment in
      let plan = client_waking.woken now c.machine.open_ones in
      let next : ClientState A = record c { machine = client.committed now plan.change c.machine } in
      let done = waking longest_of s w.core c (is_client place c there) in
      client_says longest_of w.core c plan.said plan.told (safe_client longest_of next) p done.written said

  -- a device does something
  deed_carries : (place : ℕ) (d : DeviceState A) (deed : Deed A) (p : Parcel A) → slice_get w.devices place ≡ Some d →
      Has (Rattle.carry_said.specs.headline_site.headline_device.Devices.told_of_deed w.core.book.moment d deed).said p → Carries d.net p (device_does place deed d w)
  deed_carries place d deed p there said = device_says longest_of w.core d deed p (all_at IsSized w.devices place d sized there).numbers said

  of_them : (ps qs : List (Parcel A)) (p : Parcel A) → ps ≡ qs → Has ps p → Has qs p
  of_them ps qs p e h = subst (λ (l : List (Parcel A)). Has l p) e h

  on_net : (net other : ℕ) (p : Parcel A) (b : ObjectBook A) → net ≡ other → CarriesSaid longest_of b other p → CarriesSaid longest_of b net p
  on_net net other p b e h = subst (λ n. CarriesSaid longest_of b n p) (sym e) h

  -- each event
  pub event_carries : (e : Event A) → IsFair longest_of w e → (net : ℕ) (ps : List (Parcel A)) → SaysParcels w e net ps → (p : Parcel A) → Has ps p →
      Carries net p (step longest_of s w e)
  event_carries (Passes n) fair net ps k p there = absurd (none_has (of_them ps [] p k there))
  event_carries (Issues place instance request) fair net ps k p there =
      at_one (Carries net p) (λ c v. stations.client_issues longest_of place instance request (binding_of instance c.bindings) c v) w
      (slice_get w.clients place) k.c k.there
      (on_net net k.c.net p _ k.on (issues_carry place instance request k.c p k.there
      (subst (λ o. OfOne (λ c. MayIssue w.core.book.moment instance request c) o) k.there fair) (binding_of instance k.c.bindings) refl
      (of_them ps _ p k.are there)))
  event_carries (Asks_who place) fair net ps k p there =
      at_one (Carries net p) (λ c v. record v { core = core.says (station_of c) Broadcast (Other ∷ []) v.core }) w (slice_get w.clients place) k.c k.there
      (on_net net k.c.net p _ k.on (⊎_elim
      (λ (same : who_is_parcel w.core.book.moment k.c.mac k.limits ≡ p). subst (λ (q : Parcel A). CarriesSaid longest_of (core.says
      (station_of k.c) Broadcast (Other ∷ []) w.core).book k.c.net q) same (client_asks longest_of w.core k.c k.limits))
      (λ (more : Has [] p). absurd (none_has more))
      (has_cons (who_is_parcel w.core.book.moment k.c.mac k.limits) [] (of_them ps _ p k.are there))))
  event_carries (Client_hears place m apdu found) fair net ps k p there = absurd k
  event_carries (Client_learns place m way i) fair net ps k p there = absurd k
  event_carries (Client_marks place reason other) fair net ps k p there = absurd k
  event_carries (Client_wakes place) fair net ps k p there =
      at_one (Carries net p) (λ c v. client_does longest_of place (client_waking.woken (stations.now v) c.machine.open_ones) c v) w
      (slice_get w.clients place) k.c k.there
      (on_net net k.c.net p _ k.on (wakes_carry place k.c p k.there (of_them ps _ p k.are there)))
  event_carries (Device_hears place m way by_broadcast apdu found) fair net ps k p there = absurd k
  event_carries (Announces place) fair net ps k p there =
      at_one (Carries net p) (λ d v. device_does place announces d v) w (slice_get w.devices place) k.d k.there
      (on_net net k.d.net p _ k.on (deed_carries place k.d announces p k.there (of_them ps _ p k.are there)))
  event_carries (Device_wakes place) fair net ps k p there =
      at_one (Carries net p) (λ d v. device_does place (deed_by (stations.now v) (server_waking.woken (stations.now v) d.server.records) d) d v) w
      (slice_get w.devices place) k.d k.there
      (on_net net k.d.net p _ k.on (deed_carries place k.d (deed_by w.core.book.moment
      (server_waking.woken w.core.book.moment k.d.server.records) k.d) p k.there (of_them ps _ p k.are there)))
  event_carries (Restarts place) fair net ps k p there = absurd (none_has (of_them ps [] p k there))
