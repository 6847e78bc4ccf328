-- A world is seen as an internetwork, and each of its steps is one of that.
use Rattle.std.proofs.Common.{◌≡◌, ◌∙◌, refl, sym, ap, subst, ℕ, ◌+◌, List, [], ◌∷◌, ◌++◌, Option, Some}
use Rattle.std.specs.Prelude.{slice_get, slice_set}
use Rattle.carry.specs.Things.{Thing}
use Rattle.carry_said.specs.client.Client.{ClientState}
use Rattle.carry_said.specs.client.Saying.{parcels_of}
use Rattle.bindings.specs.Binding.{binding_of}
use Rattle.bindings.specs.declared.binding.Binding.{Binding}
use Rattle.carry_said.specs.client_tsm.Client as client
use Rattle.carry_said.specs.client_tsm.Waking as client_waking
use Rattle.carry_said.specs.device.Device.{DeviceState}
use Rattle.carry_said.specs.device.DeviceTold as device
use Rattle.carry_said.specs.headline_site.headline.Happenings as core
use Rattle.carry_said.specs.headline_site.headline.Happenings.{start}
use Rattle.history.specs.Book.{Broadcast, Other}
use Rattle.history.specs.declared.Entry.{Entry}
use Rattle.history.specs.declared.Entry.TheVariants.{Issue}
use Rattle.inside.specs.Inside.{Said}
use Rattle.carry_world.proofs.Lists.{at_one}
use Rattle.carry_world.proofs.Kept.{Inv, begins, device_brings, one_goes}
use Rattle.carry_world.specs.Internetwork.{Adds, Internetwork, IsDelivered}
use Rattle.carry_world.specs.InternetworkSteps as internetwork
use Rattle.carry_world.specs.InternetworkSteps.{Step, acts_itself, issue_says, passes_on}
use Rattle.npdu.specs.declared.mac.Mac.{Mac}
use Rattle.npdu.specs.declared.mac.Station.{Station}
use Rattle.npdu.specs.declared.parcel.Parcel.{Parcel}
use Rattle.carry_said.specs.headline_site.headline_bacnet.Protocol.{bacnet}
use Rattle.carry_said.specs.headline_site.headline_bacnet.Refined.{ObjectSite}
use Rattle.primitives.specs.declared.plain_data.Reply.{Reply}
use Rattle.primitives.specs.declared.plain_data.Request.{Request}
use Rattle.carry_said.specs.server_tsm.Waking as server_waking
use Rattle.carry_said.specs.headline_site.Fair.{IsFair, MayIssue, OfOne}
use Rattle.carry_said.specs.headline_site.AllStations as stations
use Rattle.carry_said.specs.headline_site.AllStations.{Asks_who, Client_wakes, Device_wakes, Event, Issues, Passes, Restarts, AllStations, client_does, deed_by, device_does, now, step, with_client}
use Rattle.carry_said.proofs.headline_site.headline_client.Places.{all_at}
use Rattle.carry_said.specs.headline_site.headline_client.Heard.{said_in}
use Rattle.carry_said.specs.headline_site.headline_client.Safe.{safe_client, station_of}
use Rattle.carry_said.specs.headline_site.headline_client.Told.{acts, row_of}
use Rattle.carry_said.proofs.headline_site.headline_device.Doing.{hearing_is_done}
use Rattle.carry_said.specs.headline_site.headline_device.Devices.{IsDevice, deed_in}
use Rattle.carry_world.specs.Laws.{IsFresh}
use Rattle.carry_world.specs.PlainSteps.{ArePlainSteps, ClientAsks, ClientHearsIt, ClientIssues, ClientWakes, DeviceHearsIt, DeviceRestarts, DeviceWakes, PlainStep, SomethingPasses, TimePasses, client_asks, client_hears, client_issues, client_wakes, device_hears, device_restarts, device_wakes, last_world, something_passes, time_passes}
use Rattle.carry_world.specs.PlainWorld.{Delivers, Key, PlainWorld, Puts, executed_told}
use Rattle.carry_said.specs.headline_site.headline_bacnet.Stations.{longest_of}
use Rattle.carry_world.proofs.Sizes.{all_sized}
use Rattle.carry_world.proofs.Keys.{deed_left, keys_length, keys_more, keys_of, outcomes_same}

-- what a world of stations is without its book
abbrev pub kept_of : {A : Type 0} → AllStations A → List (Thing A) → List Said → PlainWorld A
kept_of w ts l = record {
  moment = w.core.book.moment;
  clients = w.clients;
  devices = w.devices;
  keys = keys_of w.core.book.issues;
  history = w.core.book.history;
  things = ts;
  said = l;
}

module _ {A : Type 0} where
  -- by its fields
  kept_is : (q : PlainWorld A) (w : AllStations A) → q.moment ≡ w.core.book.moment → q.clients ≡ w.clients → q.devices ≡ w.devices →
      q.keys ≡ keys_of w.core.book.issues → q.history ≡ w.core.book.history → q ≡ kept_of w q.things q.said
  kept_is q w m c d k h =
      ap (λ (x : ℕ). record { moment = x; clients = q.clients; devices = q.devices; keys = q.keys; history = q.history; things = q.things; said = q.said }) m
      ∙ ap (λ (x : List (ClientState A)). record { moment = w.core.book.moment; clients = x; devices = q.devices; keys = q.keys; history = q.history; things = q.things; said = q.said }) c
      ∙ ap (λ (x : List (DeviceState A)). record { moment = w.core.book.moment; clients = w.clients; devices = x; keys = q.keys; history = q.history; things = q.things; said = q.said }) d
      ∙ ap (λ (x : List Key). record { moment = w.core.book.moment; clients = w.clients; devices = w.devices; keys = x; history = q.history; things = q.things; said = q.said }) k
      ∙ ap (λ (x : List (Entry Station (Request A)
      (Reply A))). record { moment = w.core.book.moment; clients = w.clients; devices = w.devices; keys = keys_of w.core.book.issues; history = x; things = q.things; said = q.said }) h

module _ {A : Type 0} (s : ObjectSite A) where
  -- a world is that of stations of which all holds that always holds
  pub record Seen (q : PlainWorld A) : Type 0 where
    pub world : AllStations A
    pub inv : Inv s world q.things q.said
    pub is : q ≡ kept_of world q.things q.said

  module _ (w : AllStations A) (ts : List (Thing A)) (l : List Said) (inv : Inv s w ts l) (q : PlainWorld A) where
    abbrev before : Internetwork A
    before = record { world = w; things = ts; said = l }

    abbrev then_of : AllStations A → Internetwork A
    then_of v = record { world = v; things = q.things; said = q.said }

    delivered : (net : ℕ) (mac : Mac) (p : Parcel A) → Delivers (kept_of w ts l) net mac p → IsDelivered before net mac p
    delivered net mac p k = record { thing = k.thing; there = k.there; on = k.on; bears = k.bears; reaches = k.reaches; young = k.young }

    adds : (v : AllStations A) (net : ℕ) (ps : List (Parcel A)) → Puts (kept_of w ts l) q net ps → Adds before (then_of v) net ps
    adds v net ps k = record { fresh = k.fresh; insides = k.insides; said = k.said; grows = k.grows }

    goes : (v : AllStations A) → Step s before (then_of v) → Inv s v q.things q.said
    goes v step = one_goes s before inv (then_of v) step

    -- a device hears
    device_seen : DeviceHearsIt (kept_of w ts l) q → Seen q
    device_seen k =
        let is = delivered k.d.net k.d.mac k.p k.delivered in
        let deed = deed_in w.core.book.moment k.p.from k.p.to k.p.npdu k.d k.told k.left k.hears in
        let v : AllStations A = device_does k.place deed k.d w in
        let stands : IsDevice s w.core k.d = all_at (λ z. IsDevice s w.core z) w.devices k.place k.d inv.stands.devices k.there in
        let done = hearing_is_done s w.core k.d k.left k.p.from k.p.to k.p.npdu k.told stands (device_brings s before inv k.place k.d k.p k.there is) k.hears in
        let left = deed_left k.d deed w.core in
        record {
          world = v;
          inv = goes v (internetwork.device_hears (record {
            place = k.place;
            d = k.d;
            left = k.left;
            p = k.p;
            told = k.told;
            there = k.there;
            delivered = is;
            hears = k.hears;
            world = refl;
            adds = adds v k.d.net k.told.said k.puts;
          }));
          is = kept_is q v (k.moment ∙ sym left.moment) k.clients
              (k.devices ∙ ap (λ (z : DeviceState A). slice_set w.devices k.place z) done.left_is)
              (k.keys ∙ sym (ap (λ xs. keys_of xs) left.issues))
              (k.history ∙ ap (λ (t : device.DeviceTold A). executed_told w.core.book.moment t.executed
              (keys_of w.core.book.issues) w.core.book.history) done.told_is ∙ sym left.history);
        }

    -- a client hears
    client_seen : ClientHearsIt (kept_of w ts l) q → Seen q
    client_seen k =
        let says = said_in w.core.book.moment k.p.from k.p.to k.p.npdu k.c k.told k.next k.hears in
        let v : AllStations A = with_client k.place k.next (acts longest_of (station_of k.c) says k.told.outcomes (safe_client longest_of k.next) w.core) w in
        record {
          world = v;
          inv = goes v (internetwork.client_hears (record {
            place = k.place;
            c = k.c;
            next = k.next;
            p = k.p;
            told = k.told;
            there = k.there;
            delivered = delivered k.c.net k.c.mac k.p k.delivered;
            hears = k.hears;
            world = refl;
            adds = adds v k.c.net k.told.said k.puts;
          }));
          is = kept_is q v k.moment k.clients k.devices k.keys
              (k.history ∙ outcomes_same (station_of k.c) w.core.book.moment w.core.book.issues k.told.outcomes w.core.book.history);
        }

    -- an event that a station makes itself
    own_seen : (e : Event A) (net : ℕ) (ps : List (Parcel A)) → IsFair longest_of w e → internetwork.SaysParcels w e net ps →
        Puts (kept_of w ts l) q net ps → q ≡ kept_of (step longest_of s w e) q.things q.said → Seen q
    own_seen e net ps fair says puts is = record {
      world = step longest_of s w e;
      inv = goes (step longest_of s w e) (acts_itself (record {
        event = e;
        net = net;
        ps = ps;
        fair = fair;
        says = says;
        world = refl;
        adds = adds (step longest_of s w e) net ps puts;
      }));
      is = is;
    }

    -- what it leaves, at the one at a place
    abbrev IsKept : AllStations A → Type 0
    IsKept v = q ≡ kept_of v q.things q.said

    -- a client issues
    issue_kept : (k : ClientIssues (kept_of w ts l) q) (o : Option Binding) → o ≡ Some k.issues.binding →
        IsKept (stations.client_issues longest_of k.place k.instance k.request o k.c w)
    issue_kept k o held = subst (λ (z : Option Binding). IsKept (stations.client_issues longest_of k.place k.instance k.request z k.c w)) (sym held)
        (let v = stations.client_issues longest_of k.place k.instance k.request (Some k.issues.binding) k.c w in
        kept_is q v k.moment
        (k.clients ∙ ap (λ (z : ClientState A). slice_set w.clients k.place z) k.issues.left)
        k.devices
        (k.keys ∙ ap (λ (i : ℕ). keys_of w.core.book.issues ++ record { client = station_of k.c; invoke_id = i } ∷ []) k.issues.id
        ∙ sym (keys_more w.core.book.issues (row_of longest_of (station_of k.c) w.core.book.moment k.instance k.request k.issues.binding.bound k.c.machine)))
        (k.history ∙ ap (λ (i : ℕ). w.core.book.history ++ Issue i (station_of k.c) k.instance k.request w.core.book.moment ∷ [])
        (keys_length w.core.book.issues)))

    issues_seen : ClientIssues (kept_of w ts l) q → Seen q
    issues_seen k = own_seen (Issues k.place k.instance k.request) k.c.net k.told.said
        (subst (λ o. OfOne (λ c. MayIssue w.core.book.moment k.instance k.request c) o) (sym k.there) (k.sound, k.free))
        (record {
          c = k.c;
          there = k.there;
          on = refl;
          are = k.issues.said ∙ ap (λ (o : Option Binding). parcels_of w.core.book.moment k.c.mac (issue_says w.core.book.moment k.request o k.c))
              (sym k.issues.held);
        })
        k.puts
        (at_one IsKept (λ c v. stations.client_issues longest_of k.place k.instance k.request (binding_of k.instance c.bindings) c v) w
        (slice_get w.clients k.place) k.c k.there
        (issue_kept k (binding_of k.instance k.c.bindings) k.issues.held))

    -- a client asks
    asks_seen : ClientAsks (kept_of w ts l) q → Seen q
    asks_seen k = own_seen (Asks_who k.place) k.c.net _ tt (record { c = k.c; limits = k.limits; there = k.there; on = refl; are = refl }) k.puts
        (at_one IsKept (λ c v. record v { core = core.says (station_of c) Broadcast (Other ∷ []) v.core }) w (slice_get w.clients k.place) k.c k.there
        (kept_is q (record w { core = core.says (station_of k.c) Broadcast (Other ∷ []) w.core }) k.moment k.clients k.devices k.keys k.history))

    -- a client wakes
    wakes_seen : ClientWakes (kept_of w ts l) q → Seen q
    wakes_seen k =
        let plan = client_waking.woken w.core.book.moment k.c.machine.open_ones in
        own_seen (Client_wakes k.place) k.c.net _ tt (record { c = k.c; there = k.there; on = refl; are = refl }) k.puts
        (at_one IsKept (λ c v. client_does longest_of k.place (client_waking.woken (now v) c.machine.open_ones) c v) w (slice_get w.clients k.place) k.c k.there
        (kept_is q (client_does longest_of k.place plan k.c w) k.moment k.clients k.devices k.keys
        (k.history ∙ outcomes_same (station_of k.c) w.core.book.moment w.core.book.issues plan.told w.core.book.history)))

    -- a device wakes
    device_wakes_seen : DeviceWakes (kept_of w ts l) q → Seen q
    device_wakes_seen k =
        let deed = deed_by w.core.book.moment (server_waking.woken w.core.book.moment k.d.server.records) k.d in
        let left = deed_left k.d deed w.core in
        own_seen (Device_wakes k.place) k.d.net _ tt (record { d = k.d; there = k.there; on = refl; are = refl }) k.puts
        (at_one IsKept (λ d v. device_does k.place (deed_by (now v) (server_waking.woken (now v) d.server.records) d) d v) w
        (slice_get w.devices k.place) k.d k.there
        (kept_is q (device_does k.place deed k.d w) (k.moment ∙ sym left.moment) k.clients k.devices (k.keys
        ∙ sym (ap (λ xs. keys_of xs) left.issues)) (k.history ∙ sym left.history)))

    -- a device restarts
    restarts_seen : DeviceRestarts s (kept_of w ts l) q → Seen q
    restarts_seen k = own_seen (Restarts k.place) k.d.net [] tt refl k.puts
        (at_one IsKept (λ d v. stations.device_restarts s k.place d v) w (slice_get w.devices k.place) k.d k.there
        (kept_is q (stations.device_restarts s k.place k.d w) k.moment k.clients k.devices k.keys k.history))

    -- time passes
    time_seen : TimePasses (kept_of w ts l) q → Seen q
    time_seen k = own_seen (Passes k.n) 0 [] tt refl k.puts
        (kept_is q (step longest_of s w (Passes k.n)) k.moment k.clients k.devices k.keys k.history)

    -- something is passed on
    passes_seen : SomethingPasses (kept_of w ts l) q → Seen q
    passes_seen k = record {
      world = w;
      inv = goes w (passes_on (record { world = refl; said = k.said; grows = k.grows }));
      is = kept_is q w k.moment k.clients k.devices k.keys k.history;
    }

    pub step_seen : PlainStep s (kept_of w ts l) q → Seen q
    step_seen (device_hears k) = device_seen k
    step_seen (client_hears k) = client_seen k
    step_seen (client_issues k) = issues_seen k
    step_seen (client_asks k) = asks_seen k
    step_seen (client_wakes k) = wakes_seen k
    step_seen (device_wakes k) = device_wakes_seen k
    step_seen (device_restarts k) = restarts_seen k
    step_seen (time_passes k) = time_seen k
    step_seen (something_passes k) = passes_seen k

  one_seen : (p q : PlainWorld A) → Seen p → PlainStep s p q → Seen q
  one_seen p q seen k = step_seen seen.world p.things p.said seen.inv q (subst (λ (z : PlainWorld A). PlainStep s z q) seen.is k)

  pub all_seen : (vs : List (PlainWorld A)) (p : PlainWorld A) → Seen p → ArePlainSteps s vs p → Seen (last_world vs p)
  all_seen [] p seen steps = seen
  all_seen (q ∷ vs) p seen steps = all_seen vs q (one_seen p q seen steps.0) steps.1

pub fresh_seen : {A : Type 0} (s : ObjectSite A) (p : PlainWorld A) → IsFresh s p → Seen s p
fresh_seen {A} s p fresh =
    let w : AllStations A = record { core = start (bacnet A) s; clients = p.clients; devices = p.devices } in
    record {
      world = w;
      inv = begins s (record { world = w; things = p.things; said = p.said }) (record {
        world = record {
          core = refl;
          clients = fresh.clients;
          devices = fresh.devices;
          apart = record { clients = fresh.clients_apart; devices = fresh.devices_apart };
        };
        nothing = fresh.things;
        silent = fresh.said;
        sized = all_sized s p.devices fresh.devices fresh.numbers;
      });
      is = kept_is p w fresh.moment refl refl fresh.keys fresh.history;
    }
