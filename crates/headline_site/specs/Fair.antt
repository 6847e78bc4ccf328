-- Which events are fair: what is asked of the network and of those who issue requests. And how a site begins.
use Rattle.std.specs.Prelude.{◌≡◌, ◌<◌, ℕ, Bool, List, [], ◌∷◌, map, Option, None, Some, Result, slice_get}
use Rattle.std.specs.List.{AllByRecursion}
use Rattle.apdu.specs.Apdu.{apdu_of, HasNamedNumbers}
use Rattle.apdu.specs.Sizes.{apdu_code}
use Rattle.apdu.specs.declared.apdu.Apdu.{Apdu}
use Rattle.apdu.specs.declared.numbers.RejectReason.{RejectReason}
use Rattle.apdu.specs.declared.sizes.MaxApdu.{MaxApdu}
use Rattle.apdu.specs.declared.unconfirmed.IAm.{IAm}
use Rattle.headline_client.specs.client.Client.{ClientState, new_client}
use Rattle.headline_client.specs.client.Issuing.{refusal}
use Rattle.headline_client.specs.client_tsm.Hearing as client_hearing
use Rattle.headline_client.specs.client_tsm.Steps as client_steps
use Rattle.headline_device.specs.Devices.{IsDevice}
use Rattle.headline_device.specs.Devices as deeds
use Rattle.headline_device.specs.device.Device.{DeviceState, new_device}
use Rattle.headline.specs.Happenings.{start}
use Rattle.headline.specs.Honest.{IsHeard}
use Rattle.history.specs.Book.{I_am, Message}
use Rattle.npdu.specs.declared.mac.Station.{Station}
use Rattle.npdu.specs.declared.mac.Way.{Way}
use Rattle.headline_client.specs.headline_bacnet.Bodies.{Says, led_to}
use Rattle.headline_client.specs.headline_bacnet.Protocol.{bacnet}
use Rattle.headline_client.specs.headline_bacnet.Refined.{ObjectSite}
use Rattle.headline_client.specs.headline_bacnet.Stations.{kind_of}
use Rattle.object_model.specs.Site.{opening_table}
use Rattle.object_model.specs.declared.site.SiteObjects.{SiteObjects}
use Rattle.primitives.specs.Sound.{IsSoundRequest}
use Rattle.primitives.specs.declared.plain_data.Reply.{Reply}
use Rattle.primitives.specs.declared.plain_data.Request.{Request}
use Rattle.headline_device.specs.remembered.Records.{AreDistinct}
use Rattle.headline_device.specs.server_tsm.Hearing as server_hearing
use Rattle.headline_device.specs.server_tsm.Steps as server_steps
use Rattle.headline_client.specs.Laws.{IsClient}
use Rattle.headline_client.specs.Safe.{station_of}
use Rattle.headline_site.specs.AllStations.{Event, Passes, Issues, Asks_who, Client_hears, Client_learns, Client_marks}
use Rattle.headline_site.specs.AllStations.{Client_wakes, Device_hears, Announces, Device_wakes, Restarts, AllStations}
use Rattle.headline_site.specs.AllStations.{now, step}

-- a sound request is issued, which isn't refused (5.4.4.1)
abbrev pub MayIssue : {A : Type 0} → ℕ → (instance : ℕ) → Request A → ClientState A → Type 0
MayIssue now instance request c = IsSoundRequest request × (refusal now instance request c ≡ None)

-- a client hears a message in an APDU that says it: it was said, to this station, at most LIFE ago; this is found in it
pub record ClientMayHear {A : Type 0} (own : Station → MaxApdu) (w : AllStations A) (m : Message Station) (apdu : Apdu)
    (found : Option (Reply A)) (c : ClientState A) : Type 0 where
  pub heard : IsHeard w.core.book (station_of c) m
  pub body : Says (own (station_of c)) (apdu_of apdu) m.body
  pub named : HasNamedNumbers apdu
  pub means : client_steps.IsFound
      (client_hearing.reached (now w) m.from (client_hearing.heard_of apdu) c.machine) found

-- a client hears a message in an I-Am that says it, on a way that leads back
pub record ClientMayLearn {A : Type 0} (w : AllStations A) (m : Message Station) (way : Way) (i : IAm)
    (c : ClientState A) : Type 0 where
  pub heard : IsHeard w.core.book (station_of c) m
  pub body : m.body ≡ I_am i.instance
  pub back : led_to c.net way ≡ m.from

-- a device hears a message in an APDU that says it, on a way that leads back; this is found in it
pub record DeviceMayHear {A : Type 0} (w : AllStations A) (m : Message Station) (way : Way) (by_broadcast : Bool)
    (apdu : Apdu) (found : Option (Result (Request A) RejectReason)) (d : DeviceState A) : Type 0 where
  pub heard : IsHeard w.core.book (deeds.station_of d) m
  pub body : Says d.server.max_apdu (apdu_of apdu) m.body
  pub named : HasNamedNumbers apdu
  pub back : led_to d.net way ≡ m.from
  pub means : server_steps.IsFound
      (server_hearing.reached (now w) (record { station = m.from; way = way; by_broadcast = by_broadcast })
      (server_hearing.heard_of apdu) d.server) found

-- this holds of the one at a place, if there is one
abbrev pub OfOne : {X : Type 0} → (X → Type 0) → Option X → Type 0
OfOne P None = Unit {0}
OfOne P (Some x) = P x

-- what is asked of each event
abbrev pub IsFair : {A : Type 0} → (own : Station → MaxApdu) → AllStations A → Event A → Type 0
IsFair own w (Passes n) = Unit {0}
IsFair own w (Issues place instance request) =
    OfOne (λ c. MayIssue (now w) instance request c) (slice_get w.clients place)
IsFair own w (Asks_who place) = Unit {0}
IsFair own w (Client_hears place m apdu found) =
    OfOne (λ c. ClientMayHear own w m apdu found c) (slice_get w.clients place)
IsFair own w (Client_learns place m way i) = OfOne (λ c. ClientMayLearn w m way i c) (slice_get w.clients place)
IsFair own w (Client_marks place reason net) = Unit {0}
IsFair own w (Client_wakes place) = Unit {0}
IsFair own w (Device_hears place m way by_broadcast apdu found) =
    OfOne (λ d. DeviceMayHear w m way by_broadcast apdu found d) (slice_get w.devices place)
IsFair own w (Announces place) = Unit {0}
IsFair own w (Device_wakes place) = Unit {0}
IsFair own w (Restarts place) = Unit {0}

-- each of a list is, at its moment
abbrev pub AreFair : {A : Type 0} → (own : Station → MaxApdu) → ObjectSite A → List (Event A) → AllStations A → Type 0
AreFair own s [] w = Unit {0}
AreFair own s (e ∷ es) w = IsFair own w e × AreFair own s es (step own s w e)

-- a client that has asked nothing
pub record IsNewClient {A : Type 0} (c : ClientState A) : Type 0 where
  pub address : Station
  pub segmented : Bool
  pub max_apdu : MaxApdu
  pub code : apdu_code max_apdu < 16
  pub is : c ≡ new_client address segmented max_apdu

-- a device of the site, with its opening objects, on the kind of link that its address is of
pub record IsNewDevice {A : Type 0} (s : ObjectSite A) (d : DeviceState A) : Type 0 where
  pub objects : SiteObjects A
  pub address : Station
  pub instance : s.instance_of address ≡ Some objects.instance
  pub opening : s.opening address ≡ opening_table objects
  pub link : objects.data_link ≡ kind_of address.mac
  pub is : d ≡ new_device objects address

-- no two clients are at one station, and no two devices
pub record AreApart {A : Type 0} (w : AllStations A) : Type 0 where
  pub clients : AreDistinct (map station_of w.clients)
  pub devices : AreDistinct (map deeds.station_of w.devices)

-- nothing has happened yet
pub record IsBegun {A : Type 0} (s : ObjectSite A) (w : AllStations A) : Type 0 where
  pub core : w.core ≡ start (bacnet A) s
  pub clients : AllByRecursion IsNewClient w.clients
  pub devices : AllByRecursion (IsNewDevice s) w.devices
  pub apart : AreApart w

-- the core is what safety sees of each client and device
pub record Stands {A : Type 0} (own : Station → MaxApdu) (s : ObjectSite A) (w : AllStations A) : Type 0 where
  pub clients : AllByRecursion (λ c. IsClient own w.core c) w.clients
  pub devices : AllByRecursion (λ d. IsDevice s w.core d) w.devices
  pub apart : AreApart w
