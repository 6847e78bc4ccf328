-- The core stays what safety sees of each station, where one of them makes a step.
use Rattle.std.proofs.Common.{◌≡◌, ◌≢◌, refl, sym, ap, subst, ◌∙◌, ℕ, ◌≤◌, Some, arith}
use Rattle.std.specs.Prelude.{slice_get}
use Rattle.apdu.specs.declared.sizes.MaxApdu.{MaxApdu}
use Rattle.headline_client.specs.client.Client.{ClientState}
use Rattle.headline_device.proofs.Doing.{others_stand}
use Rattle.headline_device.specs.Devices.{Deed, IsDevice, after_deed, announces, idles, left_of_deed, serves}
use Rattle.headline_device.specs.Devices as deeds
use Rattle.headline_device.specs.device.Device.{DeviceState}
use Rattle.headline.proofs.Puts.{put_here}
use Rattle.headline.specs.Happenings.{put}
use Rattle.headline.specs.Stations.{Client}
use Rattle.npdu.specs.Mac.{same_station}
use Rattle.npdu.specs.declared.mac.Station.{Station}
use Rattle.headline_client.specs.headline_bacnet.Laws.{object_laws}
use Rattle.headline_client.proofs.headline_bacnet.Places.{put_other}
use Rattle.headline_client.specs.headline_bacnet.Refined.{ObjectSite, Refined, ObjectCore}
use Rattle.primitives.specs.declared.plain_data.Request.{Request}
use Rattle.headline_device.specs.remembered.Records.{AreDistinct}
use Rattle.headline_device.specs.headline_server.Refines.{begun_anew}
use Rattle.headline_client.proofs.Places.{all_weaken}
use Rattle.headline_client.specs.Kept.{IsWellKept}
use Rattle.headline_client.specs.Laws.{IsClient}
use Rattle.headline_client.specs.Safe.{safe_client, station_of}
use Rattle.headline_site.specs.Fair.{Stands}
use Rattle.headline_site.specs.Laws.{Goes}
use Rattle.headline_site.specs.AllStations.{AllStations, device_does, with_client, with_device}
use Rattle.headline_site.proofs.Lists.{all_replaced, stations_stay}

module _ {A : Type 0} (own : Station → MaxApdu) (s : ObjectSite A) (w : AllStations A) (at : Stands own s w) where
  -- the clients change at one station, and nothing else that a station is seen by
  pub record OfClient (c : Station) (v : Client Station (Request A)) (k : ObjectCore A) : Type 0 where
    pub clients : k.clients ≡ put same_station w.core.clients c v
    pub devices : k.devices ≡ w.core.devices
    pub moment : k.book.moment ≡ w.core.book.moment

  client_others : (c : ClientState A) (v : Client Station (Request A)) (k : ObjectCore A) → OfClient (station_of c) v k → (z : ClientState A) →
      station_of z ≢ station_of c → IsClient own w.core z → IsClient own k z
  client_others c v k of z apart is = record {
    seen = ap (λ (f : Station → Client Station (Request A)). f (station_of z)) of.clients ∙ put_other w.core.clients (station_of c) (station_of z) v apart
        ∙ is.seen;
    kept = is.kept;
  }

  device_still : (k : ObjectCore A) → k.devices ≡ w.core.devices → w.core.book.moment ≤ k.book.moment → (d : DeviceState A) → IsDevice s w.core d →
      IsDevice s k d
  device_still k same later d is = record {
    instance = is.instance;
    served = record {
      device = ap (λ (f : Station → _). f (deeds.station_of d)) same ∙ is.served.device;
      well = is.served.well;
      order = let order = is.served.order in omega arith;
    };
  }

  -- a client goes on
  pub client_goes : (place : ℕ) (c next : ClientState A) (k : ObjectCore A) → slice_get w.clients place ≡ Some c → station_of next ≡ station_of c →
      OfClient (station_of c) (safe_client own next) k → IsWellKept next → Refined s w.core k → Goes own s w (with_client place next k w)
  client_goes place c next k there stays of kept refined = record {
    refined = refined;
    stands = record {
      clients = all_replaced station_of (λ z. IsClient own w.core z) (λ z. IsClient own k z) w.clients place c next there at.apart.clients at.clients
          (client_others c (safe_client own next) k of) (record {
            seen = ap (λ (f : Station → Client Station (Request A)). f (station_of next)) of.clients
                ∙ subst (λ x. put same_station w.core.clients (station_of c) (safe_client own next) x ≡ safe_client own next) (sym stays)
                (put_here (object_laws A).test w.core.clients (station_of c) (safe_client own next));
            kept = kept;
          });
      devices = all_weaken (λ d. IsDevice s w.core d) (λ d. IsDevice s k d) w.devices
          (λ d is. device_still k of.devices (let same = of.moment in omega arith) d is) at.devices;
      apart = record {
        clients = subst (λ l. AreDistinct l) (sym (stations_stay station_of w.clients place c next there stays)) at.apart.clients;
        devices = at.apart.devices;
      };
    };
  }

  -- the core alone goes on: the stations are seen as before
  pub core_goes : (k : ObjectCore A) → k.clients ≡ w.core.clients → k.devices ≡ w.core.devices → w.core.book.moment ≤ k.book.moment → Refined s w.core k →
      Goes own s w (record w { core = k })
  core_goes k clients devices later refined = record {
    refined = refined;
    stands = record {
      clients = all_weaken (λ c. IsClient own w.core c) (λ c. IsClient own k c) w.clients
          (λ c is. record { seen = ap (λ (f : Station → Client Station (Request A)). f (station_of c)) clients ∙ is.seen; kept = is.kept }) at.clients;
      devices = all_weaken (λ d. IsDevice s w.core d) (λ d. IsDevice s k d) w.devices (device_still k devices later) at.devices;
      apart = record { clients = at.apart.clients; devices = at.apart.devices };
    };
  }

  -- a device goes on: the others stand, and the clients are seen as before
  pub device_goes : (place : ℕ) (d left : DeviceState A) (k : ObjectCore A) → slice_get w.devices place ≡ Some d →
      deeds.station_of left ≡ deeds.station_of d → k.clients ≡ w.core.clients →
      ((z : DeviceState A) → deeds.station_of z ≢ deeds.station_of d → IsDevice s w.core z → IsDevice s k z) → IsDevice s k left → Refined s w.core k →
      Goes own s w (with_device place left k w)
  device_goes place d left k there stays clients others mine refined = record {
    refined = refined;
    stands = record {
      clients = all_weaken (λ c. IsClient own w.core c) (λ c. IsClient own k c) w.clients
          (λ c is. record { seen = ap (λ (f : Station → Client Station (Request A)). f (station_of c)) clients ∙ is.seen; kept = is.kept }) at.clients;
      devices = all_replaced deeds.station_of (λ z. IsDevice s w.core z) (λ z. IsDevice s k z) w.devices place d left there at.apart.devices at.devices others
          mine;
      apart = record {
        clients = at.apart.clients;
        devices = subst (λ l. AreDistinct l) (sym (stations_stay deeds.station_of w.devices place d left there stays)) at.apart.devices;
      };
    };
  }

  deed_clients : (d : DeviceState A) (deed : Deed A) → (after_deed d deed w.core).clients ≡ w.core.clients
  deed_clients d (serves server_told left) = refl
  deed_clients d announces = refl
  deed_clients d idles = refl

  deed_stays : (d : DeviceState A) (deed : Deed A) → deeds.station_of (left_of_deed d deed) ≡ deeds.station_of d
  deed_stays d (serves server_told left) = refl
  deed_stays d announces = refl
  deed_stays d idles = refl

  pub deed_goes : (place : ℕ) (d : DeviceState A) (deed : Deed A) → slice_get w.devices place ≡ Some d →
      IsDevice s (after_deed d deed w.core) (left_of_deed d deed) → Refined s w.core (after_deed d deed w.core) → Goes own s w (device_does place deed d w)
  deed_goes place d deed there mine refined =
      device_goes place d (left_of_deed d deed) (after_deed d deed w.core) there (deed_stays d deed) (deed_clients d deed)
      (λ z apart is. others_stand s w.core d z deed apart is) mine refined

  -- all others are as before where a device restarts
  anew_others : (d : DeviceState A) (left : DeviceState A) (z : DeviceState A) → deeds.station_of z ≢ deeds.station_of d → IsDevice s w.core z →
      IsDevice s (begun_anew (deeds.station_of d) d.instance left.server w.core) z
  anew_others d left z apart is = record {
    instance = is.instance;
    served = record {
      device = put_other w.core.devices (deeds.station_of d) (deeds.station_of z) _ apart ∙ is.served.device;
      well = is.served.well;
      order = is.served.order;
    };
  }

  pub anew_goes : (place : ℕ) (d left : DeviceState A) → slice_get w.devices place ≡ Some d → deeds.station_of left ≡ deeds.station_of d →
      IsDevice s (begun_anew (deeds.station_of d) d.instance left.server w.core) left →
      Refined s w.core (begun_anew (deeds.station_of d) d.instance left.server w.core) →
      Goes own s w (with_device place left (begun_anew (deeds.station_of d) d.instance left.server w.core) w)
  anew_goes place d left there stays mine refined =
      device_goes place d left (begun_anew (deeds.station_of d) d.instance left.server w.core) there stays refl (anew_others d left) mine refined
