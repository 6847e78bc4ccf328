-- The devices of a sound site are a site of the promise, and open as its devices.
use Rattle.std.proofs.Common.{◌≡◌, refl, sym, subst, arith, ℕ, List, map, Option, Some, None}
use Rattle.std.specs.List.{AllByRecursion}
use Rattle.bvll.specs.Address.{address_octets}
use Rattle.bvll.specs.declared.address.Address.{Address}
use Rattle.node_laws.specs.site_node.device.Device.{DeviceState, new_device}
use Rattle.node_laws.specs.carry_said.headline_site.headline_bacnet.Stations.{kind_of}
use Rattle.node_laws.specs.carry_said.headline_site.headline_device.Devices.{HasNumbers}
use Rattle.node_laws.proofs.carry_said.headline_site.Placed.{site_has_each, site_is_site}
use Rattle.node_laws.specs.carry_said.headline_site.Fair.{IsNewDevice}
use Rattle.node_laws.specs.carry_said.headline_site.Placed.{AreSound, Placed}
use Rattle.history.proofs.HasLaws.{all_has, has_all, has_map}
use Rattle.npdu.specs.declared.mac.Mac.TheVariants.{Six}
use Rattle.npdu.specs.declared.mac.Station as npdu
use Rattle.object_model.specs.Site.{IsSite}
use Rattle.object_model.specs.declared.site.SiteObjects.{SiteObjects}
use Rattle.remembered.specs.Records.{AreDistinct}
use Rattle.site.specs.Devices.{IsDevice, IsDeviceIn}
use Rattle.site.specs.Sound.{IsSound}
use Rattle.site_parts.specs.Roles.{objects_in}
use Rattle.site_parts.specs.declared.parts.Parts.{Parts}
use Rattle.site_parts.specs.declared.parts.Station.{Station}
use Rattle.site_parts.specs.declared.place.Link.{Link}
use Rattle.site_parts.specs.declared.place.Link.TheVariants as link
use Rattle.site_parts.specs.declared.place.Place.{Place}
use Rattle.site_parts.specs.declared.place.Place.TheVariants as place
use Rattle.site_parts.specs.declared.role.Role.{Role}
use Rattle.site_parts.specs.declared.role.Role.TheVariants as role
use Rattle.site_views.proofs.ApartLaws.{devices_are_apart}
use Rattle.site_views.proofs.PartLaws.{map_map}
use Rattle.site_views.specs.Laws.{DeviceAt, devices, devices_at}
use Rattle.site_views.specs.Views.{addresses_of, foreign_at, host}
use Rattle.world_sites.proofs.ListLaws.{all_flat, all_leads, all_mapped, distinct_of_apart}
use Rattle.world_sites.specs.Laws.{DevicesAreSite}
use Rattle.world_sites.specs.Opening.{object_site, placed}

-- a device of a site as the promise has it
abbrev pub placed_of : {A : Type 0} → DeviceAt A → Placed A
placed_of d = record { station = d.station; objects = d.objects }

-- the devices of a sound site are sound
pub are_sound : {A : Type 0} (p : Parts A) → IsSound p → AreSound (placed p)
are_sound {A} p s =
    let apart = devices_are_apart p s in
    let ds = devices p.stations in record {
      stations = subst (λ (xs : List npdu.Station). AreDistinct xs) (sym (map_map (λ q. q.station) placed_of ds))
          (distinct_of_apart (map (λ d. d.station) ds) apart.stations);
      instances = subst (λ (xs : List ℕ). AreDistinct xs) (sym (map_map (λ q. q.objects.instance) placed_of ds))
          (distinct_of_apart (map (λ d. d.objects.instance) ds) apart.instances);
      objects = all_mapped placed_of (λ q. IsSite q.objects) ds apart.objects;
    }

pub devices_are_site : {A : Type 0} → DevicesAreSite A
devices_are_site p s = site_is_site (placed p) (are_sound p s)

-- the kind of link of a device's objects is that of its address
abbrev IsOfKind : {A : Type 0} → DeviceAt A → Type 0
IsOfKind d = d.objects.data_link ≡ kind_of d.station.mac

kind_beyond : {A : Type 0} (o : SiteObjects A) (a : Address) (h : Option Link) →
    o.data_link ≡ kind_of (Six (address_octets a)) → AllByRecursion IsOfKind (devices_at (foreign_at a h) (Some o))
kind_beyond o a None e = tt
kind_beyond o a (Some l) e = (e, tt)

kind_there : {A : Type 0} (all : List (Station A)) (name : List ℕ) (p : Place A) (o : SiteObjects A) →
    IsDevice name p o → AllByRecursion IsOfKind (devices_at (addresses_of all (role.Device p o)) (Some o))
kind_there all name (place.On (link.Ip n k a)) o d = (d.kind, tt)
kind_there all name (place.On (link.Bus n mac)) o d = (d.kind, tt)
kind_there all name (place.Beyond f) o d = kind_beyond o f.address (host f.manager all) d.kind

kinds : {A : Type 0} (all : List (Station A)) (name : List ℕ) (r : Role A) → IsDeviceIn name r →
    AllByRecursion IsOfKind (devices_at (addresses_of all r) (objects_in r))
kinds all name (role.Device p o) d = kind_there all name p o d
kinds all name (role.Client p b) d = tt
kinds all name (role.Manager l) d = tt
kinds all name (role.Router ports) d = tt

all_kinds : {A : Type 0} (p : Parts A) → IsSound p → AllByRecursion IsOfKind (devices p.stations)
all_kinds p s = all_flat (λ t. devices_at (addresses_of p.stations t.role) (objects_in t.role)) IsOfKind p.stations
    (all_leads (λ t. IsDeviceIn t.name t.role)
    (λ t. AllByRecursion IsOfKind (devices_at (addresses_of p.stations t.role) (objects_in t.role)))
    (λ t d. kinds p.stations t.name t.role d) p.stations s.plain.devices.each)

-- a device of a site as it opens
abbrev pub opened_device : {A : Type 0} → DeviceAt A → DeviceState A
opened_device d = new_device d.objects d.station

-- each is new
pub devices_new : {A : Type 0} (p : Parts A) → IsSound p →
    AllByRecursion (IsNewDevice (object_site p)) (map opened_device (devices p.stations))
devices_new p s =
    let ds = devices p.stations in
    all_mapped opened_device (IsNewDevice (object_site p)) ds
    (has_all (λ d. IsNewDevice (object_site p) (opened_device d)) ds
    (λ d there.
    let of_site = site_has_each (placed p) (are_sound p s) (placed_of d) (has_map placed_of ds d there) in record {
      objects = d.objects;
      address = d.station;
      instance = of_site.instance;
      opening = of_site.opening;
      link = all_has IsOfKind ds d (all_kinds p s) there;
      is = refl;
    }))

numbers_fit : {A : Type 0} (d : DeviceAt A) → IsSite d.objects → HasNumbers (opened_device d)
numbers_fit d s = record {
  instance = omega (arith, s.objects.0.instance);
  vendor = omega (arith, s.objects.0.vendor);
}

-- its numbers fit
pub devices_fit : {A : Type 0} (p : Parts A) → IsSound p →
    AllByRecursion HasNumbers (map opened_device (devices p.stations))
devices_fit p s = all_mapped opened_device HasNumbers (devices p.stations)
    (all_leads (λ d. IsSite d.objects) (λ d. HasNumbers (opened_device d)) numbers_fit (devices p.stations)
    (devices_are_apart p s).objects)
