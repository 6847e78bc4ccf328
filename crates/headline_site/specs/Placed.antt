-- A site by its devices: each with its objects, at a station.
use Rattle.std.specs.Prelude.{◌≡◌, ℕ, cond, List, [], ◌∷◌, map, Option, Some, None, option_map}
use Rattle.std.specs.List.{AllByRecursion}
use Rattle.headline.specs.Protocol as headline
use Rattle.headline_client.specs.headline_bacnet.Protocol.{bacnet}
use Rattle.headline_client.specs.headline_bacnet.Refined.{ObjectSite}
use Rattle.history.specs.Lists.{Has}
use Rattle.npdu.specs.Mac.{same_station}
use Rattle.npdu.specs.declared.mac.Station.{Station}
use Rattle.object_model.specs.Objects.{PlainTable}
use Rattle.object_model.specs.Site.{IsSite, opening_table}
use Rattle.object_model.specs.declared.site.SiteObjects.{SiteObjects}
use Rattle.headline_device.specs.remembered.Records.{AreDistinct}

-- a device with these objects at a station (6.1, 12.11)
pub record Placed (A : Type 0) : Type 0 where
  pub station : Station
  pub objects : SiteObjects A

-- the first of them at a station, if there is one
abbrev pub placed_at : {A : Type 0} → Station → List (Placed A) → Option (Placed A)
placed_at x [] = None
placed_at x (p ∷ ps) = cond (same_station p.station x) (Some p) (placed_at x ps)

-- its objects as they open, and none where there is no device (12)
abbrev pub opened : {A : Type 0} → Option (Placed A) → PlainTable A
opened None = []
opened (Some p) = opening_table p.objects

-- the site of these devices, with their instances and opening objects
abbrev pub site_of : {A : Type 0} → List (Placed A) → ObjectSite A
site_of ps = record {
  instance_of = λ x. option_map (λ p. p.objects.instance) (placed_at x ps);
  opening = λ x. opened (placed_at x ps);
}

-- no two devices are at one station, or have one instance, and the objects of each are sound (6.1, 12.1, 12.11)
pub record AreSound {A : Type 0} (ps : List (Placed A)) : Type 0 where
  pub stations : AreDistinct (map (λ p. p.station) ps)
  pub instances : AreDistinct (map (λ p. p.objects.instance) ps)
  pub objects : AllByRecursion (λ p. IsSite p.objects) ps

-- such devices are a site of the promise
abbrev pub SiteIsSite : Type 0 → Type 0
SiteIsSite A = (ps : List (Placed A)) → AreSound ps → headline.IsSite (bacnet A) (site_of ps)

-- a site has this device, with its opening objects
pub record IsDeviceOf {A : Type 0} (s : ObjectSite A) (p : Placed A) : Type 0 where
  pub instance : s.instance_of p.station ≡ Some p.objects.instance
  pub opening : s.opening p.station ≡ opening_table p.objects

-- each of them is a device of that site
abbrev pub SiteHasEach : Type 0 → Type 0
SiteHasEach A = (ps : List (Placed A)) → AreSound ps → (p : Placed A) → Has ps p → IsDeviceOf (site_of ps) p
