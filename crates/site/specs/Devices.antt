-- The devices of a site and their objects.
use Rattle.std.specs.Prelude.{◌≡◌, ◌+◌, ◌≤◌, ℕ, List, [], ◌∷◌}
use Rattle.std.specs.List.{AllByRecursion}
use Rattle.object_model.specs.declared.site.SiteObjects.{SiteObjects}
use Rattle.object_model.specs.Site.{IsSite}
use Rattle.profile.specs.Limits.{MAX_DEVICES}
use Rattle.site_parts.specs.declared.parts.Station.{Station}
use Rattle.site_parts.specs.declared.place.Place.{Place}
use Rattle.site_parts.specs.declared.role.Role.{Role}
use Rattle.site_parts.specs.declared.role.Role.TheVariants as role
use Rattle.site_parts.specs.Places.{kind_at}

-- a device's objects are those that a site may give it (12), with the station's name and kind of link (12.11)
pub record IsDevice {A : Type 0} (name : List ℕ) (p : Place A) (o : SiteObjects A) : Type 0 where
  pub objects : IsSite o
  pub named : o.name ≡ name
  pub kind : o.data_link ≡ kind_at p

abbrev pub IsDeviceIn : {A : Type 0} → List ℕ → Role A → Type 0
IsDeviceIn name (role.Device p o) = IsDevice name p o
IsDeviceIn name (role.Manager l) = Unit {0}
IsDeviceIn name (role.Router ports) = Unit {0}
IsDeviceIn name (role.Client p segmented) = Unit {0}

abbrev pub AreDevices : {A : Type 0} → List (Station A) → Type 0
AreDevices ss = AllByRecursion (λ s. IsDeviceIn s.name s.role) ss

-- how many devices a station is
abbrev pub devices_in : {A : Type 0} → Role A → ℕ
devices_in (role.Device p o) = 1
devices_in (role.Manager l) = 0
devices_in (role.Router ports) = 0
devices_in (role.Client p segmented) = 0

-- the number of devices
abbrev pub devices : {A : Type 0} → List (Station A) → ℕ
devices [] = 0
devices (s ∷ ss) = devices_in s.role + devices ss

-- at most MAX_DEVICES
abbrev pub AreFewDevices : {A : Type 0} → List (Station A) → Type 0
AreFewDevices ss = devices ss ≤ MAX_DEVICES
