-- The addresses and devices of a sound site are apart.
use Rattle.std.proofs.Common.{◌≡◌, refl, sym, subst, ℕ, List, [], ◌∷◌, ◌++◌, map, Option, Some, None, inl}
use Rattle.std.specs.List.{AllByRecursion, flat_map}
use Rattle.npdu.specs.declared.mac.Mac.{Mac}
use Rattle.npdu.specs.declared.mac.Mac.TheVariants.{One, Six}
use Rattle.npdu.specs.declared.mac.Station as npdu
use Rattle.object_model.specs.Site.{IsSite}
use Rattle.object_model.specs.declared.site.SiteObjects.{SiteObjects}
use Rattle.bvll.specs.Address.{address_octets}
use Rattle.bvll.specs.declared.address.Address.{Address}
use Rattle.site.specs.Apart.{AreApart}
use Rattle.site.specs.Devices.{AreDevices, IsDeviceIn}
use Rattle.site.specs.Marks.{mark_at, mark_of, marks_in, marks_of, network_mark}
use Rattle.site.specs.Sound.{IsSound}
use Rattle.site.specs.declared.marks.Mark.{Mark}
use Rattle.site.specs.declared.marks.Mark.TheVariants as mark
use Rattle.site_parts.specs.Places.{beyond_at, links_at, station_of}
use Rattle.site_parts.specs.Roles.{objects_in}
use Rattle.site_parts.specs.declared.parts.Parts.{Parts}
use Rattle.site_parts.specs.declared.parts.Station.{Station}
use Rattle.site_parts.specs.declared.place.Link.{Link}
use Rattle.site_parts.specs.declared.place.Link.TheVariants as link
use Rattle.site_parts.specs.declared.place.Place.{Place}
use Rattle.site_parts.specs.declared.place.Place.TheVariants as place
use Rattle.site_parts.specs.declared.role.Role.{Role}
use Rattle.site_parts.specs.declared.role.Role.TheVariants as role
use Rattle.site_views.specs.Laws.{AreDevicesApart, DeviceAt, devices, devices_at}
use Rattle.site_views.specs.Views.{addresses, addresses_of, foreign_at, foreign_stations, host}
use Rattle.site_views.proofs.PartLaws.{IsPart, part_skip, part_behind, part_apart, part_flat, apart_of_map, map_flat, map_map}

-- the mark of an address of the internetwork
abbrev pub by_mac : ℕ → Mac → Mark
by_mac n (One octet) = mark.Bus n octet
by_mac n (Six octets) = mark.Address octets

abbrev pub mark_for : npdu.Station → Mark
mark_for a = by_mac a.net a.mac

link_mark : (l : Link) → mark_for (station_of l) ≡ mark_of l
link_mark (link.Ip network subnet address) = refl
link_mark (link.Bus network mac) = refl

ports_part : (ls : List Link) → IsPart (map mark_for (map station_of ls ++ [])) (map mark_of ls)
ports_part [] = tt
ports_part (l ∷ ls) = inl (link_mark l, ports_part ls)

foreign_part : (address : Address) (h : Option Link) → IsPart (map mark_for (foreign_at address h)) (mark.Address (address_octets address) ∷ [])
foreign_part address None = tt
foreign_part address (Some l) = inl (refl, tt)

place_part : {A : Type 0} (all : List (Station A)) (p : Place A) →
    IsPart (map mark_for (map station_of (links_at p) ++ foreign_stations all (beyond_at p))) (mark_at p ∷ [])
place_part all (place.On l) = inl (link_mark l, tt)
place_part all (place.Beyond f) = foreign_part f.address (host f.manager all)

role_part : {A : Type 0} (all : List (Station A)) (r : Role A) → IsPart (map mark_for (addresses_of all r)) (marks_in r)
role_part all (role.Manager l) = inl (link_mark l, tt)
role_part all (role.Router ports) = ports_part ports
role_part all (role.Device p objects) =
    part_skip (map mark_for (map station_of (links_at p) ++ foreign_stations all (beyond_at p))) (mark.Instance objects.instance) (mark_at p ∷ []) (place_part all p)
role_part all (role.Client p segmented) = place_part all p

addresses_part : {A : Type 0} (all ss : List (Station A)) →
    IsPart (map mark_for (flat_map (λ s. addresses_of all s.role) ss)) (flat_map marks_of ss)
addresses_part all ss = subst (λ (xs : List Mark). IsPart xs (flat_map marks_of ss)) (sym (map_flat mark_for (λ s. addresses_of all s.role) ss))
    (part_flat (λ s. map mark_for (addresses_of all s.role)) marks_of (λ s. role_part all s.role) ss)

-- what stands within the marks of stations is apart
pub within : {A : Type 0} (p : Parts A) → IsSound p → (xs : List Mark) → IsPart xs (flat_map marks_of p.stations) → AreApart xs
within p s xs part = part_apart xs (map network_mark p.networks ++ flat_map marks_of p.stations)
    (part_behind xs (map network_mark p.networks) (flat_map marks_of p.stations) part) s.fit.apart

pub addresses_apart : {A : Type 0} (p : Parts A) → IsSound p → AreApart (addresses p.stations)
addresses_apart p s = apart_of_map mark_for (addresses p.stations) (within p s (map mark_for (addresses p.stations)) (addresses_part p.stations p.stations))

device_station : {A : Type 0} (all : List (Station A)) (r : Role A) →
    IsPart (map (λ d. mark_for d.station) (devices_at (addresses_of all r) (objects_in r))) (marks_in r)
device_station all (role.Manager l) = tt
device_station all (role.Router ports) = tt
device_station all (role.Device p o) = subst (λ (xs : List Mark). IsPart xs (marks_in (role.Device p o)))
    (sym (map_map (λ d. mark_for d.station) (λ a. record { station = a; objects = o }) (addresses_of all (role.Device p o))))
    (role_part all (role.Device p o))
device_station all (role.Client p segmented) = tt

instance_foreign : {A : Type 0} (address : Address) (h : Option Link) (o : SiteObjects A) (ms : List Mark) →
    IsPart (map (λ d. mark.Instance d.objects.instance) (devices_at (foreign_at address h) (Some o))) (mark.Instance o.instance ∷ ms)
instance_foreign address None o ms = tt
instance_foreign address (Some l) o ms = inl (refl, tt)

instance_place : {A : Type 0} (all : List (Station A)) (p : Place A) (o : SiteObjects A) →
    IsPart (map (λ d. mark.Instance d.objects.instance) (devices_at (addresses_of all (role.Device p o)) (Some o))) (marks_in (role.Device p o))
instance_place all (place.On l) o = inl (refl, tt)
instance_place all (place.Beyond f) o = instance_foreign f.address (host f.manager all) o (mark_at (place.Beyond f) ∷ [])

device_instance : {A : Type 0} (all : List (Station A)) (r : Role A) →
    IsPart (map (λ d. mark.Instance d.objects.instance) (devices_at (addresses_of all r) (objects_in r))) (marks_in r)
device_instance all (role.Manager l) = tt
device_instance all (role.Router ports) = tt
device_instance all (role.Device p o) = instance_place all p o
device_instance all (role.Client p segmented) = tt

-- a mark of each device, where it is one of its station
device_marks : {A : Type 0} (p : Parts A) → IsSound p → (h : DeviceAt A → Mark) →
    ((r : Role A) → IsPart (map h (devices_at (addresses_of p.stations r) (objects_in r))) (marks_in r)) →
    AreApart (map h (devices p.stations))
device_marks {A} p s h each = within p s (map h (devices p.stations))
    (subst (λ (xs : List Mark). IsPart xs (flat_map marks_of p.stations))
    (sym (map_flat h (λ t. devices_at (addresses_of p.stations t.role) (objects_in t.role)) p.stations))
    (part_flat (λ t. map h (devices_at (addresses_of p.stations t.role) (objects_in t.role))) marks_of (λ t. each t.role) p.stations))

same_objects : {A : Type 0} (o : SiteObjects A) → IsSite o → (xs : List npdu.Station) → AllByRecursion (λ d. IsSite d.objects) (devices_at xs (Some o))
same_objects o s [] = tt
same_objects o s (x ∷ xs) = (s, same_objects o s xs)

role_objects : {A : Type 0} (all : List (Station A)) (name : List ℕ) (r : Role A) → IsDeviceIn name r →
    AllByRecursion (λ d. IsSite d.objects) (devices_at (addresses_of all r) (objects_in r))
role_objects all name (role.Manager l) s = tt
role_objects all name (role.Router ports) s = tt
role_objects all name (role.Device p o) s = same_objects o s.objects (addresses_of all (role.Device p o))
role_objects all name (role.Client p segmented) s = tt

all_both : {X : Type 0} (P : X → Type 0) (xs ys : List X) → AllByRecursion P xs → AllByRecursion P ys → AllByRecursion P (xs ++ ys)
all_both P [] ys a b = b
all_both P (x ∷ xs) ys a b = (a.0, all_both P xs ys a.1 b)

all_objects : {A : Type 0} (all ss : List (Station A)) → AreDevices ss →
    AllByRecursion (λ d. IsSite d.objects) (flat_map (λ s. devices_at (addresses_of all s.role) (objects_in s.role)) ss)
all_objects all [] each = tt
all_objects all (s ∷ ss) each = all_both (λ d. IsSite d.objects) (devices_at (addresses_of all s.role) (objects_in s.role))
    (flat_map (λ t. devices_at (addresses_of all t.role) (objects_in t.role)) ss)
    (role_objects all s.name s.role each.0) (all_objects all ss each.1)

pub devices_are_apart : {A : Type 0} (p : Parts A) → IsSound p → AreDevicesApart (devices p.stations)
devices_are_apart p s = record {
  stations = apart_of_map mark_for (map (λ d. d.station) (devices p.stations))
      (subst (λ (xs : List Mark). AreApart xs) (sym (map_map mark_for (λ d. d.station) (devices p.stations)))
      (device_marks p s (λ d. mark_for d.station) (device_station p.stations)));
  instances = apart_of_map mark.Instance (map (λ d. d.objects.instance) (devices p.stations))
      (subst (λ (xs : List Mark). AreApart xs) (sym (map_map mark.Instance (λ d. d.objects.instance) (devices p.stations)))
      (device_marks p s (λ d. mark.Instance d.objects.instance) (device_instance p.stations)));
  objects = all_objects p.stations p.stations s.plain.devices.each;
}
