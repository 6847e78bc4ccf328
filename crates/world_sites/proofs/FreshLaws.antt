-- The nodes that a sound site opens with are all that a fresh world asks of them.
use Rattle.std.proofs.Common.{◌≡◌, inl, refl, sym, subst, arith, ℕ, Bool, List, [], ◌∷◌, ◌++◌, map, Option, Some, None}
use Rattle.std.specs.Prelude.{option_map, option_to_list}
use Rattle.std.specs.List.{AllByRecursion, flat_map}
use Rattle.node_laws.specs.carry_said.headline_site.headline_bacnet.Refined.{ObjectSite}
use Rattle.node_laws.specs.carry_said.headline_site.headline_client.Safe as client_side
use Rattle.node_laws.specs.carry_said.headline_site.headline_device.Devices as device_side
use Rattle.node_laws.specs.carry_said.headline_site.headline_device.Devices.{HasNumbers}
use Rattle.node_laws.specs.carry_said.headline_site.Fair.{IsNewClient, IsNewDevice}
use Rattle.node_laws.specs.link_site.Port as site
use Rattle.node_laws.specs.link_site.declared.port.SitePort.{SitePort}
use Rattle.npdu.specs.declared.mac.Station as npdu
use Rattle.object_model.specs.declared.site.SiteObjects.{SiteObjects}
use Rattle.profile.specs.declared.link_kind.LinkKind.{LinkKind}
use Rattle.profile.specs.declared.link_kind.LinkKind.TheVariants.{BacnetIp, MsTp}
use Rattle.remembered.specs.Records.{AreDistinct}
use Rattle.site.specs.Sound.{IsSound}
use Rattle.node_laws.specs.site_node.Node.{NodeState, home_of}
use Rattle.node_laws.specs.site_node.client.Client.{ClientState, new_client}
use Rattle.node_laws.specs.site_node.declared.part.Part.{Part}
use Rattle.node_laws.specs.site_node.declared.part.Part.TheVariants.{Device, Client, Router, Manager}
use Rattle.node_laws.specs.site_node.device.Device.{DeviceState, new_device}
use Rattle.site_parts.specs.Places.{kind_at}
use Rattle.site_parts.specs.Roles.{objects_in}
use Rattle.site_parts.specs.declared.parts.Parts.{Parts}
use Rattle.site_parts.specs.declared.parts.Station.{Station}
use Rattle.site_parts.specs.declared.place.Foreign.{Foreign}
use Rattle.site_parts.specs.declared.place.Link.{Link}
use Rattle.site_parts.specs.declared.place.Link.TheVariants as link
use Rattle.site_parts.specs.declared.place.Place.{Place}
use Rattle.site_parts.specs.declared.place.Place.TheVariants as place
use Rattle.site_parts.specs.declared.role.Role.{Role}
use Rattle.site_parts.specs.declared.role.Role.TheVariants as role
use Rattle.site_views.proofs.ApartLaws.{addresses_apart}
use Rattle.site_views.proofs.PartLaws.{IsPart, map_flat, part_all, part_apart, part_flat}
use Rattle.site_views.specs.Laws.{devices, devices_at}
use Rattle.site_views.specs.Views.{addresses, addresses_of, foreign_at, host}
use Rattle.unitdata.specs.Sizes.{longest_apdu}
use Rattle.world_sites.proofs.ListLaws.{all_are, all_flat, distinct_of_apart, flat_flat}
use Rattle.world_sites.proofs.SiteLaws.{devices_fit, devices_new, opened_device}
use Rattle.world_sites.specs.Laws.{NodesAreFresh, NodesAreOfSite}
use Rattle.world_sites.specs.Nodes.{IsOfSite, client_of, clients_of, device_of, devices_of}
use Rattle.world_sites.specs.Opening.{client_at, foreign_port, node_at, object_site, opening_nodes, opens, place_port}

-- its devices stand within those of the site
beyond_part : {A : Type 0} (name : List ℕ) (f : Foreign A) (o : SiteObjects A) (h : Option Link) →
    IsPart (devices_of (option_to_list (option_map (node_at name (λ x. Device (new_device o x))) (foreign_port f h))))
    (map opened_device (devices_at (foreign_at f.address h) (Some o)))
beyond_part name f o None = tt
beyond_part name f o (Some (link.Ip n k a)) = inl (refl, tt)
beyond_part name f o (Some (link.Bus n mac)) = tt

pub no_devices : {A : Type 0} (name : List ℕ) (p : Place A) (b : Bool) (q : Option (SitePort A)) →
    devices_of (option_to_list (option_map (node_at name (client_at p b)) q)) ≡ []
no_devices name p b None = refl
no_devices name p b (Some port) = refl

abbrev opened_at : {A : Type 0} → List (Station A) → Role A → List (DeviceState A)
opened_at all r = map opened_device (devices_at (addresses_of all r) (objects_in r))

role_part : {A : Type 0} (all : List (Station A)) (name : List ℕ) (r : Role A) →
    IsPart (devices_of (opens all name r)) (opened_at all r)
role_part all name (role.Device (place.On (link.Ip n k a)) o) = inl (refl, tt)
role_part all name (role.Device (place.On (link.Bus n mac)) o) = inl (refl, tt)
role_part all name (role.Device (place.Beyond f) o) = beyond_part name f o (host f.manager all)
role_part all name (role.Client p b) =
    subst (λ (ds : List (DeviceState _)). IsPart ds (opened_at all (role.Client p b)))
    (sym (no_devices name p b (place_port all p))) tt
role_part all name (role.Manager (link.Ip n k a)) = tt
role_part all name (role.Manager (link.Bus n mac)) = tt
role_part all name (role.Router ls) = tt

devices_opened : {A : Type 0} (p : Parts A) →
    IsPart (devices_of (opening_nodes p)) (map opened_device (devices p.stations))
devices_opened {A} p =
    let here = λ (s : Station A). devices_at (addresses_of p.stations s.role) (objects_in s.role) in
    subst (λ (ds : List (DeviceState A)). IsPart ds (map opened_device (devices p.stations)))
    (sym (flat_flat (λ n. device_of n.part) (λ s. opens p.stations s.name s.role) p.stations))
    (subst (λ (ds : List (DeviceState A)).
    IsPart (flat_map (λ s. devices_of (opens p.stations s.name s.role)) p.stations) ds)
    (sym (map_flat opened_device here p.stations))
    (part_flat (λ s. devices_of (opens p.stations s.name s.role)) (λ s. map opened_device (here s))
    (λ s. role_part p.stations s.name s.role) p.stations))

-- its clients have asked nothing
new_at : {A : Type 0} (x : npdu.Station) (b : Bool) (k : LinkKind) →
    IsNewClient (new_client {A = A} x b (longest_apdu k))
new_at x b BacnetIp =
    record { address = x; segmented = b; max_apdu = longest_apdu BacnetIp; code = omega arith; is = refl }
new_at x b MsTp = record { address = x; segmented = b; max_apdu = longest_apdu MsTp; code = omega arith; is = refl }

new_if : {A : Type 0} (name : List ℕ) (p : Place A) (b : Bool) (q : Option (SitePort A)) →
    AllByRecursion IsNewClient (clients_of (option_to_list (option_map (node_at name (client_at p b)) q)))
new_if name p b None = tt
new_if name p b (Some port) = (new_at (site.station_of port) b (kind_at p), tt)

no_clients : {A : Type 0} (name : List ℕ) (o : SiteObjects A) (q : Option (SitePort A)) → AllByRecursion IsNewClient
    (clients_of (option_to_list (option_map (node_at name (λ x. Device (new_device o x))) q)))
no_clients name o None = tt
no_clients name o (Some port) = tt

role_new : {A : Type 0} (all : List (Station A)) (name : List ℕ) (r : Role A) →
    AllByRecursion IsNewClient (clients_of (opens all name r))
role_new all name (role.Device p o) = no_clients name o (place_port all p)
role_new all name (role.Client p b) = new_if name p b (place_port all p)
role_new all name (role.Manager (link.Ip n k a)) = tt
role_new all name (role.Manager (link.Bus n mac)) = tt
role_new all name (role.Router ls) = tt

clients_new : {A : Type 0} (p : Parts A) → AllByRecursion IsNewClient (clients_of (opening_nodes p))
clients_new p = subst (λ (cs : List (ClientState _)). AllByRecursion IsNewClient cs)
    (sym (flat_flat (λ n. client_of n.part) (λ s. opens p.stations s.name s.role) p.stations))
    (all_flat (λ s. clients_of (opens p.stations s.name s.role)) IsNewClient p.stations
    (all_are (λ s. AllByRecursion IsNewClient (clients_of (opens p.stations s.name s.role)))
    (λ s. role_new p.stations s.name s.role) p.stations))

-- where the application entity of a part is, if it has one
abbrev home_at : {A : Type 0} → Part A → List npdu.Station
home_at (Device d) = home_of (Device d) ∷ []
home_at (Client c) = home_of (Client c) ∷ []
home_at part = []

abbrev homes : {A : Type 0} → List (NodeState A) → List npdu.Station
homes ns = flat_map (λ n. home_at n.part) ns

-- clients and devices stand within these, in their order
client_part : {A : Type 0} (part : Part A) → IsPart (map client_side.station_of (client_of part)) (home_at part)
client_part (Device d) = tt
client_part (Client c) = inl (refl, tt)
client_part (Router r) = tt
client_part (Manager net m) = tt

clients_part : {A : Type 0} (ns : List (NodeState A)) → IsPart (map client_side.station_of (clients_of ns)) (homes ns)
clients_part ns = subst (λ (xs : List npdu.Station). IsPart xs (homes ns))
    (sym (map_flat client_side.station_of (λ n. client_of n.part) ns))
    (part_flat (λ n. map client_side.station_of (client_of n.part)) (λ n. home_at n.part) (λ n. client_part n.part) ns)

device_part : {A : Type 0} (part : Part A) → IsPart (map device_side.station_of (device_of part)) (home_at part)
device_part (Device d) = inl (refl, tt)
device_part (Client c) = tt
device_part (Router r) = tt
device_part (Manager net m) = tt

devices_part : {A : Type 0} (ns : List (NodeState A)) → IsPart (map device_side.station_of (devices_of ns)) (homes ns)
devices_part ns = subst (λ (xs : List npdu.Station). IsPart xs (homes ns))
    (sym (map_flat device_side.station_of (λ n. device_of n.part) ns))
    (part_flat (λ n. map device_side.station_of (device_of n.part)) (λ n. home_at n.part) (λ n. device_part n.part) ns)

-- they are at addresses of the site
device_beyond : {A : Type 0} (name : List ℕ) (f : Foreign A) (o : SiteObjects A) (h : Option Link) →
    IsPart (homes (option_to_list (option_map (node_at name (λ x. Device (new_device o x))) (foreign_port f h))))
    (foreign_at f.address h)
device_beyond name f o None = tt
device_beyond name f o (Some (link.Ip n k a)) = inl (refl, tt)
device_beyond name f o (Some (link.Bus n mac)) = tt

client_beyond : {A : Type 0} (name : List ℕ) (f : Foreign A) (p : Place A) (b : Bool) (h : Option Link) →
    IsPart (homes (option_to_list (option_map (node_at name (client_at p b)) (foreign_port f h))))
    (foreign_at f.address h)
client_beyond name f p b None = tt
client_beyond name f p b (Some (link.Ip n k a)) = inl (refl, tt)
client_beyond name f p b (Some (link.Bus n mac)) = tt

role_at : {A : Type 0} (all : List (Station A)) (name : List ℕ) (r : Role A) →
    IsPart (homes (opens all name r)) (addresses_of all r)
role_at all name (role.Device (place.On (link.Ip n k a)) o) = inl (refl, tt)
role_at all name (role.Device (place.On (link.Bus n mac)) o) = inl (refl, tt)
role_at all name (role.Device (place.Beyond f) o) = device_beyond name f o (host f.manager all)
role_at all name (role.Client (place.On (link.Ip n k a)) b) = inl (refl, tt)
role_at all name (role.Client (place.On (link.Bus n mac)) b) = inl (refl, tt)
role_at all name (role.Client (place.Beyond f) b) = client_beyond name f (place.Beyond f) b (host f.manager all)
role_at all name (role.Manager (link.Ip n k a)) = tt
role_at all name (role.Manager (link.Bus n mac)) = tt
role_at all name (role.Router ls) = tt

all_at_addresses : {A : Type 0} (p : Parts A) → IsPart (homes (opening_nodes p)) (addresses p.stations)
all_at_addresses p = subst (λ (xs : List npdu.Station). IsPart xs (addresses p.stations))
    (sym (flat_flat (λ n. home_at n.part) (λ s. opens p.stations s.name s.role) p.stations))
    (part_flat (λ s. homes (opens p.stations s.name s.role)) (λ s. addresses_of p.stations s.role)
    (λ s. role_at p.stations s.name s.role) p.stations)

-- what stands within them is apart
apart_within : {A : Type 0} (p : Parts A) → IsSound p → (xs : List npdu.Station) →
    IsPart xs (homes (opening_nodes p)) → AreDistinct xs
apart_within p s xs part = distinct_of_apart xs (part_apart xs (homes (opening_nodes p)) part
    (part_apart (homes (opening_nodes p)) (addresses p.stations) (all_at_addresses p) (addresses_apart p s)))

pub nodes_are_fresh : {A : Type 0} → NodesAreFresh A
nodes_are_fresh p s =
    let ns = opening_nodes p in
    let opened = map opened_device (devices p.stations) in record {
      clients = clients_new p;
      devices = part_all (IsNewDevice (object_site p)) (devices_of ns) opened (devices_opened p) (devices_new p s);
      clients_apart = apart_within p s (map client_side.station_of (clients_of ns)) (clients_part ns);
      devices_apart = apart_within p s (map device_side.station_of (devices_of ns)) (devices_part ns);
      numbers = part_all HasNumbers (devices_of ns) opened (devices_opened p) (devices_fit p s);
    }

-- a new device of a site has the instance that the site has there
new_of_site : {A : Type 0} (s : ObjectSite A) (d : DeviceState A) → IsNewDevice s d → IsOfSite s (Device d)
new_of_site s d new = subst (λ (e : DeviceState _). IsOfSite s (Device e)) (sym new.is) new.instance

of_site : {A : Type 0} (s : ObjectSite A) (part : Part A) (ns : List (NodeState A)) →
    AllByRecursion (IsNewDevice s) (device_of part ++ devices_of ns) →
    IsOfSite s part × AllByRecursion (IsNewDevice s) (devices_of ns)
of_site s (Device d) ns h = (new_of_site s d h.0, h.1)
of_site s (Client c) ns h = (tt, h)
of_site s (Router r) ns h = (tt, h)
of_site s (Manager net m) ns h = (tt, h)

all_of_site : {A : Type 0} (s : ObjectSite A) (ns : List (NodeState A)) →
    AllByRecursion (IsNewDevice s) (devices_of ns) → AllByRecursion (λ n. IsOfSite s n.part) ns
all_of_site s [] h = tt
all_of_site s (n ∷ ns) h = let both = of_site s n.part ns h in (both.0, all_of_site s ns both.1)

-- each of the nodes is one of the site
pub nodes_are_of_site : {A : Type 0} → NodesAreOfSite A
nodes_are_of_site p s = all_of_site (object_site p) (opening_nodes p) (nodes_are_fresh p s).devices
