-- What the layers above ask of a site's stations.
use Rattle.std.specs.Prelude.{◌==◌, ◌&&◌, ◌||◌, if◌then◌else◌, ℕ, Bool, true, false, List, [], ◌∷◌, ◌++◌, map, Option}
use Rattle.std.specs.Prelude.{Some, None, option_map, option_to_list, bytes_eq}
use Rattle.std.specs.List.{flat_map, list_any}
use Rattle.bvll.specs.Address.{address_octets}
use Rattle.bvll.specs.declared.address.Address.{Address}
use Rattle.npdu.specs.Mac.{same_station}
use Rattle.npdu.specs.declared.mac.Mac.TheVariants.{Six}
use Rattle.npdu.specs.declared.mac.Station as npdu
use Rattle.site.specs.declared.managers.SubnetId.{SubnetId}
use Rattle.site_parts.specs.Places.{network_of, station_of}
use Rattle.site_parts.specs.Roles.{beyond, links_in}
use Rattle.site_parts.specs.declared.parts.Station.{Station}
use Rattle.site_parts.specs.declared.place.Foreign.{Foreign}
use Rattle.site_parts.specs.declared.place.Link.{Link}
use Rattle.site_parts.specs.declared.place.Link.TheVariants as link
use Rattle.site_parts.specs.declared.role.Role.{Role}
use Rattle.site_parts.specs.declared.role.Role.TheVariants as role
use Rattle.site_views.specs.declared.foreigns.ForeignStation.{ForeignStation}

-- the station of a name
abbrev pub named : {A : Type 0} → List ℕ → List (Station A) → Option (Station A)
named name [] = None
named name (s ∷ ss) = if bytes_eq s.name name then Some s else named name ss

-- where a manager is; no other station manages (J.4)
abbrev pub managed_at : {A : Type 0} → Role A → Option Link
managed_at (role.Manager l) = Some l
managed_at (role.Router ports) = None
managed_at (role.Device p objects) = None
managed_at (role.Client p segmented) = None

-- where the manager of a name is
abbrev pub host : {A : Type 0} → List ℕ → List (Station A) → Option Link
host name [] = None
host name (s ∷ ss) = if bytes_eq s.name name then managed_at s.role else host name ss

-- the address of a link, where it is on BACnet/IP (J.1.2)
abbrev pub address_at : Link → Option Address
address_at (link.Ip network subnet address) = Some address
address_at (link.Bus network mac) = None

-- a foreign device is a station of its manager's network (J.5)
abbrev pub foreign_at : Address → Option Link → List npdu.Station
foreign_at address None = []
foreign_at address (Some l) = record { net = network_of l; mac = Six (address_octets address) } ∷ []

abbrev pub foreign_stations : {A : Type 0} → List (Station A) → Option (Foreign A) → List npdu.Station
foreign_stations all None = []
foreign_stations all (Some f) = foreign_at f.address (host f.manager all)

-- the addresses of a station in the internetwork: one for each port of a router, one of any other (6.1)
abbrev pub addresses_of : {A : Type 0} → List (Station A) → Role A → List npdu.Station
addresses_of all r = map station_of (links_in r) ++ foreign_stations all (beyond r)

-- the addresses of all stations, in site order
abbrev pub addresses : {A : Type 0} → List (Station A) → List npdu.Station
addresses ss = flat_map (λ s. addresses_of ss s.role) ss

-- the station that is at an address
abbrev pub is_at : {A : Type 0} → List (Station A) → npdu.Station → Role A → Bool
is_at all a r = list_any (λ b. same_station b a) (addresses_of all r)

abbrev pub at_address : {A : Type 0} → List (Station A) → npdu.Station → List (Station A) → Option (Station A)
at_address all a [] = None
at_address all a (s ∷ ss) = if is_at all a s.role then Some s else at_address all a ss

-- a link is on this subnet (J.4)
abbrev pub on_subnet : SubnetId → Link → Bool
on_subnet id (link.Ip network subnet address) = (network == id.network) && (subnet == id.number)
on_subnet id (link.Bus network mac) = false

-- the address of a link, where it is on this subnet
abbrev pub member_at : SubnetId → Link → List Address
member_at id l = if on_subnet id l then option_to_list (address_at l) else []

-- the members of a subnet, in site order: managers and ports of routers are some (J.4.3)
abbrev pub members : {A : Type 0} → SubnetId → List (Station A) → List Address
members id ss = flat_map (λ s. flat_map (member_at id) (links_in s.role)) ss

-- the address of a manager, where it is on this network
abbrev pub manager_at : ℕ → Option Link → List Address
manager_at n None = []
manager_at n (Some l) = if network_of l == n then option_to_list (address_at l) else []

-- the managers of a network, in site order (J.4.3)
abbrev pub managers : {A : Type 0} → ℕ → List (Station A) → List Address
managers n ss = flat_map (λ s. manager_at n (managed_at s.role)) ss

-- the MAC of a link, where it is on this network of MS/TP (9)
abbrev pub mac_at : ℕ → Link → List ℕ
mac_at n (link.Ip network subnet address) = []
mac_at n (link.Bus network mac) = if network == n then mac ∷ [] else []

-- the MACs on a network of MS/TP, in site order
abbrev pub macs : {A : Type 0} → ℕ → List (Station A) → List ℕ
macs n ss = flat_map (λ s. flat_map (mac_at n) (links_in s.role)) ss

-- a foreign device, its manager and the seconds that it asks for (J.5.2)
abbrev pub registering : Address → ℕ → Option Address → List ForeignStation
registering address seconds None = []
registering address seconds (Some m) = record { address = address; manager = m; seconds_to_live = seconds } ∷ []

-- the address of the manager of a name
abbrev pub host_address : Option Link → Option Address
host_address None = None
host_address (Some l) = address_at l

abbrev pub foreign_of : {A : Type 0} → List (Station A) → Option (Foreign A) → List ForeignStation
foreign_of all None = []
foreign_of all (Some f) = registering f.address f.seconds_to_live (host_address (host f.manager all))

-- the foreign devices of a site, in its order
abbrev pub foreigns : {A : Type 0} → List (Station A) → List ForeignStation
foreigns ss = flat_map (λ s. foreign_of ss (beyond s.role)) ss
