-- What holds of a sound site, in its own words.
use Rattle.std.specs.Prelude.{◌≡◌, ◌==◌, if◌then◌else◌, ℕ, Bool, not, List, [], ◌∷◌, ◌++◌, map, filter, Option, Some}
use Rattle.std.specs.Prelude.{None, option_map, option_to_list}
use Rattle.std.specs.List.{AllByRecursion, flat_map}
use Rattle.bbmd.specs.Reach.{AreFull, times}
use Rattle.bbmd.specs.declared.spreading.Subnet.{Subnet}
use Rattle.bbmd_manager.specs.State.{ManagerState, new_manager}
use Rattle.bbmd_tables.specs.Tables.{served}
use Rattle.bbmd_tables.specs.declared.registration.Registration.{Registration}
use Rattle.bvll.specs.declared.address.Address.{Address}
use Rattle.npdu.specs.declared.mac.Station as npdu
use Rattle.object_model.specs.Site.{IsSite}
use Rattle.object_model.specs.declared.site.SiteObjects.{SiteObjects}
use Rattle.site.specs.Apart.{AreApart}
use Rattle.site.specs.Sound.{IsSound}
use Rattle.site.specs.declared.managers.SubnetId.{SubnetId}
use Rattle.site_parts.specs.Roles.{beyond, links_in, objects_in}
use Rattle.site_parts.specs.declared.parts.Parts.{Parts}
use Rattle.site_parts.specs.declared.parts.Station.{Station}
use Rattle.site_parts.specs.declared.place.Foreign.{Foreign}
use Rattle.site_parts.specs.declared.place.Link.{Link}
use Rattle.site_parts.specs.declared.place.Link.TheVariants as link
use Rattle.site_parts.specs.declared.role.Role.{Role}
use Rattle.site_views.specs.Views.{addresses, addresses_of, host, managed_at, managers, member_at, members, on_subnet}

-- a device: where it is in the internetwork, and its objects
pub record DeviceAt (A : Type 0) : Type 0 where
  pub station : npdu.Station
  pub objects : SiteObjects A

-- the device at each address of a station that has objects
abbrev pub devices_at : {A : Type 0} → List npdu.Station → Option (SiteObjects A) → List (DeviceAt A)
devices_at xs None = []
devices_at xs (Some o) = map (λ a. record { station = a; objects = o }) xs

-- the devices of a site, in its order
abbrev pub devices : {A : Type 0} → List (Station A) → List (DeviceAt A)
devices ss = flat_map (λ s. devices_at (addresses_of ss s.role) (objects_in s.role)) ss

-- devices are at distinct stations, with distinct instances, and objects that a site may give them (12.11)
pub record AreDevicesApart {A : Type 0} (ds : List (DeviceAt A)) : Type 0 where
  pub stations : AreApart (map (λ d. d.station) ds)
  pub instances : AreApart (map (λ d. d.objects.instance) ds)
  pub objects : AllByRecursion (λ d. IsSite d.objects) ds

-- the number of a link's subnet, where it is on this network
abbrev pub number_at : ℕ → Link → List ℕ
number_at n (link.Ip network subnet address) = if network == n then subnet ∷ [] else []
number_at n (link.Bus network mac) = []

-- each number once
abbrev pub distinct : List ℕ → List ℕ
distinct [] = []
distinct (x ∷ xs) = x ∷ filter (λ y. not (y == x)) (distinct xs)

-- the numbers of the subnets of a network, in site order, one for each link
abbrev pub numbers_on : {A : Type 0} → ℕ → List (Station A) → List ℕ
numbers_on n ss = flat_map (λ s. flat_map (number_at n) (links_in s.role)) ss

abbrev pub subnet_of : ℕ → ℕ → SubnetId
subnet_of n k = record { network = n; number = k }

-- a manager's address, where it is on this subnet
abbrev pub manager_of : SubnetId → Option Link → List Address
manager_of id None = []
manager_of id (Some l) = member_at id l

-- the managers of a subnet: in a sound site one at most (J.4)
abbrev pub managers_on : {A : Type 0} → SubnetId → List (Station A) → List Address
managers_on id ss = flat_map (λ s. manager_of id (managed_at s.role)) ss

abbrev pub first : {X : Type 0} → List X → Option X
first [] = None
first (x ∷ xs) = Some x

-- the foreign device, where its manager is on this subnet (J.5)
abbrev pub foreign_if : Address → SubnetId → Option Link → List Address
foreign_if address id None = []
foreign_if address id (Some l) = if on_subnet id l then address ∷ [] else []

abbrev pub foreign_on : {A : Type 0} → SubnetId → List (Station A) → Option (Foreign A) → List Address
foreign_on id all None = []
foreign_on id all (Some f) = foreign_if f.address id (host f.manager all)

-- the foreign devices of the manager of a subnet, in site order
abbrev pub foreigns_on : {A : Type 0} → SubnetId → List (Station A) → List Address
foreigns_on id ss = flat_map (λ s. foreign_on id ss (beyond s.role)) ss

-- a manager as it is made of members and managers in site order, with this foreign table (J.4.3, J.5.2)
abbrev pub manager_with : {A : Type 0} → ℕ → SubnetId → List (Station A) → List Registration → Address → ManagerState
manager_with moment id ss foreign own = record {
  tables = record (new_manager own (members id ss) (managers id.network ss)).tables { foreign = foreign };
  moment = moment;
}

-- a subnet with its members and its manager
abbrev pub subnet_with : {A : Type 0} → ℕ → SubnetId → List (Station A) → List Registration → Subnet A
subnet_with moment id ss foreign = record {
  members = members id ss;
  manager = option_map (manager_with moment id ss foreign) (first (managers_on id ss));
}

-- the subnets of a network, each once, with the foreign table of each manager by its subnet's number
abbrev pub subnets_with : {A : Type 0} → ℕ → ℕ → List (Station A) → (ℕ → List Registration) → List (Subnet A)
subnets_with moment n ss tables =
    map (λ k. subnet_with moment (subnet_of n k) ss (tables k)) (distinct (numbers_on n ss))

-- in each foreign table just the foreign devices of its manager live
pub record AreRegistered {A : Type 0} (now n : ℕ) (ss : List (Station A)) (tables : ℕ → List Registration) :
    Type 0 where
  pub just : (k : ℕ) (a : Address) → times a (served now (tables k)) ≡ times a (foreigns_on (subnet_of n k) ss)

-- the tables of a site's managers are full where just their foreign devices are registered (J.4.3)
abbrev pub AreTablesFull : Type 0 → Type 0
AreTablesFull A = (p : Parts A) (now moment n : ℕ) (tables : ℕ → List Registration) → IsSound p →
    AreRegistered now n p.stations tables → AreFull now (subnets_with moment n p.stations tables)
