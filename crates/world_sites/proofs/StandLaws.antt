-- Each node of a sound site stands as it must where it opens.
use Rattle.std.proofs.Common.{◌≤◌, refl, arith, ℕ, Bool, List, [], ◌∷◌, Option, Some, None}
use Rattle.std.specs.Prelude.{option_map, option_to_list}
use Rattle.std.specs.List.{AllByRecursion}
use Rattle.node_laws.specs.link_site.Port as site
use Rattle.node_laws.specs.link_site.declared.port.SitePort.{SitePort}
use Rattle.node_laws.specs.Stands.{Stands}
use Rattle.object_model.specs.declared.site.SiteObjects.{SiteObjects}
use Rattle.node_laws.specs.site_node.declared.part.Part.TheVariants.{Device}
use Rattle.node_laws.specs.site_node.device.Device.{new_device}
use Rattle.site_parts.specs.declared.parts.Station.{Station}
use Rattle.site_parts.specs.declared.place.Foreign.{Foreign}
use Rattle.site_parts.specs.declared.place.Link.{Link}
use Rattle.site_parts.specs.declared.place.Link.TheVariants as link
use Rattle.site_parts.specs.declared.place.Place.{Place}
use Rattle.site_parts.specs.declared.place.Place.TheVariants as place
use Rattle.site_parts.specs.declared.role.Role.{Role}
use Rattle.site_parts.specs.declared.role.Role.TheVariants as role
use Rattle.node_laws.specs.site_ports.Ports.{AreBefore}
use Rattle.site_views.specs.Views.{host}
use Rattle.world_sites.proofs.FitLaws.{ports_numbered, stations_fit}
use Rattle.world_sites.proofs.ListLaws.{all_flat, all_leads}
use Rattle.world_sites.specs.Fit.{HaveNumbers, IsFit}
use Rattle.world_sites.specs.Laws.{NodesStand}
use Rattle.world_sites.specs.Opening.{client_at, foreign_port, manager_at, node_at, opens, place_port, port_at, ports_at}
use Rattle.world_sites.specs.Opening.{router_at}

-- a port that has seen no moment, if there is one
abbrev IsNew : {A : Type 0} → Option (SitePort A) → Type 0
IsNew None = Unit {0}
IsNew (Some port) = site.moment_of port ≤ 0

link_new : {A : Type 0} (all : List (Station A)) (l : Link) → site.moment_of (port_at all l) ≤ 0
link_new all (link.Ip n k a) = let none : 0 ≤ 0 = omega arith in none
link_new all (link.Bus n m) = let none : 0 ≤ 0 = omega arith in none

foreign_new : {A : Type 0} (f : Foreign A) (h : Option Link) → IsNew (foreign_port f h)
foreign_new f None = tt
foreign_new f (Some (link.Ip n k a)) = let none : 0 ≤ 0 = omega arith in none
foreign_new f (Some (link.Bus n m)) = tt

place_new : {A : Type 0} (all : List (Station A)) (p : Place A) → IsNew (place_port all p)
place_new all (place.On l) = link_new all l
place_new all (place.Beyond f) = foreign_new f (host f.manager all)

-- a device and a client with such a port are where that is
device_stands : {A : Type 0} (name : List ℕ) (o : SiteObjects A) (q : Option (SitePort A)) → IsNew q →
    AllByRecursion (Stands 0) (option_to_list (option_map (node_at name (λ x. Device (new_device o x))) q))
device_stands name o None new = tt
device_stands name o (Some port) new = (
  record {
    at = record { port = port; one = refl; place = refl };
    before = record { ports = (new, tt); part = let none : 0 ≤ 0 = omega arith in none };
  },
  tt,
)

client_stands : {A : Type 0} (name : List ℕ) (p : Place A) (b : Bool) (q : Option (SitePort A)) → IsNew q →
    AllByRecursion (Stands 0) (option_to_list (option_map (node_at name (client_at p b)) q))
client_stands name p b None new = tt
client_stands name p b (Some port) new = (
  record {
    at = record { port = port; one = refl; place = refl };
    before = record { ports = (new, tt); part = let none : 0 ≤ 0 = omega arith in none };
  },
  tt,
)

-- the ports of a router have seen no moment
ports_before : {A : Type 0} (all : List (Station A)) (ls : List Link) → AreBefore 0 (ports_at all ls)
ports_before all [] = tt
ports_before all (l ∷ ls) = (link_new all l, ports_before all ls)

router_stands : {A : Type 0} (all : List (Station A)) (name : List ℕ) (ls : List Link) → HaveNumbers ls →
    Stands 0 (router_at all name ls)
router_stands all name ls h = record {
  at = record { places = refl; numbered = ports_numbered all ls h };
  before = record { ports = ports_before all ls; part = let none : 0 ≤ 0 = omega arith in none };
}

manager_stands : {A : Type 0} (all : List (Station A)) (name : List ℕ) (l : Link) →
    AllByRecursion (Stands 0) (manager_at all name l)
manager_stands all name (link.Ip n k a) = (
  record { at = refl; before = record { ports = tt; part = let none : 0 ≤ 0 = omega arith in none } },
  tt,
)
manager_stands all name (link.Bus n m) = tt

role_stands : {A : Type 0} (all : List (Station A)) (name : List ℕ) (r : Role A) → IsFit all r →
    AllByRecursion (Stands 0) (opens all name r)
role_stands all name (role.Device p o) fit = device_stands name o (place_port all p) (place_new all p)
role_stands all name (role.Client p b) fit = client_stands name p b (place_port all p) (place_new all p)
role_stands all name (role.Router ls) fit = (router_stands all name ls fit, tt)
role_stands all name (role.Manager l) fit = manager_stands all name l

pub nodes_stand : {A : Type 0} → NodesStand A
nodes_stand p s = all_flat (λ t. opens p.stations t.name t.role) (Stands 0) p.stations
    (all_leads (λ t. IsFit p.stations t.role) (λ t. AllByRecursion (Stands 0) (opens p.stations t.name t.role))
    (λ t fit. role_stands p.stations t.name t.role fit) p.stations (stations_fit p s))
