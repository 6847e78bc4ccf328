-- How a world opens: the devices of its site, with their objects, and its nodes.
use Rattle.std.specs.Prelude.{Bool, ℕ, List, [], ◌∷◌, map, Option, Some, None, option_map, option_to_list}
use Rattle.std.specs.List.{flat_map}
use Rattle.bbmd_manager.specs.State.{new_manager}
use Rattle.bbmd_tables.specs.Tables.{others}
use Rattle.node_laws.specs.carry_said.headline_site.headline_bacnet.Refined.{ObjectSite}
use Rattle.node_laws.specs.carry_said.headline_site.Placed.{Placed, site_of}
use Rattle.node_laws.specs.link_bus.Port as bus
use Rattle.link_ip.specs.Port as ip
use Rattle.link_ip.specs.declared.port.Reach.TheVariants as reach
use Rattle.node_laws.specs.link_site.Port as site
use Rattle.node_laws.specs.link_site.declared.port.SitePort.{SitePort}
use Rattle.node_laws.specs.link_site.declared.port.SitePort.TheVariants as port
use Rattle.npdu.specs.declared.mac.Station as npdu
use Rattle.object_model.specs.declared.site.SiteObjects.{SiteObjects}
use Rattle.router.specs.Router.{new_router}
use Rattle.node_laws.specs.site_node.Node.{NodeState}
use Rattle.node_laws.specs.site_node.client.Client.{new_client}
use Rattle.node_laws.specs.site_node.declared.part.Part.{Part}
use Rattle.node_laws.specs.site_node.declared.part.Part.TheVariants.{Device, Client, Router, Manager}
use Rattle.node_laws.specs.site_node.device.Device.{new_device}
use Rattle.site_parts.specs.Places.{kind_at}
use Rattle.site_parts.specs.Roles.{objects_in}
use Rattle.site_parts.specs.declared.parts.Parts.{Parts}
use Rattle.site_parts.specs.declared.parts.Station.{Station}
use Rattle.site_parts.specs.declared.place.Foreign.{Foreign}
use Rattle.site_parts.specs.declared.place.Link.{Link}
use Rattle.site_parts.specs.declared.place.Link.TheVariants as link
use Rattle.site_parts.specs.declared.place.Place.{Place}
use Rattle.site_parts.specs.declared.place.Place.TheVariants as place
use Rattle.site_parts.specs.declared.role.Role.{Role}
use Rattle.site_parts.specs.declared.role.Role.TheVariants as role
use Rattle.node_laws.specs.site_ports.Ports.{places_of}
use Rattle.site_views.specs.Laws.{devices, subnet_of}
use Rattle.site_views.specs.Views.{at_address, host, managers, members}
use Rattle.unitdata.specs.Sizes.{longest_apdu}

-- the devices of a site, each with its objects, at a station (12)
abbrev pub placed : {A : Type 0} → Parts A → List (Placed A)
placed p = map (λ d. record { station = d.station; objects = d.objects }) (devices p.stations)

-- the site of these devices, with their instances and opening objects
abbrev pub object_site : {A : Type 0} → Parts A → ObjectSite A
object_site p = site_of (placed p)

-- the devices that a site describes, in its order
abbrev pub devices_in : {A : Type 0} → List (Station A) → List (SiteObjects A)
devices_in ss = flat_map (λ s. option_to_list (objects_in s.role)) ss

-- the port at a link: on a subnet it reaches all members but itself, in their order (J.4.5), and on a bus its node is
-- as it is made at the first moment (9.5.6, Initialize)
abbrev pub port_at : {A : Type 0} → List (Station A) → Link → SitePort A
port_at all (link.Ip network subnet address) =
    port.Ip (ip.new_port network address (reach.Members (others address (members (subnet_of network subnet) all))))
port_at all (link.Bus network mac) = port.Bus (bus.new_port network mac 0)

-- the port of a foreign device on the network of its manager, by which it reaches all of that (J.5)
abbrev pub foreign_port : {A : Type 0} → Foreign A → Option Link → Option (SitePort A)
foreign_port f None = None
foreign_port f (Some (link.Ip network subnet address)) =
    Some (port.Ip (ip.new_port network f.address (reach.Foreign address f.seconds_to_live)))
foreign_port f (Some (link.Bus network mac)) = None

-- the port of a device or a client
abbrev pub place_port : {A : Type 0} → List (Station A) → Place A → Option (SitePort A)
place_port all (place.On l) = Some (port_at all l)
place_port all (place.Beyond f) = foreign_port f (host f.manager all)

-- the ports of a router
abbrev pub ports_at : {A : Type 0} → List (Station A) → List Link → List (SitePort A)
ports_at all ls = flat_map (λ l. port_at all l ∷ []) ls

-- a client at a place that has asked nothing, and takes messages as long as its link does (5.4.4, 6.1)
abbrev pub client_at : {A : Type 0} → Place A → (segmented : Bool) → npdu.Station → Part A
client_at p segmented x = Client (new_client x segmented (longest_apdu (kind_at p)))

-- a node with one port, and its part there
abbrev pub node_at : {A : Type 0} → (name : List ℕ) → (npdu.Station → Part A) → SitePort A → NodeState A
node_at name part port = record { name = name; ports = port ∷ []; part = part (site.station_of port) }

-- a router as it opens: it knows no route but those to its own networks, and has not woken (6.6.2)
abbrev pub router_at : {A : Type 0} → List (Station A) → (name : List ℕ) → List Link → NodeState A
router_at all name ls = record {
  name = name;
  ports = ports_at all ls;
  part = Router (new_router (places_of (ports_at all ls)));
}

-- a manager as it opens, on BACnet/IP: it knows the members of its subnet and the managers of its network, and no
-- foreign device (J.4.3)
abbrev pub manager_at : {A : Type 0} → List (Station A) → (name : List ℕ) → Link → List (NodeState A)
manager_at all name (link.Ip network subnet address) = record {
  name = name;
  ports = [];
  part = Manager network (new_manager address (members (subnet_of network subnet) all) (managers network all));
} ∷ []
manager_at all name (link.Bus network mac) = []

-- a station of a site as a node, if it has a port or is a manager: each of a sound site does; a device has its
-- objects (12)
abbrev pub opens : {A : Type 0} → List (Station A) → (name : List ℕ) → Role A → List (NodeState A)
opens all name (role.Device p objects) =
    option_to_list (option_map (node_at name (λ x. Device (new_device objects x))) (place_port all p))
opens all name (role.Client p segmented) =
    option_to_list (option_map (node_at name (client_at p segmented)) (place_port all p))
opens all name (role.Router ls) = router_at all name ls ∷ []
opens all name (role.Manager l) = manager_at all name l

-- the nodes of a site as they open, in the order of its stations
abbrev pub opening_nodes : {A : Type 0} → Parts A → List (NodeState A)
opening_nodes p = flat_map (λ s. opens p.stations s.name s.role) p.stations

-- the objects of the device that a station is, if there is one (12)
abbrev pub objects_of : {A : Type 0} → Option (Station A) → Option (SiteObjects A)
objects_of None = None
objects_of (Some s) = objects_in s.role

-- .. of the device at an address of the internetwork (6.1)
abbrev pub objects_at : {A : Type 0} → npdu.Station → List (Station A) → Option (SiteObjects A)
objects_at x ss = objects_of (at_address ss x ss)
