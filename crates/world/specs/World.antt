-- A world as it is kept: a site, its nodes, what is on its way, what was said, and the history.
use Rattle.std.specs.Prelude.{ℕ, List, [], ◌++◌, map}
use Rattle.std.specs.List.{flat_map}
use Rattle.bus_traffic.specs.Bus.{BusState}
use Rattle.buses.specs.Laws.{all_known}
use Rattle.buses.specs.Puts.{BusesState}
use Rattle.carry.specs.Things.{SentFrame, Thing, Waiting}
use Rattle.inside.specs.Inside.{Said}
use Rattle.world_log.specs.link_site.Port.{station_of, waiting_in}
use Rattle.world_log.specs.link_site.Things.{thing_at}
use Rattle.world_log.specs.link_site.declared.port.SitePort.{SitePort}
use Rattle.world_log.specs.site_node.Node.{NodeState}
use Rattle.site_parts.specs.declared.parts.Parts.{Parts}
use Rattle.traffic.specs.declared.item.Item.{Item}
use Rattle.world_log.specs.Growing.{WorldHistory}
use Rattle.world_log.specs.carry_world.PlainWorld.{Key, PlainWorld}
use Rattle.world_sites.specs.Buses.{opening_buses}
use Rattle.world_sites.specs.Nodes.{clients_of, devices_of}
use Rattle.world_sites.specs.Opening.{opening_nodes}

-- nodes: in the order of the site. items: what was put out on networks of BACnet/IP, numbered from 0 on; those before
-- first_item may be forgotten. buses: in the order of the site. keys: who issued, and under which invoke ID, of each
-- issue in order. history, said: behind so many entries that were handed out, and so many messages that are forgotten.
-- moment: in milliseconds. No event reads first_item, first_entry and first_said
pub record WorldState (A : Type 0) : Type 0 where
  pub site : Parts A
  pub moment : ℕ
  pub nodes : List (NodeState A)
  pub first_item : ℕ
  pub items : List (Item A)
  pub buses : BusesState A
  pub keys : List Key
  pub first_entry : ℕ
  pub history : WorldHistory A
  pub first_said : ℕ
  pub said : List Said

-- a world of a site as it opens: the moment is 0, and nothing was put out, issued or said
abbrev pub fresh_world : {A : Type 0} → Parts A → WorldState A
fresh_world p = record {
  site = p;
  moment = 0;
  nodes = opening_nodes p;
  first_item = 0;
  items = [];
  buses = record { buses = opening_buses p; frames = 0 };
  keys = [];
  first_entry = 0;
  history = [];
  first_said = 0;
  said = [];
}

-- an item as a thing on its way (J.2)
abbrev pub thing_of : {A : Type 0} → Item A → Thing A
thing_of i = thing_at i.net i.from i.to i.octets i.stamp

-- the parcels that wait in these ports, as things on their way (9.5.6)
abbrev pub waits_in : {A : Type 0} → List (SitePort A) → List (Thing A)
waits_in ports = flat_map (λ l. map (λ p. Waiting (station_of l).net p) (waiting_in l)) ports

-- the frames that are known on these buses, as things on their way (9.3)
abbrev pub frames_on : {A : Type 0} → List (BusState A) → List (Thing A)
frames_on {A} bs = all_known {X = Thing A} SentFrame bs

-- all things on their way: datagrams and frames that were put out, and parcels that wait
abbrev pub things_of : {A : Type 0} → WorldState A → List (Thing A)
things_of w = map (λ i. thing_of i) w.items ++ (frames_on w.buses.buses ++ flat_map (λ n. waits_in n.ports) w.nodes)

-- a world by its clients, its devices and the things on their way alone
abbrev pub plain : {A : Type 0} → WorldState A → PlainWorld A
plain w = record {
  moment = w.moment;
  clients = clients_of w.nodes;
  devices = devices_of w.nodes;
  keys = w.keys;
  history = w.history;
  things = things_of w;
  said = w.said;
}
