-- A port on a bus of MS/TP: its network, and its node there (9.5).
use Rattle.std.specs.Prelude.{ℕ, List}
use Rattle.link.specs.declared.step.Change.{Change}
use Rattle.link.specs.declared.step.Change.TheVariants.{Nothing, Moment, Whole}
use Rattle.mstp_table.specs.Node.{NodeState, parcels_in}
use Rattle.mstp_table.specs.Table as node
use Rattle.mstp_table.specs.Table.{made}
use Rattle.npdu.specs.declared.mac.Mac.TheVariants.{One as Octet}
use Rattle.npdu.specs.declared.mac.Station.{Station}
use Rattle.npdu.specs.declared.parcel.Parcel.{Parcel}

-- the number of its network, and its node
pub record BusPortState (A : Type 0) : Type 0 where
  pub net : ℕ
  pub node : NodeState A

-- before its first call (9.5.6, Initialize)
abbrev pub new_port : {A : Type 0} → (net address now : ℕ) → BusPortState A
new_port net address now = record { net = net; node = made address now }

-- the station that it is on its network (9.5.2, TS)
abbrev pub station_of : {A : Type 0} → BusPortState A → Station
station_of port = record { net = port.net; mac = Octet port.node.ts }

-- the moment of its last call is that of its node's last input
abbrev pub moment_of : {A : Type 0} → BusPortState A → ℕ
moment_of port = port.node.moment

-- the parcels that wait for the token (9.5.6, Use_Token)
abbrev pub waiting_in : {A : Type 0} → BusPortState A → List (Parcel A)
waiting_in port = parcels_in port.node

-- the same with such a node
abbrev pub with_node : {A : Type 0} → BusPortState A → NodeState A → BusPortState A
with_node port s = record port { node = s }

-- the same at a later moment
abbrev pub at_moment : {A : Type 0} → ℕ → BusPortState A → BusPortState A
at_moment now port = with_node port (node.at_moment port.node now)

-- it as an event at a moment leaves it
abbrev pub changed : {A : Type 0} → ℕ → BusPortState A → Change (BusPortState A) → BusPortState A
changed now port Nothing = port
changed now port Moment = at_moment now port
changed now port (Whole other) = other

-- after a restart at a moment: its node is as one made then, and nothing waits (9.5.6, Initialize)
abbrev pub restarted : {A : Type 0} → ℕ → BusPortState A → BusPortState A
restarted now port = with_node port (made port.node.ts now)
