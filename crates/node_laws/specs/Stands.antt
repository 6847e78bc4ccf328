-- How a node stands, and that it stays where it is (6.1, 6.6.1).
use Rattle.std.specs.Prelude.{◌≡◌, ◌≤◌, ℕ, List, [], ◌∷◌, Option}
use Rattle.apdu.specs.declared.unconfirmed.Limits.{Limits}
use Rattle.carry_said.specs.headline_site.headline_device.Devices.{IsItself}
use Rattle.site_node.specs.link_site.Port.{station_of}
use Rattle.site_node.specs.link_site.declared.port.SitePort.{SitePort}
use Rattle.npdu.specs.declared.mac.Mac.{Mac}
use Rattle.npdu.specs.declared.mac.Station.{Station}
use Rattle.object_model.specs.Objects.{PlainTable}
use Rattle.primitives.specs.declared.plain_data.Request.{Request}
use Rattle.router.specs.Router.{AreNumbered}
use Rattle.site_node.specs.Node.{IsBefore, NodeState, home_of, node_places}
use Rattle.site_node.specs.Steps.{NodeAsks, NodeCounts, NodeHears, NodeHearsFrame, NodeIssues, NodeRegisters}
use Rattle.site_node.specs.Steps.{NodeRestarts, NodeTold, NodeWakes}
use Rattle.site_node.specs.declared.part.Part.{Part}
use Rattle.site_node.specs.declared.part.Part.TheVariants.{Device, Client, Router, Manager}
use Rattle.site_node.specs.site_ports.Ports.{places_of}

-- a device or a client has one port, and is where that is
pub record IsAtItsPort {A : Type 0} (x : Station) (ports : List (SitePort A)) : Type 0 where
  pub port : SitePort A
  pub one : ports ≡ port ∷ []
  pub place : station_of port ≡ x

-- a router is where its ports are, on networks with numbers (6.6.1)
pub record IsAtItsPorts {A : Type 0} (xs : List Station) (ports : List (SitePort A)) : Type 0 where
  pub places : places_of ports ≡ xs
  pub numbered : AreNumbered xs

-- a node's part is where its ports are; a manager has none (J.4)
abbrev pub IsAt : {A : Type 0} → Part A → List (SitePort A) → Type 0
IsAt (Device d) ports = IsAtItsPort (home_of (Device d)) ports
IsAt (Client c) ports = IsAtItsPort (home_of (Client c)) ports
IsAt (Router r) ports = IsAtItsPorts r.ports ports
IsAt (Manager net m) ports = ports ≡ []

-- a node stands as it must
pub record Stands {A : Type 0} (now : ℕ) (n : NodeState A) : Type 0 where
  pub at : IsAt n.part n.ports
  pub before : IsBefore now n

-- a part is the one that it was, and where it was: a device has its instance (12.11)
abbrev pub SamePart : {A : Type 0} → (old new : Part A) → Type 0
SamePart (Device d) (Device e) = IsItself d e
SamePart (Client c) (Client d) = home_of (Client d) ≡ home_of (Client c)
SamePart (Router r) (Router q) = q.ports ≡ r.ports
SamePart (Manager net m) (Manager n o) = (n ≡ net) × (o.tables.own ≡ m.tables.own)
SamePart old new = ⊥

-- it stands then, under its name and where it was, and so is its application entity
pub record Stays {A : Type 0} (now : ℕ) (old new : NodeState A) : Type 0 where
  pub stands : Stands now new
  pub name : new.name ≡ old.name
  pub same : node_places new ≡ node_places old
  pub home : home_of new.part ≡ home_of old.part
  pub part : SamePart old.part new.part

module _ (A : Type 0) where
  -- it stands as time passes
  abbrev pub StandsLater : Type 0
  StandsLater = (now later : ℕ) (n : NodeState A) → now ≤ later → Stands now n → Stands later n

  -- whatever a node hears it stays where it is
  abbrev pub StaysAtHearing : Type 0
  StaysAtHearing = (now port : ℕ) (from : Mac) (octets : List ℕ) (stamp : ℕ) (old new : NodeState A) (t : NodeTold A) →
      Stands now old → NodeHears now port from octets stamp old t new → Stays now old new

  -- .. where that is a frame which so many octets end (9.5.2)
  abbrev pub StaysAtFrame : Type 0
  StaysAtFrame = (now port count : ℕ) (from : Mac) (octets : List ℕ) (stamp : ℕ) (old new : NodeState A)
      (t : NodeTold A) → Stands now old → NodeHearsFrame now port count from octets stamp old t new → Stays now old new

  -- .. where it is told of octets
  abbrev pub StaysAtCounting : Type 0
  StaysAtCounting = (now port count : ℕ) (old new : NodeState A) (t : NodeTold A) → Stands now old →
      NodeCounts now port count old t new → Stays now old new

  -- .. where it wakes
  abbrev pub StaysAtWake : Type 0
  StaysAtWake = (now : ℕ) (old new : NodeState A) (t : NodeTold A) → Stands now old → NodeWakes now old t new →
      Stays now old new

  -- .. where it issues, asks, registers or restarts
  abbrev pub StaysAtIssue : Type 0
  StaysAtIssue = (now instance : ℕ) (request : Request A) (id : ℕ) (old new : NodeState A) (t : NodeTold A) →
      Stands now old → NodeIssues now instance request id old t new → Stays now old new

  abbrev pub StaysAtAsking : Type 0
  StaysAtAsking = (now : ℕ) (limits : Option Limits) (old new : NodeState A) (t : NodeTold A) → Stands now old →
      NodeAsks now limits old t new → Stays now old new

  abbrev pub StaysAtRegistering : Type 0
  StaysAtRegistering = (now : ℕ) (old new : NodeState A) (t : NodeTold A) → Stands now old →
      NodeRegisters now old t new → Stays now old new

  abbrev pub StaysAtRestart : Type 0
  StaysAtRestart = (now : ℕ) (opening : PlainTable A) (old new : NodeState A) (t : NodeTold A) → Stands now old →
      NodeRestarts now opening old t new → Stays now old new
