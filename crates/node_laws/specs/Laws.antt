-- What holds of all that nodes put out.
use Rattle.std.specs.Prelude.{◌≡◌, ℕ, List, Option, Some, slice_get}
use Rattle.apdu.specs.declared.unconfirmed.Limits.{Limits}
use Rattle.site_node.specs.carry.Things.{Thing}
use Rattle.history.specs.Lists.{Has}
use Rattle.site_node.specs.link_site.Things.{thing_at}
use Rattle.node_laws.specs.Out.{IsMac, Passes, SaysAmong, WaitsAmong}
use Rattle.node_laws.specs.Stands.{Stands}
use Rattle.npdu.specs.declared.mac.Mac.{Mac}
use Rattle.npdu.specs.declared.mac.Station.{Station}
use Rattle.object_model.specs.Objects.{PlainTable}
use Rattle.primitives.specs.declared.plain_data.Request.{Request}
use Rattle.site_node.specs.Node.{NodeState, node_places}
use Rattle.site_node.specs.Steps.{NodeAsks, NodeCounts, NodeHears, NodeHearsFrame, NodeIssues, NodeRegisters}
use Rattle.site_node.specs.Steps.{NodeRestarts, NodeTold, NodeWakes}
use Rattle.site_node.specs.declared.part.Part.{Part}
use Rattle.site_node.specs.declared.part.Part.TheVariants.{Device, Client, Router, Manager}

-- a part passes on what it hears, and has no application entity (6.6, J.4)
abbrev pub IsRelay : {A : Type 0} → Part A → Type 0
IsRelay (Device d) = ⊥
IsRelay (Client c) = ⊥
IsRelay (Router r) = Unit {0}
IsRelay (Manager net m) = Unit {0}

module _ (A : Type 0) where
  -- where a node hears octets that are on their way to one of its places it passes on those, what waited, or what it
  -- says itself (6.5.2, J.4.5)
  abbrev pub HearingPassesOn : Type 0
  HearingPassesOn = (ts : List (Thing A)) (now port : ℕ) (from : Mac) (octets : List ℕ) (stamp : ℕ)
      (old new : NodeState A) (t : NodeTold A) (at : Station) → Stands now old → WaitsAmong ts old →
      SaysAmong ts old t → IsMac from → slice_get (node_places old) port ≡ Some at →
      Has ts (thing_at at.net from at.mac octets stamp) → NodeHears now port from octets stamp old t new →
      Passes ts old t.out new

  -- .. where those are a frame which so many octets end (9.5.2)
  abbrev pub FramePassesOn : Type 0
  FramePassesOn = (ts : List (Thing A)) (now port count : ℕ) (from : Mac) (octets : List ℕ) (stamp : ℕ)
      (old new : NodeState A) (t : NodeTold A) (at : Station) → Stands now old → WaitsAmong ts old →
      SaysAmong ts old t → IsMac from → slice_get (node_places old) port ≡ Some at →
      Has ts (thing_at at.net from at.mac octets stamp) → NodeHearsFrame now port count from octets stamp old t new →
      Passes ts old t.out new

  -- .. where it is told of octets, what waited (9.5.6)
  abbrev pub CountingPassesOn : Type 0
  CountingPassesOn = (ts : List (Thing A)) (now port count : ℕ) (old new : NodeState A) (t : NodeTold A) →
      Stands now old → WaitsAmong ts old → NodeCounts now port count old t new → Passes ts old t.out new

  -- .. where it wakes, what waited, or what it says: in what a router says of itself is nothing (6.2.4)
  abbrev pub WakePassesOn : Type 0
  WakePassesOn = (ts : List (Thing A)) (now : ℕ) (old new : NodeState A) (t : NodeTold A) → Stands now old →
      WaitsAmong ts old → SaysAmong ts old t → NodeWakes now old t new → Passes ts old t.out new

  -- .. where it issues or asks
  abbrev pub IssuePassesOn : Type 0
  IssuePassesOn = (ts : List (Thing A)) (now instance : ℕ) (request : Request A) (id : ℕ) (old new : NodeState A)
      (t : NodeTold A) → Stands now old → WaitsAmong ts old → SaysAmong ts old t →
      NodeIssues now instance request id old t new → Passes ts old t.out new

  abbrev pub AskingPassesOn : Type 0
  AskingPassesOn = (ts : List (Thing A)) (now : ℕ) (limits : Option Limits) (old new : NodeState A) (t : NodeTold A) →
      Stands now old → WaitsAmong ts old → SaysAmong ts old t → NodeAsks now limits old t new → Passes ts old t.out new

  -- .. and where it registers or restarts, what waited
  abbrev pub RegisteringPassesOn : Type 0
  RegisteringPassesOn = (ts : List (Thing A)) (now : ℕ) (old new : NodeState A) (t : NodeTold A) → Stands now old →
      WaitsAmong ts old → NodeRegisters now old t new → Passes ts old t.out new

  abbrev pub RestartPassesOn : Type 0
  RestartPassesOn = (ts : List (Thing A)) (now : ℕ) (opening : PlainTable A) (old new : NodeState A) (t : NodeTold A) →
      NodeRestarts now opening old t new → Passes ts old t.out new
