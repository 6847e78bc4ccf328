-- What a node tells can be told, and is its own: it comes from where its application entity is (5.4, 6.2.2, 16.10).
use Rattle.std.specs.Prelude.{◌≡◌, ℕ, List, Option}
use Rattle.apdu.specs.declared.unconfirmed.Limits.{Limits}
use Rattle.carry_said.specs.Said.{IsSayingEach}
use Rattle.node_laws.specs.Laws.{IsRelay}
use Rattle.npdu.specs.declared.mac.Mac.{Mac}
use Rattle.object_model.specs.Objects.{PlainTable}
use Rattle.primitives.specs.declared.plain_data.Request.{Request}
use Rattle.site_node.specs.Node.{NodeState, home_of}
use Rattle.site_node.specs.Part.{silence}
use Rattle.site_node.specs.Steps.{NodeAsks, NodeCounts, NodeHears, NodeHearsFrame, NodeIssues, NodeRegisters}
use Rattle.site_node.specs.Steps.{NodeRestarts, NodeTold, NodeWakes}

-- each parcel that a node tells of is its own at this moment, and has something inside
abbrev pub IsItsOwn : {A : Type 0} → ℕ → NodeState A → NodeTold A → Type 0
IsItsOwn now old t = IsSayingEach (home_of old.part) now t.told.said

module _ (A : Type 0) where
  -- whatever a node says where it hears octets is its own
  abbrev pub SaysAtHearing : Type 0
  SaysAtHearing = (now port : ℕ) (from : Mac) (octets : List ℕ) (stamp : ℕ) (old new : NodeState A) (t : NodeTold A) →
      NodeHears now port from octets stamp old t new → IsItsOwn now old t

  -- .. where those are a frame which so many octets end (9.5.2)
  abbrev pub SaysAtFrame : Type 0
  SaysAtFrame = (now port count : ℕ) (from : Mac) (octets : List ℕ) (stamp : ℕ) (old new : NodeState A)
      (t : NodeTold A) → NodeHearsFrame now port count from octets stamp old t new → IsItsOwn now old t

  -- .. where it is told of octets
  abbrev pub SaysAtCounting : Type 0
  SaysAtCounting = (now port count : ℕ) (old new : NodeState A) (t : NodeTold A) →
      NodeCounts now port count old t new → IsItsOwn now old t

  -- .. where it wakes
  abbrev pub SaysAtWake : Type 0
  SaysAtWake = (now : ℕ) (old new : NodeState A) (t : NodeTold A) → NodeWakes now old t new → IsItsOwn now old t

  -- .. where it issues, asks, registers or restarts
  abbrev pub SaysAtIssue : Type 0
  SaysAtIssue = (now instance : ℕ) (request : Request A) (id : ℕ) (old new : NodeState A) (t : NodeTold A) →
      NodeIssues now instance request id old t new → IsItsOwn now old t

  abbrev pub SaysAtAsking : Type 0
  SaysAtAsking = (now : ℕ) (limits : Option Limits) (old new : NodeState A) (t : NodeTold A) →
      NodeAsks now limits old t new → IsItsOwn now old t

  abbrev pub SaysAtRegistering : Type 0
  SaysAtRegistering = (now : ℕ) (old new : NodeState A) (t : NodeTold A) → NodeRegisters now old t new →
      IsItsOwn now old t

  abbrev pub SaysAtRestart : Type 0
  SaysAtRestart = (now : ℕ) (opening : PlainTable A) (old new : NodeState A) (t : NodeTold A) →
      NodeRestarts now opening old t new → IsItsOwn now old t

  -- a router and a manager, which have no application entity, tell nothing where they hear octets (6.6, J.4)
  abbrev pub RelayIsSilentAtHearing : Type 0
  RelayIsSilentAtHearing = (now port : ℕ) (from : Mac) (octets : List ℕ) (stamp : ℕ) (old new : NodeState A)
      (t : NodeTold A) → IsRelay old.part → NodeHears now port from octets stamp old t new → t.told ≡ silence

  -- .. a frame
  abbrev pub RelayIsSilentAtFrame : Type 0
  RelayIsSilentAtFrame = (now port count : ℕ) (from : Mac) (octets : List ℕ) (stamp : ℕ) (old new : NodeState A)
      (t : NodeTold A) → IsRelay old.part → NodeHearsFrame now port count from octets stamp old t new → t.told ≡ silence

  -- .. and where they wake
  abbrev pub RelayIsSilentAtWake : Type 0
  RelayIsSilentAtWake = (now : ℕ) (old new : NodeState A) (t : NodeTold A) → IsRelay old.part →
      NodeWakes now old t new → t.told ≡ silence
