-- What a node does on each input: its part, and what is put out over its ports (6.1).
use Rattle.std.specs.Prelude.{◌≡◌, ◌≢◌, ◌⊎◌, ℕ, true, List, [], map, Option, Some, None}
use Rattle.apdu.specs.declared.unconfirmed.Limits.{Limits}
use Rattle.link.specs.Step.{PortSent}
use Rattle.site_ports.specs.link_site.Port.{restarted}
use Rattle.site_ports.specs.link_site.declared.port.SitePort.{SitePort}
use Rattle.npdu.specs.declared.mac.Mac.{Mac}
use Rattle.npdu.specs.declared.parcel.Parcel.{Parcel}
use Rattle.object_model.specs.Objects.{PlainTable}
use Rattle.primitives.specs.declared.plain_data.Request.{Request}
use Rattle.router.specs.declared.plan.PortParcel.{PortParcel}
use Rattle.site_node.specs.Manager.{ManagerHears}
use Rattle.site_node.specs.Node.{NodeState, begun, ended}
use Rattle.site_node.specs.Part.{ITS_PORT, PartAsks, PartHears, PartIssues, PartRestarts}
use Rattle.site_node.specs.Part.{awake, downs_awake, is_quiet, silence, told_awake}
use Rattle.site_node.specs.declared.part.Part.{Part}
use Rattle.site_node.specs.declared.part.Part.TheVariants.{Device, Client, Router, Manager}
use Rattle.site_node.specs.declared.told.PartTold.{PartTold}
use Rattle.site_ports.specs.Drafts.{PortsState}
use Rattle.site_ports.specs.Ports.{CountsAt, DownsEach, HearsAt, NothingIsDue, RegistersAt, WakesAll, over}

-- what comes of an input: what its part tells, and what is put out over its ports, in order
pub record NodeTold (A : Type 0) : Type 0 where
  pub told : PartTold A
  pub out : List (PortSent A)

-- nothing is told, and nothing put out
abbrev pub nothing_told : {A : Type 0} → NodeTold A
nothing_told = record { told = silence; out = [] }

module _ {A : Type 0} where
  -- a message that came up on a port is heard by its part, and what that says goes down
  pub record Answers (now port : ℕ) (p : Parcel A) (part : Part A) (middle : PortsState A) (told : PartTold A)
      (left : Part A) (end : PortsState A) : Type 0 where
    pub downs : List (PortParcel A)
    pub hears : PartHears now port p part told downs left
    pub goes_down : DownsEach now downs middle end

  -- .. where one came up: else nothing is said
  abbrev pub AnswersIf : (now port : ℕ) → Option (Parcel A) → Part A → (middle : PortsState A) → PartTold A → Part A →
      (end : PortsState A) → Type 0
  AnswersIf now port None part middle told left end = (told ≡ silence) × (left ≡ part) × (end ≡ middle)
  AnswersIf now port (Some p) part middle told left end = Answers now port p part middle told left end

  -- octets from an address, said at a moment, are heard on a port, where ports and part are these
  pub record HearsOn (now port : ℕ) (from : Mac) (octets : List ℕ) (stamp : ℕ) (start : PortsState A) (part : Part A)
      (told : PartTold A) (left : Part A) (end : PortsState A) : Type 0 where
    pub up : Option (Parcel A)
    pub middle : PortsState A
    pub heard : HearsAt now port from octets stamp start up middle
    pub answers : AnswersIf now port up part middle told left end

  -- .. on a port of a node
  pub record NodeHearsOn (now port : ℕ) (from : Mac) (octets : List ℕ) (stamp : ℕ) (old : NodeState A) (t : NodeTold A)
      (new : NodeState A) : Type 0 where
    pub name : new.name ≡ old.name
    pub hears : HearsOn now port from octets stamp (begun old) old.part t.told new.part (ended t.out new)

  -- octets from an address, said at a moment, are heard by a node: a manager hears all at its one address (6.5, J.4.5)
  abbrev pub HearsAs : Part A → (now port : ℕ) → Mac → (octets : List ℕ) → (stamp : ℕ) → NodeState A → NodeTold A →
      NodeState A → Type 0
  HearsAs (Manager net m) now port from octets stamp old t new =
      ManagerHears now from octets stamp net m old t.told t.out new
  HearsAs part now port from octets stamp old t new = NodeHearsOn now port from octets stamp old t new

  abbrev pub NodeHears : (now port : ℕ) → Mac → (octets : List ℕ) → (stamp : ℕ) → NodeState A → NodeTold A →
      NodeState A → Type 0
  NodeHears now port from octets stamp old t new = HearsAs old.part now port from octets stamp old t new

  -- so many octets are heard on a port, and no frame ends with them: its part says nothing (9.5.2)
  pub record NodeCounts (now port count : ℕ) (old : NodeState A) (t : NodeTold A) (new : NodeState A) : Type 0 where
    pub name : new.name ≡ old.name
    pub silent : t.told ≡ silence
    pub same : new.part ≡ old.part
    pub ports : CountsAt count now port (begun old) (ended t.out new)

  -- so many octets are heard on a port, and then the frame that they end (9.5.2)
  pub record NodeHearsFrame (now port count : ℕ) (from : Mac) (octets : List ℕ) (stamp : ℕ) (old : NodeState A)
      (t : NodeTold A) (new : NodeState A) : Type 0 where
    pub name : new.name ≡ old.name
    pub counted : PortsState A
    pub told : CountsAt count now port (begun old) counted
    pub heard : HearsOn now port from octets stamp counted old.part t.told new.part (ended t.out new)

  -- what a part says goes down, and then the ports wake in order, so that it can go out in the same call
  pub record PortsWake (now : ℕ) (downs : List (PortParcel A)) (old new : PortsState A) : Type 0 where
    pub middle : PortsState A
    pub goes_down : DownsEach now downs old middle
    pub wake : WakesAll now middle new

  -- nothing is said and nothing is due: the ports stay as they were, and put out nothing
  pub record PortsRest (now : ℕ) (downs : List (PortParcel A)) (old new : PortsState A) : Type 0 where
    pub silent : downs ≡ []
    pub none : NothingIsDue now old.ports
    pub same : new ≡ old

  -- a node wakes: its part first, then its ports (5.4.1, 6.6.2, 9.5, J.5.2.3)
  pub record NodeWakes (now : ℕ) (old : NodeState A) (t : NodeTold A) (new : NodeState A) : Type 0 where
    pub name : new.name ≡ old.name
    pub told : t.told ≡ told_awake now old.part
    pub part : new.part ≡ awake now old.part
    pub ports : PortsWake now (downs_awake now old.part) (begun old) (ended t.out new)
        ⊎ PortsRest now (downs_awake now old.part) (begun old) (ended t.out new)

  -- nothing is due of a node where it wakes: not of its part, and not at a port (9.5.6)
  pub record IsQuiet (now : ℕ) (n : NodeState A) : Type 0 where
    pub part : is_quiet now n.part ≡ true
    pub ports : NothingIsDue now n.ports

  -- a client issues a request, under an invoke ID (5.4.4.1)
  pub record NodeIssues (now instance : ℕ) (request : Request A) (id : ℕ) (old : NodeState A) (t : NodeTold A)
      (new : NodeState A) : Type 0 where
    pub name : new.name ≡ old.name
    pub issues : PartIssues now instance request old.part id t.told new.part
    pub goes_down : DownsEach now (over ITS_PORT t.told.said) (begun old) (ended t.out new)

  -- a client asks who is there (16.10.1)
  pub record NodeAsks (now : ℕ) (limits : Option Limits) (old : NodeState A) (t : NodeTold A) (new : NodeState A) :
      Type 0 where
    pub name : new.name ≡ old.name
    pub asks : PartAsks now limits old.part t.told new.part
    pub goes_down : DownsEach now (over ITS_PORT t.told.said) (begun old) (ended t.out new)

  -- a foreign node registers: its port says so, and its part says nothing (J.5.2)
  pub record NodeRegisters (now : ℕ) (old : NodeState A) (t : NodeTold A) (new : NodeState A) : Type 0 where
    pub name : new.name ≡ old.name
    pub silent : t.told ≡ silence
    pub same : new.part ≡ old.part
    pub ports : RegistersAt now ITS_PORT (begun old) (ended t.out new)
    pub says : t.out ≢ []

  -- a node is no foreign one: its port says nothing where it registers (J.5.2)
  pub record IsNotForeign (now : ℕ) (n : NodeState A) : Type 0 where
    pub left : List (SitePort A)
    pub silent : RegistersAt now ITS_PORT (begun n) (record { ports = left; out = [] })

  -- a device restarts with these objects, and its ports do (12)
  pub record NodeRestarts (now : ℕ) (opening : PlainTable A) (old : NodeState A) (t : NodeTold A) (new : NodeState A) :
      Type 0 where
    pub name : new.name ≡ old.name
    pub part : PartRestarts now opening old.part t.told new.part
    pub ports : new.ports ≡ map (λ l. restarted now l) old.ports
    pub silent : t.out ≡ []
