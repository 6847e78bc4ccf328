-- Why an input of a node is refused (6.1).
use Rattle.std.specs.Prelude.{◌≡◌, ◌⊎◌, ℕ, List, [], Option, Some}
use Rattle.apdu.specs.declared.unconfirmed.Limits.{Limits}
use Rattle.site_ports.specs.link_site.Steps as site
use Rattle.site_ports.specs.link_site.declared.port.SitePort.{SitePort}
use Rattle.npdu.specs.declared.mac.Mac.{Mac}
use Rattle.npdu.specs.declared.mac.Station.{Station}
use Rattle.npdu.specs.declared.parcel.Parcel.{Parcel}
use Rattle.primitives.specs.declared.plain_data.Request.{Request}
use Rattle.router.specs.declared.plan.PortParcel.{PortParcel}
use Rattle.site_node.specs.Manager.{IsTooLong}
use Rattle.site_node.specs.Node.{NodeState, begun}
use Rattle.site_node.specs.Part.{ITS_PORT, IsNoClient, PartAsks, PartHears, PartIssues, RefusesMessage}
use Rattle.site_node.specs.Part.{downs_awake, issue_refusal}
use Rattle.site_node.specs.declared.part.Part.{Part}
use Rattle.site_node.specs.declared.part.Part.TheVariants.{Manager}
use Rattle.site_node.specs.declared.told.PartTold.{PartTold}
use Rattle.site_ports.specs.Drafts.{PortsState}
use Rattle.site_ports.specs.Ports.{CountsAt, HearsAt, IsOneTooLong, over, places_of}
use Rattle.tags.specs.declared.fault.Fault.{Fault}
use Rattle.tags.specs.declared.fault.Fault.TheVariants.{NoSuch, TableFull, TooLong}

-- what a part says to this message is too long for a port that it goes down over
pub record AnswersTooLong {A : Type 0} (places : List Station) (now port : ℕ) (p : Parcel A) (part : Part A) :
    Type 0 where
  pub told : PartTold A
  pub downs : List (PortParcel A)
  pub left : Part A
  pub hears : PartHears now port p part told downs left
  pub long : IsOneTooLong places downs

-- why what came up is refused: its part has no place for what it brings, or what is said is too long
abbrev pub UpIsRefused : {A : Type 0} → (places : List Station) → (now port : ℕ) → Parcel A → Part A → Fault → Type 0
UpIsRefused places now port p part fault =
    ((fault ≡ TableFull) × RefusesMessage port p part) ⊎ ((fault ≡ TooLong) × AnswersTooLong places now port p part)

-- .. of octets that are heard on one of these ports
pub record MessageIsRefused {A : Type 0} (now port : ℕ) (from : Mac) (octets : List ℕ) (stamp : ℕ)
    (ports : List (SitePort A)) (part : Part A) (fault : Fault) : Type 0 where
  pub up : Parcel A
  pub middle : PortsState A
  pub heard : HearsAt now port from octets stamp (record { ports = ports; out = [] }) (Some up) middle
  pub refused : UpIsRefused (places_of ports) now port up part fault

-- .. by the port, or what came up of them is
abbrev pub RefusesOn : {A : Type 0} → (now port : ℕ) → Mac → List ℕ → (stamp : ℕ) → List (SitePort A) → Part A → Fault →
    Type 0
RefusesOn now port from octets stamp ports part fault =
    site.IsRefused fault from octets ⊎ MessageIsRefused now port from octets stamp ports part fault

-- why octets that are heard are refused: a manager refuses what is too long to be carried on (J.4.5)
abbrev pub RefusesAs : {A : Type 0} → Part A → (now port : ℕ) → Mac → List ℕ → (stamp : ℕ) → NodeState A → Fault →
    Type 0
RefusesAs (Manager net m) now port from octets stamp n fault = (fault ≡ TooLong) × IsTooLong now from octets m
RefusesAs part now port from octets stamp n fault = RefusesOn now port from octets stamp n.ports n.part fault

abbrev pub HearingIsRefused : {A : Type 0} → (now port : ℕ) → Mac → List ℕ → (stamp : ℕ) → NodeState A → Fault → Type 0
HearingIsRefused now port from octets stamp n fault = RefusesAs n.part now port from octets stamp n fault

-- why a frame is refused that so many octets end: as what is heard is, at a port that was told of them (9.5.2)
pub record FrameIsRefused {A : Type 0} (now port count : ℕ) (from : Mac) (octets : List ℕ) (stamp : ℕ)
    (n : NodeState A) (fault : Fault) : Type 0 where
  pub counted : PortsState A
  pub told : CountsAt count now port (begun n) counted
  pub refused : RefusesOn now port from octets stamp counted.ports n.part fault

-- why a wake is refused: what its part says is too long for its port (6.6.2, 9, J)
abbrev pub WakeIsRefused : {A : Type 0} → ℕ → NodeState A → Fault → Type 0
WakeIsRefused now n fault = (fault ≡ TooLong) × IsOneTooLong (places_of n.ports) (downs_awake now n.part)

-- what a client says of an issue is too long for its port
pub record IssuesTooLong {A : Type 0} (now instance : ℕ) (request : Request A) (n : NodeState A) : Type 0 where
  pub id : ℕ
  pub told : PartTold A
  pub left : Part A
  pub issues : PartIssues now instance request n.part id told left
  pub long : IsOneTooLong (places_of n.ports) (over ITS_PORT told.said)

-- why an issue is refused: by its client, or what is said is too long (5.4.4.1)
abbrev pub IssueIsRefused : {A : Type 0} → (now instance : ℕ) → Request A → NodeState A → Fault → Type 0
IssueIsRefused now instance request n fault =
    (issue_refusal now instance request n.part ≡ Some fault)
    ⊎ ((fault ≡ TooLong) × IssuesTooLong now instance request n)

-- what a client says of a question is too long for its port
pub record AsksTooLong {A : Type 0} (now : ℕ) (limits : Option Limits) (n : NodeState A) : Type 0 where
  pub told : PartTold A
  pub left : Part A
  pub asks : PartAsks now limits n.part told left
  pub long : IsOneTooLong (places_of n.ports) (over ITS_PORT told.said)

-- why a question who is there is refused: its part is no client, or what is said is too long
abbrev pub AskingIsRefused : {A : Type 0} → ℕ → Option Limits → NodeState A → Fault → Type 0
AskingIsRefused now limits n fault =
    ((fault ≡ NoSuch) × IsNoClient n.part) ⊎ ((fault ≡ TooLong) × AsksTooLong now limits n)
