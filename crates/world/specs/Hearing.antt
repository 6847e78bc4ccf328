-- Octets that are heard on a bus: the node that is named hears the frames that they end, one after another, and its ear
-- keeps what is left (9.5.4).
use Rattle.std.specs.Prelude.{◌≡◌, ◌⊎◌, ℕ, zero, suc, List, [], ◌∷◌, Some, slice_get}
use Rattle.bus_traffic.specs.Bus.{BusState}
use Rattle.bus_traffic.specs.declared.ear.Ear.{Ear}
use Rattle.bus_traffic.specs.declared.hearing.Ending.TheVariants.{Over, Refused}
use Rattle.bus_traffic.specs.declared.hearing.HeardFrame.{HeardFrame}
use Rattle.buses.specs.Finding.{HasEarOf}
use Rattle.buses.specs.Hearing.{HearsAt, heard_at}
use Rattle.buses.specs.declared.buses.EarHearing.{EarHearing}
use Rattle.world_log.specs.node_laws.Stands.{Stands}
use Rattle.npdu.specs.declared.mac.Mac.TheVariants.{One}
use Rattle.world_log.specs.site_node.Node.{NodeState, node_places}
use Rattle.world_log.specs.site_node.Refusals.{FrameIsRefused}
use Rattle.world_log.specs.site_node.Steps.{NodeCounts, NodeHearsFrame, NodeTold}
use Rattle.world_log.specs.site_ports.Ports.{Then}
use Rattle.tags.specs.declared.fault.Fault.{Fault}
use Rattle.world.specs.Acting.{Acts}
use Rattle.world.specs.World.{WorldState}
use Rattle.world.specs.declared.listener.Listener.{Listener}
use Rattle.world_sites.specs.Listening.{HearsWith}

-- the node at a place hears on the bus of a number, with this port at this address (6.6.1)
pub record Listens {A : Type 0} (network place : ℕ) (w : WorldState A) (l : Listener) : Type 0 where
  pub n : NodeState A
  pub there : slice_get w.nodes place ≡ Some n
  pub at : l.place ≡ place
  pub with : HearsWith network (node_places n) l.port l.mac

-- a node, which stands as it must, hears a frame of its bus, once its port was told of the octets that end it (9.5.2)
pub record Takes {A : Type 0} (l : Listener) (f : HeardFrame A) (w v : WorldState A) : Type 0 where
  pub n : NodeState A
  pub stands : Stands w.moment n
  pub next : NodeState A
  pub told : NodeTold A
  pub hears : NodeHearsFrame w.moment l.port f.used (One l.mac) f.octets f.stamp n told next
  pub acts : Acts w v l.place n next told

-- the port of a node is told of octets that end no frame (9.5.2)
pub record IsToldOf {A : Type 0} (l : Listener) (count : ℕ) (w v : WorldState A) : Type 0 where
  pub n : NodeState A
  pub stands : Stands w.moment n
  pub next : NodeState A
  pub told : NodeTold A
  pub counts : NodeCounts w.moment l.port count n told next
  pub acts : Acts w v l.place n next told

-- .. of so many, if there are any
abbrev pub IsTold : {A : Type 0} → Listener → (count : ℕ) → (w v : WorldState A) → Type 0
IsTold l zero w v = v ≡ w
IsTold l (suc n) w v = IsToldOf l (suc n) w v

-- frames are heard one after another
abbrev pub TakesEach : {A : Type 0} → Listener → List (HeardFrame A) → (w v : WorldState A) → Type 0
TakesEach l [] w v = v ≡ w
TakesEach l (f ∷ fs) w v = Then (Takes l f w) (λ u. TakesEach l fs u v)

-- frames are heard, and so many octets end none
abbrev pub TakesAll : {A : Type 0} → Listener → List (HeardFrame A) → (rest : ℕ) → (w v : WorldState A) → Type 0
TakesAll l fs rest w v = Then (TakesEach l fs w) (λ u. IsTold l rest u v)

-- that is one thing at most: for private functions alone
abbrev pub IsOne : {A : Type 0} → List (HeardFrame A) → (rest : ℕ) → Type 0
IsOne [] rest = Unit {0}
IsOne (f ∷ []) rest = rest ≡ 0
IsOne (f ∷ g ∷ fs) rest = ⊥

-- the ear of a node at these places has heard octets, and keeps these
pub record Keeps {A : Type 0} (bus_place ear_place : ℕ) (octets kept : List ℕ) (w v : WorldState A) : Type 0 where
  pub bus : BusState A
  pub ear : Ear
  pub bus_there : slice_get w.buses.buses bus_place ≡ Some bus
  pub ear_there : slice_get bus.ears ear_place ≡ Some ear
  pub is : v ≡ record w { buses = heard_at w.moment bus_place ear_place octets kept ear bus w.buses }

-- what comes of it where an ear makes this of octets: none of the frames that they end is one that may not be heard
pub record Settles {A : Type 0} (l : Listener) (at : EarHearing A) (octets : List ℕ) (w v : WorldState A) : Type 0 where
  pub rest : ℕ
  pub kept : List ℕ
  pub over : at.hearing.ending ≡ Over rest kept
  pub does : Then (TakesAll l at.hearing.frames rest w) (λ u. Keeps at.bus at.ear octets kept u v)

-- what is heard of octets at the ear of the node at a place
pub record Hears {A : Type 0} (network place : ℕ) (octets : List ℕ) (w v : WorldState A) : Type 0 where
  pub listener : Listener
  pub at : EarHearing A
  pub listens : Listens network place w listener
  pub heard : HearsAt w.moment network listener.mac octets w.buses.buses at
  pub settles : Settles listener at octets w v

-- the node at a place has an ear on the bus of a number
pub record HasListener {A : Type 0} (network place : ℕ) (w : WorldState A) : Type 0 where
  pub listener : Listener
  pub listens : Listens network place w listener
  pub ear : HasEarOf network listener.mac w.buses.buses

-- no node has one there
pub record HasNoListener {A : Type 0} (network place : ℕ) (w : WorldState A) : Type 0 where
  pub none : HasListener network place w → ⊥

-- a node refuses a frame
pub record RefusesFrame {A : Type 0} (l : Listener) (fault : Fault) (f : HeardFrame A) (w : WorldState A) : Type 0 where
  pub n : NodeState A
  pub there : slice_get w.nodes l.place ≡ Some n
  pub refuses : FrameIsRefused w.moment l.port f.used (One l.mac) f.octets f.stamp n fault

-- one of these frames is refused, once those before it were heard
abbrev pub RefusesOne : {A : Type 0} → Listener → Fault → List (HeardFrame A) → WorldState A → Type 0
RefusesOne l fault [] w = ⊥
RefusesOne l fault (f ∷ fs) w = RefusesFrame l fault f w ⊎ Then (Takes l f w) (λ u. RefusesOne l fault fs u)

-- why octets are refused of which an ear makes this: the first frame that is refused decides, be it by its node, or
-- since it may not be heard
abbrev pub RefusesHeard : {A : Type 0} → Listener → EarHearing A → WorldState A → Fault → Type 0
RefusesHeard l at w fault = RefusesOne l fault at.hearing.frames w
    ⊎ ((at.hearing.ending ≡ Refused fault) × Then (TakesEach l at.hearing.frames w) (λ u. Unit {0}))

-- .. where the node at a place hears them
pub record RefusesOctets {A : Type 0} (network place : ℕ) (octets : List ℕ) (w : WorldState A) (fault : Fault) :
    Type 0 where
  pub listener : Listener
  pub at : EarHearing A
  pub listens : Listens network place w listener
  pub heard : HearsAt w.moment network listener.mac octets w.buses.buses at
  pub why : RefusesHeard listener at w fault
