-- What an event hears, executes and tells: it was said, it was issued, it is of its issue, and it came whole.
use Rattle.std.specs.Prelude.{◌≡◌, ℕ, List, [], ◌∷◌, Option, None, Some}
use Rattle.std.specs.List.{AllByRecursion}
use Rattle.apdu.specs.Apdu.{PlainApdu}
use Rattle.bus_traffic.specs.declared.hearing.HeardFrame.{HeardFrame}
use Rattle.world.specs.carry_world.Answers.{AnswerComesWhole, IsOfExecution}
use Rattle.world.specs.carry_world.Laws.{IsHeardAsSaid, IsIssuedTo, IsOfItsIssue, IsWholeIssue}
use Rattle.world.specs.carry_world.carry_said.headline_site.Laws.{ComesWhole}
use Rattle.world.specs.client.Client.{ClientState}
use Rattle.world.specs.client.client_tsm.Hearing as client_tsm
use Rattle.world.specs.device.Device.{DeviceState}
use Rattle.world.specs.device.server_answers.Executed.{Executed}
use Rattle.world.specs.device.server_tsm.Hearing as server_tsm
use Rattle.npdu.specs.declared.mac.Mac.{Mac}
use Rattle.npdu.specs.declared.parcel.Parcel.{Parcel}
use Rattle.world.specs.site_node.Node.{NodeState, home_of}
use Rattle.world.specs.site_node.Steps.{HearsAs, NodeTold}
use Rattle.world.specs.site_node.declared.part.Part.{Part}
use Rattle.world.specs.site_node.declared.part.Part.TheVariants.{Device, Client, Router, Manager}
use Rattle.world.specs.site_node.declared.told.PartTold.{PartTold}
use Rattle.unitdata.specs.Hearing.{Brings, Heard, says}
use Rattle.world.specs.Hearing.{Hears, TakesEach}
use Rattle.world.specs.Step.{Delivers, HasName, Wakes}
use Rattle.world.specs.World.{WorldState, plain}
use Rattle.world.specs.site_events.declared.event.Event.{Event}
use Rattle.world.specs.site_events.declared.event.Event.TheVariants as event
use Rattle.world.specs.declared.happening.Happening.{Happening}
use Rattle.world.specs.declared.happening.Happening.TheVariants as happening
use Rattle.world.specs.declared.listener.Listener.{Listener}

-- what comes up to a part was said, octet for octet, by the station that is named as its source, for a destination that
-- covers where its application entity is, at most LIFE_MS ago (6.2, 6.3)
pub record WasSaid {A : Type 0} (w : WorldState A) (part : Part A) (up : Option (Parcel A)) (told : PartTold A) :
    Type 0 where
  pub said : (p : Parcel A) (h : Heard) (a : PlainApdu) → up ≡ Some p →
      Brings (home_of part).net p.from p.to p.npdu h → h.content ≡ says a →
      IsHeardAsSaid w.moment w.said (home_of part) p h a

-- what a device executes on it is the request of the asker's last issue under that invoke ID, which names this device
-- (5.4.5)
pub record WasIssued {A : Type 0} (w : WorldState A) (part : Part A) (up : Option (Parcel A)) (told : PartTold A) :
    Type 0 where
  pub issued : (d : DeviceState A) (x : Executed A) → part ≡ Device d → told.executed ≡ Some x →
      IsIssuedTo (plain w) d x

-- what a client tells on it, or where it wakes, is of its last issue under that invoke ID, and a reply is that of an
-- execution of the issue (5.4.4)
pub record AreOfIssues {A : Type 0} (w : WorldState A) (part : Part A) (up : Option (Parcel A)) (told : PartTold A) :
    Type 0 where
  pub issues : (c : ClientState A) → part ≡ Client c → AllByRecursion (λ t. IsOfItsIssue (plain w) c t) told.outcomes

-- a request that comes whole to a device by it, be it executed, rejected or aborted, is the whole body of the asker's
-- last issue under that invoke ID, which names this device (5.4.5.1, 5.4.5.2)
pub record IsWholeRequest {A : Type 0} (w : WorldState A) (part : Part A) (up : Option (Parcel A))
    (told : PartTold A) : Type 0 where
  pub whole : (d : DeviceState A) (p : Parcel A) (x : server_tsm.Whole A) → part ≡ Device d → up ≡ Some p →
      ComesWhole w.moment p.from p.to p.npdu d x → IsWholeIssue (plain w) d x

-- an answer that comes whole to a client by it, be it given or dropped, is the whole answer of one execution of the
-- issue (5.4.4.3, 5.4.4.4)
pub record IsWholeAnswer {A : Type 0} (w : WorldState A) (part : Part A) (up : Option (Parcel A)) (told : PartTold A) :
    Type 0 where
  pub whole : (c : ClientState A) (p : Parcel A) (x : client_tsm.Whole A) → part ≡ Client c → up ≡ Some p →
      AnswerComesWhole w.moment p.from p.to p.npdu c x → IsOfExecution (plain w) c x

module _ {A : Type 0} where
  -- what comes up of octets that a node hears: to a manager nothing does (J.4.5)
  abbrev pub up_of : (part : Part A) → (now port : ℕ) → (from : Mac) → (octets : List ℕ) → (stamp : ℕ) →
      (old : NodeState A) → (t : NodeTold A) → (new : NodeState A) →
      HearsAs part now port from octets stamp old t new → Option (Parcel A)
  up_of (Manager net m) now port from octets stamp old t new h = None
  up_of (Device d) now port from octets stamp old t new h = h.hears.up
  up_of (Client c) now port from octets stamp old t new h = h.hears.up
  up_of (Router r) now port from octets stamp old t new h = h.hears.up

-- this holds wherever a device or a client hears or wakes: of the world in which it does, of itself, of what comes up
-- to it, if anything does, and of what it tells on that
module _ {A : Type 0} (Holds : WorldState A → Part A → Option (Parcel A) → PartTold A → Type 0) where
  -- .. of any node's part: a router and a manager execute and tell nothing (6.6, J.4)
  abbrev pub HoldsFor : WorldState A → Part A → Option (Parcel A) → PartTold A → Type 0
  HoldsFor w (Device d) up told = Holds w (Device d) up told
  HoldsFor w (Client c) up told = Holds w (Client c) up told
  HoldsFor w (Router r) up told = Unit {0}
  HoldsFor w (Manager net m) up told = Unit {0}

  -- .. where an item is handed to it
  pub record HoldsAtDelivery (number : ℕ) (w v : WorldState A) : Type 0 where
    pub holds : (d : Delivers number w v) → HoldsFor w d.n.part
        (up_of d.n.part w.moment d.port d.item.from d.item.octets d.item.stamp d.n d.told d.next d.hears) d.told.told

  -- .. at each of these frames of its bus, in the world that those before it left
  abbrev pub HoldsAtEach : (l : Listener) → (fs : List (HeardFrame A)) → (w v : WorldState A) → TakesEach l fs w v →
      Type 0
  HoldsAtEach l [] w v t = Unit {0}
  HoldsAtEach l (f ∷ fs) w v t =
      HoldsFor w t.first.n.part t.first.hears.heard.up t.first.told.told × HoldsAtEach l fs t.middle v t.rest

  -- .. where octets are heard on a bus: at each frame that they end
  pub record HoldsAtHearing (network place : ℕ) (octets : List ℕ) (w v : WorldState A) : Type 0 where
    pub holds : (d : Hears network place octets w v) → HoldsAtEach d.listener d.at.hearing.frames w
        d.settles.does.first.middle d.settles.does.first.first

  -- .. where its timers expire: nothing comes up to it then
  pub record HoldsAtWake (place : ℕ) (w v : WorldState A) : Type 0 where
    pub holds : (d : Wakes place w v) → HoldsFor w d.n.part None d.told.told

  -- .. by what happens at a place; by all else they hear and tell nothing
  abbrev pub HoldsIn : Happening A → WorldState A → WorldState A → Type 0
  HoldsIn (happening.Deliver number) w v = HoldsAtDelivery number w v
  HoldsIn (happening.Hear network place octets) w v = HoldsAtHearing network place octets w v
  HoldsIn (happening.Wake place) w v = HoldsAtWake place w v
  HoldsIn h w v = Unit {0}

  -- .. at the place of the node of a name
  pub record HoldsNamed (name : List ℕ) (at : ℕ → Happening A) (w v : WorldState A) : Type 0 where
    pub holds : (place : ℕ) → HasName name w place → HoldsIn (at place) w v

  -- .. by an event
  abbrev pub HoldsBy : Event A → WorldState A → WorldState A → Type 0
  HoldsBy (event.Deliver number) w v = HoldsIn (happening.Deliver number) w v
  HoldsBy (event.Hear network name octets) w v = HoldsNamed name (λ place. happening.Hear network place octets) w v
  HoldsBy (event.Wake name) w v = HoldsNamed name (λ place. happening.Wake place) w v
  HoldsBy e w v = Unit {0}

-- so it is of all that an event brings to devices and clients
abbrev pub HeardWasSaid : {A : Type 0} → Event A → WorldState A → WorldState A → Type 0
HeardWasSaid e w v = HoldsBy WasSaid e w v

abbrev pub ExecutedWasIssued : {A : Type 0} → Event A → WorldState A → WorldState A → Type 0
ExecutedWasIssued e w v = HoldsBy WasIssued e w v

abbrev pub OutcomesHaveIssues : {A : Type 0} → Event A → WorldState A → WorldState A → Type 0
OutcomesHaveIssues e w v = HoldsBy AreOfIssues e w v

abbrev pub RequestsAreWhole : {A : Type 0} → Event A → WorldState A → WorldState A → Type 0
RequestsAreWhole e w v = HoldsBy IsWholeRequest e w v

abbrev pub AnswersAreWhole : {A : Type 0} → Event A → WorldState A → WorldState A → Type 0
AnswersAreWhole e w v = HoldsBy IsWholeAnswer e w v

-- all of that
pub record HasBrought {A : Type 0} (e : Event A) (w v : WorldState A) : Type 0 where
  pub heard : HeardWasSaid e w v
  pub executed : ExecutedWasIssued e w v
  pub outcomes : OutcomesHaveIssues e w v
  pub requests : RequestsAreWhole e w v
  pub answers : AnswersAreWhole e w v
