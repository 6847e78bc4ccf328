-- Which station of a bus hears a frame next, of those that were put out before some moment.
use Rattle.std.specs.Prelude.{◌≡◌, ◌⊎◌, ◌<◌, ℕ, ◌+◌, List, map, Option, Some, None, Result, Ok, Err}
use Rattle.bus_traffic.specs.Bus.{bus_of}
use Rattle.bus_traffic.specs.Telling.{IsNext, NoneWaits}
use Rattle.bus_traffic.specs.declared.bus.Bus.{Bus}
use Rattle.bus_traffic.specs.declared.ear.Ear.{Ear}
use Rattle.bus_traffic.specs.declared.sending.Recent.{Recent}
use Rattle.bus_traffic.specs.declared.telling.Telling.{Telling}
use Rattle.simulator.specs.world.World.{WorldState}
use Rattle.simulator.specs.world.site_events.declared.event.Event.{Event}
use Rattle.simulator.specs.world.site_events.declared.event.Event.TheVariants.{Hear}
use Rattle.npdu.specs.declared.mac.Mac.TheVariants.{One}
use Rattle.runner.specs.declared.hearing.Heard.{Heard}
use Rattle.simulator.specs.Flows.{left_to_tell}
use Rattle.site_parts.specs.declared.parts.Station.{Station}
use Rattle.site_views.specs.Views.{at_address}
use Rattle.tags.specs.declared.fault.Fault.{Fault}
use Rattle.tags.specs.declared.fault.Fault.TheVariants.{Memory, NoSuch}

-- nothing was heard, and nothing is to be
abbrev pub begun : Heard
begun = record { turn = record { frames = 0; ear = 0 }; before = 0 }

-- whose turn it is once a frame was heard at the ear at a place: the next ear's
abbrev pub turn_after : {A : Type 0} → Recent A → (place : ℕ) → Telling
turn_after r place = record { frames = r.sending.place.frames; ear = place + 1 }

-- how much is left to be heard: less with each turn
abbrev pub left_to_hear : Heard → ℕ
left_to_hear h = left_to_tell h.turn h.before

-- these are the buses of a world
abbrev pub AreBuses : {A : Type 0} → WorldState A → List (Bus A) → Type 0
AreBuses w buses = map (λ b. bus_of b) buses ≡ w.buses.buses

-- The next turn: of the frames that were put out before and may still be heard, this is the first that wasn't yet heard
-- at some ear, and this the first such ear. Behind it the next ear has its turn.
pub record IsNextTurn {A : Type 0} (w : WorldState A) (old new : Heard) : Type 0 where
  pub buses : List (Bus A)
  pub bus : Bus A
  pub recent : Recent A
  pub place : ℕ
  pub ear : Ear
  pub are : AreBuses w buses
  pub next : IsNext w.moment old.turn old.before buses bus recent place ear
  pub turn : new ≡ record old { turn = turn_after recent place }
  pub less : left_to_hear new < left_to_hear old

-- the station of the site at an address of a bus (9.5.2)
abbrev pub station_at : {A : Type 0} → WorldState A → (net address : ℕ) → Option (Station A)
station_at w net address = at_address w.site.stations (record { net = net; mac = One address }) w.site.stations

-- the station there hears these octets
pub record HearsThem {A : Type 0} (w : WorldState A) (net address : ℕ) (octets : List ℕ) (e : Event A) : Type 0 where
  pub station : Station A
  pub there : station_at w net address ≡ Some station
  pub event : e ≡ Hear net station.name octets

-- .. if there is one
abbrev pub HearsThemIfAny : {A : Type 0} → WorldState A → (net address : ℕ) → (octets : List ℕ) → Option (Event A) →
    Type 0
HearsThemIfAny w net address octets (Some e) = HearsThem w net address octets e
HearsThemIfAny w net address octets None = station_at w net address ≡ None

-- a station hears a frame of its bus, in its turn (9.5)
pub record HearsNext {A : Type 0} (e : Event A) (w : WorldState A) (old new : Heard) : Type 0 where
  pub turn : IsNextTurn w old new
  pub hears : HearsThem w turn.bus.net turn.ear.address turn.recent.sending.octets e

-- nobody has a turn: each frame was heard at each ear of its bus, or is too old
pub record IsOver {A : Type 0} (w : WorldState A) (old new : Heard) : Type 0 where
  pub buses : List (Bus A)
  pub are : AreBuses w buses
  pub over : NoneWaits w.moment old.turn old.before buses
  pub same : new ≡ old

-- an ear has its turn at which the site has no station
pub record MeetsNobody {A : Type 0} (w : WorldState A) (old new : Heard) : Type 0 where
  pub turn : IsNextTurn w old new
  pub nobody : station_at w turn.bus.net turn.ear.address ≡ None

-- what is heard next
abbrev pub IsNextHear : {A : Type 0} → WorldState A → (old new : Heard) → Result (Option (Event A)) Fault → Type 0
IsNextHear w old new (Ok (Some e)) = HearsNext e w old new
IsNextHear w old new (Ok None) = IsOver w old new
IsNextHear w old new (Err fault) =
    ((fault ≡ Memory) × (new ≡ old)) ⊎ ((fault ≡ NoSuch) × MeetsNobody w old new)
