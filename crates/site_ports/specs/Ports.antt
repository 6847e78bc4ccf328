-- The steps of a node's ports, one after another (6.1).
use Rattle.std.specs.Prelude.{◌≡◌, ◌⊎◌, ℕ, zero, suc, ◌+◌, ◌≤◌, ◌<◌, false, length, List, [], ◌∷◌, ◌++◌, map, Option}
use Rattle.std.specs.Prelude.{Some, None, slice_get, slice_set}
use Rattle.std.specs.List.{AllByRecursion}
use Rattle.history.specs.Lists.{Has}
use Rattle.link.specs.Limits.{max_npdu_at}
use Rattle.link.specs.Step.{LinkStep, over_port}
use Rattle.link_site.specs.Port.{moment_of, station_of}
use Rattle.link_site.specs.Steps as site
use Rattle.link_site.specs.declared.port.SitePort.{SitePort}
use Rattle.npdu.specs.declared.mac.Mac.{Mac}
use Rattle.npdu.specs.declared.mac.Station.{Station}
use Rattle.npdu.specs.declared.parcel.Parcel.{Parcel}
use Rattle.router.specs.declared.plan.PortParcel.{PortParcel}
use Rattle.site_ports.specs.Drafts.{PortsState}

-- where ports are (6.1)
abbrev pub places_of : {A : Type 0} → List (SitePort A) → List Station
places_of ports = map (λ l. station_of l) ports

-- all of these go down over this port, in order
abbrev pub over : {A : Type 0} → (port : ℕ) → List (Parcel A) → List (PortParcel A)
over port ps = map (λ p. record { port = port; parcel = p }) ps

-- one of these is too long for the port that it goes down over, at this place (9, J)
pub record IsOneTooLong {A : Type 0} (places : List Station) (said : List (PortParcel A)) : Type 0 where
  pub one : PortParcel A
  pub there : Has said one
  pub place : Station
  pub at_port : slice_get places one.port ≡ Some place
  pub long : max_npdu_at place.mac < length one.parcel.npdu

-- nothing is due at a port
abbrev pub NothingIsDue : {A : Type 0} → ℕ → List (SitePort A) → Type 0
NothingIsDue now ports = AllByRecursion (λ l. site.is_due now l ≡ false) ports

-- no port has seen a later moment
abbrev pub AreBefore : {A : Type 0} → ℕ → List (SitePort A) → Type 0
AreBefore now ports = AllByRecursion (λ l. moment_of l ≤ now) ports

-- a port makes this step, and what it puts out stands behind the rest
pub record Steps {A : Type 0} (does : SitePort A → LinkStep A → SitePort A → Type 0) (port : ℕ)
    (old new : PortsState A) : Type 0 where
  pub link : SitePort A
  pub there : slice_get old.ports port ≡ Some link
  pub step : LinkStep A
  pub left : SitePort A
  pub made : does link step left
  pub ports : new.ports ≡ slice_set old.ports port left
  pub puts : new.out ≡ old.out ++ over_port port step.out

-- there is no such port, and nothing changes
pub record Misses {A : Type 0} (port : ℕ) (old new : PortsState A) : Type 0 where
  pub missing : slice_get old.ports port ≡ None
  pub same : new ≡ old

-- one parcel goes down over a port
abbrev pub DownsOne : {A : Type 0} → ℕ → (port : ℕ) → Parcel A → (old new : PortsState A) → Type 0
DownsOne now port p old new = Steps (site.Downs now p) port old new ⊎ Misses port old new

-- one thing behind another
pub record Then {S : Type 0} (First : S → Type 0) (Rest : S → Type 0) : Type 0 where
  pub middle : S
  pub first : First middle
  pub rest : Rest middle

-- parcels go down, each over its port, one after another
abbrev pub DownsEach : {A : Type 0} → ℕ → List (PortParcel A) → (old new : PortsState A) → Type 0
DownsEach now [] old new = new ≡ old
DownsEach now (o ∷ os) old new =
    Then (DownsOne now o.port o.parcel old) (λ middle. DownsEach now os middle new)

-- octets come to a port: what comes up of them
abbrev pub HearsAt : {A : Type 0} → ℕ → (port : ℕ) → (from : Mac) → (octets : List ℕ) → (stamp : ℕ) →
    (old : PortsState A) → Option (Parcel A) → (new : PortsState A) → Type 0
HearsAt now port from octets stamp old up new =
    Steps (λ l s m. site.Hears now from octets stamp l s m × (up ≡ s.up)) port old new
    ⊎ (Misses port old new × (up ≡ None))

-- a port registers, where it is one of a foreign device (J.5.2)
abbrev pub RegistersAt : {A : Type 0} → ℕ → (port : ℕ) → (old new : PortsState A) → Type 0
RegistersAt now port old new = Steps (site.Registers now) port old new ⊎ Misses port old new

-- so many octets are heard at a port, in a frame or not (9.5.2)
abbrev pub CountsAt : {A : Type 0} → (count now : ℕ) → (port : ℕ) → (old new : PortsState A) → Type 0
CountsAt count now port old new = Steps (site.Counts count now) port old new ⊎ Misses port old new

-- the ports from a number on wake in order
abbrev pub WakesFrom : {A : Type 0} → ℕ → (first count : ℕ) → (old new : PortsState A) → Type 0
WakesFrom now first zero old new = new ≡ old
WakesFrom now first (suc count) old new =
    Then (Steps (site.Wakes now) first old) (λ middle. WakesFrom now (first + 1) count middle new)

-- all ports wake, in order (9.5.6)
abbrev pub WakesAll : {A : Type 0} → ℕ → (old new : PortsState A) → Type 0
WakesAll now old new = WakesFrom now 0 (length old.ports) old new
