-- What a turn of a runner leaves.
use Rattle.std.specs.Prelude.{◌≡◌, ◌⊎◌, ℕ, true, false, Option, Some, None, Result, Ok, Err}
use Rattle.simulator.specs.Heard.{HasBrought}
use Rattle.simulator.specs.world.Refusals.{IsRefused}
use Rattle.simulator.specs.world.Resting.{RestsIfQuiet}
use Rattle.simulator.specs.world.Step.{Steps}
use Rattle.simulator.specs.world.site_events.declared.event.Event.{Event}
use Rattle.simulator.specs.world.site_events.declared.event.Event.TheVariants.{Deliver}
use Rattle.tags.specs.declared.fault.Fault.{Fault}
use Rattle.tags.specs.declared.fault.Fault.TheVariants.{Wire}
use Rattle.wire.specs.Counts.{raised}
use Rattle.wire.specs.Datagrams.{Datagram, IsWhole}
use Rattle.runner.specs.Runner.{RunnerState}
use Rattle.runner.specs.Seeking.{IsLastMatch, IsStray}
use Rattle.runner.specs.Strays.{IsRefusedStray, TakesStray}
use Rattle.runner.specs.declared.turned.Turned.{Turned}
use Rattle.runner.specs.declared.turned.Turned.TheVariants.{Stepped, Stray, Dropped, Nothing}
use Rattle.world_kept.specs.Kept.{BringsToAll}

-- nothing has changed, but that the latest turn had no stray
abbrev pub IsIdle : {A : Type 0} → (old new : RunnerState A) → Type 0
IsIdle old new = new ≡ record old { strayed = false }

-- the step of an event was made, by which a station of which nothing is due said and told nothing; where no stray was
-- heard and nothing handed out or forgotten so far, what it brought was said, issued and whole; and always so in
-- whatever world, with all its past, that events alone led to and of which the old one is kept
pub record HasMade {A : Type 0} (e : Event A) (old new : RunnerState A) : Type 0 where
  pub steps : Steps e old.world new.world
  pub rests : RestsIfQuiet e old.world new.world
  pub brought : old.is_led ≡ true → old.is_whole ≡ true → HasBrought e old.world new.world
  pub brings : BringsToAll e old.world
  pub rest : new ≡ record old { world = new.world; strayed = false }

-- a datagram came that is an item, which was delivered
pub record HasDelivered {A : Type 0} (d : Datagram) (old new : RunnerState A) : Type 0 where
  pub number : ℕ
  pub whole : IsWhole d
  pub item : IsLastMatch old.world.moment d old.world.items number
  pub made : HasMade (Deliver number) old new

-- a datagram came that nobody of the site sent, and an open runner handed it to its station, which heard it
pub record HasStrayed {A : Type 0} (d : Datagram) (old new : RunnerState A) : Type 0 where
  pub whole : IsWhole d
  pub stray : IsStray old.world.moment d old.world.items
  pub is_open : old.is_open ≡ true
  pub takes : TakesStray d old.world new.world
  pub rest : new ≡ record old { world = new.world; strayed = true; is_led = false }

-- a datagram is dropped that fills the buffer
pub record IsCut (d : Datagram) : Type 0 where
  pub cut : IsWhole d → ⊥

-- .. or that nobody of the site sent, in a runner that isn't open
pub record IsUnheard {A : Type 0} (d : Datagram) (r : RunnerState A) : Type 0 where
  pub whole : IsWhole d
  pub stray : IsStray r.world.moment d r.world.items
  pub closed : r.is_open ≡ false

-- what was done, for what was given and what the wire brought, by what is answered
abbrev pub HasTurned : {A : Type 0} → Option (Event A) → Option Datagram → (old new : RunnerState A) → Turned → Type 0
HasTurned (Some e) latest old new Stepped = HasMade e old new
HasTurned None (Some d) old new Stepped = HasDelivered d old new
HasTurned None (Some d) old new Stray = HasStrayed d old new
HasTurned None (Some d) old new Dropped = (IsCut d ⊎ IsUnheard d old) × IsIdle old new
HasTurned None None old new Nothing = IsIdle old new
HasTurned next latest old new turned = ⊥

-- a delivery of what came is refused
pub record RefusesDelivery {A : Type 0} (d : Datagram) (r : RunnerState A) (fault : Fault) : Type 0 where
  pub number : ℕ
  pub whole : IsWhole d
  pub item : IsLastMatch r.world.moment d r.world.items number
  pub refused : IsRefused (Deliver number) r.world fault

-- a stray is refused by an open runner's world
pub record RefusesStraying {A : Type 0} (d : Datagram) (r : RunnerState A) (fault : Fault) : Type 0 where
  pub whole : IsWhole d
  pub stray : IsStray r.world.moment d r.world.items
  pub is_open : r.is_open ≡ true
  pub refused : IsRefusedStray d r.world fault

-- why a turn is refused, other than by the wire: as the world refuses the event, the delivery or the stray
abbrev pub Refuses : {A : Type 0} → Option (Event A) → Option Datagram → RunnerState A → Fault → Type 0
Refuses (Some e) latest r fault = IsRefused e r.world fault
Refuses None (Some d) r fault = RefusesDelivery d r fault ⊎ RefusesStraying d r fault
Refuses None None r fault = ⊥

-- nothing could be received, and nothing has changed
pub record HasReceivedNothing {A : Type 0} (next : Option (Event A)) (latest : Option Datagram)
    (old new : RunnerState A) : Type 0 where
  pub received : next ≡ None
  pub nothing : latest ≡ None
  pub idle : IsIdle old new

-- all was done, and then a datagram couldn't be sent
pub record HasNotSent {A : Type 0} (next : Option (Event A)) (latest : Option Datagram) (old new : RunnerState A) :
    Type 0 where
  pub turned : Turned
  pub done : HasTurned next latest old new turned

-- the world refused what was to be done, and nothing has changed
pub record HasRefused {A : Type 0} (next : Option (Event A)) (latest : Option Datagram) (old new : RunnerState A)
    (fault : Fault) : Type 0 where
  pub refused : Refuses next latest old fault
  pub idle : IsIdle old new

-- the wire failed: nothing was received, or not all was sent
abbrev pub HasFailed : {A : Type 0} → Option (Event A) → Option Datagram → (old new : RunnerState A) → Type 0
HasFailed next latest old new = HasReceivedNothing next latest old new ⊎ HasNotSent next latest old new

-- what a turn comes to
abbrev pub IsTurn : {A : Type 0} → Option (Event A) → Option Datagram → (old new : RunnerState A) →
    Result Turned Fault → Type 0
IsTurn next latest old new (Ok turned) = HasTurned next latest old new turned
IsTurn next latest old new (Err fault) =
    ((fault ≡ Wire) × HasFailed next latest old new) ⊎ HasRefused next latest old new fault

-- why nothing was done: nothing could be received, or the world refuses
pub record IsSilent {A : Type 0} (next : Option (Event A)) (latest : Option Datagram) (fault : Fault) : Type 0 where
  pub wire : fault ≡ Wire
  pub received : next ≡ None
  pub nothing : latest ≡ None

abbrev pub IsUndone : {A : Type 0} → Option (Event A) → Option Datagram → RunnerState A → Fault → Type 0
IsUndone next latest r fault = IsSilent next latest fault ⊎ Refuses next latest r fault

-- a turn receives where it is given no event
abbrev pub received : {A : Type 0} → Option (Event A) → (recvs : ℕ) → ℕ
received None recvs = raised recvs 1
received (Some e) recvs = recvs
