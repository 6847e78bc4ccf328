-- Why an event is refused.
use Rattle.std.specs.Prelude.{◌≡◌, ◌⊎◌, ◌<◌, ℕ, ◌+◌, true, false, List, [], ◌∷◌, None, Some, slice_get}
use Rattle.world_log.specs.link_site.Port.{is_foreign}
use Rattle.world_log.specs.link_site.declared.port.SitePort.{SitePort}
use Rattle.profile.specs.Times.{MAX_MOMENT_MS, MAX_TICK_MS}
use Rattle.world_log.specs.site_node.Node.{NodeState}
use Rattle.world_log.specs.site_node.Part.{ITS_PORT, IsClient, IsDevice, IsNoDevice}
use Rattle.world_log.specs.site_node.Refusals.{AskingIsRefused, HearingIsRefused, IssueIsRefused, WakeIsRefused}
use Rattle.world_log.specs.site_node.Steps.{IsNotForeign, IsQuiet}
use Rattle.world_log.specs.site_ports.Ports.{Then}
use Rattle.tags.specs.declared.fault.Fault.{Fault}
use Rattle.tags.specs.declared.fault.Fault.TheVariants.{Expired, Memory, NoSuch}
use Rattle.traffic.specs.Seeking.{is_young}
use Rattle.traffic.specs.declared.item.Item.{Item}
use Rattle.world.specs.Hearing.{HasListener, HasNoListener, RefusesOctets}
use Rattle.world.specs.Step.{AtName, Steps, Happens, addressee_of}
use Rattle.world.specs.World.{WorldState}
use Rattle.site_events.specs.declared.event.Event.{Event}
use Rattle.site_events.specs.declared.event.Event.TheVariants as event
use Rattle.world.specs.declared.happening.Happening.{Happening}
use Rattle.world.specs.declared.happening.Happening.TheVariants as happening
use Rattle.world_sites.specs.Finding.{IsNobody, IsNodeAt}

-- the node at a place is so, or refuses so
pub record Of {A : Type 0} (place : ℕ) (w : WorldState A) (Is : NodeState A → Type 0) : Type 0 where
  pub n : NodeState A
  pub there : slice_get w.nodes place ≡ Some n
  pub is : Is n

-- no node is at a place, or that one refuses so
abbrev pub RefusesAt : {A : Type 0} → (place : ℕ) → WorldState A → Fault → (NodeState A → Type 0) → Type 0
RefusesAt place w fault Says = ((fault ≡ NoSuch) × (slice_get w.nodes place ≡ None)) ⊎ Of place w Says

-- an item was never put out, or goes to nobody
pub record IsNowhere {A : Type 0} (number : ℕ) (w : WorldState A) : Type 0 where
  pub none : (item : Item A) (place port : ℕ) (n : NodeState A) → slice_get w.items number ≡ Some item →
      IsNodeAt (addressee_of item) w.nodes place port n → ⊥

-- an item that goes to a node, which may still hear it or not
pub record GoesTo {A : Type 0} (number : ℕ) (w : WorldState A) : Type 0 where
  pub item : Item A
  pub place : ℕ
  pub port : ℕ
  pub n : NodeState A
  pub there : slice_get w.items number ≡ Some item
  pub addressee : IsNodeAt (addressee_of item) w.nodes place port n

-- .. is too old to be heard
pub record IsTooOld {A : Type 0} (number : ℕ) (w : WorldState A) : Type 0 where
  pub goes : GoesTo number w
  pub old : is_young w.moment goes.item ≡ false

-- .. is refused by its addressee, which may still hear it (6.5, J.4.5)
pub record IsRefusedThere {A : Type 0} (number : ℕ) (w : WorldState A) (fault : Fault) : Type 0 where
  pub goes : GoesTo number w
  pub young : is_young w.moment goes.item ≡ true
  pub refuses : HearingIsRefused w.moment goes.port goes.item.from goes.item.octets goes.item.stamp goes.n fault

-- why an item is refused: there is none, or it goes to nobody; it is too old; or its addressee refuses it
abbrev pub RefusesItem : {A : Type 0} → (number : ℕ) → WorldState A → Fault → Type 0
RefusesItem number w fault = ((fault ≡ NoSuch) × IsNowhere number w)
    ⊎ (((fault ≡ Expired) × IsTooOld number w) ⊎ IsRefusedThere number w fault)

-- so many milliseconds don't pass at once
abbrev pub IsNoTick : (n moment : ℕ) → Type 0
IsNoTick n moment = (n < 1) ⊎ ((MAX_TICK_MS < n) ⊎ (MAX_MOMENT_MS < moment + n))

-- why what happens at a place is refused, other than for want of memory
abbrev pub RefusesIt : {A : Type 0} → Happening A → WorldState A → Fault → Type 0
RefusesIt (happening.Issue client instance request) w fault =
    RefusesAt client w fault (λ n. IssueIsRefused w.moment instance request n fault)
RefusesIt (happening.WhoIs client limits) w fault =
    RefusesAt client w fault (λ n. AskingIsRefused w.moment limits n fault)
RefusesIt (happening.Tick n) w fault = (fault ≡ NoSuch) × IsNoTick n w.moment
RefusesIt (happening.Wake node) w fault = RefusesAt node w fault (λ n. WakeIsRefused w.moment n fault)
RefusesIt (happening.Deliver number) w fault = RefusesItem number w fault
RefusesIt (happening.Restart node) w fault = RefusesAt node w fault (λ n. (fault ≡ NoSuch) × IsNoDevice n.part)
RefusesIt (happening.Hear network node octets) w fault =
    ((fault ≡ NoSuch) × HasNoListener network node w) ⊎ RefusesOctets network node octets w fault
RefusesIt (happening.Register node) w fault =
    RefusesAt node w fault (λ n. (fault ≡ NoSuch) × IsNotForeign w.moment n)

-- an item that may still be heard goes to a node
pub record MayBeHeard {A : Type 0} (number : ℕ) (w : WorldState A) : Type 0 where
  pub goes : GoesTo number w
  pub young : is_young w.moment goes.item ≡ true

-- something is due of a node where it wakes: a timer of its own, or of a port (5.4.1, 6.6.2, 9.5.6)
pub record HasDue {A : Type 0} (now : ℕ) (n : NodeState A) : Type 0 where
  pub due : IsQuiet now n → ⊥

-- a node is a foreign one: its port is a foreign device's (J.5.2)
pub record IsForeign {A : Type 0} (n : NodeState A) : Type 0 where
  pub port : SitePort A
  pub there : slice_get n.ports ITS_PORT ≡ Some port
  pub foreign : is_foreign port ≡ true

-- what happens may want memory: an issue and a question of a client that is there, a wake at which something is due,
-- the restart of a device, the registration of a foreign node, a delivery that isn't refused for the item itself, and a
-- hearing of a node that is on that bus; a tick never does
abbrev pub MayGrow : {A : Type 0} → Happening A → WorldState A → Type 0
MayGrow (happening.Issue client instance request) w = Of client w (λ n. IsClient n.part)
MayGrow (happening.WhoIs client limits) w = Of client w (λ n. IsClient n.part)
MayGrow (happening.Tick n) w = ⊥
MayGrow (happening.Wake node) w = Of node w (HasDue w.moment)
MayGrow (happening.Deliver number) w = MayBeHeard number w
MayGrow (happening.Restart node) w = Of node w (λ n. IsDevice n.part)
MayGrow (happening.Hear network node octets) w = HasListener network node w
MayGrow (happening.Register node) w = Of node w IsForeign

-- why what happens at a place is refused
abbrev pub HappeningIsRefused : {A : Type 0} → Happening A → WorldState A → Fault → Type 0
HappeningIsRefused h w fault = ((fault ≡ Memory) × MayGrow h w) ⊎ RefusesIt h w fault

-- no node has the name of an event, or what happens at its place is refused
abbrev pub RefusesNamed : {A : Type 0} → (name : List ℕ) → (ℕ → Happening A) → WorldState A → Fault → Type 0
RefusesNamed name at w fault =
    ((fault ≡ NoSuch) × IsNobody name w.nodes) ⊎ AtName name w (λ place. HappeningIsRefused (at place) w fault)

-- why an event by names is refused
abbrev pub IsRefused : {A : Type 0} → Event A → WorldState A → Fault → Type 0
IsRefused (event.Issue client instance request) w fault =
    RefusesNamed client (λ place. happening.Issue place instance request) w fault
IsRefused (event.WhoIs client limits) w fault = RefusesNamed client (λ place. happening.WhoIs place limits) w fault
IsRefused (event.Tick n) w fault = HappeningIsRefused (happening.Tick n) w fault
IsRefused (event.Wake station) w fault = RefusesNamed station (λ place. happening.Wake place) w fault
IsRefused (event.Deliver number) w fault = HappeningIsRefused (happening.Deliver number) w fault
IsRefused (event.Restart station) w fault = RefusesNamed station (λ place. happening.Restart place) w fault
IsRefused (event.Hear network station octets) w fault =
    RefusesNamed station (λ place. happening.Hear network place octets) w fault
IsRefused (event.Register station) w fault = RefusesNamed station (λ place. happening.Register place) w fault

-- an event leaves what it leaves where it is accepted, or is refused and changes nothing
pub record IsRefusedSo {A : Type 0} (e : Event A) (w v : WorldState A) : Type 0 where
  pub fault : Fault
  pub refused : IsRefused e w fault
  pub same : v ≡ w

abbrev pub Comes : {A : Type 0} → Event A → WorldState A → WorldState A → Type 0
Comes e w v = Steps e w v ⊎ IsRefusedSo e w v

-- what events leave, one after another: none is left out but the refused
abbrev pub Runs : {A : Type 0} → List (Event A) → WorldState A → WorldState A → Type 0
Runs [] w v = v ≡ w
Runs (e ∷ es) w v = Then (Comes e w) (λ u. Runs es u v)
