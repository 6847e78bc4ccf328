-- What an event leaves of a world: the node addressed makes its own step, no other changes, and items, what was said
-- and the history grow by exactly what came of it.
use Rattle.std.specs.Prelude.{◌≡◌, ◌≤◌, ℕ, ◌+◌, true, List, [], ◌∷◌, ◌++◌, length, Option, Some, None, slice_get}
use Rattle.std.specs.Prelude.{slice_set}
use Rattle.apdu.specs.declared.unconfirmed.Limits.{Limits}
use Rattle.buses.specs.Hearing.{ears_anew}
use Rattle.buses.specs.Puts.{BusesState}
use Rattle.history.specs.declared.Entry.TheVariants.{Issue, Restarted}
use Rattle.npdu.specs.declared.mac.Mac.{Mac}
use Rattle.npdu.specs.declared.mac.Mac.TheVariants.{One, Six}
use Rattle.npdu.specs.declared.mac.Station.{Station}
use Rattle.primitives.specs.Sound.{IsSoundRequest}
use Rattle.primitives.specs.declared.plain_data.Request.{Request}
use Rattle.profile.specs.Times.{MAX_MOMENT_MS, MAX_TICK_MS}
use Rattle.world_log.specs.site_node.Node.{NodeState, home_of}
use Rattle.world_log.specs.site_node.Steps.{NodeAsks, NodeHears, NodeIssues, NodeRegisters, NodeRestarts, NodeTold}
use Rattle.world_log.specs.site_node.Steps.{NodeWakes}
use Rattle.world_log.specs.site_node.declared.part.Part.{Part}
use Rattle.world_log.specs.site_node.declared.part.Part.TheVariants.{Device}
use Rattle.traffic.specs.Seeking.{is_young}
use Rattle.traffic.specs.declared.item.Item.{Item}
use Rattle.world.specs.Acting.{Acts}
use Rattle.world.specs.Hearing.{Hears}
use Rattle.world.specs.World.{WorldState}
use Rattle.site_events.specs.declared.event.Event.{Event}
use Rattle.site_events.specs.declared.event.Event.TheVariants as event
use Rattle.world.specs.declared.happening.Happening.{Happening}
use Rattle.world.specs.declared.happening.Happening.TheVariants as happening
use Rattle.world_log.specs.Growing.{WorldHistory}
use Rattle.world_sites.specs.Finding.{IsNamed, IsNodeAt}
use Rattle.world_sites.specs.Opening.{object_site}
pub use Rattle.site_events.specs.Sound.{IsSoundEvent, IsSoundIfAny}

-- the station that an item goes to (6.1)
abbrev pub addressee_of : {A : Type 0} → Item A → Station
addressee_of i = record { net = i.net; mac = i.to }

-- a world in which the item of this number was delivered
abbrev pub delivered : {A : Type 0} → (number : ℕ) → Item A → WorldState A → WorldState A
delivered number i w = record w { items = slice_set w.items number (record i { is_delivered = true }) }

-- the item of this number was delivered, and nothing else has changed
pub record IsMarked {A : Type 0} (number : ℕ) (w v : WorldState A) : Type 0 where
  pub item : Item A
  pub there : slice_get w.items number ≡ Some item
  pub is : v ≡ delivered number item w

-- an item is handed to its addressee, which hears it (6.5, J.4.5)
pub record Delivers {A : Type 0} (number : ℕ) (w v : WorldState A) : Type 0 where
  pub item : Item A
  pub place : ℕ
  pub port : ℕ
  pub n : NodeState A
  pub next : NodeState A
  pub told : NodeTold A
  pub there : slice_get w.items number ≡ Some item
  pub addressee : IsNodeAt (addressee_of item) w.nodes place port n
  pub young : is_young w.moment item ≡ true
  pub hears : NodeHears w.moment port item.from item.octets item.stamp n told next
  pub acts : Acts (delivered number item w) v place n next told

-- the node at a place wakes (5.4.1, 6.6.2, J.5.2.3)
pub record Wakes {A : Type 0} (place : ℕ) (w v : WorldState A) : Type 0 where
  pub n : NodeState A
  pub next : NodeState A
  pub told : NodeTold A
  pub wakes : NodeWakes w.moment n told next
  pub acts : Acts w v place n next told

-- the foreign node at a place registers at its manager (J.5.2)
pub record Registers {A : Type 0} (place : ℕ) (w v : WorldState A) : Type 0 where
  pub n : NodeState A
  pub next : NodeState A
  pub told : NodeTold A
  pub registers : NodeRegisters w.moment n told next
  pub acts : Acts w v place n next told

-- a world in which a client has issued, under an invoke ID: the next issue of the history (5.4.4.1)
abbrev pub issued : {A : Type 0} → (client : Station) → (id instance : ℕ) → Request A → WorldState A → WorldState A
issued client id instance request w = record w {
  keys = w.keys ++ record { client = client; invoke_id = id } ∷ [];
  history = w.history ++ Issue (length w.keys) client instance request w.moment ∷ [];
}

-- the client at a place issues a request to the device of an instance (5.4.4.1)
pub record Issues {A : Type 0} (place instance : ℕ) (request : Request A) (w v : WorldState A) : Type 0 where
  pub n : NodeState A
  pub next : NodeState A
  pub told : NodeTold A
  pub id : ℕ
  pub issues : NodeIssues w.moment instance request id n told next
  pub acts : Acts (issued (home_of n.part) id instance request w) v place n next told

-- the client at a place asks who is there (16.10.1)
pub record Asks {A : Type 0} (place : ℕ) (limits : Option Limits) (w v : WorldState A) : Type 0 where
  pub n : NodeState A
  pub next : NodeState A
  pub told : NodeTold A
  pub asks : NodeAsks w.moment limits n told next
  pub acts : Acts w v place n next told

-- the entry of the history that a device restarted
abbrev pub restart_entry : {A : Type 0} → (now : ℕ) → Part A → WorldHistory A
restart_entry now (Device d) = Restarted d.instance now ∷ []
restart_entry now part = []

abbrev pub deafened_at : {A : Type 0} → (now net : ℕ) → Mac → BusesState A → BusesState A
deafened_at now net (One mac) buses = ears_anew now net mac buses
deafened_at now net (Six octets) buses = buses

-- the ears of a station on a bus are made anew at a moment: they keep nothing of a frame that was cut (9.5.4)
abbrev pub deafened : {A : Type 0} → (now : ℕ) → Station → BusesState A → BusesState A
deafened now x buses = deafened_at now x.net x.mac buses

-- a world in which a device has restarted
abbrev pub restarted : {A : Type 0} → Part A → WorldState A → WorldState A
restarted part w = record w {
  buses = deafened w.moment (home_of part) w.buses;
  history = w.history ++ restart_entry w.moment part;
}

-- the device at a place restarts, with the objects that the site gives it (12)
pub record Restarts {A : Type 0} (place : ℕ) (w v : WorldState A) : Type 0 where
  pub n : NodeState A
  pub next : NodeState A
  pub told : NodeTold A
  pub restarts : NodeRestarts w.moment ((object_site w.site).opening (home_of n.part)) n told next
  pub acts : Acts (restarted n.part w) v place n next told

-- so many milliseconds pass at once: at most MAX_TICK_MS, and not past the greatest moment
pub record PassesNow (n moment : ℕ) : Type 0 where
  pub least : 1 ≤ n
  pub most : n ≤ MAX_TICK_MS
  pub greatest : moment + n ≤ MAX_MOMENT_MS

-- time passes
pub record Ticks {A : Type 0} (n : ℕ) (w v : WorldState A) : Type 0 where
  pub passes : PassesNow n w.moment
  pub is : v ≡ record w { moment = w.moment + n }

-- what happens at a place, where it is accepted
abbrev pub Happens : {A : Type 0} → Happening A → WorldState A → WorldState A → Type 0
Happens (happening.Issue client instance request) w v = Issues client instance request w v
Happens (happening.WhoIs client limits) w v = Asks client limits w v
Happens (happening.Tick n) w v = Ticks n w v
Happens (happening.Wake node) w v = Wakes node w v
Happens (happening.Deliver number) w v = Delivers number w v
Happens (happening.Restart node) w v = Restarts node w v
Happens (happening.Hear network node octets) w v = Hears network node octets w v
Happens (happening.Register node) w v = Registers node w v

-- the node at a place is the one of a name
pub record HasName {A : Type 0} (name : List ℕ) (w : WorldState A) (place : ℕ) : Type 0 where
  pub n : NodeState A
  pub named : IsNamed name w.nodes place n

-- this holds of the place of the node of a name
pub record AtName {A : Type 0} (name : List ℕ) (w : WorldState A) (Holds : ℕ → Type 0) : Type 0 where
  pub place : ℕ
  pub named : HasName name w place
  pub holds : Holds place

-- what an event by names leaves, where it is accepted: what happens at the place of its node
abbrev pub Steps : {A : Type 0} → Event A → WorldState A → WorldState A → Type 0
Steps (event.Issue client instance request) w v =
    AtName client w (λ place. Happens (happening.Issue place instance request) w v)
Steps (event.WhoIs client limits) w v = AtName client w (λ place. Happens (happening.WhoIs place limits) w v)
Steps (event.Tick n) w v = Happens (happening.Tick n) w v
Steps (event.Wake station) w v = AtName station w (λ place. Happens (happening.Wake place) w v)
Steps (event.Deliver number) w v = Happens (happening.Deliver number) w v
Steps (event.Restart station) w v = AtName station w (λ place. Happens (happening.Restart place) w v)
Steps (event.Hear network station octets) w v =
    AtName station w (λ place. Happens (happening.Hear network place octets) w v)
Steps (event.Register station) w v = AtName station w (λ place. Happens (happening.Register place) w v)

-- the request of what happens has a spelling, if it has one (12, 15)
abbrev pub IsSoundHappening : {A : Type 0} → Happening A → Type 0
IsSoundHappening (happening.Issue client instance request) = IsSoundRequest request
IsSoundHappening h = Unit {0}
