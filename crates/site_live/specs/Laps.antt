-- How a live run goes round its site: which stations wake, and when time passes (5.4.1, 6.6.2, 9.5.6).
use Rattle.std.specs.Prelude.{◌≡◌, ◌⊎◌, ◌≤◌, ℕ, ◌+◌, ◌-◌, ◌^◌, List, length, Option, Some, None, slice_get}
use Rattle.due_times.specs.Until.{Until}
use Rattle.runner.specs.world.Dues.{AreAtRest}
use Rattle.runner.specs.world.World.{WorldState}
use Rattle.runner.specs.world.site_events.declared.event.Event.{Event}
use Rattle.runner.specs.world.site_events.declared.event.Event.TheVariants as event
use Rattle.runner.specs.world_log.site_node.Node.{NodeState}
use Rattle.site_live.specs.declared.lap.Lap.{Lap}
use Rattle.site_live.specs.declared.lap.Lap.TheVariants.{At, Over}

-- from where on stations are looked at: the place to which the run has come, or the first one, for a lap more
abbrev pub start_of : Lap → ℕ
start_of (At place) = place
start_of Over = 0

-- .. and up to where, once it has come to this
abbrev pub end_of : {A : Type 0} → Lap → WorldState A → ℕ
end_of (At place) w = place
end_of Over w = length w.nodes

-- within a lap it doesn't go back: so no station wakes twice there
abbrev pub IsForth : (old new : Lap) → Type 0
IsForth old (At place) = start_of old ≤ place
IsForth old Over = Unit {0}

-- how many places may be before it still
abbrev pub places_left : Lap → ℕ
places_left lap = 2 ^ 64 - start_of lap

-- the station at this place has this name
pub record HasNameAt {A : Type 0} (place : ℕ) (name : List ℕ) (w : WorldState A) : Type 0 where
  pub n : NodeState A
  pub there : slice_get w.nodes place ≡ Some n
  pub named : name ≡ n.name

-- a station wakes to which the run has come, and it goes on to the next
pub record WakesAt {A : Type 0} (name : List ℕ) (old new : Lap) (w : WorldState A) : Type 0 where
  pub place : ℕ
  pub here : old ≡ At place
  pub named : HasNameAt place name w
  pub next : new ≡ At (place + 1)

-- so many milliseconds pass at once: one, or more where nothing is due of any station before the moment to which they
-- lead
abbrev pub IsInTime : {A : Type 0} → ℕ → WorldState A → Type 0
IsInTime n w = (n ≡ 1) ⊎ Until (w.moment + n) (λ now. AreAtRest 0 (length w.nodes) (record w { moment = now }))

-- time passes only behind a whole lap, and over nothing that is due, and a new one begins then; a station wakes where
-- the run has come to it; at any other turn it stays where it is
abbrev pub GoesOn : {A : Type 0} → Option (Event A) → (old new : Lap) → WorldState A → Type 0
GoesOn (Some (event.Tick n)) old new w = (old ≡ Over) × (new ≡ At 0) × IsInTime n w
GoesOn (Some (event.Wake name)) old new w = WakesAt name old new w
GoesOn next old new w = new ≡ old
