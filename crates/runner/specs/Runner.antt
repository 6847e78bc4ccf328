-- A runner as it is kept.
use Rattle.std.specs.Prelude.{◌-◌, ℕ, Bool, length}
use Rattle.simulator.specs.world.World.{WorldState}

-- world: what it runs. is_open: datagrams that nobody of the site sent are heard. strayed: the latest turn had one that
-- was. is_led: no turn had one so far. is_whole: nothing was handed out or forgotten so far
pub record RunnerState (A : Type 0) : Type 0 where
  pub world : WorldState A
  pub is_open : Bool
  pub strayed : Bool
  pub is_led : Bool
  pub is_whole : Bool

-- how many datagrams were put out between two states of a world
abbrev pub put_out : {A : Type 0} → (old new : WorldState A) → ℕ
put_out old new = length new.items - length old.items
