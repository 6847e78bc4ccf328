-- What events leave of a world, one after another.
use Rattle.std.specs.Prelude.{◌≡◌, List, [], ◌∷◌}
use Rattle.simulator.specs.Heard.{HasBrought}
use Rattle.world.specs.site_ports.Ports.{Then}
use Rattle.world.specs.Refusals.{Comes}
use Rattle.world.specs.World.{WorldState}
use Rattle.world.specs.site_events.declared.event.Event.{Event}

-- an event leaves what it leaves, or is refused; and what is heard by it was said, what is executed was issued, what is
-- told is of its issue, and what comes whole is the whole of one
pub record Happens {A : Type 0} (e : Event A) (w v : WorldState A) : Type 0 where
  pub comes : Comes e w v
  pub brought : HasBrought e w v

-- what events leave, one after another: none is left out but the refused
abbrev pub Runs : {A : Type 0} → List (Event A) → WorldState A → WorldState A → Type 0
Runs [] w v = v ≡ w
Runs (e ∷ es) w v = Then (Happens e w) (λ u. Runs es u v)
