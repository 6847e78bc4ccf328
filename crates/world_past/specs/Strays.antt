-- A datagram from outside, which no node of the site sent, in a world of which a part is kept.
use Rattle.tags.specs.declared.fault.Fault.{Fault}
use Rattle.traffic.specs.declared.item.Item.{Item}
use Rattle.world.specs.Straying.{StrayIsRefused, Strays}
use Rattle.world.specs.World.{WorldState}
use Rattle.world.specs.site_ports.Ports.{Then}
use Rattle.world.specs.world_log.Growing.{WorldHistory}
use Rattle.world.specs.Keeping.{Keeps}

-- what it leaves of what is kept is kept of what it leaves of the whole (J.2)
abbrev pub StraysInAll : Type 0 → Type 0
StraysInAll A = (i : Item A) (past : WorldHistory A) (w k l : WorldState A) → Keeps past w k → Strays i k l →
    Then (Strays i w) (λ v. Keeps past v l)

-- .. and where it is refused of what is kept it is refused of the whole, with the same fault
abbrev pub StrayIsRefusedInAll : Type 0 → Type 0
StrayIsRefusedInAll A = (i : Item A) (past : WorldHistory A) (w k : WorldState A) (fault : Fault) → Keeps past w k →
    StrayIsRefused i k fault → StrayIsRefused i w fault
