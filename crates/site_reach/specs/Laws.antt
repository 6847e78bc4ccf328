-- Who hears a broadcast in an internetwork (J.4.5).
use Rattle.std.specs.Prelude.{◌≡◌, ◌≤◌, ℕ, true, List, length}
use Rattle.bbmd.specs.Reach.{AreFull, IsReached, everyone, hearers, managers_of, stations}
use Rattle.bbmd_tables.specs.Tables.{is_among}
use Rattle.bvll.specs.declared.address.Address.{Address}
use Rattle.profile.specs.LinkKind.{max_npdu}
use Rattle.profile.specs.declared.link_kind.LinkKind.TheVariants.{BacnetIp}
use Rattle.site.specs.Sound.{IsSound}
use Rattle.site_parts.specs.declared.parts.Parts.{Parts}
use Rattle.site_reach.specs.Tables.{AreServed, HasItsTables, HaveAddresses, subnets_in}
use Rattle.world.specs.Refusals.{Runs}
use Rattle.world.specs.Step.{Steps}
use Rattle.world.specs.World.{WorldState, fresh_world}
use Rattle.world.specs.site_events.declared.event.Event.{Event}

-- an event leaves the tables such
abbrev pub TablesStay : Type 0 → Type 0
TablesStay A = (e : Event A) (w v : WorldState A) → HasItsTables w → Steps e w v → HasItsTables v

-- whatever events happened since a site opened, its managers have their tables
abbrev pub TablesStand : Type 0 → Type 0
TablesStand A = (p : Parts A) (es : List (Event A)) (w : WorldState A) → IsSound p → HaveAddresses p.stations →
    Runs es (fresh_world p) w → HasItsTables w

-- once each foreign device of a network is registered, and while its registration lives, the tables of that network are
-- full (J.4.3)
abbrev pub TablesAreFull : Type 0 → Type 0
TablesAreFull A = (w : WorldState A) (net : ℕ) → HasItsTables w → AreServed w net →
    AreFull w.moment (subnets_in w net)

-- .. so a broadcast of a station of that network, which isn't too long, reaches each other station of it once, and
-- nobody else (J.4.5)
abbrev pub BroadcastsReach : Type 0 → Type 0
BroadcastsReach A = (w : WorldState A) (net : ℕ) (origin : Address) (npdu : List ℕ) → HasItsTables w →
    AreServed w net → length npdu ≤ max_npdu BacnetIp →
    is_among origin (stations (managers_of (subnets_in w net)) (everyone w.moment (subnets_in w net))) ≡ true →
    IsReached w.moment origin (subnets_in w net) (hearers w.moment origin npdu (subnets_in w net))
