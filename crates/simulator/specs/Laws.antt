-- What is promised of a world.
use Rattle.std.specs.Prelude.{◌≡◌}
use Rattle.world.specs.carry_world.Laws.{IsFresh}
use Rattle.world.specs.carry_world.PlainSteps.{StepsTo}
use Rattle.world.specs.carry_world.PlainWorld.{PlainWorld}
use Rattle.headline.specs.Protocol.{IsSite}
use Rattle.world.specs.Laws.{Stands}
use Rattle.world.specs.Step.{Happens, IsSoundEvent, IsSoundHappening, Steps}
use Rattle.world.specs.World.{WorldState, plain}
use Rattle.world.specs.site_events.declared.event.Event.{Event}
use Rattle.world.specs.declared.happening.Happening.{Happening}
use Rattle.world.specs.headline_bacnet.Protocol.{bacnet}
use Rattle.world.specs.world_sites.Laws.{OpenAs}
use Rattle.world.specs.world_sites.Opening.{devices_in, object_site}

-- what happens at a place of a world that stands is steps of its clients and devices
abbrev pub HappeningSteps : Type 0 → Type 0
HappeningSteps A = (h : Happening A) (w v : WorldState A) → Stands w → IsSoundHappening h → Happens h w v →
    StepsTo (object_site w.site) (plain w) (plain v)

-- .. and so is what an event leaves of it
abbrev pub EventSteps : Type 0 → Type 0
EventSteps A = (e : Event A) (w v : WorldState A) → Stands w → IsSoundEvent e → Steps e w v →
    StepsTo (object_site w.site) (plain w) (plain v)

-- nothing was handed out or forgotten of a world
pub record IsWhole {A : Type 0} (w : WorldState A) : Type 0 where
  pub first_item : w.first_item ≡ 0
  pub first_entry : w.first_entry ≡ 0
  pub first_said : w.first_said ≡ 0

-- a world came about from a fresh one of its site, with all its devices in order, by steps of its clients and devices,
-- and is there whole
pub record IsLed {A : Type 0} (w : WorldState A) : Type 0 where
  pub is_site : IsSite (bacnet A) (object_site w.site)
  pub fresh : PlainWorld A
  pub begun : IsFresh (object_site w.site) fresh
  pub devices : OpenAs (devices_in w.site.stations) fresh.devices
  pub leads : StepsTo (object_site w.site) fresh (plain w)
  pub whole : IsWhole w
