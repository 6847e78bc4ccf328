-- Why the whole refuses what is refused of what is kept: for the same, or, of what is forgotten, under another name.
use Rattle.std.specs.Prelude.{◌≡◌, ◌⊎◌, ℕ, false, Some, slice_get}
use Rattle.tags.specs.declared.fault.Fault.{Fault}
use Rattle.tags.specs.declared.fault.Fault.TheVariants.{Expired, Forged, NoSuch}
use Rattle.traffic.specs.Seeking.{is_young}
use Rattle.traffic.specs.declared.item.Item.{Item}
use Rattle.world.specs.Refusals.{HappeningIsRefused, IsRefused}
use Rattle.world.specs.World.{WorldState}
use Rattle.world.specs.site_events.declared.event.Event.{Event}
use Rattle.world.specs.site_events.declared.event.Event.TheVariants as event
use Rattle.world.specs.declared.happening.Happening.{Happening}
use Rattle.world.specs.declared.happening.Happening.TheVariants as happening
use Rattle.world.specs.world_log.Growing.{WorldHistory}
use Rattle.world.specs.Keeping.{Keeps}

-- the item of this number is too old to be heard
pub record HasOldItem {A : Type 0} (number : ℕ) (w : WorldState A) : Type 0 where
  pub item : Item A
  pub there : slice_get w.items number ≡ Some item
  pub old : is_young w.moment item ≡ false

-- the item that is refused with this fault is too old, and another stands in its place: it went to a node and that goes
-- to nobody, or the other way round
pub record IsOtherItem {A : Type 0} (number : ℕ) (w : WorldState A) (fault whole : Fault) : Type 0 where
  pub forgotten : HasOldItem number w
  pub named : ((fault ≡ NoSuch) × (whole ≡ Expired)) ⊎ ((fault ≡ Expired) × (whole ≡ NoSuch))

-- nothing is known any more of the frame that is refused with this fault: it was put out, and is too old
pub record IsForgottenFrame (fault whole : Fault) : Type 0 where
  pub forged : fault ≡ Forged
  pub expired : whole ≡ Expired

-- what happens at a place is refused with this fault, and in the whole with that: the same, but for a delivery of an
-- item and a hearing of a frame that are forgotten
abbrev pub IsFaultOf : {A : Type 0} → Happening A → WorldState A → (fault whole : Fault) → Type 0
IsFaultOf (happening.Deliver number) w fault whole = (whole ≡ fault) ⊎ IsOtherItem number w fault whole
IsFaultOf (happening.Hear network node octets) w fault whole = (whole ≡ fault) ⊎ IsForgottenFrame fault whole
IsFaultOf h w fault whole = whole ≡ fault

-- .. so is an event by names
abbrev pub IsFaultOfEvent : {A : Type 0} → Event A → WorldState A → (fault whole : Fault) → Type 0
IsFaultOfEvent (event.Deliver number) w fault whole = (whole ≡ fault) ⊎ IsOtherItem number w fault whole
IsFaultOfEvent (event.Hear network station octets) w fault whole = (whole ≡ fault) ⊎ IsForgottenFrame fault whole
IsFaultOfEvent e w fault whole = whole ≡ fault

-- the whole refuses what happens at a place that is refused of what is kept with this fault
pub record RefusesIt {A : Type 0} (h : Happening A) (w : WorldState A) (fault : Fault) : Type 0 where
  pub whole : Fault
  pub refused : HappeningIsRefused h w whole
  pub named : IsFaultOf h w fault whole

-- .. an event by names
pub record Refuses {A : Type 0} (e : Event A) (w : WorldState A) (fault : Fault) : Type 0 where
  pub whole : Fault
  pub refused : IsRefused e w whole
  pub named : IsFaultOfEvent e w fault whole

-- whatever happens at a place
abbrev pub HappeningIsRefusedInAll : Type 0 → Type 0
HappeningIsRefusedInAll A = (h : Happening A) (past : WorldHistory A) (w k : WorldState A) (fault : Fault) →
    Keeps past w k → HappeningIsRefused h k fault → RefusesIt h w fault

-- .. and whatever event by names
abbrev pub IsRefusedInAll : Type 0 → Type 0
IsRefusedInAll A = (e : Event A) (past : WorldHistory A) (w k : WorldState A) (fault : Fault) → Keeps past w k →
    IsRefused e k fault → Refuses e w fault
