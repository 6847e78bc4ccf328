-- What it is that a step of stations is a list of honest happenings.
use Rattle.std.specs.Prelude.{◌≡◌, List}
use Rattle.headline.specs.Protocol.{Protocol, Site}
use Rattle.headline.specs.Happenings.{Core, Happening, run}
use Rattle.headline.specs.Honest.{IsHonestRun}
use Rattle.headline.specs.Promised.{StaysSaid}
use Rattle.npdu.specs.declared.mac.Station.{Station}
use Rattle.object_model.specs.Objects.{PlainTable}
use Rattle.primitives.specs.declared.plain_data.Reply.{Reply}
use Rattle.primitives.specs.declared.plain_data.Request.{Request}
use Rattle.headline_bacnet.specs.Protocol.{bacnet}

-- from one core to another there are honest happenings
pub record IsRefined {S Q R T : Type 0} (p : Protocol S Q R T) (s : Site S T) (w v : Core S Q R T) : Type 0 where
  pub happenings : List (Happening S Q R T)
  pub honest : IsHonestRun p s happenings w
  pub same : v ≡ run p s happenings w

-- all stations, as safety sees them
abbrev pub ObjectCore : Type 0 → Type 0
ObjectCore A = Core Station (Request A) (Reply A) (PlainTable A)

-- which stations are devices, and their opening objects
abbrev pub ObjectSite : Type 0 → Type 0
ObjectSite A = Site Station (PlainTable A)

-- from some stations to others there are honest happenings of BACnet's objects
abbrev pub Refined : {A : Type 0} → ObjectSite A → ObjectCore A → ObjectCore A → Type 0
Refined {A} s w v = IsRefined (bacnet A) s w v

-- what was said stays said, wherever honest happenings lead
abbrev pub RefinedSaidStays : Type 0 → Type 0
RefinedSaidStays A = (s : ObjectSite A) (w v : ObjectCore A) → Refined s w v → StaysSaid w.book v.book
