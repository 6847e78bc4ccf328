-- Whole lists of events, and what the history of the whole says of the entries that were handed out and those that are
-- kept.
use Rattle.std.specs.Prelude.{◌++◌, ℕ, List, map}
use Rattle.world.specs.Refusals.{Comes, Runs}
use Rattle.world.specs.World.{WorldState}
use Rattle.world.specs.carry_world.Laws.{IsLegal, judged_at}
use Rattle.world.specs.site_events.declared.event.Event.{Event}
use Rattle.world.specs.site_ports.Ports.{Then}
use Rattle.world.specs.world_log.Growing.{WorldHistory}
use Rattle.world.specs.world_sites.Nodes.{devices_of}
use Rattle.world.specs.headline_bacnet.Refined.{ObjectSite}
use Rattle.world.specs.Keeping.{Forgets, Keeps, handed_out}

-- what comes of an event in what is kept, be it accepted or refused, comes of it in the whole
abbrev pub ComesInAll : Type 0 → Type 0
ComesInAll A = (e : Event A) (past : WorldHistory A) (w k l : WorldState A) → Keeps past w k → Comes e k l →
    Then (Comes e w) (λ v. Keeps past v l)

-- .. of events, one after another
abbrev pub RunsInAll : Type 0 → Type 0
RunsInAll A = (es : List (Event A)) (past : WorldHistory A) (w k l : WorldState A) → Keeps past w k → Runs es k l →
    Then (Runs es w) (λ v. Keeps past v l)

-- these entries are a legal history of the devices of a world with these instances
abbrev pub IsLegalAt : {A : Type 0} → ObjectSite A → (instances : List ℕ) → WorldHistory A → WorldState A → Type 0
IsLegalAt s instances h w = IsLegal instances h (map (judged_at s) (devices_of w.nodes))

-- where the whole is legal, the entries that were handed out and behind them those that are kept are
abbrev pub LegalInAll : Type 0 → Type 0
LegalInAll A = (s : ObjectSite A) (instances : List ℕ) (past : WorldHistory A) (w k : WorldState A) → Keeps past w k →
    IsLegalAt s instances w.history w → IsLegalAt s instances (past ++ k.history) k

-- where all that events leave of the whole is legal, so are those behind which they leave others in what is kept
abbrev pub RunsAreLegal : Type 0 → Type 0
RunsAreLegal A = (s : ObjectSite A) (instances : List ℕ) (es : List (Event A)) (past : WorldHistory A)
    (w k l : WorldState A) → Keeps past w k → Runs es k l →
    ((v : WorldState A) → Runs es w v → IsLegalAt s instances v.history v) →
    IsLegalAt s instances (past ++ l.history) l

-- where all entries that are kept are handed out the whole stays as it is
abbrev pub HandsOut : Type 0 → Type 0
HandsOut A = (past : WorldHistory A) (w k : WorldState A) → Keeps past w k →
    Keeps (past ++ k.history) w (handed_out k)

-- where what is kept forgets, what is left is kept of the whole
abbrev pub ForgetsInAll : Type 0 → Type 0
ForgetsInAll A = (past : WorldHistory A) (w k l : WorldState A) → Keeps past w k → Forgets k l → Keeps past w l
