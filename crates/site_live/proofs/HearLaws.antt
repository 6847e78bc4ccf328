-- Frames are heard, one after another.
use Rattle.std.proofs.Common.{◌≡◌, inl, inr, subst, sym, [], None, Some, Err}
use Rattle.runner.proofs.HearingLaws.{next_less, passed_less}
use Rattle.runner.specs.Hearing.{HearsNext, IsNextHear}
use Rattle.runner.specs.declared.hearing.Heard.{Heard}
use Rattle.runner.specs.world.World.{WorldState}
use Rattle.runner.specs.world.site_events.declared.event.Event.{Event}
use Rattle.site_history.specs.Printed.{Known, refused_text}
use Rattle.site_live.proofs.LiveLaws.{lives_none, lives_on, memory_refused, one_refusal}
use Rattle.site_live.specs.Laps.{GoesOn}
use Rattle.site_live.specs.Running.{HasEmptyEar, LiveState, Lives, PrintsNothing, meets_nobody}
use Rattle.site_live.specs.Steps.{asked_in}
use Rattle.site_live.specs.declared.lap.Lap.{Lap}
use Rattle.tags.specs.declared.fault.Fault.{Fault}
use Rattle.words.specs.printing.declared.spelling.Spelling.{Spelling}

-- that a station hears a frame, nobody asked for
pub hears_unasked : {A : Type 0} {spelling : Spelling} (e : Event A) (w : WorldState A) (h i : Heard) (old new : LiveState A)
    (before after : Known) → HearsNext e w h i → Lives spelling (asked_in (Some e)) old new before after →
    Lives spelling [] old new before after
hears_unasked {A} {spelling} e w h i old new before after next p =
    subst (λ (d : Event _). Lives spelling (asked_in (Some d)) old new before after) next.hears.event p

-- .. and that the run stays where it has come to round its site
pub hears_in_place : {A : Type 0} (e : Event A) (w v : WorldState A) (h i : Heard) (old new : Lap) →
    HearsNext e w h i → new ≡ old → GoesOn (Some e) old new v
hears_in_place e w v h i old new next same =
    subst (λ (d : Event _). GoesOn (Some d) old new v) (sym next.hears.event) same

-- why no frame is heard, is a cause
pub hearing_refused : {A : Type 0} {spelling : Spelling} (fault : Fault) (w : WorldState A) (h i : Heard) (old new : LiveState A)
    (before after : Known) → w ≡ old.runner.world → IsNextHear w h i (Err fault) →
    PrintsNothing (refused_text fault old.runner.world.moment) old new before after → Lives spelling [] old new before after
hearing_refused {A} {spelling} fault w h i old new before after is (inl memory) p =
    memory_refused old new before after
    (subst (λ (f : Fault). PrintsNothing (refused_text f old.runner.world.moment) old new before after) memory.0 p)
hearing_refused {A} {spelling} fault w h i old new before after is (inr nobody) p =
    one_refusal meets_nobody None old new before after
    (subst (λ (x : WorldState A). HasEmptyEar x) is (record { heard = h; next = i; nobody = nobody.1 }))
    (subst (λ (f : Fault). PrintsNothing (refused_text f old.runner.world.moment) old new before after) nobody.0 p)

pub ruleset hear_laws = (lives_none, lives_on, next_less, passed_less, hears_unasked, hears_in_place, hearing_refused)
