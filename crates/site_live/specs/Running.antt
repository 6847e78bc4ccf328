-- What is printed of the turns of a live run, one after another.
use Rattle.std.proofs.Common.{inl, inr}
use Rattle.std.specs.Prelude.{◌≡◌, ◌⊎◌, ◌+◌, ◌++◌, ℕ, false, List, [], ◌∷◌, Option, Some, None, drop, length}
use Rattle.std.specs.Io.KnownBytes.{Appends}
use Rattle.runner.specs.world.Dues.{AreAtRest}
use Rattle.runner.specs.world.Keeping.{Forgets, handed_out}
use Rattle.runner.specs.world.Step.{IsSoundIfAny}
use Rattle.runner.specs.world.World.{WorldState}
use Rattle.runner.specs.world.site_events.declared.event.Event.{Event}
use Rattle.runner.specs.world_log.Growing.{WorldHistory}
use Rattle.runner.specs.Hearing.{MeetsNobody}
use Rattle.runner.specs.Laws.{Turn}
use Rattle.runner.specs.Runner.{RunnerState}
use Rattle.runner.specs.Turns.{IsTurn}
use Rattle.runner.specs.declared.hearing.Heard.{Heard}
use Rattle.site_history.specs.Asked.{Asked, asked_in_line, refused_time_text}
use Rattle.site_history.specs.Counting.{counted_on}
use Rattle.site_history.specs.Printed.{Known, line, refused_text}
use Rattle.site_history.specs.declared.counting.Counts.{Counts}
use Rattle.site_live.specs.Laps.{GoesOn, IsForth, end_of, start_of}
use Rattle.site_live.specs.Printed.{turn_text}
use Rattle.site_live.specs.Steps.{IsNoTime, asked_in}
use Rattle.site_live.specs.declared.lap.Lap.{Lap}
use Rattle.site_live.specs.declared.lap.Lap.TheVariants.{At}
use Rattle.script.specs.declared.step.Step.{Step}
use Rattle.script.specs.declared.step.Step.TheVariants.{Flow}
use Rattle.tags.specs.declared.fault.Fault.TheVariants.{Memory, NoSuch}
use Rattle.words.specs.printing.declared.spelling.Spelling.{Spelling}
use Rattle.words.specs.printing.declared.spelling.Spelling.TheVariants.{Names, Numbers}

-- this is told of an event, which a line of a script asks for, or none does
pub record IsAsked {A : Type 0} (a : Asked) (e : Event A) : Type 0 where
  pub script_line : Option ℕ
  pub is : a ≡ asked_in_line script_line e

-- nothing is told of the event of a turn; or, with the standard's names, that event
abbrev pub IsToldOf : {A : Type 0} → Option Asked → Spelling → Option (Event A) → Type 0
IsToldOf None s next = Unit {0}
IsToldOf (Some a) Names (Some e) = IsAsked a e
IsToldOf (Some a) s next = ⊥

-- a live run: its runner, how many entries of each kind were handed out, and to where it has come round its site
pub record LiveState (A : Type 0) : Type 0 where
  pub runner : RunnerState A
  pub counts : Counts
  pub lap : Lap

-- .. behind a turn, before anything is let go of
abbrev pub turned_to : {A : Type 0} → RunnerState A → Lap → LiveState A → LiveState A
turned_to left lap l = record l { runner = left; lap = lap }

-- all entries that are kept were handed out, and are counted
abbrev pub with_all_handed : {A : Type 0} → LiveState A → LiveState A
with_all_handed l = record {
  runner = record (l.runner) { world = handed_out l.runner.world; is_whole = false };
  counts = counted_on l.counts l.runner.world.history;
  lap = l.lap;
}

-- what was printed is handed out, unless memory is wanting, or the script expects anything, which may be of any entry;
-- with the standard's names none is, since the request of each answer is looked up in the history
abbrev pub HandsOut : {A : Type 0} → Spelling → (old new : LiveState A) → Type 0
HandsOut Numbers old new = (new ≡ old) ⊎ (new ≡ with_all_handed old)
HandsOut Names old new = new ≡ old

-- behind a turn what was printed is handed out, and what can no longer matter is forgotten
pub record LetsGo {A : Type 0} (s : Spelling) (old new : LiveState A) : Type 0 where
  pub handed : LiveState A
  pub hands : HandsOut s old handed
  pub forgets : Forgets handed.runner.world new.runner.world
  pub rest : new ≡ record handed { runner = record (handed.runner) { world = new.runner.world; is_whole = false } }

-- a turn was taken, where the run has come to it, and what came of it is printed; behind its refusal, what is told of
-- its event. Behind that, what was printed is handed out, and what can no longer matter is forgotten
pub record PrintsTurn {A : Type 0} (s : Spelling) (t : Turn A) (old new : LiveState A) (before after : Known) :
    Type 0 where
  pub sound : IsSoundIfAny t.next
  pub goes_on : GoesOn t.next old.lap new.lap old.runner.world
  pub left : RunnerState A
  pub turned : IsTurn t.next t.latest old.runner left t.result
  pub asked : Option Asked
  pub told : IsToldOf asked s t.next
  pub printed : Appends before after (turn_text s asked t.result (length old.runner.world.history) left)
  pub lets_go : LetsGo s (turned_to left new.lap old) new

-- nothing was done, and this line is printed
pub record PrintsNothing {A : Type 0} (text : List ℕ) (old new : LiveState A) (before after : Known) : Type 0 where
  pub same : new ≡ old
  pub printed : Appends before after (line text)

-- why no turn was taken: want of memory for its event; an ear of a bus at which the site has no station has its turn to
-- hear a frame; or the script asks for so many milliseconds that don't pass for a step
pub data Cause : Type 0 where
  wants_memory : Cause
  meets_nobody : Cause
  has_no_time : (n : ℕ) → Cause

-- the refusal for a cause, with the number of the script's line where there is one
abbrev pub cause_text : Spelling → (script_line : Option ℕ) → Cause → (moment : ℕ) → List ℕ
cause_text s l wants_memory moment = refused_text Memory moment
cause_text s l meets_nobody moment = refused_text NoSuch moment
cause_text s l (has_no_time n) moment = refused_time_text s l n NoSuch moment

-- an ear has its turn at which the site has no station (9.5)
pub record HasEmptyEar {A : Type 0} (w : WorldState A) : Type 0 where
  pub heard : Heard
  pub next : Heard
  pub nobody : MeetsNobody w heard next

-- a cause is there; that there was no memory, nothing shows
abbrev pub IsThere : {A : Type 0} → Cause → WorldState A → Type 0
IsThere wants_memory w = Unit {0}
IsThere meets_nobody w = HasEmptyEar w
IsThere (has_no_time n) w = IsNoTime n

-- no turn was taken, and why not is printed
pub record PrintsRefusal {A : Type 0} (s : Spelling) (c : Cause) (old new : LiveState A) (before after : Known) :
    Type 0 where
  pub there : IsThere c old.runner.world
  pub script_line : Option ℕ
  pub printed : PrintsNothing (cause_text s script_line c old.runner.world.moment) old new before after

-- there is no memory to wake the station to which the run has come, which is printed, and it goes on to the next
pub record MissesOne {A : Type 0} (old new : LiveState A) (before after : Known) : Type 0 where
  pub place : ℕ
  pub here : old.lap ≡ At place
  pub next : new ≡ record old { lap = At (place + 1) }
  pub printed : Appends before after (line (refused_text Memory old.runner.world.moment))

-- nothing is due of the stations up to the one to which the run comes: they don't wake, and nothing else is done
pub record PassesOver {A : Type 0} (old new : LiveState A) : Type 0 where
  pub forth : IsForth old.lap new.lap
  pub rest : AreAtRest (start_of old.lap) (end_of new.lap old.runner.world) old.runner.world
  pub next : new ≡ record old { lap = new.lap }

-- what a live run does: it takes a turn, or none for a cause; it misses a station that it should wake; or it passes
-- over stations
pub data Move (A : Type 0) : Type 0 where
  takes : Turn A → Move A
  refuses : Cause → Move A
  misses : Move A
  passes : Move A

-- one thing was done and is printed, and then others
pub record Then {A : Type 0} (First Rest : LiveState A → Known → Type 0) : Type 0 where
  pub middle : LiveState A
  pub at_middle : Known
  pub first : First middle at_middle
  pub rest : Rest middle at_middle

-- one of these was done, and is printed
abbrev pub PrintsOne : {A : Type 0} → Spelling → Move A → (old new : LiveState A) → (before after : Known) → Type 0
PrintsOne s (takes t) old new before after = PrintsTurn s t old new before after
PrintsOne s (refuses c) old new before after = PrintsRefusal s c old new before after
PrintsOne s misses old new before after = MissesOne old new before after
PrintsOne s passes old new before after = PassesOver old new × (after ≡ before)

-- so these, one after another
abbrev pub PrintsMoves : {A : Type 0} → Spelling → List (Move A) → (old new : LiveState A) → (before after : Known) →
    Type 0
PrintsMoves s [] old new before after = (new ≡ old) × (after ≡ before)
PrintsMoves s (m ∷ ms) old new before after =
    Then (λ r at. PrintsOne s m old r before at) (λ r at. PrintsMoves s ms r new at after)

-- the step that is refused for this cause, if it is one of a script
abbrev pub asked_for : {A : Type 0} → Cause → List (Step A)
asked_for wants_memory = []
asked_for meets_nobody = []
asked_for (has_no_time n) = Flow n ∷ []

-- the step that a live run takes or refuses only where its script asks for it
abbrev pub asked_to : {A : Type 0} → Move A → List (Step A)
asked_to (takes t) = asked_in t.next
asked_to (refuses c) = asked_for c
asked_to misses = []
asked_to passes = []

-- .. all of them, in their order
abbrev pub asked_among : {A : Type 0} → List (Move A) → List (Step A)
asked_among [] = []
asked_among (m ∷ ms) = asked_to m ++ asked_among ms

-- turns were taken or not, one after another, and stations passed over; each turn is printed, and nothing else; just
-- these steps among them were asked for
pub record Lives {A : Type 0} (s : Spelling) (asked : List (Step A)) (old new : LiveState A)
    (before after : Known) : Type 0 where
  pub moves : List (Move A)
  pub printed : PrintsMoves s moves old new before after
  pub just_these : asked_among moves ≡ asked

-- the entries that were handed out behind a turn
abbrev pub handed_at : {A : Type 0} → (s : Spelling) → (old new : LiveState A) → HandsOut s old new → WorldHistory A
handed_at Numbers old new (inl none) = []
handed_at Numbers old new (inr all) = old.runner.world.history
handed_at Names old new none = []

-- .. at one of these
module _ {A : Type 0} (s : Spelling) where
  abbrev pub handed_by : (m : Move A) → (old new : LiveState A) → (before after : Known) →
      PrintsOne s m old new before after → WorldHistory A
  handed_by (takes t) old new before after p =
      handed_at s (turned_to p.left new.lap old) p.lets_go.handed p.lets_go.hands
  handed_by (refuses c) old new before after p = []
  handed_by misses old new before after p = []
  handed_by passes old new before after p = []

-- .. at all of these, in their order
module _ {A : Type 0} (s : Spelling) where
  abbrev pub handed_in : (ms : List (Move A)) → (old new : LiveState A) → (before after : Known) →
      PrintsMoves s ms old new before after → WorldHistory A
  handed_in [] old new before after p = []
  handed_in (m ∷ ms) old new before after p =
      handed_by s m old p.middle before p.at_middle p.first ++ handed_in ms p.middle new p.at_middle after p.rest

-- the entries that a turn printed: those that it left behind those that were there
module _ {A : Type 0} (s : Spelling) where
  abbrev pub printed_by : (m : Move A) → (old new : LiveState A) → (before after : Known) →
      PrintsOne s m old new before after → WorldHistory A
  printed_by (takes t) old new before after p = drop (length old.runner.world.history) p.left.world.history
  printed_by (refuses c) old new before after p = []
  printed_by misses old new before after p = []
  printed_by passes old new before after p = []

-- .. all of these, in their order
module _ {A : Type 0} (s : Spelling) where
  abbrev pub printed_in : (ms : List (Move A)) → (old new : LiveState A) → (before after : Known) →
      PrintsMoves s ms old new before after → WorldHistory A
  printed_in [] old new before after p = []
  printed_in (m ∷ ms) old new before after p =
      printed_by s m old p.middle before p.at_middle p.first ++ printed_in ms p.middle new p.at_middle after p.rest
