-- What holds of all that was ever put out on a bus.
use Rattle.std.specs.Prelude.{◌≡◌, ◌≤◌, ◌<◌, ◌⊎◌, true, ℕ, ◌+◌, List, [], ◌∷◌, ◌++◌, Result, Some, Ok, Err, map, length}
use Rattle.std.specs.List.{filter}
use Rattle.history.specs.Lists.{Has}
use Rattle.mstp_frame.specs.Feeding.{Gives, piece}
use Rattle.mstp_frame.specs.Feeding as feeding
use Rattle.mstp_frame.specs.Frame.{PlainFrame, Spells}
use Rattle.profile.specs.Times.{LIFE_MS}
use Rattle.tags.specs.declared.fault.Fault.{Fault}
use Rattle.tags.specs.declared.fault.Fault.TheVariants.{Expired, Forged}
use Rattle.bus_traffic.specs.Bus.{BusState, bus_anew, heard_on, joined, put_out, restarted}
use Rattle.bus_traffic.specs.Hearing.{Hears}
use Rattle.bus_traffic.specs.Sendings.{equals, is_young, judged, judged_by, known_of, unheard, young, youngest}
use Rattle.bus_traffic.specs.Telling.{AreInOrder}
use Rattle.bus_traffic.specs.declared.ear.Ear.{Ear}
use Rattle.bus_traffic.specs.declared.hearing.Ending.TheVariants.{Over}
use Rattle.bus_traffic.specs.declared.hearing.HeardFrame.{HeardFrame}
use Rattle.bus_traffic.specs.declared.sending.Recent.{Recent}
use Rattle.bus_traffic.specs.declared.sending.Sending.{Sending}

-- a frame of these octets was put out with this stamp
pub record WasSent {A : Type 0} (octets : List ℕ) (stamp : ℕ) (all : List (Sending A)) : Type 0 where
  pub sending : Sending A
  pub there : Has all sending
  pub octets_are : sending.octets ≡ octets
  pub stamp_is : sending.stamp ≡ stamp

-- none of these octets was put out with a younger stamp than this
pub record NoneIsYounger {A : Type 0} (octets : List ℕ) (stamp : ℕ) (all : List (Sending A)) : Type 0 where
  pub none : (s : Sending A) → Has all s → s.octets ≡ octets → s.stamp ≤ stamp

-- none of these octets was put out
pub record NobodySent {A : Type 0} (octets : List ℕ) (all : List (Sending A)) : Type 0 where
  pub none : (s : Sending A) → Has all s → s.octets ≡ octets → ⊥

-- some of these octets was put out, and each with a stamp that is too old at this moment
pub record AllAreOld {A : Type 0} (now : ℕ) (octets : List ℕ) (all : List (Sending A)) : Type 0 where
  pub stamp : ℕ
  pub sent : WasSent octets stamp all
  pub old : (s : Sending A) → Has all s → s.octets ≡ octets → s.stamp + LIFE_MS < now

-- a frame of these octets was put out, may still be heard, and has the stamp of the youngest
pub record MayBeHeard {A : Type 0} (now : ℕ) (octets : List ℕ) (stamp : ℕ) (all : List (Sending A)) : Type 0 where
  pub sent : WasSent octets stamp all
  pub age : now ≤ stamp + LIFE_MS
  pub youngest : NoneIsYounger octets stamp all

-- what a judgement of a frame of these octets says
abbrev pub IsJudgement : {A : Type 0} → (now : ℕ) → (octets : List ℕ) → List (Sending A) → Result ℕ Fault → Type 0
IsJudgement now octets all (Ok stamp) = MayBeHeard now octets stamp all
IsJudgement now octets all (Err Forged) = NobodySent octets all
IsJudgement now octets all (Err Expired) = AllAreOld now octets all
IsJudgement now octets all (Err _) = ⊥

-- each frame is judged so
abbrev pub EachIsJudged : Type 0 → Type 0
EachIsJudged A = (now : ℕ) (octets : List ℕ) (all : List (Sending A))
    → IsJudgement now octets all (judged now octets all)

-- A bus on which all this was put out, in this order, the last at a moment or before: it knows the youngest stamp of
-- each frame, and whatever may be heard from the moment on.
pub record Remembers {A : Type 0} (now : ℕ) (all : List (Sending A)) (b : BusState A) : Type 0 where
  pub known : (octets : List ℕ) → known_of octets b.known ≡ youngest (equals octets all)
  pub recent : (later : ℕ) → now ≤ later
      → map (λ r. r.sending) (young later b.recent) ≡ filter (is_young later) all

-- a bus on which nothing was put out remembers that
abbrev pub RemembersNothing : Type 0 → Type 0
RemembersNothing A = (now net : ℕ) → Remembers {A = A} now [] (bus_anew net)

-- it remembers what is put out
abbrev pub RemembersMore : Type 0 → Type 0
RemembersMore A = (old now : ℕ) (all : List (Sending A)) (s : Sending A) (b : BusState A) → old ≤ now
    → Remembers old all b → Remembers now (all ++ s ∷ []) (put_out now s b)

-- whatever is heard, whoever comes or restarts, it remembers the same
abbrev pub RemembersStill : Type 0 → Type 0
RemembersStill A = (old now place address : ℕ) (octets kept : List ℕ) (e : Ear) (all : List (Sending A))
    (b : BusState A) → old ≤ now → Remembers old all b
    → Remembers now all (heard_on now place octets kept e b) × Remembers now all (restarted now place e b)
    × Remembers now all (joined now address b)

-- it judges each frame as all that was ever put out says
abbrev pub JudgesByAll : Type 0 → Type 0
JudgesByAll A = (old now : ℕ) (octets : List ℕ) (all : List (Sending A)) (b : BusState A) → Remembers old all b
    → judged_by now (known_of octets b.known) ≡ judged now octets all

-- these octets spell these frames, one each
abbrev pub SpellEach : {A : Type 0} → List (HeardFrame A) → List PlainFrame → Type 0
SpellEach [] [] = Unit {0}
SpellEach (f ∷ fs) (p ∷ ps) = Spells f.octets p × SpellEach fs ps
SpellEach _ _ = ⊥

-- how many octets were taken for all of these frames
abbrev pub used_for : {A : Type 0} → List (HeardFrame A) → ℕ
used_for [] = 0
used_for (f ∷ fs) = f.used + used_for fs

-- the frames that an ear hears are those that a deframer gives which is fed these octets, and each octet is counted
-- once
pub record GivesThem {A : Type 0} (kept octets : List ℕ) (fs : List (HeardFrame A)) (rest : ℕ) (after : List ℕ)
    : Type 0 where
  pub frames : List PlainFrame
  pub spelled : SpellEach fs frames
  pub counted : used_for fs + rest ≡ length octets
  pub gives : (inputs : List feeding.Input) (more : List PlainFrame) → Gives after inputs more
      → Gives kept (piece octets ∷ inputs) (frames ++ more)

-- what is heard where none is refused is what a deframer gives
abbrev pub HeardIsGiven : Type 0 → Type 0
HeardIsGiven A = (judge : List ℕ → Result ℕ Fault) (kept octets after : List ℕ) (rest : ℕ) (fs : List (HeardFrame A))
    → Hears A judge kept octets fs (Over rest after) → GivesThem kept octets fs rest after

-- frames that are put out one behind another stand in that order, whatever is heard
abbrev pub OrderIsKept : Type 0 → Type 0
OrderIsKept A = (now place : ℕ) (octets kept : List ℕ) (e : Ear) (s : Sending A) (b : BusState A) → AreInOrder b.recent
    → (((r : Recent A) → Has b.recent r → r.sending.place.frames < s.place.frames)
    → AreInOrder (put_out now s b).recent)
    × AreInOrder (heard_on now place octets kept e b).recent

-- a frame that was put out before is known, and no more becomes known by it
abbrev pub EqualIsKnown : Type 0 → Type 0
EqualIsKnown A = (now stamp : ℕ) (s : Sending A) (b : BusState A) → known_of s.octets b.known ≡ Some stamp
    → length (put_out now s b).known ≡ length b.known

-- what is too old for anybody is kept no longer than to the next frame
abbrev pub OldIsForgotten : Type 0 → Type 0
OldIsForgotten A = (now : ℕ) (s : Sending A) (b : BusState A) (r : Recent A) → Has (put_out now s b).recent r
    → (r ≡ unheard s) ⊎ (is_young now r.sending ≡ true)
