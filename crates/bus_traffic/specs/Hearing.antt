-- What octets end at an ear: frames, each judged in its turn (9.5.4).
use Rattle.std.specs.Prelude.{◌≡◌, ◌≤◌, ℕ, List, [], ◌∷◌, ◌++◌, Option, Some, None, Result, Ok, Err, drop, length}
use Rattle.mstp_frame.specs.Frame.{PlainFrame, Spells}
use Rattle.mstp_frame.specs.Feeding.{LeadsTo}
use Rattle.mstp_frame.specs.Heard as frames
use Rattle.tags.specs.declared.fault.Fault.{Fault}
use Rattle.bus_traffic.specs.declared.hearing.Completed.{Completed}
use Rattle.bus_traffic.specs.declared.hearing.Ending.{Ending}
use Rattle.bus_traffic.specs.declared.hearing.Ending.TheVariants.{Over, Refused}
use Rattle.bus_traffic.specs.declared.hearing.HeardFrame.{HeardFrame}

-- no frame ends with octets that come to those that are kept: these are kept then
pub record EndsNone (kept octets after : List ℕ) : Type 0 where
  pub leads : LeadsTo (kept ++ octets) None after
  pub silent : frames.Hears after []

-- so many octets end a frame of these octets: this is kept then
pub record EndsFrame (kept octets whole : List ℕ) (used : ℕ) (after : List ℕ) : Type 0 where
  pub frame : PlainFrame
  pub leads : LeadsTo (kept ++ octets) (Some frame) (after ++ drop used octets)
  pub spelled : Spells whole frame
  pub within : used ≤ length octets

-- a frame of these octets ends, or none
abbrev pub Ends : {A : Type 0} → (kept octets : List ℕ) → Option (Completed A) → (after : List ℕ) → Type 0
Ends kept octets None after = EndsNone kept octets after
Ends kept octets (Some c) after = EndsFrame kept octets c.octets c.used after

-- The frames that octets end which come to those that are kept, where a frame is judged so: in order, each with its
-- stamp, up to the first that is refused.
pub data Hears (A : Type 0) (judge : List ℕ → Result ℕ Fault) : (kept octets : List ℕ) → List (HeardFrame A) → Ending A
    → Type 0 where
  over : (kept octets after : List ℕ) → EndsNone kept octets after
      → Hears A judge kept octets [] (Over (length octets) after)
  refuses : (kept octets whole after : List ℕ) (used : ℕ) (fault : Fault) → EndsFrame kept octets whole used after
      → judge whole ≡ Err fault → Hears A judge kept octets [] (Refused fault)
  accepts : (kept octets after : List ℕ) (f : HeardFrame A) (fs : List (HeardFrame A)) (end : Ending A)
      → EndsFrame kept octets f.octets f.used after → judge f.octets ≡ Ok f.stamp
      → Hears A judge after (drop f.used octets) fs end → Hears A judge kept octets (f ∷ fs) end
