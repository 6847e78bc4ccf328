-- Which frame an ear is told next.
use Rattle.std.specs.Prelude.{◌≡◌, ◌≤◌, ◌<◌, ◌⊎◌, ℕ, true, List, [], ◌∷◌, Option, Some, None, drop, slice_get}
use Rattle.std.specs.List.{AllWithin}
use Rattle.bus_traffic.specs.Sendings.{turn_of, waits_at}
use Rattle.bus_traffic.specs.declared.bus.Bus.{Bus}
use Rattle.bus_traffic.specs.declared.ear.Ear.{Ear}
use Rattle.bus_traffic.specs.declared.sending.Recent.{Recent}
use Rattle.bus_traffic.specs.declared.telling.NextTold.{NextTold}
use Rattle.bus_traffic.specs.declared.telling.Telling.{Telling}
use Rattle.history.specs.Lists.{Has}

-- an ear stands in the turn of a frame, or behind it: from a frame's ear on
abbrev pub IsBehind : Telling → (frame ear : ℕ) → Type 0
IsBehind from frame ear = (from.frames < frame) ⊎ ((from.frames ≡ frame) × (from.ear ≤ ear))

-- a frame is due at an ear: it waits to be delivered there, in its turn, and was put out before another
pub record IsDue {A : Type 0} (now : ℕ) (from : Telling) (before : ℕ) (ears : List Ear) (r : Recent A) (ear_place : ℕ)
    (e : Ear) : Type 0 where
  pub there : slice_get ears ear_place ≡ Some e
  pub waits : waits_at now e.address r ≡ true
  pub behind : IsBehind from r.sending.place.frames ear_place
  pub ahead : r.sending.place.frames < before

-- it is due at no ear
pub record IsDueNowhere {A : Type 0} (now : ℕ) (from : Telling) (before : ℕ) (ears : List Ear) (r : Recent A)
    : Type 0 where
  pub none : (place : ℕ) (e : Ear) → IsDue now from before ears r place e → ⊥

-- it is due at no ear before this place
pub record IsFirstEar {A : Type 0} (now : ℕ) (from : Telling) (before : ℕ) (ears : List Ear) (r : Recent A)
    (ear_place : ℕ) : Type 0 where
  pub first : (place : ℕ) (e : Ear) → IsDue now from before ears r place e → ear_place ≤ place

-- this frame of one of the buses is due at this ear there
pub record Waits {A : Type 0} (now : ℕ) (from : Telling) (before : ℕ) (buses : List (Bus A)) (b : Bus A) (r : Recent A)
    (ear_place : ℕ) (e : Ear) : Type 0 where
  pub among : Has buses b
  pub put_out : Has b.recent.items r
  pub due : IsDue now from before b.ears.items r ear_place e

-- no frame of these buses is due at any ear
pub record NoneWaits {A : Type 0} (now : ℕ) (from : Telling) (before : ℕ) (buses : List (Bus A)) : Type 0 where
  pub none : (b : Bus A) (r : Recent A) (place : ℕ) (e : Ear) → Waits now from before buses b r place e → ⊥

-- a frame was put out before each of these
pub record IsBefore {A : Type 0} (r : Recent A) (rs : List (Recent A)) : Type 0 where
  pub before : (s : Recent A) → Has rs s → r.sending.place.frames < s.sending.place.frames

-- frames stand in the order in which they were put out
abbrev pub AreInOrder : {A : Type 0} → List (Recent A) → Type 0
AreInOrder [] = Unit {0}
AreInOrder (r ∷ rs) = IsBefore r rs × AreInOrder rs

-- Of what is due on these buses this is the first: the frame is due at no ear before, and no frame that is due was put
-- out earlier.
pub record IsNext {A : Type 0} (now : ℕ) (from : Telling) (before : ℕ) (buses : List (Bus A)) (b : Bus A) (r : Recent A)
    (ear_place : ℕ) (e : Ear) : Type 0 where
  pub waits : Waits now from before buses b r ear_place e
  pub ear : IsFirstEar now from before b.ears.items r ear_place
  pub first : (c : Bus A) (s : Recent A) (place : ℕ) (f : Ear) → AreInOrder c.recent.items
      → Waits now from before buses c s place f → r.sending.place.frames ≤ s.sending.place.frames

-- the turn of a frame begins at this ear
pub record BeginsAt (from : Telling) (frame first : ℕ) : Type 0 where
  pub from_there : (ear : ℕ) → first ≤ ear → IsBehind from frame ear
  pub not_before : (ear : ℕ) → IsBehind from frame ear → first ≤ ear

-- a frame has no turn
pub record HasNoTurn (from : Telling) (frame : ℕ) : Type 0 where
  pub none : (ear : ℕ) → IsBehind from frame ear → ⊥

-- from one place on and before another there is no ear at which a frame waits
pub record NoneBetween {A : Type 0} (now : ℕ) (ears : List Ear) (r : Recent A) (start end : ℕ) : Type 0 where
  pub none : (place : ℕ) (e : Ear) → start ≤ place → place < end → slice_get ears place ≡ Some e
      → waits_at now e.address r ≡ true → ⊥

-- the earlier of two, the first where both are one
abbrev pub IsEarlier : {A : Type 0} → Option (NextTold A) → Option (NextTold A) → Option (NextTold A) → Type 0
IsEarlier None other result = result ≡ other
IsEarlier (Some a) None result = result ≡ Some a
IsEarlier (Some a) (Some b) result =
    ((b.recent.now.sending.place.frames < a.recent.now.sending.place.frames) × (result ≡ Some b))
    ⊎ ((a.recent.now.sending.place.frames ≤ b.recent.now.sending.place.frames) × (result ≡ Some a))

-- these are left of frames from a place on, before which each was put out before so many
pub record IsFromTurn {A : Type 0} (frames : ℕ) (rs left : List (Recent A)) : Type 0 where
  pub first : ℕ
  pub left_is : left ≡ drop first rs
  pub earlier : AllWithin (λ r. turn_of r < frames) rs 0 first
