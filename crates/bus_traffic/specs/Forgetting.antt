-- What a bus may forget: frames that are too old to be heard, and what is left of it then.
use Rattle.std.specs.Prelude.{◌≡◌, ◌⊎◌, ◌<◌, ◌+◌, ◌*◌, ℕ, false, List, [], ◌∷◌, Option, Some, None, length}
use Rattle.bus_traffic.specs.Bus.{BusState}
use Rattle.bus_traffic.specs.Sendings.{known_of, young, young_known}
use Rattle.bus_traffic.specs.declared.sending.Known.{Known}
use Rattle.profile.specs.Ages.{is_heard_in_time}

-- of each of these one is kept, in order, so
abbrev pub KeepsEach : {X : Type 0} → (Keeps : X → X → Type 0) → (all kept : List X) → Type 0
KeepsEach Keeps [] [] = Unit {0}
KeepsEach Keeps (x ∷ xs) (y ∷ ys) = Keeps x y × KeepsEach Keeps xs ys
KeepsEach Keeps xs ys = ⊥

-- what is known of a frame is that it is too old: it has this youngest stamp
abbrev pub IsOld : (now : ℕ) → Option ℕ → Type 0
IsOld now None = ⊥
IsOld now (Some stamp) = is_heard_in_time stamp now ≡ false

-- .. or nothing is known of it
abbrev pub IsOldOrUnknown : (now : ℕ) → Option ℕ → Type 0
IsOldOrUnknown now None = Unit {0}
IsOldOrUnknown now (Some stamp) = is_heard_in_time stamp now ≡ false

-- this is kept of what is known of a frame: the same, or, where it is too old, nothing or another stamp that is
abbrev pub KeepsStamp : (now : ℕ) → (all kept : Option ℕ) → Type 0
KeepsStamp now all kept = (kept ≡ all) ⊎ (IsOld now all × IsOldOrUnknown now kept)

-- .. of each that was put out on a bus, by its octets (9.3)
abbrev pub KeepsKnown : {A : Type 0} → (now : ℕ) → (all kept : List (Known A)) → Type 0
KeepsKnown now all kept = (octets : List ℕ) → KeepsStamp now (known_of octets all) (known_of octets kept)

-- this is kept of a bus: its number and its ears, what may still be heard there, and what is known of young frames
pub record KeepsBus {A : Type 0} (now : ℕ) (all kept : BusState A) : Type 0 where
  pub net : kept.net ≡ all.net
  pub ears : kept.ears ≡ all.ears
  pub known : KeepsKnown now all.known kept.known
  pub recent : young now kept.recent ≡ young now all.recent

-- a bus forgets what is known of frames: of all that are too old to be heard, or of none, where the frames that are
-- known aren't twice as many as those that it keeps of what was put out, and 16 more
pub record ForgetsKnown {A : Type 0} (now : ℕ) (old new : BusState A) : Type 0 where
  pub net : new.net ≡ old.net
  pub ears : new.ears ≡ old.ears
  pub recent : new.recent ≡ old.recent
  pub known : ((new.known ≡ old.known) × (length old.known < 2 * length old.recent + 16))
      ⊎ (new.known ≡ young_known now old.known)

-- a bus forgets so, and what is left is kept of it
pub record ForgetsOn {A : Type 0} (now : ℕ) (old new : BusState A) : Type 0 where
  pub known : ForgetsKnown now old new
  pub keeps : KeepsBus now old new
