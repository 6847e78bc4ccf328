-- Laws of frames and of streams.
use Rattle.std.specs.Prelude.{◌≡◌, ℕ, List, [], ◌∷◌, ◌++◌}
use Rattle.std.specs.List.{AllByRecursion}
use Rattle.tags.specs.Number.{AreOctets}
use Rattle.mstp_frame.specs.Frame.{PlainFrame, Spells, IsSound, canonical}
use Rattle.mstp_frame.specs.Heard.{Heard}
use Rattle.mstp_frame.specs.Feeding.{Input, Gives, stream_of}

-- octets spell one frame
abbrev pub SpellOne : Type 0
SpellOne = (octets : List ℕ) (f g : PlainFrame) → Spells octets f → Spells octets g → f ≡ g

-- a frame is spelled by the canonical octets, and by no others
abbrev pub SpelledOnce : Type 0
SpelledOnce = (octets : List ℕ) (f : PlainFrame) → Spells octets f → octets ≡ canonical f

abbrev pub CanonicalSpells : Type 0
CanonicalSpells = (f : PlainFrame) → IsSound f → Spells (canonical f) f

-- each stream is heard in one way
abbrev pub EachIsHeard : Type 0
EachIsHeard = (stream : List (List ℕ)) → AllByRecursion AreOctets stream
    → (frames : List PlainFrame) × Heard stream frames

abbrev pub HeardOnce : Type 0
HeardOnce = (stream : List (List ℕ)) (frames others : List PlainFrame) → Heard stream frames
    → Heard stream others → frames ≡ others

-- what is heard of a stream that begins with a frame begins with it
abbrev pub FrameIsHeard : Type 0
FrameIsHeard = (octets rest : List ℕ) (stream : List (List ℕ)) (f : PlainFrame) (frames : List PlainFrame)
    → Spells octets f → Heard ((octets ++ rest) ∷ stream) frames
    → (later : List PlainFrame) × (frames ≡ f ∷ later) × Heard (rest ∷ stream) later

-- what a deframer gives of a stream is what is heard of it
abbrev pub GivenIsHeard : Type 0
GivenIsHeard = (inputs : List Input) (frames : List PlainFrame) → Gives [] inputs frames
    → Heard (stream_of [] inputs) frames

-- however it is cut
abbrev pub CutsAreOne : Type 0
CutsAreOne = (inputs others : List Input) (frames more : List PlainFrame) → Gives [] inputs frames
    → Gives [] others more
    → stream_of [] inputs ≡ stream_of [] others → frames ≡ more
