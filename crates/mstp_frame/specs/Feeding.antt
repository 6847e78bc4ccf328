-- What a piece of a stream leads to, and what a deframer gives of a stream that is cut into pieces.
use Rattle.std.specs.Prelude.{◌≡◌, ℕ, Option, Some, None, List, [], ◌∷◌, ◌++◌}
use Rattle.std.specs.Option.{option_to_list}
use Rattle.mstp_frame.specs.declared.frame.Frame.{Frame}
use Rattle.mstp_frame.specs.Frame.{PlainFrame, Spells, frame_of}
use Rattle.mstp_frame.specs.FrameType.{IsNamed}
use Rattle.mstp_frame.specs.Heard.{Hears, Heard}

-- whatever follows: what is heard of these octets is this frame, if any, and then what is heard of those left
pub record LeadsTo (octets : List ℕ) (frame : Option PlainFrame) (left : List ℕ) : Type 0 where
  pub heard : (rest : List ℕ) (stream : List (List ℕ)) (frames : List PlainFrame)
      → Heard ((left ++ rest) ∷ stream) frames → Heard ((octets ++ rest) ∷ stream) (option_to_list frame ++ frames)

-- the type of a frame goes by its name
abbrev pub HasNamedType : Option Frame → Type 0
HasNamedType None = Unit {0}
HasNamedType (Some f) = IsNamed f.frame_type

-- the octets are those of the frame, all of them; there are none where there is none
abbrev pub IsWhole : Option Frame → List ℕ → Type 0
IsWhole None octets = octets ≡ []
IsWhole (Some f) octets = Spells octets (frame_of f)

-- what a deframer is given
pub data Input : Type 0 where
  piece : List ℕ → Input
  silence : Input

-- the stream that inputs go on with behind these octets
abbrev pub stream_of : List ℕ → List Input → List (List ℕ)
stream_of octets [] = octets ∷ []
stream_of octets (piece next ∷ inputs) = stream_of (octets ++ next) inputs
stream_of octets (silence ∷ inputs) = octets ∷ stream_of [] inputs

-- A deframer that keeps these octets, and does with each input as `feed` and `silence` promise, gives these frames;
-- what is unused of a piece is fed next.
pub data Gives : List ℕ → List Input → List PlainFrame → Type 0 where
  done : (kept : List ℕ) → Hears kept [] → Gives kept [] []
  silent : (kept : List ℕ) (inputs : List Input) (frames : List PlainFrame) → Hears kept []
      → Gives [] inputs frames → Gives kept (silence ∷ inputs) frames
  keeps : (kept next after : List ℕ) (inputs : List Input) (frames : List PlainFrame)
      → LeadsTo (kept ++ next) None after → Gives after inputs frames → Gives kept (piece next ∷ inputs) frames
  gives : (kept next after unused : List ℕ) (f : PlainFrame) (inputs : List Input) (frames : List PlainFrame)
      → LeadsTo (kept ++ next) (Some f) (after ++ unused) → Gives after (piece unused ∷ inputs) frames
      → Gives kept (piece next ∷ inputs) (f ∷ frames)
