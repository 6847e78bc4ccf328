-- What holds of the pieces of any body, and of what is joined of any segments.
use Rattle.std.specs.Prelude.{◌≡◌, ℕ, suc, ◌+◌, ◌*◌, ◌<◌, ◌≤◌, not, Bool, List, [], ◌∷◌, length, take, Some, slice_get}
use Rattle.std.specs.List.{AllByRecursion, flat_map}
use Rattle.segments.specs.Pieces.{PlainPiece, piece, pieces}
use Rattle.segments.specs.Sender.{SenderState, window_of}
use Rattle.segments.specs.Receiver.{ReceiverState, nothing_joined, step_of, joins, whole_of}
use Rattle.segments.specs.declared.step.Step.{Step}
use Rattle.segments.specs.declared.step.Step.TheVariants.{Taken, Nak, Dropped, Full}

-- a body is the concatenation of its pieces in order
abbrev pub PiecesJoin : Type 0
PiecesJoin = (chunk : ℕ) (body : List ℕ) → 1 ≤ chunk → flat_map (λ p. p.octets) (pieces chunk body) ≡ body

-- there are the fewest pieces that hold it, and one at least
pub record IsFewest (chunk length count : ℕ) : Type 0 where
  pub one : 1 ≤ count
  pub holds : length ≤ count * chunk
  pub fewest : (fewer : ℕ) → 1 ≤ fewer → length ≤ fewer * chunk → count ≤ fewer

-- a body has the fewest pieces that hold it
abbrev pub PiecesAreFewest : Type 0
PiecesAreFewest = (chunk : ℕ) (body : List ℕ) → 1 ≤ chunk → IsFewest chunk (length body) (length (pieces chunk body))

-- piece n of them stands at n
abbrev pub PiecesInOrder : Type 0
PiecesInOrder = (chunk : ℕ) (body : List ℕ) (n : ℕ) → n < length (pieces chunk body) →
    slice_get (pieces chunk body) n ≡ Some (piece chunk (length (pieces chunk body)) body n)

-- each but the last, which more follow, has chunk octets
abbrev pub PiecesAreFull : Type 0
PiecesAreFull = (chunk : ℕ) (body : List ℕ) (n : ℕ) → 1 ≤ chunk → n + 1 < length (pieces chunk body) →
    length (piece chunk (length (pieces chunk body)) body n).octets ≡ chunk

-- a segment that is heard: the moment, and the piece that it says
pub record Heard : Type 0 where
  pub at : ℕ
  pub says : PlainPiece

-- what a receiver does on a segment that is heard
abbrev pub step_by : Heard → ReceiverState → Step
step_by h j = step_of h.at h.says.number h.says.has_more h.says.octets j

-- the receiver after it
abbrev pub after_one : Heard → ReceiverState → ReceiverState
after_one h j = (joins h.at h.says.number h.says.has_more h.says.octets j).state

-- a receiver after segments, one after another
abbrev pub after_all : List Heard → ReceiverState → ReceiverState
after_all [] j = j
after_all (h ∷ hs) j = after_all hs (after_one h j)

-- the piece is among what was taken, if the step took it
abbrev pub taken_by : Step → PlainPiece → List PlainPiece → List PlainPiece
taken_by (Taken ack) p ps = p ∷ ps
taken_by (Nak number) p ps = ps
taken_by Dropped p ps = ps
taken_by Full p ps = ps

-- what it took of them
abbrev pub taken : List Heard → ReceiverState → List PlainPiece
taken [] j = []
taken (h ∷ hs) j = taken_by (step_by h j) h.says (taken hs (after_one h j))

-- sequence numbers from n on, one after another
abbrev pub AreNumberedFrom : ℕ → List PlainPiece → Type 0
AreNumberedFrom n [] = Unit {0}
AreNumberedFrom n (p ∷ ps) = (p.number ≡ n) × AreNumberedFrom (suc n) ps

-- no more follow the last of them
abbrev pub are_ended : Bool → List PlainPiece → Bool
are_ended before [] = before
are_ended before (p ∷ ps) = are_ended (not p.has_more) ps

-- what is joined is the concatenation in order of what was taken, numbered from 0, and whole at the last
pub record IsJoined (ps : List PlainPiece) (j : ReceiverState) : Type 0 where
  pub octets : j.octets ≡ flat_map (λ p. p.octets) ps
  pub numbers : AreNumberedFrom 0 ps
  pub next : j.next ≡ length ps
  pub whole : j.is_whole ≡ are_ended (nothing_joined 0).is_whole ps

-- so after any segments
abbrev pub WholeIsTaken : Type 0
WholeIsTaken = (window : ℕ) (heard : List Heard) →
    IsJoined (taken heard (nothing_joined window)) (after_all heard (nothing_joined window))

-- a piece of the body
pub record IsPiece (chunk : ℕ) (body : List ℕ) (p : PlainPiece) : Type 0 where
  pub n : ℕ
  pub within : n < length (pieces chunk body)
  pub is : p ≡ piece chunk (length (pieces chunk body)) body n

-- each piece that a sender says is one of the body
abbrev pub WindowIsPieces : Type 0
WindowIsPieces = (body : List ℕ) (c : SenderState) → AllByRecursion (IsPiece c.chunk body) (window_of body c)

-- what is joined so far is the front of the body, and all of it where it is whole
pub record IsFront (chunk : ℕ) (body : List ℕ) (j : ReceiverState) : Type 0 where
  pub octets : j.octets ≡ take (j.next * chunk) body
  pub whole : (octets : List ℕ) → whole_of j ≡ Some octets → octets ≡ body

-- nothing is a front of every body ..
abbrev pub NothingIsFront : Type 0
NothingIsFront = (chunk window : ℕ) (body : List ℕ) → IsFront chunk body (nothing_joined window)

-- where a receiver has a front of a body, a piece of the body, of at most 256, keeps it a front
abbrev pub JoinsKeepFront : Type 0
JoinsKeepFront = (chunk : ℕ) (body : List ℕ) (h : Heard) (j : ReceiverState) → 1 ≤ chunk →
    length (pieces chunk body) ≤ 256 → IsPiece chunk body h.says → IsFront chunk body j →
    IsFront chunk body (after_one h j)

-- of pieces of one body, in whatever order they come and however often, the body is joined or nothing whole
abbrev pub WholeIsCut : Type 0
WholeIsCut = (chunk window : ℕ) (body : List ℕ) (heard : List Heard) → 1 ≤ chunk → length (pieces chunk body) ≤ 256 →
    AllByRecursion (λ h. IsPiece chunk body h.says) heard → IsFront chunk body (after_all heard (nothing_joined window))
