-- What octets from 55 FF on are, and what a deframer's buffer holds.
use Rattle.std.specs.Prelude.{◌≡◌, ℕ, ◌-◌, ◌<◌, ◌≤◌, Bool, true, false, Option, Some, None, if◌then◌else◌, List, []}
use Rattle.std.specs.Prelude.{◌∷◌, ◌++◌, length, take, drop, slice_index, ◌⊎◌}
use Rattle.mstp_frame.specs.declared.front.Front.{Front}
use Rattle.mstp_frame.specs.declared.front.Front.TheVariants.{Unfinished, Lost, Whole}
use Rattle.mstp_frame.specs.declared.buffer.Buffer.{Buffer}
use Rattle.mstp_frame.specs.Frame.{PlainFrame, Spells}
use Rattle.mstp_frame.specs.Feeding.{LeadsTo}
use Rattle.mstp_frame.specs.Heard.{IsCut, NoFrame, span}

-- the frame whose fields stand at these places (9.3)
abbrev pub frame_at : List ℕ → PlainFrame
frame_at octets = record {
  frame_type = slice_index octets 2;
  destination = slice_index octets 3;
  source = slice_index octets 4;
  contents = take (length octets - 10) (drop 8 octets);
}

-- 55 FF begins here, and just the octets are there that are taken together
pub record IsFront (octets : List ℕ) : Type 0 where
  pub begins : take 2 octets ≡ 0x55 ∷ 0xFF ∷ []
  pub whole : length octets ≡ span octets

abbrev pub IsJudged : List ℕ → Front → Type 0
IsJudged octets Unfinished = IsCut octets
IsJudged octets Lost = IsFront octets × NoFrame octets
IsJudged octets Whole = IsFront octets × Spells octets (frame_at octets)

-- whether octets, all of them, spell a frame
abbrev pub IsRead : List ℕ → Bool → Type 0
IsRead octets true = Spells octets (frame_at octets)
IsRead octets false = NoFrame octets

-- with so many octets, what octets from 55 FF on are is judged: when the header is whole, and when all is
abbrev pub IsGoal : List ℕ → ℕ → Type 0
IsGoal octets n = ((n ≡ 8) × (length octets < 8)) ⊎ ((n ≡ span octets) × (8 ≤ length octets))

-- the octets that a buffer has
abbrev pub octets_in : Buffer → List ℕ
octets_in b = take b.len b.octets

-- the octets that it keeps
abbrev pub kept_in : Buffer → List ℕ
kept_in b = if b.is_whole then [] else octets_in b

-- the frame that it lends
abbrev pub frame_in : Buffer → Option PlainFrame
frame_in b = if b.is_whole then Some (frame_at (octets_in b)) else None

-- the octets of that frame
abbrev pub whole_in : Buffer → List ℕ
whole_in b = if b.is_whole then octets_in b else []

-- it keeps octets of which nothing can be said yet, or lends a frame
pub record IsReady (b : Buffer) : Type 0 where
  pub fits : b.len ≤ 511
  pub len : length (octets_in b) ≡ b.len
  pub kept : b.is_whole ≡ false → IsCut (octets_in b)
  pub lent : b.is_whole ≡ true → Spells (octets_in b) (frame_at (octets_in b))

-- from one buffer to another by so many octets of a piece, one at least
pub record Takes (old : Buffer) (piece : List ℕ) (new : Buffer) (used : ℕ) : Type 0 where
  pub some : 0 < used
  pub within : used ≤ length piece
  pub ready : IsReady new
  pub leads : LeadsTo (kept_in old ++ piece) (frame_in new) (kept_in new ++ drop used piece)
