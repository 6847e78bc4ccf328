-- The frames that are heard in a stream of octets and silences (9.5.4).
use Rattle.std.specs.Prelude.{◌≡◌, ◌≢◌, ℕ, ◌+◌, ◌*◌, ◌<◌, ◌≤◌, ◌==◌, ◌&&◌, nat_lt, if◌then◌else◌, List, [], ◌∷◌, ◌++◌}
use Rattle.std.specs.Prelude.{length, take, drop, slice_index, ◌⊎◌}
use Rattle.profile.specs.Limits.{MAX_FRAME_DATA_OCTETS}
use Rattle.mstp_frame.specs.Remainder.{header_remainder}
use Rattle.mstp_frame.specs.Frame.{PlainFrame, Spells}

-- 55 FF doesn't begin here, whatever follows
abbrev pub IsNoise : List ℕ → Type 0
IsNoise [] = ⊥
IsNoise (first ∷ []) = first ≢ 0x55
IsNoise (first ∷ second ∷ octets) = (first ≢ 0x55) ⊎ (second ≢ 0xFF)

-- the length that the header from 55 FF on says (9.3)
abbrev pub size_at : List ℕ → ℕ
size_at octets = 256 * slice_index octets 5 + slice_index octets 6

-- how many octets from 55 FF on are taken together: the eight of the header, and, where its check is good and the
-- length from 1 to that of the longest data, the data and two check octets
unfoldable pub span : List ℕ → ℕ
span octets =
    if (header_remainder (take 6 (drop 2 octets)) == 0x55) && nat_lt (size_at octets) (1 + MAX_FRAME_DATA_OCTETS)
    then (if size_at octets == 0 then 8 else 10 + size_at octets) else 8

-- 55 FF begins here, and all octets that are taken together are there
pub record HasFront (octets : List ℕ) : Type 0 where
  pub begins : take 2 octets ≡ 0x55 ∷ 0xFF ∷ []
  pub whole : span octets ≤ length octets

-- nothing, a 55 alone, or from 55 FF on fewer octets than are taken together
abbrev pub IsCut : List ℕ → Type 0
IsCut [] = Unit {0}
IsCut (first ∷ []) = first ≡ 0x55
IsCut (first ∷ second ∷ octets) = (first ≡ 0x55) × (second ≡ 0xFF)
    × (length (first ∷ second ∷ octets) < span (first ∷ second ∷ octets))

-- the octets spell no frame
pub record NoFrame (octets : List ℕ) : Type 0 where
  pub none : (f : PlainFrame) → Spells octets f → ⊥

-- the frames that are heard in octets without a silence: noise is skipped, and of what is taken together
-- reading goes on behind, whether or not it is a frame
pub data Hears : List ℕ → List PlainFrame → Type 0 where
  ends : (octets : List ℕ) → IsCut octets → Hears octets []
  skips : (octet : ℕ) (octets : List ℕ) (frames : List PlainFrame) → IsNoise (octet ∷ octets)
      → Hears octets frames → Hears (octet ∷ octets) frames
  loses : (octets : List ℕ) (frames : List PlainFrame) → HasFront octets → NoFrame (take (span octets) octets)
      → Hears (drop (span octets) octets) frames → Hears octets frames
  hears : (octets : List ℕ) (f : PlainFrame) (frames : List PlainFrame) → HasFront octets
      → Spells (take (span octets) octets) f → Hears (drop (span octets) octets) frames → Hears octets (f ∷ frames)

-- the frames that are heard in a stream, which is the octets between its silences: each of these is read anew
pub data Heard : List (List ℕ) → List PlainFrame → Type 0 where
  over : Heard [] []
  between : (octets : List ℕ) (stream : List (List ℕ)) (first later : List PlainFrame) → Hears octets first
      → Heard stream later → Heard (octets ∷ stream) (first ++ later)
