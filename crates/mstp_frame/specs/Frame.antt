-- What a frame is, and the octets that spell one (9.3).
use Rattle.std.specs.Prelude.{◌≡◌, ℕ, ◌-◌, ◌<◌, ◌≤◌, List, [], ◌∷◌, ◌++◌, length, refl}
use Rattle.byteorder.specs.Endian.{big_bytes, little_bytes}
use Rattle.profile.specs.Limits.{MAX_FRAME_DATA_OCTETS}
use Rattle.tags.specs.Number.{AreOctets}
use Rattle.mstp_frame.specs.declared.frame.Frame.{Frame}
use Rattle.mstp_frame.specs.FrameType.{type_number}
use Rattle.mstp_frame.specs.Remainder.{sum, divided, bits_of, number_of, dividend, remainder, header_remainder}
use Rattle.mstp_frame.specs.Remainder.{data_remainder}

-- a frame without where its data lie
pub record PlainFrame : Type 0 where
  pub frame_type : ℕ
  pub destination : ℕ
  pub source : ℕ
  pub contents : List ℕ

-- what the code's frame says
abbrev pub frame_of : Frame → PlainFrame
frame_of f = record {
  frame_type = type_number f.frame_type;
  destination = f.destination;
  source = f.source;
  contents = f.«data».now;
}

-- frame type, destination, source, and the length of the data in two octets, the high one first (9.3)
abbrev pub header : PlainFrame → List ℕ
header f = f.frame_type ∷ f.destination ∷ f.source ∷ big_bytes 2 (length f.contents)

-- two check octets behind data, such that this remainder is left of all (9.3, Annex G.2)
pub record Checks (octets data_octets : List ℕ) : Type 0 where
  pub low : ℕ
  pub high : ℕ
  pub parts : octets ≡ data_octets ++ low ∷ high ∷ []
  pub check : data_remainder octets ≡ 0xF0B8

-- what stands behind the header check: nothing where there are no data, else these with their check octets (9.3)
abbrev pub SpellsData : List ℕ → List ℕ → Type 0
SpellsData octets [] = octets ≡ []
SpellsData octets (octet ∷ more) = Checks octets (octet ∷ more)

-- the octets, all of them, spell the frame: 55 FF, the header, its check octet, and the data (9.3)
pub record Spells (octets : List ℕ) (f : PlainFrame) : Type 0 where
  pub check : ℕ
  pub behind : List ℕ
  pub parts : octets ≡ 0x55 ∷ 0xFF ∷ (header f ++ check ∷ behind)
  pub header : header_remainder (header f ++ check ∷ []) ≡ 0x55
  pub contents : SpellsData behind f.contents
  pub size : length f.contents ≤ MAX_FRAME_DATA_OCTETS
  pub are_octets : AreOctets octets

-- the fields are octets, and the data no more than a frame has
pub record IsSound (f : PlainFrame) : Type 0 where
  pub frame_type : f.frame_type < 256
  pub destination : f.destination < 256
  pub source : f.source < 256
  pub contents : AreOctets f.contents
  pub size : length f.contents ≤ MAX_FRAME_DATA_OCTETS

-- data and the complement of what is left of them, the low octet first (9.3)
abbrev pub checked : List ℕ → List ℕ
checked [] = []
checked (octet ∷ more) = (octet ∷ more) ++ little_bytes 2 (65535 - data_remainder (octet ∷ more))

-- the one spelling: each check is the complement of what is left
abbrev pub canonical : PlainFrame → List ℕ
canonical f = 0x55 ∷ 0xFF ∷ (header f ++ (255 - header_remainder (header f)) ∷ checked f.contents)

-- rows that a slip in a definition would break: a Token from 05 to 10, and data without a reply from 05 to 10
row_token : canonical (record { frame_type = 0; destination = 0x10; source = 0x05; contents = [] })
    ≡ 0x55 ∷ 0xFF ∷ 0x00 ∷ 0x10 ∷ 0x05 ∷ 0x00 ∷ 0x00 ∷ 0x8C ∷ []
unfolding sum divided bits_of number_of dividend remainder header_remainder
row_token = refl

row_data : canonical (record { frame_type = 6; destination = 0x10; source = 0x05; contents = 0x01 ∷ 0x22 ∷ 0x30 ∷ [] })
    ≡ 0x55 ∷ 0xFF ∷ 0x06 ∷ 0x10 ∷ 0x05 ∷ 0x00 ∷ 0x03 ∷ 0x9C ∷ 0x01 ∷ 0x22 ∷ 0x30 ∷ 0x10 ∷ 0xBD ∷ []
unfolding sum divided bits_of number_of dividend remainder header_remainder data_remainder
row_data = refl
