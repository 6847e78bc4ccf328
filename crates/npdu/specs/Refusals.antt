-- Why octets spell no header: exactly one of these holds of each octets that spell none.
use Rattle.std.specs.Prelude.{◌≡◌, ◌≢◌, ◌⊎◌, ℕ, ◌/◌, ◌%◌, ◌==◌, Bool, true, List, ◌∷◌, ◌++◌, Option}
use Rattle.byteorder.specs.Endian.{big_bytes}
use Rattle.npdu.specs.Header.{Header, Spells, snet_octets}
use Rattle.npdu.specs.Fields.{Takes, Begins, Place, place_octets, IsPlaceIf, IsSourceIf, IsCutFields}
use Rattle.tags.specs.declared.fault.Fault.{Fault}
use Rattle.tags.specs.declared.fault.Fault.TheVariants.{Short, BadVersion, BadLength}

-- the first octet is not version 1 (6.2.1)
pub record IsOtherVersion (octets : List ℕ) : Type 0 where
  pub version : ℕ
  pub rest : List ℕ
  pub front : octets ≡ version ∷ rest
  pub other : version ≢ 1

-- a destination on network 0 (6.2.2)
pub record IsBadPlace (present : Bool) (octets : List ℕ) : Type 0 where
  pub is : present ≡ true
  pub rest : List ℕ
  pub front : octets ≡ big_bytes 2 0 ++ rest

-- a length of 0
pub record HasNoAddress (octets : List ℕ) : Type 0 where
  pub rest : List ℕ
  pub front : octets ≡ 0 ∷ rest

-- a source on network 0, on all networks, or with an address of no octet (6.2.2)
pub record IsBadSource (present : Bool) (octets : List ℕ) : Type 0 where
  pub is : present ≡ true
  pub net : ℕ
  pub rest : List ℕ
  pub front : octets ≡ big_bytes 2 net ++ rest
  pub cause : (net ≡ 0) ⊎ (net ≡ 65535) ⊎ HasNoAddress rest

-- behind DNET, DLEN and DADR, where they stand
pub record IsBadSourceBehind (control : ℕ) (octets : List ℕ) : Type 0 where
  pub place : Option Place
  pub rest : List ℕ
  pub behind : Takes (IsPlaceIf (control / 32 % 2 == 1)) place_octets octets place rest
  pub source : IsBadSource (control / 8 % 2 == 1) rest

-- version 1, and then a destination or a source that there is not
pub record IsMisfit (octets : List ℕ) : Type 0 where
  pub control : ℕ
  pub rest : List ℕ
  pub front : octets ≡ 1 ∷ (control ∷ rest)
  pub cause : IsBadPlace (control / 32 % 2 == 1) rest ⊎ IsBadSourceBehind control rest

-- some octets behind would complete a header
pub record IsCut (octets : List ℕ) : Type 0 where
  pub more : List ℕ
  pub header : Header
  pub whole : Spells (octets ++ more) header

-- the refusal of octets that spell no header
abbrev pub Refuses : Fault → List ℕ → Type 0
Refuses Short octets = IsCut octets
Refuses BadVersion octets = IsOtherVersion octets
Refuses BadLength octets = IsMisfit octets
Refuses _ octets = ⊥

-- the same of the fields behind the control octet, and of the first two of them
abbrev pub RefusesFields : Fault → ℕ → List ℕ → Type 0
RefusesFields Short control octets = IsCutFields control octets
RefusesFields BadLength control octets = IsBadPlace (control / 32 % 2 == 1) octets ⊎ IsBadSourceBehind control octets
RefusesFields _ control octets = ⊥

-- why no DNET and DADR are read where the control octet says that they stand
abbrev pub RefusesPlace : Fault → Bool → List ℕ → Type 0
RefusesPlace Short present octets = Begins (IsPlaceIf present) place_octets octets
RefusesPlace BadLength present octets = IsBadPlace present octets
RefusesPlace _ present octets = ⊥

-- why no SNET and SADR are read where the control octet says that they stand
abbrev pub RefusesSource : Fault → Bool → List ℕ → Type 0
RefusesSource Short present octets = Begins (IsSourceIf present) snet_octets octets
RefusesSource BadLength present octets = IsBadSource present octets
RefusesSource _ present octets = ⊥
