-- Octets that a text says.
use Rattle.std.specs.Prelude.{◌≡◌, ◌⊎◌, ℕ, List}
use Rattle.octet_texts.specs.Dumps.{SaysDump}
use Rattle.octet_texts.specs.Lists.{plain}
use Rattle.words.specs.HexText.{NoHex, SpellsHex}

-- a text lists octets: it spells none as pairs of digits alone, and the pairs that it stands for spell them
abbrev pub SaysList : List ℕ → List ℕ → Type 0
SaysList text octets = NoHex text × SpellsHex (plain text) octets

-- .. as a dump: it is neither pairs nor a list
abbrev pub SaysLines : List ℕ → List ℕ → Type 0
SaysLines text octets = NoHex text × (NoHex (plain text) × SaysDump text octets)

-- a text says octets: as pairs of digits; else as a list; else as a dump
abbrev pub Says : List ℕ → List ℕ → Type 0
Says text octets = SpellsHex text octets ⊎ (SaysList text octets ⊎ SaysLines text octets)

-- the text says no other octets
pub record OnlySays (text octets : List ℕ) : Type 0 where
  pub only : (other : List ℕ) → Says text other → other ≡ octets

-- the text says no octets
pub record SaysNone (text : List ℕ) : Type 0 where
  pub none : (octets : List ℕ) → Says text octets → ⊥
