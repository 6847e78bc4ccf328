-- Hex dumps as Wireshark copies them: lines of an offset, pairs of digits and a column of text.
use Rattle.std.specs.Prelude.{◌≡◌, ◌<◌, ℕ, ◌+◌, ◌/◌, ◌%◌, ◌==◌, ◌&&◌, Bool, true, false, List, [], ◌∷◌, ◌++◌}
use Rattle.std.specs.Prelude.{drop, take, length, if◌then◌else◌}
use Rattle.std.specs.Str.Lines.{lines}
use Rattle.words.specs.HexText.{SpellsHex}

-- a text without the spaces that it begins with
unfoldable pub after_spaces : List ℕ → List ℕ
after_spaces [] = []
after_spaces (c ∷ cs) = if c == 32 then after_spaces cs else c ∷ cs

-- a text begins with three spaces
unfoldable pub begins_column : List ℕ → Bool
begins_column [] = false
begins_column (a ∷ []) = false
begins_column (a ∷ b ∷ []) = false
begins_column (a ∷ b ∷ c ∷ after) = (a == 32) && ((b == 32) && (c == 32))

-- a text up to its first three spaces: after them stands a column of text
unfoldable pub before_column : List ℕ → List ℕ
before_column [] = []
before_column (c ∷ cs) = if begins_column (c ∷ cs) then [] else c ∷ before_column cs

-- a text begins with a space
abbrev pub begins_with_space : List ℕ → Bool
begins_with_space [] = false
begins_with_space (c ∷ cs) = c == 32

-- digits say an offset in two octets
pub record SaysOffset (offset : ℕ) (digits : List ℕ) : Type 0 where
  pub spelled : SpellsHex digits (offset / 256 ∷ offset % 256 ∷ [])

-- digits don't say this offset
pub record NoOffset (offset : ℕ) (digits : List ℕ) : Type 0 where
  pub none : SaysOffset offset digits → ⊥

-- a line of a dump: the offset of its first octet in four digits, spaces, its octets, and after three spaces any text
pub record IsDumpLine (offset : ℕ) (line octets : List ℕ) : Type 0 where
  pub offset_said : SaysOffset offset (take 4 line)
  pub parted : begins_with_space (drop 4 line) ≡ true
  pub octets_said : SpellsHex (before_column (after_spaces (drop 4 line))) octets

-- the line is one of no other octets
pub record OnlyDumpLine (offset : ℕ) (line octets : List ℕ) : Type 0 where
  pub only : (other : List ℕ) → IsDumpLine offset line other → other ≡ octets

-- the line is none of a dump
pub record NoDumpLine (offset : ℕ) (line : List ℕ) : Type 0 where
  pub none : (octets : List ℕ) → IsDumpLine offset line octets → ⊥

-- a line continues octets
pub record ReadsLine (line old new : List ℕ) : Type 0 where
  pub more : List ℕ
  pub parts : new ≡ old ++ more
  pub is_line : IsDumpLine (length old) line more
  pub alone : OnlyDumpLine (length old) line more

-- a line, and lines of the other octets
pub record ThenLines (offset : ℕ) (line octets : List ℕ) (Rest : ℕ → List ℕ → Type 0) : Type 0 where
  pub front : List ℕ
  pub after : List ℕ
  pub first : IsDumpLine offset line front
  pub others : Rest (offset + length front) after
  pub parts : octets ≡ front ++ after

-- lines from an offset on, one after another
abbrev pub IsDump : ℕ → List (List ℕ) → List ℕ → Type 0
IsDump offset [] octets = octets ≡ []
IsDump offset (line ∷ lines) octets = ThenLines offset line octets (λ next after. IsDump next lines after)

-- a text is a dump of one line or more
pub record SaysDump (text octets : List ℕ) : Type 0 where
  pub dump : IsDump 0 (lines text) octets
  pub some : 0 < length octets

-- the text is a dump of no other octets
pub record OnlyDump (text octets : List ℕ) : Type 0 where
  pub only : (other : List ℕ) → SaysDump text other → other ≡ octets

-- the text is no dump
pub record NoDump (text : List ℕ) : Type 0 where
  pub none : (octets : List ℕ) → SaysDump text octets → ⊥
