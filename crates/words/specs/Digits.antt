-- Numbers and octets in words.
use Rattle.std.specs.Prelude.{◌≡◌, ◌≢◌, ◌⊎◌, ℕ, slice_index, List, [], ◌∷◌, Result, Ok, Err}
use Rattle.hex.specs.Hex.{decode_of}

-- the word is read as this number by its type, and begins with no plus
abbrev pub IsNumber : {N E : Type 0} → (List ℕ → Result N E → Type 0) → List ℕ → N → Type 0
IsNumber gives word n = (slice_index word 0 ≢ 43) × gives word (Ok n)

-- the word begins with a plus, or is read as no number by its type
abbrev pub NoNumber : {N E : Type 0} → (List ℕ → Result N E → Type 0) → List ℕ → Type 0
NoNumber {N} {E} gives word = (slice_index word 0 ≡ 43) ⊎ ((e : E) × gives word (Err e))

-- the word says these octets: `-` says none, and any other word is pairs of hexadecimal digits
abbrev pub SaysOctets : List ℕ → List ℕ → Type 0
SaysOctets word octets = ((word ≡ 45 ∷ []) × (octets ≡ [])) ⊎ ((word ≢ []) × (decode_of word ≡ Ok octets))

-- a word that is neither `-` nor pairs of hexadecimal digits
pub record NoOctets (word : List ℕ) : Type 0 where
  pub none : (octets : List ℕ) → SaysOctets word octets → ⊥

-- a word that is not pairs of hexadecimal digits
pub record NoPairs (word : List ℕ) : Type 0 where
  pub none : (octets : List ℕ) → decode_of word ≢ Ok octets
