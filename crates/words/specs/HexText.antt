-- Octets as pairs of hexadecimal digits, with or without spaces between the pairs.
use Rattle.std.specs.Prelude.{◌≡◌, ℕ, List, [], ◌∷◌, ◌++◌, length, replicate, Ok}
use Rattle.hex.specs.Hex.{decode_of}

-- two digits of either case spell the octet, as the crate hex decodes them
abbrev pub IsPair : List ℕ → ℕ → Type 0
IsPair pair octet = decode_of pair ≡ Ok (octet ∷ [])

-- the front of a text is a pair of digits, and after is what follows
pub record TakesPair (text : List ℕ) (octet : ℕ) (after : List ℕ) : Type 0 where
  pub pair : List ℕ
  pub spelled : IsPair pair octet
  pub two : length pair ≡ 2
  pub parts : text ≡ pair ++ after

-- the front of a text is no pair of digits
pub record TakesNoPair (text : List ℕ) : Type 0 where
  pub none : (octet : ℕ) (after : List ℕ) → TakesPair text octet after → ⊥

-- a text is some spaces, and then the rest
pub record HasSpacesBefore (text rest : List ℕ) : Type 0 where
  pub spaces : ℕ
  pub parts : text ≡ replicate spaces 32 ++ rest

-- a text begins with no space
pub record BeginsWithoutSpace (text : List ℕ) : Type 0 where
  pub none : (after : List ℕ) → text ≡ 32 ∷ after → ⊥

-- a text is a pair of digits, any number of spaces, and a text of the others
pub record ThenPairs (text : List ℕ) (octet : ℕ) (Rest : List ℕ → Type 0) : Type 0 where
  pub pair : List ℕ
  pub spaces : ℕ
  pub rest : List ℕ
  pub first : IsPair pair octet
  pub parts : text ≡ pair ++ (replicate spaces 32 ++ rest)
  pub others : Rest rest

-- a text spells octets, one at least: a pair of digits for each, with spaces between them alone
abbrev pub SpellsHex : List ℕ → List ℕ → Type 0
SpellsHex text [] = ⊥
SpellsHex text (o ∷ []) = IsPair text o
SpellsHex text (o ∷ p ∷ os) = ThenPairs text o (λ rest. SpellsHex rest (p ∷ os))

-- the text spells no other octets
pub record OnlyHex (text octets : List ℕ) : Type 0 where
  pub only : (other : List ℕ) → SpellsHex text other → other ≡ octets

-- the text spells no octets
pub record NoHex (text : List ℕ) : Type 0 where
  pub none : (octets : List ℕ) → SpellsHex text octets → ⊥
