-- Class and code of an Error (18, 21).
use Rattle.std.specs.Prelude.{◌≡◌, ℕ, List}
use Rattle.tags.specs.declared.tag.Class.TheVariants.{Application}
use Rattle.tags.specs.Number.{SpellsUnsigned}
use Rattle.apdu_fields.specs.Parameter.{Takes}

-- class and code, both Enumerated (21, Error)
pub record TakesClassAndCode (octets : List ℕ) (class code : ℕ) (rest : List ℕ) : Type 0 where
  pub at_code : List ℕ
  pub class_taken : Takes SpellsUnsigned Application 9 octets class at_code
  pub code_taken : Takes SpellsUnsigned Application 9 at_code code rest

-- at the front the octets spell no other class and code, nor is anything else left behind them (21, Error)
pub record OnlyClassAndCode (octets : List ℕ) (class code : ℕ) (rest : List ℕ) : Type 0 where
  pub only : (c d : ℕ) (after : List ℕ) → TakesClassAndCode octets c d after → (class ≡ c) × (code ≡ d) × (rest ≡ after)

-- no class and code are spelled at the front (21, Error)
pub record NoClassAndCode (octets : List ℕ) : Type 0 where
  pub none : (class code : ℕ) (rest : List ℕ) → TakesClassAndCode octets class code rest → ⊥
