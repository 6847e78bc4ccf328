-- Laws of the spelling.
use Rattle.std.specs.Prelude.{◌≡◌, ℕ, List, [], ◌∷◌, refl}
use Rattle.tags.specs.declared.fault.Fault.{Fault}
use Rattle.bvll.specs.Datagram.{Datagram, outcome, register, unicast, canonical, IsSound, Spells}
use Rattle.bvll.specs.Refusal.{Refuses}

-- what octets spell is one datagram
abbrev pub SpellOne : Type 0
SpellOne = (octets : List ℕ) (d e : Datagram) → Spells octets d → Spells octets e → d ≡ e

-- what has a spelling has the canonical one
abbrev pub CanonicalSpells : Type 0
CanonicalSpells = (d : Datagram) → IsSound d → Spells (canonical d) d

-- octets are refused for one cause
abbrev pub RefusedOnce : Type 0
RefusedOnce = (octets : List ℕ) (d e : Fault) → Refuses d octets → Refuses e octets → d ≡ e

-- rows that a slip in a definition would break: a registration for 60 seconds, a result, an empty NPDU
row_register : canonical (register 60) ≡ 0x81 ∷ 0x05 ∷ 0x00 ∷ 0x06 ∷ 0x00 ∷ 0x3C ∷ []
row_register = refl

row_result : canonical (outcome 0x60) ≡ 0x81 ∷ 0x00 ∷ 0x00 ∷ 0x06 ∷ 0x00 ∷ 0x60 ∷ []
row_result = refl

row_empty : canonical (unicast []) ≡ 0x81 ∷ 0x0A ∷ 0x00 ∷ 0x04 ∷ []
row_empty = refl
