-- Laws of the spelling of APDUs, Who-Is and I-Am.
use Rattle.std.specs.Prelude.{◌≡◌, ℕ, ◌<◌, ◌≤◌, ◌^◌, List, [], ◌∷◌, length, ◌++◌, Option, Some, None, IfSome, true}
use Rattle.std.specs.Prelude.{false, refl}
use Rattle.tags.specs.declared.fault.Fault.{Fault}
use Rattle.apdu.specs.Apdu.{PlainApdu, confirmed, simple_ack, complex_ack, segment_ack, abort_pdu, Spells, NoApdu}
use Rattle.apdu.specs.ApduRefusal.{Refuses}
use Rattle.tags.specs.declared.fault.Fault.TheVariants.{Short}
use Rattle.apdu.specs.ApduWriting.{canonical, CanBeWritten, HasNumbers}
use Rattle.tags.specs.Number.{AreOctets}
use Rattle.apdu.specs.Unconfirmed.{limits_octets, SpellsWhoIs, i_am_octets, SpellsIAm}
use Rattle.apdu.specs.declared.unconfirmed.IAm.{IAm}
use Rattle.apdu.specs.declared.sizes.MaxSegments.TheVariants.{SixtyFour}
use Rattle.apdu.specs.declared.unconfirmed.Limits.{Limits}

-- what octets spell is one APDU
abbrev pub SpellOne : Type 0
SpellOne = (octets : List ℕ) (a b : PlainApdu) → Spells octets a → Spells octets b → a ≡ b

-- the octets that are written spell what was to be written
abbrev pub CanonicalSpells : Type 0
CanonicalSpells = (a : PlainApdu) → CanBeWritten a → HasNumbers a → Spells (canonical a) a

-- no octets that spell an APDU are fewer than those that are written
abbrev pub CanonicalIsShortest : Type 0
CanonicalIsShortest = (octets : List ℕ) (a : PlainApdu) → AreOctets octets → Spells octets a →
    length (canonical a) ≤ length octets

-- octets are refused for one cause, and spell no APDU
abbrev pub RefusedOnce : Type 0
RefusedOnce = (octets : List ℕ) (d e : Fault) → Refuses d octets → Refuses e octets → (d ≡ e) × NoApdu octets

-- with some octets behind them they spell an APDU
pub record IsBegun (octets : List ℕ) : Type 0 where
  pub more : List ℕ
  pub apdu : PlainApdu
  pub whole : Spells (octets ++ more) apdu

-- some octets behind what is short would complete it
abbrev pub ShortIsBegun : Type 0
ShortIsBegun = (octets : List ℕ) → Refuses Short octets → IsBegun octets

-- what octets spell is one Who-Is
abbrev pub WhoIsSpellOne : Type 0
WhoIsSpellOne = (octets : List ℕ) (o p : Option Limits) → SpellsWhoIs octets o → SpellsWhoIs octets p → o ≡ p

-- what octets spell is one I-Am
abbrev pub IAmSpellOne : Type 0
IAmSpellOne = (octets : List ℕ) (i j : IAm) → SpellsIAm octets i → SpellsIAm octets j → i ≡ j

-- the octets that are written of a Who-Is spell it
abbrev pub WhoIsSpells : Type 0
WhoIsSpells = (o : Option Limits) → IfSome o (λ l. (l.low < 2 ^ 32) × (l.high < 2 ^ 32)) →
    SpellsWhoIs (limits_octets o) o

-- the octets that are written of an I-Am spell it
abbrev pub IAmSpells : Type 0
IAmSpells = (i : IAm) → i.instance < 2 ^ 22 → i.max_apdu < 2 ^ 32 → i.vendor < 2 ^ 32 → SpellsIAm (i_am_octets i) i

-- no octets that spell a Who-Is are fewer than those that are written
abbrev pub WhoIsIsShortest : Type 0
WhoIsIsShortest = (octets : List ℕ) (o : Option Limits) → AreOctets octets → SpellsWhoIs octets o →
    length (limits_octets o) ≤ length octets

-- no octets that spell an I-Am are fewer than those that are written
abbrev pub IAmIsShortest : Type 0
IAmIsShortest = (octets : List ℕ) (i : IAm) → AreOctets octets → SpellsIAm octets i →
    length (i_am_octets i) ≤ length octets

-- rows that a slip in a definition would break: a request, a segment of one and of an answer, a SimpleACK, a NAK, an
-- Abort

row_request : canonical (confirmed None true SixtyFour 5 1 12 (0x0C ∷ [])) ≡ 0x02 ∷ 0x65 ∷ 0x01 ∷ 0x0C ∷ 0x0C ∷ []
row_request = refl

row_segment : canonical (confirmed (Some (record {
  more_follows = true;
  sequence_number = 0;
  window = 4;
})) true SixtyFour 5 0 14 []) ≡ 0x0E ∷ 0x65 ∷ 0x00 ∷ 0x00 ∷ 0x04 ∷ 0x0E ∷ []
row_segment = refl

row_answer : canonical (complex_ack (Some (record { more_follows = false; sequence_number = 4; window = 4 })) 0 14 []) ≡
    0x38 ∷ 0x00 ∷ 0x04 ∷ 0x04 ∷ 0x0E ∷ []
row_answer = refl

row_simple_ack : canonical (simple_ack 2 15) ≡ 0x20 ∷ 0x02 ∷ 0x0F ∷ []
row_simple_ack = refl

row_nak : canonical (segment_ack true false 0 1 4) ≡ 0x42 ∷ 0x00 ∷ 0x01 ∷ 0x04 ∷ []
row_nak = refl

row_abort : canonical (abort_pdu true 0 4) ≡ 0x71 ∷ 0x00 ∷ 0x04 ∷ []
row_abort = refl
