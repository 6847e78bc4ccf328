-- What is said is what is heard: the octets that a station says are read as an APDU that says the same.
use Rattle.std.specs.Prelude.{ℕ, ◌*◌, ◌<◌, ◌^◌, List, ◌∷◌, Option}
use Rattle.apdu.specs.Apdu.{PlainApdu, unconfirmed, Spells}
use Rattle.apdu.specs.ApduWriting.{canonical, CanBeWritten, HasNumbers}
use Rattle.apdu.specs.PduType.{type_number}
use Rattle.apdu.specs.Unconfirmed.{i_am_octets, limits_octets, service_number}
use Rattle.apdu.specs.declared.pdu_type.PduType.TheVariants as type
use Rattle.apdu.specs.declared.sizes.MaxApdu.{MaxApdu}
use Rattle.apdu.specs.declared.unconfirmed.IAm.{IAm}
use Rattle.apdu.specs.declared.unconfirmed.Limits.{Limits}
use Rattle.apdu.specs.declared.unconfirmed.UnconfirmedService.TheVariants as kind
use Rattle.history.specs.Book.{Failed, I_am, Other, Tells}
use Rattle.headline_bacnet.specs.Bodies.{Says, body_of}

-- an APDU is of a transaction: it is no unconfirmed request (5.4)
abbrev pub IsOfTransaction : PlainApdu → Type 0
IsOfTransaction (unconfirmed service octets) = ⊥
IsOfTransaction apdu = Unit {0}

-- an APDU of a transaction that is written is heard to say what it says
abbrev pub WrittenIsSaid : Type 0
WrittenIsSaid = (own : MaxApdu) (apdu heard : PlainApdu) → IsOfTransaction apdu → CanBeWritten apdu →
    HasNumbers apdu → Spells (canonical apdu) heard → Says own heard (body_of own apdu)

-- an Error with any contents is heard to say what it says (20.1.7)
abbrev pub ErrorIsSaid : Type 0
ErrorIsSaid = (own : MaxApdu) (invoke service : ℕ) (contents : List ℕ) (heard : PlainApdu) →
    Spells (16 * type_number type.Error ∷ (invoke ∷ (service ∷ contents))) heard →
    Says own heard (Tells invoke (Failed contents))

-- an I-Am is heard to say what it says (16.10.3)
abbrev pub IAmIsSaid : Type 0
IAmIsSaid = (own : MaxApdu) (i : IAm) (heard : PlainApdu) → i.instance < 2 ^ 22 → i.max_apdu < 2 ^ 32 →
    i.vendor < 2 ^ 32 → Spells (canonical (unconfirmed (service_number kind.IAm) (i_am_octets i))) heard →
    Says own heard (I_am i.instance)

-- a Who-Is is heard to say what it says (16.10.1)
abbrev pub WhoIsIsSaid : Type 0
WhoIsIsSaid = (own : MaxApdu) (limits : Option Limits) (heard : PlainApdu) →
    Spells (canonical (unconfirmed (service_number kind.WhoIs) (limits_octets limits))) heard → Says own heard Other
