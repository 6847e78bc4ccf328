-- APDUs, and the octets that spell one (20.1).
use Rattle.std.specs.Prelude.{◌≡◌, ℕ, ◌/◌, ◌%◌, ◌==◌, Bool, List, [], ◌∷◌, ◌++◌, Option, Some, None, is_some, IfSome}
use Rattle.primitives.specs.Errors.{class_number, code_number}
use Rattle.apdu.specs.Numbers.{reject_number, abort_number, IsNamedReject, IsNamedAbort}
use Rattle.apdu.specs.PduType.{type_number}
use Rattle.apdu.specs.ServiceError.{SpellsError, HasNames}
use Rattle.apdu.specs.Sizes.{segments_code, apdu_code, IsNamedSize}
use Rattle.apdu.specs.declared.apdu.Apdu.{Apdu}
use Rattle.apdu.specs.declared.apdu.Apdu.TheVariants as variant
use Rattle.apdu.specs.declared.apdu.Segment.{Segment}
use Rattle.apdu.specs.declared.pdu_type.PduType.{PduType}
use Rattle.apdu.specs.declared.pdu_type.PduType.TheVariants as kind
use Rattle.apdu.specs.declared.service_error.ObjectPropertyReference.{ObjectPropertyReference}
use Rattle.apdu.specs.declared.sizes.MaxSegments.{MaxSegments}

-- an APDU without where its octets lie (20.1)
pub data PlainApdu : Type 0 where
  confirmed : Option Segment → Bool → MaxSegments → ℕ → ℕ → ℕ → List ℕ → PlainApdu
  unconfirmed : ℕ → List ℕ → PlainApdu
  simple_ack : ℕ → ℕ → PlainApdu
  complex_ack : Option Segment → ℕ → ℕ → List ℕ → PlainApdu
  segment_ack : Bool → Bool → ℕ → ℕ → ℕ → PlainApdu
  error_pdu : ℕ → ℕ → ℕ → ℕ → Option ObjectPropertyReference → PlainApdu
  reject_pdu : ℕ → ℕ → PlainApdu
  abort_pdu : Bool → ℕ → ℕ → PlainApdu

-- what the code's APDU says
abbrev pub apdu_of : Apdu → PlainApdu
apdu_of (variant.ConfirmedRequest segment accepted max_segments max_apdu invoke service octets) =
    confirmed segment accepted max_segments (apdu_code max_apdu) invoke service octets.now
apdu_of (variant.UnconfirmedRequest service octets) = unconfirmed service octets.now
apdu_of (variant.SimpleAck invoke service) = simple_ack invoke service
apdu_of (variant.ComplexAck segment invoke service octets) = complex_ack segment invoke service octets.now
apdu_of (variant.SegmentAck negative server invoke sequence window) = segment_ack negative server invoke sequence window
apdu_of (variant.Error invoke service e) = error_pdu invoke service (class_number e.class)
    (code_number e.code) e.first_failed
apdu_of (variant.Reject invoke reason) = reject_pdu invoke (reject_number reason)
apdu_of (variant.Abort server invoke reason) = abort_pdu server invoke (abort_number reason)

-- its numbers go by their names where they have one (18, 20.1.2.5)
abbrev pub HasNamedNumbers : Apdu → Type 0
HasNamedNumbers (variant.ConfirmedRequest segment accepted max_segments max_apdu invoke service octets) =
    IsNamedSize max_apdu
HasNamedNumbers (variant.Error invoke service e) = HasNames e
HasNamedNumbers (variant.Reject invoke reason) = IsNamedReject reason
HasNamedNumbers (variant.Abort server invoke reason) = IsNamedAbort reason
HasNamedNumbers a = Unit {0}

-- the type of an APDU (20.1.2 to 20.1.9)
abbrev pub type_of : PlainApdu → PduType
type_of (confirmed segment accepted max_segments max_apdu invoke service octets) = kind.ConfirmedRequest
type_of (unconfirmed service octets) = kind.UnconfirmedRequest
type_of (simple_ack invoke service) = kind.SimpleAck
type_of (complex_ack segment invoke service octets) = kind.ComplexAck
type_of (segment_ack negative server invoke sequence window) = kind.SegmentAck
type_of (error_pdu invoke service class code first_failed) = kind.Error
type_of (reject_pdu invoke reason) = kind.Reject
type_of (abort_pdu server invoke reason) = kind.Abort

-- its invoke ID, where it has one (20.1.2.6)
abbrev pub invoke_id_of : PlainApdu → Option ℕ
invoke_id_of (confirmed segment accepted max_segments max_apdu invoke service octets) = Some invoke
invoke_id_of (unconfirmed service octets) = None
invoke_id_of (simple_ack invoke service) = Some invoke
invoke_id_of (complex_ack segment invoke service octets) = Some invoke
invoke_id_of (segment_ack negative server invoke sequence window) = Some invoke
invoke_id_of (error_pdu invoke service class code first_failed) = Some invoke
invoke_id_of (reject_pdu invoke reason) = Some invoke
invoke_id_of (abort_pdu server invoke reason) = Some invoke

-- SEG is bit 3 of the first octet, and MOR, which says something of a segment alone, bit 2 (20.1.2.1, 20.1.2.2)
pub record IsSegmented (first : ℕ) (segment : Option Segment) : Type 0 where
  pub is : (first / 8 % 2 == 1) ≡ is_some segment
  pub more : IfSome segment (λ s. s.more_follows ≡ (first / 4 % 2 == 1))

-- the other flags are SA in bit 1 (20.1.2.3), NAK in bit 1 (20.1.6.1) and SRV in bit 0 (20.1.6.2, 20.1.9.1); no other
-- bit is looked at
abbrev pub HasFlags : ℕ → PlainApdu → Type 0
HasFlags first (confirmed segment accepted max_segments max_apdu invoke service octets) = IsSegmented first segment ×
    (accepted ≡ (first / 2 % 2 == 1))
HasFlags first (complex_ack segment invoke service octets) = IsSegmented first segment
HasFlags first (segment_ack negative server invoke sequence window) = (negative ≡ (first / 2 % 2 == 1)) ×
    (server ≡ (first % 2 == 1))
HasFlags first (abort_pdu server invoke reason) = server ≡ (first % 2 == 1)
HasFlags first a = Unit {0}

-- sequence number and window stand in segments alone (20.1.2.7, 20.1.2.8)
abbrev pub segment_octets : Option Segment → List ℕ
segment_octets None = []
segment_octets (Some s) = s.sequence_number ∷ (s.window ∷ [])

-- what stands behind the first octet, these being the sizes of a request and the contents of an Error (20.1.2 to
-- 20.1.9)
abbrev pub octets_behind : ℕ → List ℕ → PlainApdu → List ℕ
octets_behind sizes contents (confirmed segment accepted max_segments max_apdu invoke service data_octets) =
    sizes ∷ (invoke ∷ (segment_octets segment ++ (service ∷ data_octets)))
octets_behind sizes contents (unconfirmed service data_octets) = service ∷ data_octets
octets_behind sizes contents (simple_ack invoke service) = invoke ∷ (service ∷ [])
octets_behind sizes contents (complex_ack segment invoke service data_octets) =
    invoke ∷ (segment_octets segment ++ (service ∷ data_octets))
octets_behind sizes contents (segment_ack negative server invoke sequence window) = invoke ∷ (sequence ∷ (window ∷ []))
octets_behind sizes contents (error_pdu invoke service class code first_failed) = invoke ∷ (service ∷ contents)
octets_behind sizes contents (reject_pdu invoke reason) = invoke ∷ (reason ∷ [])
octets_behind sizes contents (abort_pdu server invoke reason) = invoke ∷ (reason ∷ [])

-- a request's sizes say how many segments and octets are taken; bit 7 is not looked at (20.1.2.4, 20.1.2.5)
pub record SpellsConfirmedRequest (octets : List ℕ) (max_segments : MaxSegments) (max_apdu : ℕ)
    (a : PlainApdu) : Type 0 where
  pub sizes : ℕ
  pub segments : segments_code max_segments ≡ sizes / 16 % 8
  pub apdu : max_apdu ≡ sizes % 16
  pub parts : octets ≡ octets_behind sizes [] a

-- an Error's contents are those of its service (20.1.7)
pub record SpellsErrorPdu (octets : List ℕ) (service class code : ℕ) (first_failed : Option ObjectPropertyReference)
    (a : PlainApdu) : Type 0 where
  pub contents : List ℕ
  pub parts : octets ≡ octets_behind 0 contents a
  pub spelled : SpellsError service contents class code first_failed

-- the octets stand behind the first octet (20.1.2 to 20.1.9)
abbrev pub SpellsFields : List ℕ → PlainApdu → Type 0
SpellsFields octets (confirmed segment accepted max_segments max_apdu invoke service data_octets) =
    SpellsConfirmedRequest octets max_segments max_apdu
    (confirmed segment accepted max_segments max_apdu invoke service data_octets)
SpellsFields octets (error_pdu invoke service class code first_failed) =
    SpellsErrorPdu octets service class code first_failed (error_pdu invoke service class code first_failed)
SpellsFields octets a = octets ≡ octets_behind 0 [] a

-- the same for an APDU of this type, whose first octet is known
pub record SpellsBehind (k : PduType) (first : ℕ) (rest : List ℕ) (a : PlainApdu) : Type 0 where
  pub kind : type_of a ≡ k
  pub flags : HasFlags first a
  pub fields : SpellsFields rest a

-- the octets, all of them, spell the APDU: its type is the high four bits of the first (20.1.2 to 20.1.9)
pub record Spells (octets : List ℕ) (a : PlainApdu) : Type 0 where
  pub first : ℕ
  pub rest : List ℕ
  pub front : octets ≡ first ∷ rest
  pub kind : first / 16 ≡ type_number (type_of a)
  pub flags : HasFlags first a
  pub fields : SpellsFields rest a

-- the octets spell this APDU and no other
pub record OnlyApdu (octets : List ℕ) (a : PlainApdu) : Type 0 where
  pub only : (b : PlainApdu) → Spells octets b → a ≡ b

-- no APDU is spelled
pub record NoApdu (octets : List ℕ) : Type 0 where
  pub none : (a : PlainApdu) → Spells octets a → ⊥
