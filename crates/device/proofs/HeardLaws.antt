-- What an APDU says to a server doesn't hang on where its octets lie.
use Rattle.std.proofs.Common.{◌≡◌, refl, ℕ, Bool, List, Option}
use Rattle.apdu.proofs.OneName.{one_size}
use Rattle.apdu.specs.declared.apdu.Apdu.TheVariants as apdu
use Rattle.apdu.specs.declared.apdu.Segment.{Segment}
use Rattle.apdu.specs.declared.sizes.MaxApdu.{MaxApdu}
use Rattle.apdu.specs.declared.sizes.MaxSegments.{MaxSegments}
use Rattle.server_tsm.specs.Hearing.{Heard, Message, acknowledges, asks, gives_up, heard_of, nothing, of_client}
use Rattle.apdu.specs.Apdu.{apdu_of, HasNamedNumbers}
use Rattle.apdu.specs.declared.apdu.Apdu.{Apdu}

abbrev asked : ℕ → Option Segment → Bool → MaxSegments → MaxApdu → ℕ → List ℕ → Heard
asked invoke segment accepted segments size service octets =
    record { invoke_id = invoke; message = asks segment (record { segmented = accepted; max_segments = segments; max_apdu = size }) service octets }

same_asked : (i j : ℕ) (s t : Option Segment) (a b : Bool) (m n : MaxSegments) (p q : MaxApdu) (k l : ℕ) (x y : List ℕ) →
    i ≡ j → s ≡ t → a ≡ b → m ≡ n → p ≡ q → k ≡ l → x ≡ y → asked i s a m p k x ≡ asked j t b n q l y
same_asked i j s t a b m n p q k l x y e1 e2 e3 e4 e5 e6 e7 = cc

abbrev heard : ℕ → Message → Heard
heard invoke message = record { invoke_id = invoke; message = message }

same_message : (i j : ℕ) (m n : Message) → i ≡ j → m ≡ n → heard i m ≡ heard j n
same_message i j m n e f = cc

same_ack : (a b s t : Bool) (n m w v : ℕ) → a ≡ b → s ≡ t → n ≡ m → w ≡ v → of_client s (acknowledges a n w) ≡ of_client t (acknowledges b m v)
same_ack a b s t n m w v e f g h = cc

same_end : (s t : Bool) → s ≡ t → of_client s gives_up ≡ of_client t gives_up
same_end s t e = cc

pub one_heard : (a b : Apdu) → HasNamedNumbers a → HasNamedNumbers b → apdu_of a ≡ apdu_of b → heard_of a ≡ heard_of b
one_heard (apdu.ConfirmedRequest s a m p i k x) (apdu.ConfirmedRequest t b n q j l y) na nb e =
    same_asked i j s t a b m n p q k l x.now y.now (cc e) (cc e) (cc e) (cc e) (one_size p q (cc e) na nb) (cc e) (cc e)
one_heard (apdu.UnconfirmedRequest k x) (apdu.UnconfirmedRequest l y) na nb e = refl
one_heard (apdu.SimpleAck i k) (apdu.SimpleAck j l) na nb e = same_message i j nothing nothing (cc e) refl
one_heard (apdu.ComplexAck s i k x) (apdu.ComplexAck t j l y) na nb e = same_message i j nothing nothing (cc e) refl
one_heard (apdu.SegmentAck a s i n w) (apdu.SegmentAck b t j m v) na nb e =
    same_message i j (of_client s (acknowledges a n w)) (of_client t (acknowledges b m v)) (cc e) (same_ack a b s t n m w v (cc e) (cc e) (cc e) (cc e))
one_heard (apdu.Error i k x) (apdu.Error j l y) na nb e = same_message i j nothing nothing (cc e) refl
one_heard (apdu.Reject i r) (apdu.Reject j u) na nb e = same_message i j nothing nothing (cc e) refl
one_heard (apdu.Abort s i r) (apdu.Abort t j u) na nb e =
    same_message i j (of_client s gives_up) (of_client t gives_up) (cc e) (same_end s t (cc e))
one_heard a b na nb e = absurd (cc e)
