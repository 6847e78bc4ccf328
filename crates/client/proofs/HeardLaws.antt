-- What an APDU says to a client of transactions doesn't hang on where its octets lie.
use Rattle.std.proofs.Common.{◌≡◌, refl, ap, ℕ, Bool, List, Option}
use Rattle.apdu.proofs.OneName.{one_abort, one_reject}
use Rattle.apdu.specs.declared.apdu.Apdu.TheVariants as apdu
use Rattle.apdu.specs.declared.apdu.Segment.{Segment}
use Rattle.apdu.specs.declared.numbers.AbortReason.{AbortReason}
use Rattle.client_tsm.specs.Hearing.{Heard, Message, acknowledges, answer_heard, answers, closes, heard_of, nothing, of_server}
use Rattle.client_tsm.specs.declared.plan.Outcome.TheVariants.{Aborted, Rejected}
use Rattle.primitives.proofs.ErrorNames.{one_class, one_code}
use Rattle.primitives.specs.declared.error.ErrorClass.{ErrorClass}
use Rattle.primitives.specs.declared.error.ErrorCode.{ErrorCode}
use Rattle.apdu.specs.declared.service_error.ObjectPropertyReference.{ObjectPropertyReference}
use Rattle.client_tsm.specs.services.Contents.{PlainAnswer, failed, simple}
use Rattle.apdu.specs.Apdu.{apdu_of, HasNamedNumbers}
use Rattle.apdu.specs.declared.apdu.Apdu.{Apdu}

abbrev heard : {A : Type 0} → ℕ → Message A → Heard A
heard invoke message = record { invoke_id = invoke; message = message }

same_message : {A : Type 0} (i j : ℕ) (m n : Message A) → i ≡ j → m ≡ n → heard i m ≡ heard j n
same_message i j m n e f = cc

abbrev answered : {A : Type 0} → ℕ → PlainAnswer → Message A
answered service answer = answers service answer

same_simple : {A : Type 0} (k l : ℕ) → k ≡ l → answered {A = A} k simple ≡ answers l simple
same_simple k l e = cc

same_complex : {A : Type 0} (s t : Option Segment) (k l : ℕ) (x y : List ℕ) → s ≡ t → k ≡ l → x ≡ y →
    answer_heard {A = A} s k x ≡ answer_heard t l y
same_complex s t k l x y e f g = cc

same_failed : {A : Type 0} (k l : ℕ) (c d : ErrorClass) (p q : ErrorCode) (f g : Option ObjectPropertyReference) →
    k ≡ l → c ≡ d → p ≡ q → f ≡ g → answered {A = A} k (failed c p f) ≡ answers l (failed d q g)
same_failed k l c d p q f g e1 e2 e3 e4 = cc

same_ack : {A : Type 0} (a b s t : Bool) (n m w v : ℕ) → a ≡ b → s ≡ t → n ≡ m → w ≡ v →
    of_server {A = A} s (acknowledges a n w) ≡ of_server t (acknowledges b m v)
same_ack a b s t n m w v e f g h = cc

same_abort : {A : Type 0} (s t : Bool) (r u : AbortReason) → s ≡ t → r ≡ u →
    of_server {A = A} s (closes (Aborted r)) ≡ of_server t (closes (Aborted u))
same_abort s t r u e f = cc

pub one_heard : {A : Type 0} (a b : Apdu) → HasNamedNumbers a → HasNamedNumbers b → apdu_of a ≡ apdu_of b → heard_of {A = A} a ≡ heard_of b
one_heard (apdu.ConfirmedRequest s a m p i k x) (apdu.ConfirmedRequest t b n q j l y) na nb e =
    same_message i j nothing nothing (cc e) refl
one_heard (apdu.UnconfirmedRequest k x) (apdu.UnconfirmedRequest l y) na nb e = refl
one_heard (apdu.SimpleAck i k) (apdu.SimpleAck j l) na nb e =
    same_message i j (answers k simple) (answers l simple) (cc e) (same_simple k l (cc e))
one_heard (apdu.ComplexAck s i k x) (apdu.ComplexAck t j l y) na nb e =
    same_message i j (answer_heard s k x.now) (answer_heard t l y.now) (cc e)
    (same_complex s t k l x.now y.now (cc e) (cc e) (cc e))
one_heard (apdu.SegmentAck a s i n w) (apdu.SegmentAck b t j m v) na nb e =
    same_message i j (of_server s (acknowledges a n w)) (of_server t (acknowledges b m v)) (cc e)
    (same_ack a b s t n m w v (cc e) (cc e) (cc e) (cc e))
one_heard (apdu.Error i k x) (apdu.Error j l y) na nb e =
    same_message i j (answers k (failed x.class x.code x.first_failed)) (answers l (failed y.class y.code y.first_failed))
    (cc e)
    (same_failed k l x.class y.class x.code y.code x.first_failed y.first_failed (cc e)
    (one_class x.class y.class (cc e) na.0 nb.0) (one_code x.code y.code (cc e) na.1 nb.1) (cc e))
one_heard (apdu.Reject i r) (apdu.Reject j u) na nb e =
    same_message i j (closes (Rejected r)) (closes (Rejected u)) (cc e)
    (ap (λ z. closes (Rejected z)) (one_reject r u (cc e) na nb))
one_heard (apdu.Abort s i r) (apdu.Abort t j u) na nb e =
    same_message i j (of_server s (closes (Aborted r))) (of_server t (closes (Aborted u))) (cc e)
    (same_abort s t r u (cc e) (one_abort r u (cc e) na nb))
one_heard a b na nb e = absurd (cc e)
