-- In which PDU a reply goes (15.5, 15.7, 15.9, 15.10, 20.1.4, 20.1.5, 20.1.7).
use Rattle.std.specs.Prelude.{◌≡◌, ℕ, List, Option, Some, None}
use Rattle.apdu.specs.tags.declared.object_id.ObjectId.{ObjectId}
use Rattle.objects.specs.primitives.declared.plain_data.Reply.{Reply}
use Rattle.objects.specs.primitives.declared.plain_data.Reply.TheVariants.{Values, Many, Done, Error, ErrorAt}
use Rattle.apdu.specs.declared.service_error.ObjectPropertyReference.{ObjectPropertyReference}
use Rattle.apdu.specs.declared.service_error.ServiceError.{ServiceError}
use Rattle.answers.specs.declared.answer.Answer.{Answer}
use Rattle.answers.specs.declared.answer.Answer.TheVariants as answer
use Rattle.answers.specs.declared.answer.ReplyPdu.{ReplyPdu}
use Rattle.answers.specs.declared.answer.ReplyPdu.TheVariants as pdu

-- the write that failed (15.10.1.3)
abbrev pub failed_at : ObjectId → ℕ → Option ℕ → Option ObjectPropertyReference
failed_at object property index = Some (record { object = object; property = property; index = index })

-- the contents of an Error: class and code, and of WritePropertyMultiple the write that failed (15.10.1.3, 20.1.7)
abbrev pub SpellsFailure : {A : Type 0} → ServiceError → Reply A → Type 0
SpellsFailure e (Error class code) = (e.class ≡ class) × (e.code ≡ code) × (e.first_failed ≡ None)
SpellsFailure e (ErrorAt class code object property index) = (e.class ≡ class) × (e.code ≡ code) ×
    (e.first_failed ≡ failed_at object property index)
SpellsFailure e reply = ⊥

-- the PDU in which a reply goes: a SimpleACK for what was written, a ComplexACK for what was read, an Error for what
-- was not done (20.1.4, 20.1.5, 20.1.7)
abbrev pub GoesInPdu : {A : Type 0} → Reply A → ReplyPdu → Type 0
GoesInPdu Done pdu.SimpleAck = Unit {0}
GoesInPdu (Values values) pdu.ComplexAck = Unit {0}
GoesInPdu (Many results) pdu.ComplexAck = Unit {0}
GoesInPdu reply (pdu.Error e) = SpellsFailure e reply
GoesInPdu reply pdu = ⊥

-- the answer in which a reply goes: its service data in a ComplexACK where it has some (20.1.4, 20.1.5, 20.1.7)
abbrev pub GoesIn : {A : Type 0} → Reply A → List ℕ → Answer → Type 0
GoesIn Done body answer.Simple = Unit {0}
GoesIn (Values values) body (answer.Complex octets) = octets.now ≡ body
GoesIn (Many results) body (answer.Complex octets) = octets.now ≡ body
GoesIn reply body (answer.Error e) = SpellsFailure e reply
GoesIn reply body answer = ⊥
