-- An answer spells one reply to a request.
use Rattle.std.proofs.Common.{◌≡◌, ℕ, List, [], Option, Some, None, sym, ap, subst, ◌∙◌}
use Rattle.tags.specs.declared.object_id.ObjectId.{ObjectId}
use Rattle.tags.specs.declared.value.Value.{Value}
use Rattle.primitives.specs.Answers.{IsAnswerTo}
use Rattle.primitives.specs.declared.error.ErrorClass.{ErrorClass}
use Rattle.primitives.specs.declared.error.ErrorCode.{ErrorCode}
use Rattle.primitives.specs.declared.plain_data.ObjectResults.{ObjectResults}
use Rattle.primitives.specs.declared.plain_data.Request.{Request}
use Rattle.primitives.specs.declared.plain_data.Request.TheVariants.{Read, ReadMany}
use Rattle.primitives.specs.declared.plain_data.Reply.{Reply}
use Rattle.primitives.specs.declared.plain_data.Reply.TheVariants.{Values, Many, Error, ErrorAt}
use Rattle.answers.specs.declared.answer.Answer.{Answer}
use Rattle.answers.specs.declared.answer.Answer.TheVariants as answer
use Rattle.apdu.specs.declared.service_error.ObjectPropertyReference.{ObjectPropertyReference}
use Rattle.apdu.specs.declared.service_error.ServiceError.{ServiceError}
use Rattle.services.specs.Reply.{SpellsAck, SpellsAnswer, SpellsReply, OnlyReply, NoReply}
use Rattle.answers.specs.Answer.{SpellsFailure}
use Rattle.services.specs.ReplySteps.{NoAnswer}
use Rattle.services.proofs.OneReply.{one_many}
use Rattle.services.proofs.OneRequest.{one_write}

pub one_ack : {A : Type 0} (request : Request A) (octets : List ℕ) (r q : Reply A) → SpellsAck request octets r → SpellsAck request octets q → r ≡ q
one_ack {A} (Read o p i) octets (Values vs) (Values ws) s t = ap (λ (xs : List (Value A)). Values xs) (one_write octets o o p p i i vs ws [] [] s t).values
one_ack {A} (ReadMany asked) octets (Many rs) (Many qs) s t = ap (λ (xs : List (ObjectResults A)). Many xs) (one_many octets rs qs s t)
one_ack (Read o p i) octets (Values vs) q s t = absurd t
one_ack (Read o p i) octets r q s t = absurd s
one_ack (ReadMany asked) octets (Many rs) q s t = absurd t
one_ack (ReadMany asked) octets r q s t = absurd s
one_ack request octets r q s t = absurd s

some_or_none : (e : Option ObjectPropertyReference) (r : ObjectPropertyReference) → e ≡ None → e ≡ Some r → ⊥
some_or_none e r s t = cc

abbrev error_with : (A : Type 0) → ErrorClass → ErrorCode → Reply A
error_with A c d = Error c d

error_is : (A : Type 0) (c e : ErrorClass) (d f : ErrorCode) → c ≡ e → d ≡ f → error_with A c d ≡ error_with A e f
error_is A c e d f p q = ap (λ (x : ErrorClass). error_with A x d) p ∙ ap (λ (y : ErrorCode). error_with A e y) q

abbrev error_at : (A : Type 0) → ErrorClass → ErrorCode → ObjectPropertyReference → Reply A
error_at A c d r = ErrorAt c d r.object r.property r.index

abbrev at : ObjectId → ℕ → Option ℕ → ObjectPropertyReference
at o p i = record { object = o; property = p; index = i }

some_is : (r q : ObjectPropertyReference) → Some r ≡ Some q → r ≡ q
some_is r q e = cc

error_at_is : (A : Type 0) (c e : ErrorClass) (d f : ErrorCode) (r q : ObjectPropertyReference) → c ≡ e → d ≡ f → r ≡ q → error_at A c d r ≡ error_at A e f q
error_at_is A c e d f r q p u v = ap (λ (x : ErrorClass). error_at A x d r) p ∙ ap (λ (y : ErrorCode). error_at A e y r) u
    ∙ ap (λ (z : ObjectPropertyReference). error_at A e f z) v

pub one_failure : {A : Type 0} (e : ServiceError) (r q : Reply A) → SpellsFailure e r → SpellsFailure e q → r ≡ q
one_failure {A} e (Error c d) (Error f g) s t = error_is A c f d g (sym s.0 ∙ t.0) (sym s.1 ∙ t.1)
one_failure {A} e (ErrorAt c d o p i) (ErrorAt f g u n j) s t =
    error_at_is A c f d g (at o p i) (at u n j) (sym s.0 ∙ t.0) (sym s.1 ∙ t.1) (some_is (at o p i) (at u n j) (sym s.2 ∙ t.2))
one_failure e (Error c d) (ErrorAt f g u n j) s t = absurd (some_or_none e.first_failed (at u n j) s.2 t.2)
one_failure e (ErrorAt c d o p i) (Error f g) s t = absurd (some_or_none e.first_failed (at o p i) t.2 s.2)
one_failure e (Error c d) q s t = absurd t
one_failure e (ErrorAt c d o p i) q s t = absurd t
one_failure e r q s t = absurd s

pub one_answer : {A : Type 0} (request : Request A) (a : Answer) (r q : Reply A) → SpellsAnswer request a r → SpellsAnswer request a q → r ≡ q
one_answer request answer.Simple r q s t = s ∙ sym t
one_answer request (answer.Complex octets) r q s t = one_ack request octets.now r q s t
one_answer request (answer.Error e) r q s t = one_failure e r q s t

pub one_reply : {A : Type 0} (request : Request A) (a : Answer) (r q : Reply A) → SpellsReply request a r → SpellsReply request a q → r ≡ q
one_reply request a r q s t = one_answer request a r q s.spelled t.spelled

pub only_reply : {A : Type 0} (request : Request A) (a : Answer) (r : Reply A) → SpellsAnswer request a r → OnlyReply request a r
only_reply request a r s = record { only = λ q t. one_answer request a r q s t.spelled }

pub no_reply_of_other : {A : Type 0} (request : Request A) (a : Answer) (r : Reply A) → SpellsAnswer request a r → (IsAnswerTo request r → ⊥) →
    NoReply request a
no_reply_of_other {A} request a r s h = record {
  none =
      λ q t. h (subst (λ (x : Reply A). IsAnswerTo request x) (one_answer request a q r t.spelled s) t.answers);
}

pub no_reply_of_none : {A : Type 0} (request : Request A) (a : Answer) → NoAnswer request a → NoReply request a
no_reply_of_none request a h = record { none = λ q t. h.none q t.spelled }

pub ruleset reply_laws = (only_reply, no_reply_of_other, no_reply_of_none)
