-- What the contents of an answer mean is what the answer spells.
use Rattle.std.proofs.Common.{◌≡◌, ℕ, List, Option, None, refl, sym, ap, subst, ◌∙◌}
use Rattle.primitives.specs.Answers.{IsAnswerTo}
use Rattle.primitives.specs.Sound.{IsSoundReply, IsSoundRequest}
use Rattle.primitives.specs.declared.error.ErrorClass.{ErrorClass}
use Rattle.primitives.specs.declared.error.ErrorCode.{ErrorCode}
use Rattle.primitives.specs.declared.plain_data.Request.{Request}
use Rattle.primitives.specs.declared.plain_data.Reply.{Reply}
use Rattle.primitives.specs.declared.plain_data.Reply.TheVariants.{Values, Many, Done, Error, ErrorAt}
use Rattle.apdu.specs.declared.service_error.ObjectPropertyReference.{ObjectPropertyReference}
use Rattle.apdu.specs.declared.service_error.ServiceError.{ServiceError}
use Rattle.answers.specs.declared.answer.Answer.{Answer}
use Rattle.answers.specs.declared.answer.Answer.TheVariants as answer
use Rattle.services.specs.Contents.{PlainAnswer, simple, complex, failed, answer_contents, reply_contents, SpellsContents, ReplyOfContents, EqualContents}
use Rattle.services.specs.Contents.{OneMeaning, ReplyIsMeant, MeaningReadsBack, GoesInContents}
use Rattle.services.specs.Reply.{SpellsAnswer}
use Rattle.answers.specs.Answer.{SpellsFailure, failed_at}
use Rattle.services.proofs.CanonicalAnswer.{ack_in}
use Rattle.services.proofs.OneAnswer.{one_ack, one_failure}

to_contents : {A : Type 0} (request : Request A) (a : Answer) (x : Reply A) → SpellsAnswer request a x → SpellsContents request (answer_contents a) x
to_contents request answer.Simple x s = s
to_contents request (answer.Complex octets) x s = s
to_contents request (answer.Error e) x s = s

from_contents : {A : Type 0} (request : Request A) (a : Answer) (x : Reply A) → SpellsContents request (answer_contents a) x → SpellsAnswer request a x
from_contents request answer.Simple x s = s
from_contents request (answer.Complex octets) x s = s
from_contents request (answer.Error e) x s = s

pub reply_of_contents : {A : Type 0} → ReplyOfContents A
reply_of_contents = record {
  means = λ request a x s. record { spelled = to_contents request a x s.spelled; answers = s.answers };
  spells = λ request a x s. record { spelled = from_contents request a x s.spelled; answers = s.answers };
}

pub equal_contents : {A : Type 0} → EqualContents A
equal_contents request a b x e s = record {
  spelled = from_contents request b x (subst (λ (c : PlainAnswer). SpellsContents request c x) e (to_contents request a x s.spelled));
  answers = s.answers;
}

one_spelled : {A : Type 0} (request : Request A) (c : PlainAnswer) (x y : Reply A) → SpellsContents request c x → SpellsContents request c y → x ≡ y
one_spelled request simple x y s t = s ∙ sym t
one_spelled request (complex octets) x y s t = one_ack request octets x y s t
one_spelled request (failed class code first) x y s t = one_failure (record { class = class; code = code; first_failed = first }) x y s t

pub one_meaning : {A : Type 0} → OneMeaning A
one_meaning request c x y s t = one_spelled request c x y s.spelled t.spelled

meant : {A : Type 0} (request : Request A) (x : Reply A) → IsSoundRequest request → IsSoundReply x → IsAnswerTo request x →
    SpellsContents request (reply_contents request x) x
meant request Done q s h = refl
meant request (Error class code) q s h = (refl, refl, refl)
meant request (ErrorAt class code object property index) q s h = (refl, refl, refl)
meant request (Values vs) q s h = ack_in request (Values vs) q s h tt
meant request (Many rs) q s h = ack_in request (Many rs) q s h tt

pub reply_is_meant : {A : Type 0} → ReplyIsMeant A
reply_is_meant request x q s h = record { spelled = meant request x q s h; answers = h }

pub meaning_reads_back : {A : Type 0} → MeaningReadsBack A
meaning_reads_back request x y q s h t = one_spelled request (reply_contents request x) y x t.spelled (meant request x q s h)

abbrev failed_as : ErrorClass → ErrorCode → Option ObjectPropertyReference → PlainAnswer
failed_as class code first = failed class code first

failed_is : (c d : ErrorClass) (e f : ErrorCode) (a b : Option ObjectPropertyReference) → c ≡ d → e ≡ f → a ≡ b → failed_as c e a ≡ failed_as d f b
failed_is c d e f a b p q r =
    ap (λ (x : ErrorClass). failed_as x e a) p ∙ ap (λ (y : ErrorCode). failed_as d y a) q ∙ ap (λ (z : Option ObjectPropertyReference). failed_as d f z) r

error_contents : {A : Type 0} (request : Request A) (x : Reply A) (e : ServiceError) → SpellsFailure e x →
    answer_contents (answer.Error e) ≡ reply_contents request x
error_contents request (Error class code) e s = failed_is e.class class e.code code e.first_failed None s.0 s.1 s.2
error_contents request (ErrorAt class code object property index) e s =
    failed_is e.class class e.code code e.first_failed (failed_at object property index) s.0 s.1 s.2
error_contents request x e s = absurd s

pub goes_in_contents : {A : Type 0} → GoesInContents A
goes_in_contents request (Values vs) (answer.Complex octets) h g = ap (λ (z : List ℕ). complex z) g
goes_in_contents request (Many rs) (answer.Complex octets) h g = ap (λ (z : List ℕ). complex z) g
goes_in_contents request Done answer.Simple h g = refl
goes_in_contents request x (answer.Error e) h g = error_contents request x e g
goes_in_contents request x a h g = absurd g

pub ruleset meaning_laws = (reply_is_meant, meaning_reads_back, goes_in_contents)
