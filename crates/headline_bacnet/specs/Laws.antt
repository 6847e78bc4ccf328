-- The protocol keeps its laws: an implementation of a trait cites them, so their proofs stand here.
use Rattle.std.proofs.Common.{◌≡◌, refl, sym, ap, subst, ◌∙◌, ℕ, ◌<◌, ◌^◌, List, ◌∷◌, Option, Some, None, arith}
use Rattle.std.specs.Prelude.{IfSome}
use Rattle.apdu.proofs.ApduLaws.{one_apdu}
use Rattle.apdu.proofs.CanonicalLaws.{error_spelled}
use Rattle.apdu.specs.Apdu.{error_pdu, Spells}
use Rattle.apdu.specs.ApduWriting.{NamesWriteOf}
use Rattle.apdu.specs.ServiceError.{SpellsError}
use Rattle.apdu.specs.Numbers.{service_number}
use Rattle.apdu.specs.declared.service_error.ObjectPropertyReference.{ObjectPropertyReference}
use Rattle.headline.specs.Protocol.{IsLawful}
use Rattle.history.specs.Book.{Failed}
use Rattle.history.specs.Tests.{IsTest}
use Rattle.npdu.proofs.Stations.{one_station}
use Rattle.npdu.specs.Mac.{same_station}
use Rattle.objects.proofs.RequestLaws.{after_sound, reply_answers, reply_sound}
use Rattle.object_model.specs.Objects.{PlainTable}
use Rattle.object_model.specs.Site.{IsSoundTable}
use Rattle.primitives.proofs.ErrorNames.{one_class, one_code}
use Rattle.primitives.specs.Answers.{IsAnswerTo}
use Rattle.primitives.specs.Errors.{class_number, code_number}
use Rattle.primitives.specs.Sound.{IsSoundIndex, IsSoundReply, IsSoundRequest}
use Rattle.primitives.specs.declared.error.ErrorClass.{ErrorClass}
use Rattle.primitives.specs.declared.error.ErrorCode.{ErrorCode}
use Rattle.primitives.specs.declared.plain_data.Reply.{Reply}
use Rattle.primitives.specs.declared.plain_data.Reply.TheVariants.{Values, Many, Done, Error, ErrorAt}
use Rattle.primitives.specs.declared.plain_data.Request.{Request}
use Rattle.primitives.specs.declared.plain_data.Request.TheVariants.{Read, ReadMany, Write, WriteMany}
use Rattle.server_answers.specs.Answering.{answer_apdu}
use Rattle.services.proofs.AskedNames.{left_by_is, replied_is, request_octets_are, service_asked_is}
use Rattle.services.proofs.CanonicalBody.{request_reads_back, request_spelled}
use Rattle.services.proofs.Contents.{meaning_reads_back, reply_is_meant}
use Rattle.services.specs.Asked.{replied, left_by, request_octets, service_asked}
use Rattle.services.specs.CanonicalRequest.{canonical_request}
use Rattle.services.specs.Contents.{PlainAnswer, simple, complex, failed, reply_contents}
use Rattle.services.specs.Contents as meaning
use Rattle.services.specs.Request.{SpellsRequest, request_service}
use Rattle.headline_bacnet.specs.Bodies.{answer_in}
use Rattle.headline_bacnet.specs.Protocol.{HasContents, MeansRequest, MeansReply, bacnet}

-- stations
stations_tell : IsTest same_station
stations_tell = record { exact = λ a b e. (one_station a b).same e; itself = λ a. (one_station a a).one refl }

-- requests
spelled_so : {A : Type 0} (q x : Request A) → SpellsRequest (service_asked q) (request_octets q) x →
    SpellsRequest (service_number (request_service q)) (canonical_request q) x
spelled_so q x s =
    subst (λ n. SpellsRequest n (canonical_request q) x) (service_asked_is q)
    (subst (λ (l : List ℕ). SpellsRequest (service_asked q) l x) (request_octets_are q) s)

spells_itself : {A : Type 0} (q : Request A) → IsSoundRequest q → SpellsRequest (service_asked q) (request_octets q) q
spells_itself q sound =
    subst (λ (l : List ℕ). SpellsRequest (service_asked q) l q) (sym (request_octets_are q))
    (subst (λ n. SpellsRequest n (canonical_request q) q) (sym (service_asked_is q)) (request_spelled q sound))

request_back : {A : Type 0} (q : Request A) (o : Option (Request A)) → IsSoundRequest q →
    MeansRequest (service_asked q) (request_octets q) o → o ≡ Some q
request_back q (Some x) sound m = ap (λ z. Some z) (request_reads_back q x sound (spelled_so q x m))
request_back q None sound m = absurd (m.none q (spells_itself q sound))

-- errors: what spells one spells no other
error_apdu : (service : ℕ) (octets : List ℕ) (class code : ℕ) (first : Option ObjectPropertyReference) →
    SpellsError service octets class code first →
    Spells (80 ∷ (0 ∷ (service ∷ octets))) (error_pdu 0 service class code first)
error_apdu service octets class code first s = record {
  first = 80;
  rest = 0 ∷ (service ∷ octets);
  front = refl;
  kind = refl;
  flags = tt;
  fields = record { contents = octets; parts = refl; spelled = s };
}

one_error : (service : ℕ) (octets : List ℕ) (c k : ℕ) (o : Option ObjectPropertyReference) (d l : ℕ)
    (p : Option ObjectPropertyReference) → SpellsError service octets c k o → SpellsError service octets d l p →
    (c ≡ d) × (k ≡ l) × (o ≡ p)
one_error service octets c k o d l p s t =
    let same = one_apdu (80 ∷ (0 ∷ (service ∷ octets))) (error_pdu 0 service c k o) (error_pdu 0 service d l p)
    (error_apdu service octets c k o s) (error_apdu service octets d l p t) in
    (cc, cc, cc)

abbrev failed_as : ErrorClass → ErrorCode → Option ObjectPropertyReference → PlainAnswer
failed_as class code first = failed class code first

failed_is : (c d : ErrorClass) (e f : ErrorCode) (a b : Option ObjectPropertyReference) → c ≡ d → e ≡ f → a ≡ b →
    failed_as c e a ≡ failed_as d f b
failed_is c d e f a b p q r =
    ap (λ (x : ErrorClass). failed_as x e a) p ∙ ap (λ (y : ErrorCode). failed_as d y a) q
    ∙ ap (λ (z : Option ObjectPropertyReference). failed_as d f z) r

-- a reply in an Error names the write that failed just where the request is a WritePropertyMultiple
names_none : {A : Type 0} (q : Request A) (class : ErrorClass) (code : ErrorCode) → IsAnswerTo q (Error class code) →
    NamesWriteOf (service_asked q) None
names_none (Read object property index) class code h =
    λ e. let n = sym (service_asked_is (Read object property index)) ∙ e in absurd (omega arith)
names_none (ReadMany asked) class code h =
    λ e. let n = sym (service_asked_is (ReadMany asked)) ∙ e in absurd (omega arith)
names_none (Write object property index values priority) class code h =
    λ e. let n = sym (service_asked_is (Write object property index values priority)) ∙ e in absurd (omega arith)
names_none (WriteMany asked) class code h = absurd h

names_one : {A : Type 0} (q : Request A) (r : Reply A) (class : ErrorClass) (code : ErrorCode)
    (first : ObjectPropertyReference) → IsAnswerTo q (ErrorAt class code first.object first.property first.index) →
    NamesWriteOf (service_asked q) (Some first)
names_one (WriteMany asked) r class code first h = service_asked_is (WriteMany asked)
names_one q r class code first h = absurd h

index_fits : (index : Option ℕ) → IsSoundIndex index → IfSome index (λ n. n < 2 ^ 32)
index_fits None h = tt
index_fits (Some n) h = h

-- the answer with a sound reply has its contents
has_contents : {A : Type 0} (q : Request A) (r : Reply A) → IsSoundReply r → IsAnswerTo q r →
    HasContents (service_asked q) (answer_in (answer_apdu 0 q r)) (reply_contents q r)
has_contents q Done s h = tt
has_contents q (Error class code) s h = (
  error_spelled (service_asked q) (class_number class) (code_number code) None
      (names_none q class code h) tt s.0 s.2 tt,
  s.1,
  s.3,
)
has_contents q (ErrorAt class code object property index) s h =
    let first : ObjectPropertyReference = record { object = object; property = property; index = index } in
    let e = s.0 in (
      error_spelled (service_asked q) (class_number class) (code_number code) (Some first)
          (names_one q (ErrorAt class code object property index) class code first h) s.1 e.0 e.2
          (s.2, index_fits index s.3),
      e.1,
      e.3,
    )
has_contents q (Values vs) s h = refl
has_contents q (Many rs) s h = refl

-- the answer with a sound reply has no other contents
same_error : (service : ℕ) (octets : List ℕ) (class k : ErrorClass) (code d : ErrorCode)
    (o first : Option ObjectPropertyReference) → HasContents service (Failed octets) (failed class code o) →
    HasContents service (Failed octets) (failed k d first) → failed_as k d first ≡ failed_as class code o
same_error service octets class k code d o first h g =
    let e = one_error service octets (class_number k) (code_number d) first (class_number class)
    (code_number code) o g.0 h.0 in
    failed_is k class d code first o (one_class k class e.0 g.1 h.1) (one_code d code e.1 g.2 h.2) e.2

one_contents : {A : Type 0} (q : Request A) (r : Reply A) (c : PlainAnswer) → IsSoundReply r → IsAnswerTo q r →
    HasContents (service_asked q) (answer_in (answer_apdu 0 q r)) c → c ≡ reply_contents q r
one_contents q Done simple s h g = refl
one_contents q Done (complex octets) s h g = absurd g
one_contents q Done (failed k d first) s h g = absurd g
one_contents q (Error class code) simple s h g = absurd g
one_contents q (Error class code) (complex octets) s h g = absurd g
one_contents q (Error class code) (failed k d first) s h g =
    same_error (service_asked q) _ class k code d None first (has_contents q (Error class code) s h) g
one_contents q (ErrorAt class code object property index) simple s h g = absurd g
one_contents q (ErrorAt class code object property index) (complex octets) s h g = absurd g
one_contents q (ErrorAt class code object property index) (failed k d first) s h g =
    same_error (service_asked q) _ class k code d _ first
    (has_contents q (ErrorAt class code object property index) s h) g
one_contents q (Values vs) simple s h g = absurd g
one_contents q (Values vs) (complex octets) s h g = ap (λ (l : List ℕ). complex l) (sym g)
one_contents q (Values vs) (failed k d first) s h g = absurd g
one_contents q (Many rs) simple s h g = absurd g
one_contents q (Many rs) (complex octets) s h g = ap (λ (l : List ℕ). complex l) (sym g)
one_contents q (Many rs) (failed k d first) s h g = absurd g

-- replies
answer_back : {A : Type 0} (q : Request A) (r : Reply A) (o : Option (Reply A)) → IsSoundRequest q → IsSoundReply r →
    IsAnswerTo q r → MeansReply q (answer_in (answer_apdu 0 q r)) o → o ≡ Some r
answer_back {A} q r (Some x) sound s h m =
    let same = one_contents q r m.contents s h m.has in
    ap (λ z. Some z)
    (meaning_reads_back q r x sound s h (subst (λ (c : PlainAnswer). meaning.MeansReply q c x) same m.means))
answer_back q r None sound s h m =
    absurd (m.none r
    (record { contents = reply_contents q r; has = has_contents q r s h; means = reply_is_meant q r sound s h }))

reply_back : {A : Type 0} (t : PlainTable A) (q : Request A) (o : Option (Reply A)) → IsSoundTable t →
    IsSoundRequest q → MeansReply q (answer_in (answer_apdu 0 q (replied t q))) o → o ≡ Some (replied t q)
reply_back {A} t q o fine sound m =
    let is = sym (replied_is t q) in
    answer_back q (replied t q) o sound (subst (λ (r : Reply A). IsSoundReply r) is (reply_sound t q fine sound))
    (subst (λ (r : Reply A). IsAnswerTo q r) is (reply_answers t q)) m

-- what a sound request leaves
leaves_sound : {A : Type 0} (t : PlainTable A) (q : Request A) → IsSoundTable t → IsSoundRequest q →
    IsSoundTable (left_by t q)
leaves_sound {A} t q fine sound =
    subst (λ (u : PlainTable A). IsSoundTable u) (sym (left_by_is t q)) (after_sound t q fine sound)

-- all laws of the protocol
pub object_laws : (A : Type 0) → IsLawful (bacnet A)
object_laws A =
    record {
      test = stations_tell;
      leaves_sound = λ t q fine sound. leaves_sound t q fine sound;
      request_back = λ q o sound m. request_back q o sound m;
      reply_back = λ t q o fine sound m. reply_back t q o fine sound m;
    }
