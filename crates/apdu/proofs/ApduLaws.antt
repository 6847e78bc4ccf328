-- What octets spell is one APDU, and what is refused is none.
use Rattle.std.proofs.Common.{◌≡◌, ℕ, ◌/◌, ◌%◌, Bool, List, [], ◌∷◌, ◌++◌, ◌∙◌, Option, Some, None, refl, sym, ap, arith}
use Rattle.std.specs.Prelude.{Result, Ok, Err, IfOk}
use Rattle.tags.proofs.OneTag.{only_tag}
use Rattle.tags.specs.declared.fault.Fault.{Fault}
use Rattle.tags.specs.declared.tag.Class.TheVariants.{Application, Context}
use Rattle.tags.specs.Tag.{TakesTag, PlainTag}
use Rattle.apdu.specs.Apdu.{PlainApdu, confirmed, unconfirmed, simple_ack, complex_ack, segment_ack, error_pdu, reject_pdu, abort_pdu, apdu_of, type_of}
use Rattle.apdu.specs.Apdu.{IsSegmented, HasFlags, segment_octets, SpellsFields, SpellsBehind, Spells, OnlyApdu}
use Rattle.apdu.specs.Parameter.{opening_tag, closing_tag, carrying}
use Rattle.apdu.specs.PduType.{type_number}
use Rattle.apdu.specs.ServiceError.{TakesClassAndCode, OnlyClassAndCode, EndsReference, TakesReference, OnlyReference, SpellsError, OnlyError}
use Rattle.apdu.proofs.OneName.{one_count}
use Rattle.apdu.specs.declared.apdu.Apdu.{Apdu}
use Rattle.apdu.specs.declared.apdu.Segment.{Segment}
use Rattle.apdu.specs.declared.pdu_type.PduType.{PduType}
use Rattle.apdu.specs.declared.service_error.ObjectPropertyReference.{ObjectPropertyReference}
use Rattle.apdu_fields.proofs.Parameters.{alone_number, alone_object}
use Rattle.apdu_fields.proofs.ClassesAndCodes.{only_class_and_code}
use Rattle.apdu.proofs.ServiceErrors.{only_reference, only_failed_write, only_plain, only_write}

-- what stands in an Error's contents stands there alone

pub class_and_code_alone : (octets : List ℕ) (class code : ℕ) (rest : List ℕ) → TakesClassAndCode octets class code rest →
    OnlyClassAndCode octets class code rest
class_and_code_alone octets class code rest t =
    only_class_and_code octets class t.at_code code rest (alone_number Application 9 octets class t.at_code t.class_taken)
    (alone_number Application 9 t.at_code code rest t.code_taken)

no_closing_index : (octets inner rest : List ℕ) → TakesTag octets (closing_tag 1) [] → TakesTag octets (carrying Context 2 inner) rest → ⊥
no_closing_index octets inner rest s t =
    let one = only_tag octets (closing_tag 1) [] s in
    let e = ap (λ (t : PlainTag). t.content) ((one.only (carrying Context 2 inner) rest t).0) in
    absurd cc

one_end : (octets : List ℕ) (o p : Option ℕ) → EndsReference octets o → EndsReference octets p → o ≡ p
one_end octets None None s t = refl
one_end octets None (Some n) s t = absurd (no_closing_index octets t.index_taken.inner t.at_closing s t.index_taken.tag)
one_end octets (Some m) None s t = absurd (no_closing_index octets s.index_taken.inner s.at_closing t s.index_taken.tag)
one_end octets (Some m) (Some n) s t =
    let one = alone_number Context 2 octets m s.at_closing s.index_taken in
    ap (λ (x : ℕ). Some x) ((one.only n t.at_closing t.index_taken).0)

referred_to : (r : ObjectPropertyReference) → record { object = r.object; property = r.property; index = r.index } ≡ r
referred_to r = refl

reference_alone : (octets : List ℕ) (r : ObjectPropertyReference) → TakesReference octets r → OnlyReference octets r
reference_alone octets r t = rw (sym (referred_to r))
    (only_reference octets r.object t.at_property r.property t.at_index r.index (alone_object Context 0 octets r.object t.at_property t.object)
    (alone_number Context 1 t.at_property r.property t.at_index t.property) (record { only = λ o s. one_end t.at_index r.index o t.index s }))

error_alone : (service : ℕ) (octets : List ℕ) (class code : ℕ) (o : Option ObjectPropertyReference) → SpellsError service octets class code o →
    OnlyError service octets class code o
error_alone service octets class code None s = only_plain service octets class code [] s.0 (class_and_code_alone octets class code [] s.1) refl
error_alone service octets class code (Some r) s =
    let t = s.1 in
    only_write service octets class code (Some r) s.0 (only_failed_write octets t.at_error class code t.at_closing t.at_first t.at_reference r
    (only_tag octets (opening_tag 0) t.at_error t.opening)
    (class_and_code_alone t.at_error class code t.at_closing t.error)
    (only_tag t.at_closing (closing_tag 0) t.at_first t.closing)
    (only_tag t.at_first (opening_tag 1) t.at_reference t.first)
    (reference_alone t.at_reference r t.reference))

-- octets spell one APDU

made : Bool → ℕ → ℕ → Option Segment
made more sequence window = Some (record { more_follows = more; sequence_number = sequence; window = window })

made_again : (s : Segment) → made s.more_follows s.sequence_number s.window ≡ Some s
unfolding made
made_again s = refl

pub one_segment : (first : ℕ) (o p : Option Segment) (x y : List ℕ) → IsSegmented first o → IsSegmented first p →
    segment_octets o ++ x ≡ segment_octets p ++ y → (o ≡ p) × (x ≡ y)
one_segment first None None x y s t e = (refl, e)
one_segment first None (Some q) x y s t e = absurd (cc (s.is, t.is))
one_segment first (Some p) None x y s t e = absurd (cc (s.is, t.is))
one_segment first (Some p) (Some q) x y s t e =
    let more : p.more_follows ≡ q.more_follows = s.more ∙ sym t.more in
    let sequence : p.sequence_number ≡ q.sequence_number = cc in
    let window : p.window ≡ q.window = cc in
    (cc (made_again p, made_again q, more, sequence, window), cc)

one_behind : (first : ℕ) (rest : List ℕ) (a b : PlainApdu) → type_number (type_of a) ≡ type_number (type_of b) → HasFlags first a → HasFlags first b →
    SpellsFields rest a → SpellsFields rest b → a ≡ b
one_behind first rest (confirmed g accepted m n i v x) (confirmed h taken k l j w y) e f q s t =
    let both = sym s.parts ∙ t.parts in
    let sizes : s.sizes ≡ t.sizes = cc in
    let invoke : i ≡ j = cc in
    let behind : segment_octets g ++ (v ∷ x) ≡ segment_octets h ++ (w ∷ y) = cc in
    let p = one_segment first g h (v ∷ x) (w ∷ y) f.0 q.0 behind in
    let segments = one_count m k (s.segments ∙ ap (λ (z : ℕ). z / 16 % 8) sizes ∙ sym t.segments) in
    let apdu : n ≡ l = s.apdu ∙ ap (λ (z : ℕ). z % 16) sizes ∙ sym t.apdu in
    let sa : accepted ≡ taken = f.1 ∙ sym q.1 in
    cc (p.0, p.1)
one_behind first rest (unconfirmed v x) (unconfirmed w y) e f q s t = cc
one_behind first rest (simple_ack i v) (simple_ack j w) e f q s t = cc
one_behind first rest (complex_ack g i v x) (complex_ack h j w y) e f q s t =
    let both = sym s ∙ t in
    let behind : segment_octets g ++ (v ∷ x) ≡ segment_octets h ++ (w ∷ y) = cc in
    let p = one_segment first g h (v ∷ x) (w ∷ y) f q behind in
    let invoke : i ≡ j = cc in
    cc (p.0, p.1)
one_behind first rest (segment_ack negative server i n w) (segment_ack nak srv j m v) e f q s t =
    let negative-is : negative ≡ nak = f.0 ∙ sym q.0 in
    let server-is : server ≡ srv = f.1 ∙ sym q.1 in
    cc
one_behind first rest (error_pdu i v c d o) (error_pdu j w k l p) e f q s t =
    let both = sym s.parts ∙ t.parts in
    let invoke : i ≡ j = cc in
    let service : v ≡ w = cc in
    let contents : s.contents ≡ t.contents = cc in
    let one = error_alone v s.contents c d o s.spelled in
    let r = one.only k l p (rw (service, contents) t.spelled) in
    cc (r.0, r.1, r.2)
one_behind first rest (reject_pdu i r) (reject_pdu j m) e f q s t = cc
one_behind first rest (abort_pdu server i r) (abort_pdu srv j m) e f q s t =
    let server-is : server ≡ srv = f ∙ sym q in
    cc
one_behind first rest a b e f q s t = absurd (omega arith)

pub one_apdu : (octets : List ℕ) (a b : PlainApdu) → Spells octets a → Spells octets b → a ≡ b
one_apdu octets a b s t =
    let both = sym s.front ∙ t.front in
    let first : s.first ≡ t.first = cc in
    let rest : s.rest ≡ t.rest = cc in
    one_behind s.first s.rest a b (sym s.kind ∙ ap (λ (n : ℕ). n / 16) first ∙ t.kind) s.flags (rw first t.flags) s.fields (rw rest t.fields)

pub only_apdu : (octets : List ℕ) (r : Result Apdu Fault) → IfOk r (λ a. Spells octets (apdu_of a)) → IfOk r (λ a. OnlyApdu octets (apdu_of a))
only_apdu octets (Ok a) s = record { only = λ b t. one_apdu octets (apdu_of a) b s t }
only_apdu octets (Err e) s = tt

pub spelled_behind : (k : PduType) (first : ℕ) (rest octets : List ℕ) (r : Result Apdu Fault) → octets ≡ first ∷ rest → type_number k ≡ first / 16 →
    IfOk r (λ a. SpellsBehind k first rest (apdu_of a)) → IfOk r (λ a. Spells octets (apdu_of a))
spelled_behind k first rest octets (Ok a) front is s =
    record { first = first; rest = rest; front = front; kind = sym is ∙ ap type_number (sym s.kind); flags = s.flags; fields = s.fields }
spelled_behind k first rest octets (Err e) front is s = tt
