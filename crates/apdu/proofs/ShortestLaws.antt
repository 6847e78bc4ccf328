-- No octets that spell an APDU, a Who-Is or an I-Am are fewer than those that are written.
use Rattle.std.proofs.Common.{◌≡◌, ℕ, ◌+◌, ◌≤◌, List, [], ◌∷◌, ◌++◌, ◌∙◌, length, Option, Some, None, refl, ap, append_assoc, arith, inl, inr}
use Rattle.std.proofs.lemmas.Bool.{cases_lt}
use Rattle.std.proofs.lemmas.List.{length-append, get_or_append_left, get_or_past}
use Rattle.tags.proofs.OctetLists.{AreOctets-after}
use Rattle.tags.proofs.ShortestLaws.{few_octets, fewest_unsigned, tag_shortest}
use Rattle.tags.specs.declared.object_id.ObjectId.{ObjectId}
use Rattle.tags.specs.declared.tag.Class.{Class}
use Rattle.tags.specs.declared.tag.Class.TheVariants.{Application, Context}
use Rattle.tags.specs.Canonical.{tagged, canonical_tag}
use Rattle.tags.specs.Number.{AreOctets, SpellsUnsigned, unsigned_octets, object_octets}
use Rattle.tags.specs.Tag.{PlainContent, TakesTag, contents, opening, closing, length_octets, length_bits, initial_octets}
use Rattle.apdu.specs.ParameterWriting.{option_field}
use Rattle.apdu.specs.Parameter.{carrying, IsObject, Takes}
use Rattle.apdu.specs.Apdu.{PlainApdu, confirmed, unconfirmed, simple_ack, complex_ack, segment_ack, error_pdu, reject_pdu, abort_pdu, SpellsFields}
use Rattle.apdu.specs.ApduLaws.{CanonicalIsShortest, WhoIsIsShortest, IAmIsShortest}
use Rattle.apdu.specs.ApduWriting.{class_and_code_octets, reference_octets, error_octets, field_octets}
use Rattle.apdu.specs.ServiceError.{TakesClassAndCode, EndsReference, TakesReference, SpellsError}
use Rattle.apdu.specs.Unconfirmed.{device, segmentation_number}
use Rattle.apdu.specs.declared.service_error.ObjectPropertyReference.{ObjectPropertyReference}
use Rattle.apdu.proofs.UnconfirmedLaws.{as_number}

fewer_contents : (class : Class) (number : ℕ) (xs ys : List ℕ) → length xs ≤ length ys → length ys ≤ 4 →
    length (tagged class number xs) ≤ length (tagged class number ys)
fewer_contents class number xs ys le few = omega (arith, few_octets class number xs (omega arith), few_octets class number ys few)

-- the front of octets is octets
pub front_fits : (front rest : List ℕ) → AreOctets (front ++ rest) → AreOctets front
front_fits front rest fits i =
    elim (cases_lt i (length front)) [
      | inl lt ↦ rw (← get_or_append_left front rest 0 i lt) (fits i)
      | inr le ↦ rw (get_or_past {X = ℕ} front i 0 le) (omega arith)
    ]

-- .. and so are the contents of a tag at the front
inner_fits : (octets : List ℕ) (class : Class) (number : ℕ) (inner rest : List ℕ) → TakesTag octets (carrying class number inner) rest → AreOctets octets →
    AreOctets inner
inner_fits octets class number inner rest t fits =
    let s = t.1 in
    let initial = initial_octets class number (length_bits s.form (length inner)) in
    let len = length_octets s.form (length inner) in
    let e : octets ≡ (initial ++ (len ++ inner)) ++ rest = t.2 ∙ ap (λ (x : List ℕ). x ++ rest) s.parts in
    let whole : octets ≡ (initial ++ len) ++ (inner ++ rest) = e ∙ simp append_assoc in
    let behind = AreOctets-after octets (initial ++ len) (inner ++ rest) whole fits in
    λ i. front_fits inner rest behind i

-- these few octets are no more than those before the rest, which is octets too
pub record Least (few octets rest : List ℕ) : Type 0 where
  pub le : length few + length rest ≤ length octets
  pub fits : AreOctets rest

pub number_least : (class : Class) (number : ℕ) (octets : List ℕ) (n : ℕ) (rest : List ℕ) → Takes SpellsUnsigned class number octets n rest →
    AreOctets octets → Least (tagged class number (unsigned_octets n)) octets rest
number_least class number octets n rest t fits =
    let tag = t.tag in
    let inner = inner_fits octets class number t.inner rest tag fits in
    let one = tag_shortest (tag.0) class number (contents t.inner) (tag.1) in
    let two = fewer_contents class number (unsigned_octets n) t.inner (fewest_unsigned t.inner n inner t.said) t.said.few in
    let whole = ap length (tag.2) ∙ length-append (tag.0) rest in
    record { le = omega (arith, one, two, whole); fits = AreOctets-after octets (tag.0) rest (tag.2) fits }

pub object_least : (class : Class) (number : ℕ) (octets : List ℕ) (o : ObjectId) (rest : List ℕ) → Takes IsObject class number octets o rest →
    AreOctets octets → Least (tagged class number (object_octets o.object_type o.instance)) octets rest
object_least class number octets o rest t fits =
    let tag = t.tag in
    let one = tag_shortest (tag.0) class number (contents t.inner) (tag.1) in
    let four : length (object_octets o.object_type o.instance) ≡ 4 = refl in
    let two = fewer_contents class number (object_octets o.object_type o.instance) t.inner (omega (arith, four, t.said.four)) (omega (arith, t.said.four)) in
    let whole = ap length (tag.2) ∙ length-append (tag.0) rest in
    record { le = omega (arith, one, two, whole); fits = AreOctets-after octets (tag.0) rest (tag.2) fits }

pub bracket_least : (octets : List ℕ) (number : ℕ) (content : PlainContent) (rest : List ℕ) →
    TakesTag octets (record { class = Context; number = number; content = content }) rest → AreOctets octets →
    Least (canonical_tag Context number content) octets rest
bracket_least octets number content rest tag fits =
    let one = tag_shortest (tag.0) Context number content (tag.1) in
    let whole = ap length (tag.2) ∙ length-append (tag.0) rest in
    record { le = omega (arith, one, whole); fits = AreOctets-after octets (tag.0) rest (tag.2) fits }

-- the contents of an Error

pub class_and_code_least : (octets : List ℕ) (class code : ℕ) (rest : List ℕ) → TakesClassAndCode octets class code rest → AreOctets octets →
    Least (class_and_code_octets class code) octets rest
class_and_code_least octets class code rest t fits =
    let a = number_least Application 9 octets class t.at_code t.class_taken fits in
    let b = number_least Application 9 t.at_code code rest t.code_taken a.fits in
    record {
      le = omega (arith, a.le, b.le, length-append (tagged Application 9 (unsigned_octets class)) (tagged Application 9 (unsigned_octets code)));
      fits = b.fits;
    }

index_least : (octets : List ℕ) (o : Option ℕ) → EndsReference octets o → AreOctets octets →
    length (option_field 2 o) + length (canonical_tag Context 1 closing) ≤ length octets
index_least octets None s fits = (bracket_least octets 1 closing [] s fits).le
index_least octets (Some n) s fits =
    let a = number_least Context 2 octets n s.at_closing s.index_taken fits in
    let b = bracket_least s.at_closing 1 closing [] s.closing a.fits in
    omega (arith, a.le, b.le)

reference_least : (octets : List ℕ) (r : ObjectPropertyReference) → TakesReference octets r → AreOctets octets →
    length (reference_octets r) + length (canonical_tag Context 1 closing) ≤ length octets
reference_least octets r t fits =
    let a = object_least Context 0 octets r.object t.at_property t.object fits in
    let b = number_least Context 1 t.at_property r.property t.at_index t.property a.fits in
    let c = index_least t.at_index r.index t.index b.fits in
    let behind = tagged Context 1 (unsigned_octets r.property) ++ option_field 2 r.index in
    omega (
      arith,
      a.le,
      b.le,
      c,
      length-append (tagged Context 0 (object_octets r.object.object_type r.object.instance)) behind,
      length-append (tagged Context 1 (unsigned_octets r.property)) (option_field 2 r.index),
    )

error_least : (service : ℕ) (octets : List ℕ) (class code : ℕ) (o : Option ObjectPropertyReference) → SpellsError service octets class code o →
    AreOctets octets → length (error_octets class code o) ≤ length octets
error_least service octets class code None s fits = omega (arith, (class_and_code_least octets class code [] s.1 fits).le)
error_least service octets class code (Some r) s fits =
    let t = s.1 in
    let a = bracket_least octets 0 opening t.at_error t.opening fits in
    let b = class_and_code_least t.at_error class code t.at_closing t.error a.fits in
    let c = bracket_least t.at_closing 0 closing t.at_first t.closing b.fits in
    let d = bracket_least t.at_first 1 opening t.at_reference t.first c.fits in
    let e = reference_least t.at_reference r t.reference d.fits in
    let end = canonical_tag Context 1 closing in
    let first = canonical_tag Context 1 opening ++ (reference_octets r ++ end) in
    let behind = canonical_tag Context 0 closing ++ first in
    omega (arith, a.le, b.le, c.le, d.le, e, length-append (class_and_code_octets class code) behind, length-append (reference_octets r) end)

-- an APDU

fields_least : (octets : List ℕ) (a : PlainApdu) → SpellsFields octets a → AreOctets octets → length (field_octets a) ≤ length octets
fields_least octets (confirmed g accepted m n i v x) s fits = omega (arith, ap length s.parts)
fields_least octets (unconfirmed v x) s fits = omega (arith, ap length s)
fields_least octets (simple_ack i v) s fits = omega (arith, ap length s)
fields_least octets (complex_ack g i v x) s fits = omega (arith, ap length s)
fields_least octets (segment_ack negative server i n w) s fits = omega (arith, ap length s)
fields_least octets (error_pdu i v c d o) s fits =
    let least = error_least v s.contents c d o s.spelled (AreOctets-after octets (i ∷ (v ∷ [])) s.contents s.parts fits) in
    omega (arith, least, ap length s.parts)
fields_least octets (reject_pdu i r) s fits = omega (arith, ap length s)
fields_least octets (abort_pdu server i r) s fits = omega (arith, ap length s)

pub canonical_shortest : CanonicalIsShortest
canonical_shortest octets a fits s =
    let least = fields_least s.rest a s.fields (AreOctets-after octets (s.first ∷ []) s.rest s.front fits) in
    omega (arith, least, ap length s.front)

-- Who-Is and I-Am

pub who_is_shortest : WhoIsIsShortest
who_is_shortest octets None fits s = omega arith
who_is_shortest octets (Some l) fits s =
    let a = number_least Context 0 octets l.low s.at_high s.low_taken fits in
    let b = number_least Context 1 s.at_high l.high [] s.high_taken a.fits in
    omega (arith, a.le, b.le, length-append (tagged Context 0 (unsigned_octets l.low)) (tagged Context 1 (unsigned_octets l.high)))

pub i_am_shortest : IAmIsShortest
i_am_shortest octets i fits s =
    let last = tagged Application 2 (unsigned_octets i.vendor) in
    let third = tagged Application 9 (unsigned_octets (segmentation_number i.segmentation)) in
    let second = tagged Application 2 (unsigned_octets i.max_apdu) in
    let first = tagged Application 12 (object_octets 8 i.instance) in
    let a = object_least Application 12 octets (device i.instance) s.at_size s.device_taken fits in
    let b = number_least Application 2 s.at_size i.max_apdu s.at_segmentation s.size_taken a.fits in
    let c = number_least Application 9 s.at_segmentation (segmentation_number i.segmentation) s.at_vendor
    (as_number s.at_segmentation i.segmentation s.at_vendor s.segmentation_taken) b.fits in
    let d = number_least Application 2 s.at_vendor i.vendor [] s.vendor_taken c.fits in
    omega (arith, a.le, b.le, c.le, d.le, length-append first (second ++ (third ++ last)), length-append second (third ++ last), length-append third last)
