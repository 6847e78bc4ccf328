-- The octets that are written spell what was to be written.
use Rattle.std.proofs.Common.{◌≡◌, ℕ, ◌+◌, ◌*◌, ◌/◌, ◌%◌, ◌^◌, ◌<◌, ◌==◌, Bool, true, false, List, [], ◌++◌, ◌∙◌, Option, Some, None, refl, ap, subst}
use Rattle.std.proofs.Common.{append_assoc, arith}
use Rattle.std.specs.Prelude.{IfSome}
use Rattle.std.proofs.lemmas.List.{append-nil}
use Rattle.tags.proofs.CanonicalLaws.{canonical_tag_spells, number_again, unsigned_spells}
use Rattle.tags.specs.declared.object_id.ObjectId.{ObjectId}
use Rattle.tags.specs.declared.tag.Class.{Class}
use Rattle.tags.specs.declared.tag.Class.TheVariants.{Application, Context}
use Rattle.tags.specs.Canonical.{tagged, canonical_tag}
use Rattle.tags.specs.Number.{bit, unsigned_octets, object_octets, SpellsUnsigned, IsSoundObject}
use Rattle.tags.specs.Tag.{HasContents, TakesTag, contents, opening, closing}
use Rattle.apdu.specs.ParameterWriting.{option_field}
use Rattle.apdu.specs.Parameter.{opening_tag, closing_tag, IsObject, Takes}
use Rattle.apdu.specs.ServiceError.{TakesClassAndCode, EndsReference, TakesReference, SpellsError}
use Rattle.apdu.specs.Sizes.{segments_code}
use Rattle.apdu.specs.PduType.{type_number}
use Rattle.apdu.specs.Apdu.{PlainApdu, confirmed, unconfirmed, simple_ack, complex_ack, segment_ack, error_pdu, reject_pdu, abort_pdu, type_of, HasFlags}
use Rattle.apdu.specs.Apdu.{SpellsFields}
use Rattle.apdu.specs.ApduWriting.{flag_bits, class_and_code_octets, reference_octets, error_octets, field_octets, NamesWriteOf, CanBeNamed, CanBeWritten}
use Rattle.apdu.specs.ApduWriting.{FitsReference, HasNumbers}
use Rattle.apdu.specs.ApduLaws.{CanonicalSpells}
use Rattle.apdu.specs.declared.service_error.ObjectPropertyReference.{ObjectPropertyReference}
use Rattle.apdu.specs.declared.sizes.MaxSegments.{MaxSegments}
use Rattle.apdu.specs.declared.sizes.MaxSegments.TheVariants.{Unspecified, Two, Four, Eight, Sixteen, ThirtyTwo, SixtyFour, More}

-- numbers and objects as contents

pub takes_number : (class : Class) (number n : ℕ) (rest : List ℕ) → HasContents class number → number < 255 → n < 2 ^ 32 →
    Takes SpellsUnsigned class number (tagged class number (unsigned_octets n) ++ rest) n rest
takes_number class number n rest may below lt =
    let s = unsigned_spells n lt in
    record {
      inner = unsigned_octets n;
      tag =
          (tagged class number (unsigned_octets n), canonical_tag_spells class number (contents (unsigned_octets n)) (may, below, omega (arith, s.few)), refl);
      said = s;
    }

pub takes_object : (class : Class) (number : ℕ) (o : ObjectId) (rest : List ℕ) → HasContents class number → number < 255 →
    IsSoundObject o.object_type o.instance → Takes IsObject class number (tagged class number (object_octets o.object_type o.instance) ++ rest) o rest
takes_object class number o rest may below sound =
    let n = o.object_type * 2 ^ 22 + o.instance in
    let inner = object_octets o.object_type o.instance in
    record {
      inner = inner;
      tag = (tagged class number inner, canonical_tag_spells class number (contents inner) (may, below, omega arith), refl);
      said = record { four = refl; sound = sound; value = number_again 4 n (omega (arith, sound.0, sound.1)) };
    }

-- the contents of an Error

takes_opening : (number : ℕ) (rest : List ℕ) → number < 255 → TakesTag (canonical_tag Context number opening ++ rest) (opening_tag number) rest
takes_opening number rest below = (canonical_tag Context number opening, canonical_tag_spells Context number opening (refl, below), refl)

takes_closing : (number : ℕ) (rest : List ℕ) → number < 255 → TakesTag (canonical_tag Context number closing ++ rest) (closing_tag number) rest
takes_closing number rest below = (canonical_tag Context number closing, canonical_tag_spells Context number closing (refl, below), refl)

pub class_and_code : (class code : ℕ) (rest : List ℕ) → class < 2 ^ 32 → code < 2 ^ 32 →
    TakesClassAndCode (class_and_code_octets class code ++ rest) class code rest
class_and_code class code rest small little =
    let first = tagged Application 9 (unsigned_octets class) in
    let second = tagged Application 9 (unsigned_octets code) in
    record {
      at_code = second ++ rest;
      class_taken = rw (append_assoc first second rest) (takes_number Application 9 class (second ++ rest) (omega arith) (omega arith) small);
      code_taken = takes_number Application 9 code rest (omega arith) (omega arith) little;
    }

closed : TakesTag (canonical_tag Context 1 closing) (closing_tag 1) []
closed = takes_closing 1 [] (omega arith)

index_ends : (index : Option ℕ) → IfSome index (λ n. n < 2 ^ 32) → EndsReference (option_field 2 index ++ canonical_tag Context 1 closing) index
index_ends None fits = closed
index_ends (Some n) fits = record {
  at_closing = canonical_tag Context 1 closing;
  index_taken =
      takes_number Context 2 n (canonical_tag Context 1 closing) tt (omega arith) fits;
  closing = closed;
}

reference_taken : (r : ObjectPropertyReference) → CanBeNamed (Some r) → FitsReference (Some r) →
    TakesReference (reference_octets r ++ canonical_tag Context 1 closing) r
reference_taken r sound fits =
    let object = tagged Context 0 (object_octets r.object.object_type r.object.instance) in
    let property = tagged Context 1 (unsigned_octets r.property) in
    let end = canonical_tag Context 1 closing in
    let whole : (object ++ (property ++ option_field 2 r.index)) ++ end ≡ object ++ (property ++ (option_field 2 r.index ++ end)) =
    append_assoc object (property ++ option_field 2 r.index) end ∙ ap (λ (x : List ℕ). object ++ x) (append_assoc property (option_field 2 r.index) end) in
    record {
      at_property = property ++ (option_field 2 r.index ++ end);
      at_index = option_field 2 r.index ++ end;
      object = rw whole (takes_object Context 0 r.object (property ++ (option_field 2 r.index ++ end)) tt (omega arith) sound);
      property = takes_number Context 1 r.property (option_field 2 r.index ++ end) tt (omega arith) (fits.0);
      index = index_ends r.index (fits.1);
    }

pub error_spelled : (service class code : ℕ) (o : Option ObjectPropertyReference) → NamesWriteOf service o → CanBeNamed o → class < 2 ^ 32 → code < 2 ^ 32 →
    FitsReference o → SpellsError service (error_octets class code o) class code o
error_spelled service class code None names sound small little fits = (
  names,
  subst (λ (x : List ℕ). TakesClassAndCode x class code []) (append-nil (class_and_code_octets class code))
      (class_and_code class code [] small little),
)
error_spelled service class code (Some r) names sound small little fits =
    let end = canonical_tag Context 1 closing in
    let at_reference = reference_octets r ++ end in
    let at_first = canonical_tag Context 1 opening ++ at_reference in
    let at_closing = canonical_tag Context 0 closing ++ at_first in (
      names,
      record {
        at_error = class_and_code_octets class code ++ at_closing;
        at_closing = at_closing;
        at_first = at_first;
        at_reference = at_reference;
        opening = takes_opening 0 (class_and_code_octets class code ++ at_closing) (omega arith);
        error = class_and_code class code at_closing small little;
        closing = takes_closing 0 at_first (omega arith);
        first = takes_opening 1 at_reference (omega arith);
        reference = reference_taken r sound fits;
      },
    )

-- the first octet

request_flags : (accepted : Bool) → (((16 * 0 + (0 + 2 * bit accepted)) / 8 % 2 == 1) ≡ false) × (accepted ≡ ((16 * 0 + (0 + 2 * bit accepted)) / 2 % 2 == 1))
request_flags false = (refl, refl)
request_flags true = (refl, refl)

request_segment_flags : (more accepted : Bool) → (((16 * 0 + ((8 + 4 * bit more) + 2 * bit accepted)) / 8 % 2 == 1) ≡ true) ×
    (more ≡ ((16 * 0 + ((8 + 4 * bit more) + 2 * bit accepted)) / 4 % 2 == 1)) × (accepted ≡ ((16 * 0 + ((8 + 4 * bit more) + 2 * bit accepted)) / 2 % 2 == 1))
request_segment_flags false false = (refl, refl, refl)
request_segment_flags false true = (refl, refl, refl)
request_segment_flags true false = (refl, refl, refl)
request_segment_flags true true = (refl, refl, refl)

ack_segment_flags : (more : Bool) → (((16 * 3 + (8 + 4 * bit more)) / 8 % 2 == 1) ≡ true) × (more ≡ ((16 * 3 + (8 + 4 * bit more)) / 4 % 2 == 1))
ack_segment_flags false = (refl, refl)
ack_segment_flags true = (refl, refl)

segment_ack_flags : (negative server : Bool) → (negative ≡ ((16 * 4 + (2 * bit negative + bit server)) / 2 % 2 == 1)) ×
    (server ≡ ((16 * 4 + (2 * bit negative + bit server)) % 2 == 1))
segment_ack_flags false false = (refl, refl)
segment_ack_flags false true = (refl, refl)
segment_ack_flags true false = (refl, refl)
segment_ack_flags true true = (refl, refl)

abort_flags : (server : Bool) → server ≡ ((16 * 7 + bit server) % 2 == 1)
abort_flags false = refl
abort_flags true = refl

flags_said : (a : PlainApdu) → HasFlags (16 * type_number (type_of a) + flag_bits a) a
flags_said (confirmed None accepted m n i v x) = let p = request_flags accepted in (record { is = p.0; more = tt }, p.1)
flags_said (confirmed (Some s) accepted m n i v x) = let p = request_segment_flags s.more_follows accepted in (record { is = p.0; more = p.1 }, p.2)
flags_said (complex_ack None i v x) = record { is = refl; more = tt }
flags_said (complex_ack (Some s) i v x) = let p = ack_segment_flags s.more_follows in record { is = p.0; more = p.1 }
flags_said (segment_ack negative server i n w) = segment_ack_flags negative server
flags_said (abort_pdu server i r) = abort_flags server
flags_said (unconfirmed v x) = tt
flags_said (simple_ack i v) = tt
flags_said (error_pdu i v c d o) = tt
flags_said (reject_pdu i r) = tt

bit-lt : (b : Bool) → bit b < 2
bit-lt false = omega arith
bit-lt true = omega arith

flags-lt : (a : PlainApdu) → flag_bits a < 16
flags-lt (confirmed None accepted m n i v x) = omega (arith, bit-lt accepted)
flags-lt (confirmed (Some s) accepted m n i v x) = omega (arith, bit-lt accepted, bit-lt s.more_follows)
flags-lt (complex_ack None i v x) = omega arith
flags-lt (complex_ack (Some s) i v x) = omega (arith, bit-lt s.more_follows)
flags-lt (segment_ack negative server i n w) = omega (arith, bit-lt negative, bit-lt server)
flags-lt (abort_pdu server i r) = omega (arith, bit-lt server)
flags-lt (unconfirmed v x) = omega arith
flags-lt (simple_ack i v) = omega arith
flags-lt (error_pdu i v c d o) = omega arith
flags-lt (reject_pdu i r) = omega arith

segments_code-lt : (m : MaxSegments) → segments_code m < 8
segments_code-lt Unspecified = omega arith
segments_code-lt Two = omega arith
segments_code-lt Four = omega arith
segments_code-lt Eight = omega arith
segments_code-lt Sixteen = omega arith
segments_code-lt ThirtyTwo = omega arith
segments_code-lt SixtyFour = omega arith
segments_code-lt More = omega arith

-- what stands behind it

fields_spelled : (a : PlainApdu) → CanBeWritten a → HasNumbers a → SpellsFields (field_octets a) a
fields_spelled (confirmed g accepted m n i v x) fits numbers =
    record { sizes = 16 * segments_code m + n; segments = omega (arith, segments_code-lt m); apdu = omega (arith, segments_code-lt m); parts = refl }
fields_spelled (unconfirmed v x) fits numbers = refl
fields_spelled (simple_ack i v) fits numbers = refl
fields_spelled (complex_ack g i v x) fits numbers = refl
fields_spelled (segment_ack negative server i n w) fits numbers = refl
fields_spelled (error_pdu i v c d o) fits numbers =
    record { contents = error_octets c d o; parts = refl; spelled = error_spelled v c d o (fits.0) (fits.1) (numbers.0) (numbers.1) (numbers.2) }
fields_spelled (reject_pdu i r) fits numbers = refl
fields_spelled (abort_pdu server i r) fits numbers = refl

pub canonical_spells : CanonicalSpells
canonical_spells a fits numbers = record {
  first = 16 * type_number (type_of a) + flag_bits a;
  rest = field_octets a;
  front = refl;
  kind = omega (arith, flags-lt a);
  flags = flags_said a;
  fields = fields_spelled a fits numbers;
}
