-- The contents of an Error say one error, and what is missing or wrong on the way spells none.
use Rattle.std.proofs.Common.{◌≡◌, ◌≢◌, ℕ, List, [], Option, Some, None, refl, ap, sym}
use Rattle.tags.specs.declared.object_id.ObjectId.{ObjectId}
use Rattle.tags.specs.declared.tag.Class.TheVariants.{Context}
use Rattle.tags.specs.Number.{SpellsUnsigned}
use Rattle.tags.specs.Tag.{OnlyTag, PlainTag}
use Rattle.apdu.specs.Parameter.{opening_tag, closing_tag, IsObject, Only, Lacks, NoBracket, CarriesOther, carrying}
use Rattle.apdu.specs.declared.service_error.ObjectPropertyReference.{ObjectPropertyReference}
use Rattle.apdu.specs.ServiceError.{EndsReference, SpellsWriteError, SpellsFailedWrite, SpellsError, OnlyClassAndCode, NoClassAndCode, OnlyEnd, NoEnd}
use Rattle.apdu.specs.ServiceError.{OnlyReference, NoReference, OnlyFailedWrite, NoFailedWrite, OnlyError, NoError}

-- object, property and index

pub no_object : (octets : List ℕ) → Lacks IsObject Context 0 octets → NoReference octets
no_object octets lacks = record { none = λ r t. lacks.none _ _ t.object }

pub no_property : (octets : List ℕ) (o : ObjectId) (at_property : List ℕ) → Only IsObject Context 0 octets o at_property →
    Lacks SpellsUnsigned Context 1 at_property → NoReference octets
no_property octets o at_property one lacks = record {
  none = λ r t.
      let p = one.only _ _ t.object in
      lacks.none r.property t.at_index (rw (p.1) t.property);
}

pub no_index : (octets : List ℕ) (o : ObjectId) (at_property : List ℕ) (n : ℕ) (at_index : List ℕ) → Only IsObject Context 0 octets o at_property →
    Only SpellsUnsigned Context 1 at_property n at_index → NoEnd at_index → NoReference octets
no_index octets o at_property n at_index one two lacks = record {
  none = λ r t.
      let p = one.only _ _ t.object in
      let q = two.only r.property t.at_index (rw (p.1) t.property) in
      lacks.none r.index (rw (q.1) t.index);
}

abbrev referred : ObjectId → ℕ → Option ℕ → ObjectPropertyReference
referred object property index = record { object = object; property = property; index = index }

referred_again : (r : ObjectPropertyReference) → referred r.object r.property r.index ≡ r
referred_again r = refl

pub only_reference : (octets : List ℕ) (o : ObjectId) (at_property : List ℕ) (n : ℕ) (at_index : List ℕ) (index : Option ℕ) →
    Only IsObject Context 0 octets o at_property → Only SpellsUnsigned Context 1 at_property n at_index → OnlyEnd at_index index →
    OnlyReference octets (record { object = o; property = n; index = index })
only_reference octets o at_property n at_index index one two three = record {
  only = λ s t.
      let p = one.only _ _ t.object in
      let q = two.only s.property t.at_index (rw (p.1) t.property) in
      let i = three.only s.index (rw (q.1) t.index) in
      let first : o ≡ s.object = p.0 in
      let second : n ≡ s.property = q.0 in
      rw (first, second, i) (referred_again s);
}

pub ruleset reference_rules = (no_object, no_property, no_index, only_reference)

-- the index, or the closing tag

other_ends : (octets : List ℕ) (t : PlainTag) (rest : List ℕ) → OnlyTag octets t rest → t ≢ closing_tag 1 → CarriesOther Context 2 t → (o : Option ℕ) →
    EndsReference octets o → ⊥
other_ends octets t rest one unlike other None s = unlike ((one.only _ _ s).0)
other_ends octets t rest one unlike other (Some n) s =
    other.other s.index_taken.inner ((one.only (carrying Context 2 s.index_taken.inner) s.at_closing s.index_taken.tag).0)

pub no_index_of_other : (octets : List ℕ) (t : PlainTag) (rest : List ℕ) → OnlyTag octets t rest → t ≢ closing_tag 1 → CarriesOther Context 2 t → NoEnd octets
no_index_of_other octets t rest one unlike other = record { none = λ o s. other_ends octets t rest one unlike other o s }

is_no_closing : (inner : List ℕ) → carrying Context 2 inner ≡ closing_tag 1 → ⊥
is_no_closing inner e =
    let f = ap (λ (t : PlainTag). t.content) e in
    absurd cc

unclosed_ends : (octets inner rest : List ℕ) → OnlyTag octets (carrying Context 2 inner) rest → NoBracket (closing_tag 1) rest → (o : Option ℕ) →
    EndsReference octets o → ⊥
unclosed_ends octets inner rest one lacks None s = is_no_closing inner ((one.only _ _ s).0)
unclosed_ends octets inner rest one lacks (Some n) s =
    lacks.none [] (rw ((one.only (carrying Context 2 s.index_taken.inner) s.at_closing s.index_taken.tag).1) s.closing)

pub no_closing_behind_index : (octets : List ℕ) (t : PlainTag) (inner rest : List ℕ) → OnlyTag octets t rest → t ≡ carrying Context 2 inner →
    NoBracket (closing_tag 1) rest → NoEnd octets
no_closing_behind_index octets t inner rest one is lacks = record { none = λ o s. unclosed_ends octets inner rest (rw (sym is) one) lacks o s }

pub ruleset index_rules = (no_index_of_other, no_closing_behind_index)

-- the contents of an Error of WritePropertyMultiple

written_after : (octets : List ℕ) → ((class code : ℕ) (r : ObjectPropertyReference) → SpellsWriteError octets class code r → ⊥) →
    (class code : ℕ) (o : Option ObjectPropertyReference) → SpellsFailedWrite octets class code o → ⊥
written_after octets no-error class code None s = s
written_after octets no-error class code (Some r) s = no-error class code r s

none_written : (octets : List ℕ) → ((class code : ℕ) (r : ObjectPropertyReference) → SpellsWriteError octets class code r → ⊥) → NoFailedWrite octets
none_written octets no-error = record { none = λ c d o s. written_after octets no-error c d o s }

pub no_opening : (octets : List ℕ) → NoBracket (opening_tag 0) octets → NoFailedWrite octets
no_opening octets lacks = none_written octets (λ c d r s. lacks.none _ s.opening)

pub no_error_opened : (octets at_error : List ℕ) → OnlyTag octets (opening_tag 0) at_error → NoClassAndCode at_error → NoFailedWrite octets
no_error_opened octets at_error one lacks =
    none_written octets (λ c d r s. lacks.none c d s.at_closing (rw ((one.only (opening_tag 0) s.at_error s.opening).1) s.error))

pub no_closing : (octets at_error : List ℕ) (class code : ℕ) (at_closing : List ℕ) → OnlyTag octets (opening_tag 0) at_error →
    OnlyClassAndCode at_error class code at_closing → NoBracket (closing_tag 0) at_closing → NoFailedWrite octets
no_closing octets at_error class code at_closing one two lacks = none_written octets (λ c d r s.
    let q = two.only c d s.at_closing (rw ((one.only (opening_tag 0) s.at_error s.opening).1) s.error) in
    lacks.none s.at_first (rw (q.2) s.closing))

pub no_first : (octets at_error : List ℕ) (class code : ℕ) (at_closing at_first : List ℕ) → OnlyTag octets (opening_tag 0) at_error →
    OnlyClassAndCode at_error class code at_closing → OnlyTag at_closing (closing_tag 0) at_first → NoBracket (opening_tag 1) at_first → NoFailedWrite octets
no_first octets at_error class code at_closing at_first one two three lacks = none_written octets (λ c d r s.
    let q = two.only c d s.at_closing (rw ((one.only (opening_tag 0) s.at_error s.opening).1) s.error) in
    let z = three.only (closing_tag 0) s.at_first (rw (q.2) s.closing) in
    lacks.none s.at_reference (rw (z.1) s.first))

pub no_reference : (octets at_error : List ℕ) (class code : ℕ) (at_closing at_first at_reference : List ℕ) → OnlyTag octets (opening_tag 0) at_error →
    OnlyClassAndCode at_error class code at_closing → OnlyTag at_closing (closing_tag 0) at_first → OnlyTag at_first (opening_tag 1) at_reference →
    NoReference at_reference → NoFailedWrite octets
no_reference octets at_error class code at_closing at_first at_reference one two three four lacks = none_written octets (λ c d r s.
    let q = two.only c d s.at_closing (rw ((one.only (opening_tag 0) s.at_error s.opening).1) s.error) in
    let z = three.only (closing_tag 0) s.at_first (rw (q.2) s.closing) in
    let w = four.only (opening_tag 1) s.at_reference (rw (z.1) s.first) in
    lacks.none r (rw (w.1) s.reference))

write_alone : (octets at_error : List ℕ) (class code : ℕ) (at_closing at_first at_reference : List ℕ) (p : ObjectPropertyReference) →
    OnlyTag octets (opening_tag 0) at_error → OnlyClassAndCode at_error class code at_closing → OnlyTag at_closing (closing_tag 0) at_first →
    OnlyTag at_first (opening_tag 1) at_reference → OnlyReference at_reference p → (c d : ℕ) (o : Option ObjectPropertyReference) →
    SpellsFailedWrite octets c d o → (class ≡ c) × (code ≡ d) × (Some p ≡ o)
write_alone octets at_error class code at_closing at_first at_reference p one two three four five c d None s = absurd s
write_alone octets at_error class code at_closing at_first at_reference p one two three four five c d (Some r) s =
    let q = two.only c d s.at_closing (rw ((one.only (opening_tag 0) s.at_error s.opening).1) s.error) in
    let z = three.only (closing_tag 0) s.at_first (rw (q.2) s.closing) in
    let w = four.only (opening_tag 1) s.at_reference (rw (z.1) s.first) in
    (q.0, q.1, ap (λ (x : ObjectPropertyReference). Some x) (five.only r (rw (w.1) s.reference)))

pub only_failed_write : (octets at_error : List ℕ) (class code : ℕ) (at_closing at_first at_reference : List ℕ) (p : ObjectPropertyReference) →
    OnlyTag octets (opening_tag 0) at_error → OnlyClassAndCode at_error class code at_closing → OnlyTag at_closing (closing_tag 0) at_first →
    OnlyTag at_first (opening_tag 1) at_reference → OnlyReference at_reference p → OnlyFailedWrite octets class code (Some p)
only_failed_write octets at_error class code at_closing at_first at_reference p one two three four five =
    record { only = λ c d o s. write_alone octets at_error class code at_closing at_first at_reference p one two three four five c d o s }

pub ruleset failed_write_rules = (no_opening, no_error_opened, no_closing, no_first, no_reference, only_failed_write)

-- the contents by their service

plain_alone : (service : ℕ) (octets : List ℕ) (class code : ℕ) → service ≢ 16 → OnlyClassAndCode octets class code [] →
    (c d : ℕ) (o : Option ObjectPropertyReference) → SpellsError service octets c d o → (class ≡ c) × (code ≡ d) × (None ≡ o)
plain_alone service octets class code other one c d None s = let p = one.only c d [] s.1 in (p.0, p.1, refl)
plain_alone service octets class code other one c d (Some r) s = absurd (other s.0)

pub only_plain : (service : ℕ) (octets : List ℕ) (class code : ℕ) (rest : List ℕ) → service ≢ 16 → OnlyClassAndCode octets class code rest → rest ≡ [] →
    OnlyError service octets class code None
only_plain service octets class code rest other one e = record { only = λ c d o s. plain_alone service octets class code other (rw (sym e) one) c d o s }

left_over : (service : ℕ) (octets : List ℕ) (class code : ℕ) (rest : List ℕ) → service ≢ 16 → OnlyClassAndCode octets class code rest → rest ≢ [] →
    (c d : ℕ) (o : Option ObjectPropertyReference) → SpellsError service octets c d o → ⊥
left_over service octets class code rest other one some c d None s = some ((one.only c d [] s.1).2)
left_over service octets class code rest other one some c d (Some r) s = other s.0

pub no_plain_left_over : (service : ℕ) (octets : List ℕ) (class code : ℕ) (rest : List ℕ) → service ≢ 16 → OnlyClassAndCode octets class code rest →
    rest ≢ [] → NoError service octets
no_plain_left_over service octets class code rest other one some = record { none = λ c d o s. left_over service octets class code rest other one some c d o s }

plain_lacks : (service : ℕ) (octets : List ℕ) → service ≢ 16 → NoClassAndCode octets → (c d : ℕ) (o : Option ObjectPropertyReference) →
    SpellsError service octets c d o → ⊥
plain_lacks service octets other lacks c d None s = lacks.none c d [] s.1
plain_lacks service octets other lacks c d (Some r) s = other s.0

pub no_plain : (service : ℕ) (octets : List ℕ) → service ≢ 16 → NoClassAndCode octets → NoError service octets
no_plain service octets other lacks = record { none = λ c d o s. plain_lacks service octets other lacks c d o s }

as_write : (service : ℕ) (octets : List ℕ) (c d : ℕ) (o : Option ObjectPropertyReference) → service ≡ 16 → SpellsError service octets c d o →
    SpellsFailedWrite octets c d o
as_write service octets c d None is s = absurd (s.0 is)
as_write service octets c d (Some r) is s = s.1

pub no_write : (service : ℕ) (octets : List ℕ) → service ≡ 16 → NoFailedWrite octets → NoError service octets
no_write service octets is lacks = record { none = λ c d o s. lacks.none c d o (as_write service octets c d o is s) }

pub only_write : (service : ℕ) (octets : List ℕ) (class code : ℕ) (o : Option ObjectPropertyReference) → service ≡ 16 → OnlyFailedWrite octets class code o →
    OnlyError service octets class code o
only_write service octets class code o is one = record { only = λ c d p s. one.only c d p (as_write service octets c d p is s) }

pub ruleset error_rules = (only_plain, no_plain_left_over, no_plain, no_write, only_write)
