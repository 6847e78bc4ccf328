-- Octets are refused for one cause, and what is short could be completed.
use Rattle.std.proofs.Common.{◌≡◌, ℕ, zero, suc, ◌+◌, ◌/◌, ◌%◌, ◌<◌, ◌≤◌, ◌==◌, Bool, true, false, List, [], ◌∷◌, ◌++◌, ◌∙◌, length, Some, None, inl, inr, refl}
use Rattle.std.proofs.Common.{sym, ap, subst, arith}
use Rattle.tags.specs.declared.fault.Fault.{Fault}
use Rattle.tags.specs.declared.fault.Fault.TheVariants.{Short, BadTag, BadLength}
use Rattle.apdu.proofs.CanonicalLaws.{error_spelled}
use Rattle.apdu.specs.Apdu.{PlainApdu, confirmed, unconfirmed, simple_ack, complex_ack, segment_ack, error_pdu, reject_pdu, abort_pdu, type_of, HasFlags}
use Rattle.apdu.specs.Apdu.{SpellsFields, Spells}
use Rattle.apdu.specs.ApduLaws.{RefusedOnce, ShortIsBegun}
use Rattle.apdu.specs.ApduWriting.{error_octets}
use Rattle.apdu.specs.ApduRefusal.{HasNoError, RefusesBehind, IsRefused, IsUnknown, Refuses}
use Rattle.apdu.specs.PduType.{type_number, header_length, IsWholeHeader}
use Rattle.apdu.specs.Sizes.{segments_code}
use Rattle.apdu.specs.declared.pdu_type.PduType.{PduType}
use Rattle.apdu.specs.declared.pdu_type.PduType.TheVariants.{ConfirmedRequest, UnconfirmedRequest, SimpleAck, ComplexAck, SegmentAck, Error, Reject, Abort}
use Rattle.apdu.specs.declared.sizes.MaxSegments.{MaxSegments}
use Rattle.apdu.specs.declared.sizes.MaxSegments.TheVariants.{Unspecified, Two, Four, Eight, Sixteen, ThirtyTwo, SixtyFour, More}

one_type : (j k : PduType) → type_number j ≡ type_number k → j ≡ k
one_type ConfirmedRequest ConfirmedRequest e = refl
one_type UnconfirmedRequest UnconfirmedRequest e = refl
one_type SimpleAck SimpleAck e = refl
one_type ComplexAck ComplexAck e = refl
one_type SegmentAck SegmentAck e = refl
one_type Error Error e = refl
one_type Reject Reject e = refl
one_type Abort Abort e = refl
one_type j k e = absurd (omega arith)

type_number-le : (k : PduType) → type_number k ≤ 7
type_number-le ConfirmedRequest = omega arith
type_number-le UnconfirmedRequest = omega arith
type_number-le SimpleAck = omega arith
type_number-le ComplexAck = omega arith
type_number-le SegmentAck = omega arith
type_number-le Error = omega arith
type_number-le Reject = omega arith
type_number-le Abort = omega arith

-- two refusals behind one first octet are of one type, and of the same octets
same_cause : (d e : Fault) (octets : List ℕ) (r : IsRefused d octets) → IsRefused e octets → RefusesBehind e (r.kind) (r.first) (r.rest)
same_cause d e octets r s =
    let both = sym r.front ∙ s.front in
    let first : r.first ≡ s.first = cc in
    let rest : r.rest ≡ s.rest = cc in
    let kind = one_type r.kind s.kind (sym r.type_is ∙ ap (λ (n : ℕ). n / 16) first ∙ s.type_is) in
    rw (kind, first, rest) s.cause

short_long : (k : PduType) (first : ℕ) (rest : List ℕ) → RefusesBehind Short k first rest → RefusesBehind BadLength k first rest → ⊥
short_long k first rest r s = omega (arith, r, s.1)

short_error : (k : PduType) (first : ℕ) (rest : List ℕ) → RefusesBehind Short k first rest → RefusesBehind BadTag k first rest → ⊥
short_error k first rest r s =
    let lt : 1 + length rest < 3 = subst (λ (j : PduType). 1 + length rest < header_length j first) s.is r in
    let long : length rest ≡ 2 + length s.contents = ap length s.parts ∙ omega arith in
    omega (arith, lt, long)

long_error : (k : PduType) (first : ℕ) (rest : List ℕ) → RefusesBehind BadLength k first rest → RefusesBehind BadTag k first rest → ⊥
long_error k first rest r s = subst (λ (j : PduType). IsWholeHeader j) s.is (r.0)

empty_refused : (e : Fault) (octets : List ℕ) → octets ≡ [] → IsRefused e octets → ⊥
empty_refused e octets is r = absurd (cc (is, r.front))

unknown_refused : (e : Fault) (octets : List ℕ) → IsUnknown octets → IsRefused e octets → ⊥
unknown_refused e octets u r =
    let both = sym u.front ∙ r.front in
    let first : u.first ≡ r.first = cc in
    omega (arith, u.unknown, r.type_is, type_number-le r.kind, first)

short_tag : (octets : List ℕ) → Refuses Short octets → Refuses BadTag octets → ⊥
short_tag octets (inl empty) (inl unknown) = absurd (cc (empty, unknown.front))
short_tag octets (inl empty) (inr r) = empty_refused BadTag octets empty r
short_tag octets (inr s) (inl unknown) = unknown_refused Short octets unknown s
short_tag octets (inr s) (inr r) = short_error s.kind s.first s.rest s.cause (same_cause Short BadTag octets s r)

short_length : (octets : List ℕ) → Refuses Short octets → Refuses BadLength octets → ⊥
short_length octets (inl empty) r = empty_refused BadLength octets empty r
short_length octets (inr s) r = short_long s.kind s.first s.rest s.cause (same_cause Short BadLength octets s r)

length_tag : (octets : List ℕ) → Refuses BadLength octets → Refuses BadTag octets → ⊥
length_tag octets s (inl unknown) = unknown_refused BadLength octets unknown s
length_tag octets s (inr r) = long_error s.kind s.first s.rest s.cause (same_cause BadLength BadTag octets s r)

one_cause : (octets : List ℕ) (d e : Fault) → Refuses d octets → Refuses e octets → d ≡ e
one_cause octets Short Short s t = refl
one_cause octets BadTag BadTag s t = refl
one_cause octets BadLength BadLength s t = refl
one_cause octets Short BadTag s t = absurd (short_tag octets s t)
one_cause octets BadTag Short s t = absurd (short_tag octets t s)
one_cause octets Short BadLength s t = absurd (short_length octets s t)
one_cause octets BadLength Short s t = absurd (short_length octets t s)
one_cause octets BadLength BadTag s t = absurd (length_tag octets s t)
one_cause octets BadTag BadLength s t = absurd (length_tag octets t s)
one_cause octets d e s t = absurd (grind arith)

-- what is refused spells no APDU

bit_is_zero : (n : ℕ) → (n == 1) ≡ false → n < 2 → n ≡ 0
bit_is_zero zero e lt = refl
bit_is_zero (suc zero) e lt = absurd cc
bit_is_zero (suc (suc n)) e lt = absurd (omega arith)

-- the fields of an APDU are no shorter than its header, and no longer where nothing else stands in it
long_enough : (first : ℕ) (rest : List ℕ) (a : PlainApdu) → HasFlags first a → SpellsFields rest a → header_length (type_of a) first ≤ 1 + length rest
long_enough first rest (confirmed None accepted m n i v x) f s = omega (arith, bit_is_zero (first / 8 % 2) f.0.is (omega arith), ap length s.parts)
long_enough first rest (confirmed (Some g) accepted m n i v x) f s = omega (arith, ap length s.parts)
long_enough first rest (unconfirmed v x) f s = omega (arith, ap length s)
long_enough first rest (simple_ack i v) f s = omega (arith, ap length s)
long_enough first rest (complex_ack None i v x) f s = omega (arith, bit_is_zero (first / 8 % 2) f.is (omega arith), ap length s)
long_enough first rest (complex_ack (Some g) i v x) f s = omega (arith, ap length s)
long_enough first rest (segment_ack negative server i n w) f s = omega (arith, ap length s)
long_enough first rest (error_pdu i v c d o) f s = omega (arith, ap length s.parts)
long_enough first rest (reject_pdu i r) f s = omega (arith, ap length s)
long_enough first rest (abort_pdu server i r) f s = omega (arith, ap length s)

short_enough : (first : ℕ) (rest : List ℕ) (a : PlainApdu) → IsWholeHeader (type_of a) → SpellsFields rest a → 1 + length rest ≤ header_length (type_of a) first
short_enough first rest (confirmed g accepted m n i v x) whole s = absurd whole
short_enough first rest (unconfirmed v x) whole s = absurd whole
short_enough first rest (simple_ack i v) whole s = omega (arith, ap length s)
short_enough first rest (complex_ack g i v x) whole s = absurd whole
short_enough first rest (segment_ack negative server i n w) whole s = omega (arith, ap length s)
short_enough first rest (error_pdu i v c d o) whole s = absurd whole
short_enough first rest (reject_pdu i r) whole s = omega (arith, ap length s)
short_enough first rest (abort_pdu server i r) whole s = omega (arith, ap length s)

no_error_behind : (rest : List ℕ) (a : PlainApdu) → HasNoError (type_of a) rest → SpellsFields rest a → ⊥
no_error_behind rest (error_pdu i v c d o) none s =
    let both = sym none.parts ∙ s.parts in
    let service : none.service ≡ v = cc in
    let contents : none.contents ≡ s.contents = cc in
    none.none.none c d o (rw (service, contents) s.spelled)
no_error_behind rest (confirmed g accepted m n i v x) none s = absurd (cc (none.is))
no_error_behind rest (unconfirmed v x) none s = absurd (cc (none.is))
no_error_behind rest (simple_ack i v) none s = absurd (cc (none.is))
no_error_behind rest (complex_ack g i v x) none s = absurd (cc (none.is))
no_error_behind rest (segment_ack negative server i n w) none s = absurd (cc (none.is))
no_error_behind rest (reject_pdu i r) none s = absurd (cc (none.is))
no_error_behind rest (abort_pdu server i r) none s = absurd (cc (none.is))

behind_refused : (e : Fault) (first : ℕ) (rest : List ℕ) (a : PlainApdu) → RefusesBehind e (type_of a) first rest → HasFlags first a → SpellsFields rest a → ⊥
behind_refused Short first rest a r f s = omega (arith, r, long_enough first rest a f s)
behind_refused BadLength first rest a r f s = omega (arith, r.1, short_enough first rest a r.0 s)
behind_refused BadTag first rest a r f s = no_error_behind rest a r s
behind_refused e first rest a r f s = absurd r

is_refused : (e : Fault) (octets : List ℕ) (a : PlainApdu) → IsRefused e octets → Spells octets a → ⊥
is_refused e octets a r s =
    let both = sym s.front ∙ r.front in
    let first : s.first ≡ r.first = cc in
    let rest : s.rest ≡ r.rest = cc in
    let kind = one_type (type_of a) r.kind (sym s.kind ∙ ap (λ (n : ℕ). n / 16) first ∙ r.type_is) in
    behind_refused e s.first s.rest a (rw (kind, first, rest) r.cause) s.flags s.fields

is_unknown : (octets : List ℕ) (a : PlainApdu) → IsUnknown octets → Spells octets a → ⊥
is_unknown octets a u s =
    let both = sym s.front ∙ u.front in
    let first : s.first ≡ u.first = cc in
    omega (arith, u.unknown, s.kind, type_number-le (type_of a), first)

none_spelled : (e : Fault) (octets : List ℕ) (a : PlainApdu) → Refuses e octets → Spells octets a → ⊥
none_spelled Short octets a (inl empty) s = absurd (cc (empty, s.front))
none_spelled Short octets a (inr r) s = is_refused Short octets a r s
none_spelled BadTag octets a (inl unknown) s = is_unknown octets a unknown s
none_spelled BadTag octets a (inr r) s = is_refused BadTag octets a r s
none_spelled BadLength octets a r s = is_refused BadLength octets a r s
none_spelled e octets a r s = absurd r

pub refused_once : RefusedOnce
refused_once octets d e r s = (one_cause octets d e r s, record { none = λ a t. none_spelled d octets a r t })

-- what completes the fields behind a first octet

record IsCompleted (k : PduType) (first : ℕ) (octets : List ℕ) : Type 0 where
  apdu : PlainApdu
  kind : type_of apdu ≡ k
  flags : HasFlags first apdu
  fields : SpellsFields octets apdu

record CanBeCompleted (k : PduType) (first : ℕ) (rest : List ℕ) : Type 0 where
  more : List ℕ
  whole : IsCompleted k first (rest ++ more)

size_at : (n : ℕ) → n < 8 → (m : MaxSegments) × (segments_code m ≡ n)
size_at zero lt = (Unspecified, refl)
size_at (suc zero) lt = (Two, refl)
size_at (suc (suc zero)) lt = (Four, refl)
size_at (suc (suc (suc zero))) lt = (Eight, refl)
size_at (suc (suc (suc (suc zero)))) lt = (Sixteen, refl)
size_at (suc (suc (suc (suc (suc zero))))) lt = (ThirtyTwo, refl)
size_at (suc (suc (suc (suc (suc (suc zero)))))) lt = (SixtyFour, refl)
size_at (suc (suc (suc (suc (suc (suc (suc zero))))))) lt = (More, refl)
size_at (suc (suc (suc (suc (suc (suc (suc (suc n)))))))) lt = absurd (omega arith)

-- a request and an acknowledgement of any octets that are enough for a segment
request_at : (first : ℕ) (b : Bool) → (first / 8 % 2 == 1) ≡ b → (s i x y z : ℕ) (tail : List ℕ) →
    IsCompleted ConfirmedRequest first (s ∷ (i ∷ (x ∷ (y ∷ (z ∷ tail)))))
request_at first false e s i x y z tail =
    let m = size_at (s / 16 % 8) (omega arith) in
    record {
      apdu = confirmed None (first / 2 % 2 == 1) m.0 (s % 16) i x (y ∷ (z ∷ tail));
      kind = refl;
      flags = (record { is = e; more = tt }, refl);
      fields = record { sizes = s; segments = m.1; apdu = refl; parts = refl };
    }
request_at first true e s i x y z tail =
    let m = size_at (s / 16 % 8) (omega arith) in
    record {
      apdu = confirmed (Some (record { more_follows = first / 4 % 2 == 1; sequence_number = x; window = y })) (first / 2 % 2 == 1) m.0 (s % 16) i z tail;
      kind = refl;
      flags = (record { is = e; more = refl }, refl);
      fields = record { sizes = s; segments = m.1; apdu = refl; parts = refl };
    }

ack_at : (first : ℕ) (b : Bool) → (first / 8 % 2 == 1) ≡ b → (i x y z : ℕ) (tail : List ℕ) → IsCompleted ComplexAck first (i ∷ (x ∷ (y ∷ (z ∷ tail))))
ack_at first false e i x y z tail = record { apdu = complex_ack None i x (y ∷ (z ∷ tail)); kind = refl; flags = record { is = e; more = tt }; fields = refl }
ack_at first true e i x y z tail = record {
  apdu = complex_ack (Some (record { more_follows = first / 4 % 2 == 1; sequence_number = x; window = y })) i z tail;
  kind = refl;
  flags = record { is = e; more = refl };
  fields = refl;
}

zeros : List ℕ
zeros = 0 ∷ (0 ∷ (0 ∷ (0 ∷ (0 ∷ []))))

request_completed : (first : ℕ) (rest : List ℕ) → RefusesBehind Short ConfirmedRequest first rest → CanBeCompleted ConfirmedRequest first rest
unfolding zeros
request_completed first [] lt = record { more = zeros; whole = request_at first _ refl 0 0 0 0 0 [] }
request_completed first (s ∷ []) lt = record { more = zeros; whole = request_at first _ refl s 0 0 0 0 (0 ∷ []) }
request_completed first (s ∷ i ∷ []) lt = record { more = zeros; whole = request_at first _ refl s i 0 0 0 (0 ∷ (0 ∷ [])) }
request_completed first (s ∷ i ∷ x ∷ []) lt = record { more = zeros; whole = request_at first _ refl s i x 0 0 (0 ∷ (0 ∷ (0 ∷ []))) }
request_completed first (s ∷ i ∷ x ∷ y ∷ []) lt = record { more = zeros; whole = request_at first _ refl s i x y 0 (0 ∷ (0 ∷ (0 ∷ (0 ∷ [])))) }
request_completed first (s ∷ i ∷ x ∷ y ∷ z ∷ rest) lt = absurd (omega arith)

ack_completed : (first : ℕ) (rest : List ℕ) → RefusesBehind Short ComplexAck first rest → CanBeCompleted ComplexAck first rest
unfolding zeros
ack_completed first [] lt = record { more = zeros; whole = ack_at first _ refl 0 0 0 0 (0 ∷ []) }
ack_completed first (i ∷ []) lt = record { more = zeros; whole = ack_at first _ refl i 0 0 0 (0 ∷ (0 ∷ [])) }
ack_completed first (i ∷ x ∷ []) lt = record { more = zeros; whole = ack_at first _ refl i x 0 0 (0 ∷ (0 ∷ (0 ∷ []))) }
ack_completed first (i ∷ x ∷ y ∷ []) lt = record { more = zeros; whole = ack_at first _ refl i x y 0 (0 ∷ (0 ∷ (0 ∷ (0 ∷ [])))) }
ack_completed first (i ∷ x ∷ y ∷ z ∷ rest) lt = absurd (omega arith)

completed : (k : PduType) (first : ℕ) (rest : List ℕ) → RefusesBehind Short k first rest → CanBeCompleted k first rest
completed ConfirmedRequest first rest lt = request_completed first rest lt
completed ComplexAck first rest lt = ack_completed first rest lt
completed UnconfirmedRequest first [] lt = record { more = 0 ∷ []; whole = record { apdu = unconfirmed 0 []; kind = refl; flags = tt; fields = refl } }
completed UnconfirmedRequest first (x ∷ rest) lt = absurd (omega arith)
completed SimpleAck first [] lt = record { more = 0 ∷ (0 ∷ []); whole = record { apdu = simple_ack 0 0; kind = refl; flags = tt; fields = refl } }
completed SimpleAck first (i ∷ []) lt = record { more = 0 ∷ []; whole = record { apdu = simple_ack i 0; kind = refl; flags = tt; fields = refl } }
completed SimpleAck first (i ∷ x ∷ rest) lt = absurd (omega arith)
completed SegmentAck first [] lt = record {
  more = 0 ∷ (0 ∷ (0 ∷ []));
  whole =
      record { apdu = segment_ack (first / 2 % 2 == 1) (first % 2 == 1) 0 0 0; kind = refl; flags = (refl, refl); fields = refl };
}
completed SegmentAck first (i ∷ []) lt = record {
  more = 0 ∷ (0 ∷ []);
  whole =
      record { apdu = segment_ack (first / 2 % 2 == 1) (first % 2 == 1) i 0 0; kind = refl; flags = (refl, refl); fields = refl };
}
completed SegmentAck first (i ∷ x ∷ []) lt =
    record {
      more = 0 ∷ [];
      whole = record {
        apdu = segment_ack (first / 2 % 2 == 1) (first % 2 == 1) i x 0;
        kind = refl;
        flags = (refl, refl);
        fields =
            refl;
      };
    }
completed SegmentAck first (i ∷ x ∷ y ∷ rest) lt = absurd (omega arith)
completed Error first [] lt = record {
  more = 0 ∷ (0 ∷ error_octets 0 0 None);
  whole =
      record {
        apdu = error_pdu 0 0 0 0 None;
        kind = refl;
        flags = tt;
        fields =
            record {
              contents = error_octets 0 0 None;
              parts = refl;
              spelled =
                  error_spelled 0 0 0 None (λ e. absurd (omega arith)) tt (omega arith) (omega arith) tt;
            };
      };
}
completed Error first (i ∷ []) lt = record {
  more = 0 ∷ error_octets 0 0 None;
  whole =
      record {
        apdu = error_pdu i 0 0 0 None;
        kind = refl;
        flags = tt;
        fields =
            record {
              contents = error_octets 0 0 None;
              parts = refl;
              spelled =
                  error_spelled 0 0 0 None (λ e. absurd (omega arith)) tt (omega arith) (omega arith) tt;
            };
      };
}
completed Error first (i ∷ x ∷ rest) lt = absurd (omega arith)
completed Reject first [] lt = record { more = 0 ∷ (0 ∷ []); whole = record { apdu = reject_pdu 0 0; kind = refl; flags = tt; fields = refl } }
completed Reject first (i ∷ []) lt = record { more = 0 ∷ []; whole = record { apdu = reject_pdu i 0; kind = refl; flags = tt; fields = refl } }
completed Reject first (i ∷ x ∷ rest) lt = absurd (omega arith)
completed Abort first [] lt = record { more = 0 ∷ (0 ∷ []); whole = record { apdu = abort_pdu (first % 2 == 1) 0 0; kind = refl; flags = refl; fields = refl } }
completed Abort first (i ∷ []) lt = record { more = 0 ∷ []; whole = record { apdu = abort_pdu (first % 2 == 1) i 0; kind = refl; flags = refl; fields = refl } }
completed Abort first (i ∷ x ∷ rest) lt = absurd (omega arith)

pub short_is_begun : ShortIsBegun
short_is_begun octets (inl empty) = record {
  more = 32 ∷ (0 ∷ (0 ∷ []));
  apdu = simple_ack 0 0;
  whole = rw empty record { first = 32; rest = 0 ∷ (0 ∷ []); front = refl; kind = refl; flags = tt; fields = refl };
}
short_is_begun octets (inr r) =
    let c = completed r.kind r.first r.rest r.cause in
    let w = c.whole in
    record {
      more = c.more;
      apdu = w.apdu;
      whole = record {
        first = r.first;
        rest = r.rest ++ c.more;
        front = ap (λ (x : List ℕ). x ++ c.more) r.front;
        kind =
            r.type_is ∙ ap type_number (sym w.kind);
        flags = w.flags;
        fields = w.fields;
      };
    }
