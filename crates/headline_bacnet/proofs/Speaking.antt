-- The octets that a station says are read as an APDU that says the same.
use Rattle.std.proofs.Common.{◌≡◌, refl, ap, subst, ◌∙◌, ℕ, ◌/◌, List, ◌∷◌, arith}
use Rattle.apdu.proofs.ApduLaws.{one_apdu}
use Rattle.apdu.proofs.CanonicalLaws.{canonical_spells, error_spelled}
use Rattle.apdu.proofs.UnconfirmedLaws.{i_am_spelled}
use Rattle.apdu.specs.Apdu.{PlainApdu, confirmed, unconfirmed, simple_ack, complex_ack, segment_ack, error_pdu, reject_pdu, abort_pdu, Spells, type_of}
use Rattle.apdu.specs.ApduWriting.{canonical, error_octets, CanBeWritten, HasNumbers}
use Rattle.apdu.specs.PduType.{type_number}
use Rattle.apdu.specs.Unconfirmed.{i_am_octets, limits_octets}
use Rattle.apdu.specs.declared.sizes.MaxApdu.{MaxApdu}
use Rattle.history.specs.Book.{Failed, I_am, Other, Tells}
use Rattle.headline_bacnet.specs.Bodies.{Says, body_of}
use Rattle.headline_bacnet.specs.Speaking.{IsOfTransaction, ErrorIsSaid, IAmIsSaid, WhoIsIsSaid, WrittenIsSaid}

says_itself : (own : MaxApdu) (a : PlainApdu) → IsOfTransaction a → CanBeWritten a → HasNumbers a → Says own a (body_of own a)
says_itself own (confirmed segment accepted max_segments max_apdu invoke service octets) of can numbers = refl
says_itself own (unconfirmed service octets) of can numbers = absurd of
says_itself own (simple_ack invoke service) of can numbers = refl
says_itself own (complex_ack segment invoke service octets) of can numbers = refl
says_itself own (segment_ack negative server invoke number window) of can numbers = refl
says_itself own (error_pdu invoke service class code first) of can numbers = record {
  octets = error_octets class code first;
  spelled = error_spelled service class code first can.0 can.1 numbers.0 numbers.1 numbers.2;
  is = refl;
}
says_itself own (reject_pdu invoke reason) of can numbers = refl
says_itself own (abort_pdu server invoke reason) of can numbers = refl

read_back : (a heard : PlainApdu) → CanBeWritten a → HasNumbers a → Spells (canonical a) heard → a ≡ heard
read_back a heard can numbers s = one_apdu (canonical a) a heard (canonical_spells a can numbers) s

pub written_is_said : WrittenIsSaid
written_is_said own a heard of can numbers s =
    subst (λ (x : PlainApdu). Says own x (body_of own a)) (read_back a heard can numbers s) (says_itself own a of can numbers)

first_is : (x y : ℕ) (xs ys : List ℕ) → x ∷ xs ≡ y ∷ ys → x ≡ y
first_is x y xs ys e = cc e

rest_is : (x y : ℕ) (xs ys : List ℕ) → x ∷ xs ≡ y ∷ ys → xs ≡ ys
rest_is x y xs ys e = cc e

error_said : (own : MaxApdu) (invoke service : ℕ) (contents : List ℕ) (heard : PlainApdu) → (s : Spells (80 ∷ (invoke ∷ (service ∷ contents))) heard) →
    5 ≡ type_number (type_of heard) → invoke ∷ (service ∷ contents) ≡ s.rest → Says own heard (Tells invoke (Failed contents))
error_said own invoke service contents (error_pdu i v class code first) s kind rest =
    let behind = rest ∙ s.fields.parts in
    let more = rest_is invoke i (service ∷ contents) (v ∷ s.fields.contents) behind in
    let its = rest_is service v contents s.fields.contents more in
    record {
      octets = s.fields.contents;
      spelled = s.fields.spelled;
      is = ap (λ n. Tells n (Failed contents)) (first_is invoke i (service ∷ contents) (v ∷ s.fields.contents) behind)
          ∙ ap (λ (l : List ℕ). Tells i (Failed l)) its;
    }
error_said own invoke service contents (confirmed segment accepted max_segments max_apdu i v octets) s kind rest = absurd (omega (arith, kind))
error_said own invoke service contents (unconfirmed v octets) s kind rest = absurd (omega (arith, kind))
error_said own invoke service contents (simple_ack i v) s kind rest = absurd (omega (arith, kind))
error_said own invoke service contents (complex_ack segment i v octets) s kind rest = absurd (omega (arith, kind))
error_said own invoke service contents (segment_ack negative server i number window) s kind rest = absurd (omega (arith, kind))
error_said own invoke service contents (reject_pdu i reason) s kind rest = absurd (omega (arith, kind))
error_said own invoke service contents (abort_pdu server i reason) s kind rest = absurd (omega (arith, kind))

pub error_is_said : ErrorIsSaid
error_is_said own invoke service contents heard s =
    error_said own invoke service contents heard s
    (ap (λ n. n / 16) (first_is 80 s.first (invoke ∷ (service ∷ contents)) s.rest s.front) ∙ s.kind)
    (rest_is 80 s.first (invoke ∷ (service ∷ contents)) s.rest s.front)

pub i_am_is_said : IAmIsSaid
i_am_is_said own i heard small little few s =
    subst (λ (x : PlainApdu). Says own x (I_am i.instance)) (read_back (unconfirmed 0 (i_am_octets i)) heard tt tt s) (record {
      i_am = i;
      service_is = refl;
      spelled = i_am_spelled i small little few;
      instance_is = refl;
    })

pub who_is_is_said : WhoIsIsSaid
who_is_is_said own limits heard s =
    subst (λ (x : PlainApdu). Says own x Other) (read_back (unconfirmed 8 (limits_octets limits)) heard tt tt s)
    (record { none = λ n is. let e = is.service_is in absurd (omega (arith, e)) })
