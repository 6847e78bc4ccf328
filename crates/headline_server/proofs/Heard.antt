-- What is read of what a server said says what it said.
use Rattle.std.proofs.Common.{◌≡◌, ◌∙◌, refl, ap, ℕ, ◌/◌, true, List, ◌∷◌, Some, None, arith}
use Rattle.apdu.specs.Apdu.{PlainApdu, Spells, abort_pdu, complex_ack, confirmed, error_pdu, reject_pdu, segment_ack, simple_ack, unconfirmed}
use Rattle.apdu.specs.Numbers.{abort_number, reject_number, service_number}
use Rattle.apdu.specs.declared.sizes.MaxApdu.{MaxApdu}
use Rattle.history.specs.Book.{Failed, Tells}
use Rattle.headline_bacnet.proofs.Reading.{read_again}
use Rattle.headline_bacnet.specs.Bodies.{Says}
use Rattle.server_tsm.specs.remembered.declared.record.RememberedAnswer.{RememberedAnswer}
use Rattle.server_tsm.specs.remembered.declared.record.RememberedAnswer.TheVariants as kept
use Rattle.headline_server.specs.Laws.{SaidIsHeard}
use Rattle.headline_server.specs.Refines.{whole_body}
use Rattle.headline_bacnet.specs.server_answers.Said.{answer_octets, said_octets}
use Rattle.headline_bacnet.specs.server_answers.declared.said.ServerSaid.TheVariants as said

first_is : (invoke service : ℕ) (contents : List ℕ) (a : PlainApdu) (s : Spells (80 ∷ (invoke ∷ (service ∷ contents))) a) → s.first ≡ 80
first_is invoke service contents a s = let front = s.front in cc

other_type : (first n : ℕ) → first ≡ 80 → first / 16 ≡ n → (n ≡ 5 → ⊥) → ⊥
other_type first n e f not = not (omega (arith, e, f))

-- an Error
error_says : (own : MaxApdu) (invoke service : ℕ) (contents : List ℕ) (a : PlainApdu) → Spells (80 ∷ (invoke ∷ (service ∷ contents))) a →
    Says own a (Tells invoke (Failed contents))
error_says own invoke service contents (error_pdu i k class code first) s =
    let front = s.front in
    let parts = s.fields.parts in
    let same : invoke ∷ (service ∷ contents) ≡ i ∷ (k ∷ s.fields.contents) = cc in
    let by : invoke ≡ i = cc in
    let behind : contents ≡ s.fields.contents = cc in
    record {
      octets = s.fields.contents;
      spelled = s.fields.spelled;
      is = ap (λ (n : ℕ). Tells n (Failed contents)) by ∙ ap (λ (l : List ℕ). Tells i (Failed l)) behind;
    }
error_says own invoke service contents (confirmed segment accepted max_segments max_apdu i k octets) s =
    absurd (other_type s.first 0 (first_is invoke service contents _ s) s.kind (λ e. omega (arith, e)))
error_says own invoke service contents (unconfirmed k octets) s =
    absurd (other_type s.first 1 (first_is invoke service contents _ s) s.kind (λ e. omega (arith, e)))
error_says own invoke service contents (simple_ack i k) s = absurd (other_type s.first 2 (first_is invoke service contents _ s) s.kind (λ e. omega (arith, e)))
error_says own invoke service contents (complex_ack segment i k octets) s =
    absurd (other_type s.first 3 (first_is invoke service contents _ s) s.kind (λ e. omega (arith, e)))
error_says own invoke service contents (segment_ack negative server i n window) s =
    absurd (other_type s.first 4 (first_is invoke service contents _ s) s.kind (λ e. omega (arith, e)))
error_says own invoke service contents (reject_pdu i reason) s =
    absurd (other_type s.first 6 (first_is invoke service contents _ s) s.kind (λ e. omega (arith, e)))
error_says own invoke service contents (abort_pdu server i reason) s =
    absurd (other_type s.first 7 (first_is invoke service contents _ s) s.kind (λ e. omega (arith, e)))

module _ {A : Type 0} where
  -- an answer whole
  answer_heard : (own : MaxApdu) (invoke service : ℕ) (answer : RememberedAnswer A) (a : PlainApdu) → Spells (answer_octets invoke service answer) a →
      Says own a (whole_body invoke answer)
  answer_heard own invoke service kept.Simple a s = read_again own (simple_ack invoke service) a _ tt tt refl s
  answer_heard own invoke service (kept.Complex octets) a s = read_again own (complex_ack None invoke service octets) a _ tt tt refl s
  answer_heard own invoke service (kept.Error contents) a s = error_says own invoke service contents a s
  answer_heard own invoke service (kept.Abort reason) a s = read_again own (abort_pdu true invoke (abort_number reason)) a _ tt tt refl s

  pub said_is_heard : SaidIsHeard A
  unfolding said_octets
  said_is_heard own (said.Answer way invoke service answer) a s = answer_heard own invoke (service_number service) answer a s
  said_is_heard own (said.Segment way invoke service segment octets) a s =
      read_again own (complex_ack (Some segment) invoke (service_number service) octets) a _ tt tt refl s
  said_is_heard own (said.SegmentAck way negative invoke number window) a s = read_again own (segment_ack negative true invoke number window) a _ tt tt refl s
  said_is_heard own (said.Reject way invoke reason) a s = read_again own (reject_pdu invoke (reject_number reason)) a _ tt tt refl s
  said_is_heard own (said.Abort way invoke reason) a s = read_again own (abort_pdu true invoke (abort_number reason)) a _ tt tt refl s
