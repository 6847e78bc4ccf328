-- The octets that are written of a reply spell it.
use Rattle.std.proofs.Common.{◌≡◌, ℕ, ◌<◌, ◌^◌, List, [], ◌++◌, Option, None, Ok, Err, refl, sym, subst, arith}
use Rattle.std.proofs.lemmas.List.{append_assoc, append-nil}
use Rattle.tags.specs.declared.object_id.ObjectId.{ObjectId}
use Rattle.tags.specs.declared.value.Value.{Value}
use Rattle.tags.specs.Canonical.{canonicals}
use Rattle.primitives.specs.Answers.{IsAnswerTo}
use Rattle.primitives.specs.Errors.{class_number, code_number}
use Rattle.primitives.specs.Sound.{AreSound, IsSoundId, IsSoundIndex, IsSoundReading, IsSoundReply, IsSoundRequest, IsSoundResult, IsSoundResults}
use Rattle.primitives.specs.declared.plain_data.ObjectResults.{ObjectResults}
use Rattle.primitives.specs.declared.plain_data.PropertyResult.{PropertyResult}
use Rattle.primitives.specs.declared.plain_data.Reply.{Reply}
use Rattle.primitives.specs.declared.plain_data.Reply.TheVariants.{Values, Many, Done, Error, ErrorAt}
use Rattle.primitives.specs.declared.plain_data.Request.{Request}
use Rattle.primitives.specs.declared.plain_data.Request.TheVariants.{Read, ReadMany, Write, WriteMany}
use Rattle.answers.specs.declared.answer.Answer.{Answer}
use Rattle.answers.specs.declared.answer.Answer.TheVariants as answer
use Rattle.apdu.specs.ApduWriting.{class_and_code_octets}
use Rattle.services.specs.CanonicalReply.{reading_octets, result_octets, results_octets, canonical_reply}
use Rattle.apdu.specs.ParameterWriting.{object_field, number_field, option_field, opening_octets, closing_octets}
use Rattle.services.specs.CanonicalRequest.{values_field, in_turn, read_octets}
use Rattle.services.specs.Fields.{TakesNumber, TakesOpening}
use Rattle.services.specs.Multiple.{OpensList}
use Rattle.services.specs.Reply.{reading_tag, TakesReading, TakesResult, TakesResults, SpellsAck, SpellsAnswer, SpellsReply}
use Rattle.answers.specs.Answer.{GoesIn}
use Rattle.services.specs.Requests.{TakesWrite}
use Rattle.services.proofs.CanonicalBody.{number_taken, opening_taken, closing_taken, option_taken, no_contents_at_opening, inside_taken, each_taken}
use Rattle.services.proofs.CanonicalBody.{write_spelled, list_opened, whole}
use Rattle.apdu.proofs.CanonicalLaws.{class_and_code}
use Rattle.services.proofs.OneAnswer.{one_answer}
use Rattle.services.proofs.OneReply.{Reading}

ack_spelled : {A : Type 0} (o : ObjectId) (p : ℕ) (i : Option ℕ) (vs : List (Value A)) → IsSoundId o → p < 2 ^ 32 → IsSoundIndex i → AreSound vs →
    TakesWrite (read_octets o p i ++ values_field 3 vs) o p i vs []
ack_spelled o p i vs id fits index sound =
    let octets = read_octets o p i ++ values_field 3 vs in
    let w = write_spelled o p i vs None id fits index sound tt in
    subst (λ (x : List ℕ). TakesWrite x o p i vs []) (append-nil octets)
    (subst (λ (z : List ℕ). TakesWrite (octets ++ []) o p i vs z) w.priority_taken.0 w.write_taken)

groups : (a b c d : List ℕ) → a ++ (b ++ (c ++ d)) ≡ a ++ b ++ c ++ d
groups a b c d = simp append_assoc

reading_taken : {A : Type 0} (v : Reading A) (rest : List ℕ) → IsSoundReading v → TakesReading (reading_octets v ++ rest) v rest
reading_taken (Ok vs) rest sound =
    let inside = canonicals vs ++ (closing_octets 4 ++ rest) in
    let e : opening_octets 4 ++ inside ≡ values_field 4 vs ++ rest = simp append_assoc in
    record {
      inside = inside;
      opened = subst (λ (x : List ℕ). TakesOpening x 4 inside) e (opening_taken 4 inside (omega arith));
      inside_taken =
          inside_taken 4 vs rest (omega arith) sound;
    }
reading_taken (Err f) rest sound =
    let octets = class_and_code_octets (class_number f.0) (code_number f.1) in
    let inside = octets ++ (closing_octets 5 ++ rest) in
    let e : opening_octets 5 ++ inside ≡ opening_octets 5 ++ octets ++ closing_octets 5 ++ rest = groups (opening_octets 5) octets (closing_octets 5) rest in
    record {
      inside = inside;
      opened = subst (λ (x : List ℕ). TakesOpening x 5 inside) e (opening_taken 5 inside (omega arith));
      inside_taken = record {
        at = closing_octets 5 ++ rest;
        taken = class_and_code (class_number f.0) (code_number f.1) (closing_octets 5 ++ rest) sound.0 sound.2;
        closed = closing_taken 5 rest (omega arith);
        class_named = sound.1;
        code_named = sound.3;
      };
    }

result_taken : {A : Type 0} (r : PropertyResult A) (rest : List ℕ) → IsSoundResult r → TakesResult (result_octets r ++ rest) r rest
result_taken r rest sound =
    let at = reading_octets r.result ++ rest in
    let behind = option_field 3 r.index ++ at in
    let reading = reading_taken r.result rest sound.2 in
    let e : number_field 2 r.property ++ behind ≡ result_octets r ++ rest = simp append_assoc in
    record {
      behind_property = behind;
      property_taken = subst (λ (x : List ℕ). TakesNumber x 2 r.property behind) e (number_taken 2 r.property behind (omega arith) sound.0);
      reading_taken = record {
        at = at;
        index_taken = option_taken 3 r.index at (omega arith) sound.1 (no_contents_at_opening at 3 (reading_tag r.result) reading.inside reading.opened);
        reading_taken = reading;
      };
    }

results_taken : {A : Type 0} (r : ObjectResults A) (rest : List ℕ) → IsSoundResults r → TakesResults (results_octets r ++ rest) r rest
results_taken r rest sound =
    let closed = closing_octets 1 ++ rest in
    let inside = in_turn result_octets r.results ++ closed in
    let e : object_field 0 r.object ++ (opening_octets 1 ++ inside) ≡ results_octets r ++ rest = simp append_assoc in
    record {
      inside = inside;
      opened = subst (λ (x : List ℕ). OpensList x r.object inside) e (list_opened r.object inside sound.0);
      results_taken = record {
        at = closed;
        taken = (each_taken TakesResult result_octets IsSoundResult (λ (x : List ℕ). Unit {0}) (λ x after s g. result_taken x after s) (λ x after s. tt)
            r.results closed sound.1 tt).0;
        closed = closing_taken 1 rest (omega arith);
      };
    }

-- a reply with service data
abbrev pub HasData : {A : Type 0} → Reply A → Type 0
HasData (Values vs) = Unit {0}
HasData (Many rs) = Unit {0}
HasData x = ⊥

-- the service data of a ComplexACK
pub ack_in : {A : Type 0} (request : Request A) (x : Reply A) → IsSoundRequest request → IsSoundReply x → IsAnswerTo request x → HasData x →
    SpellsAck request (canonical_reply request x) x
ack_in (Read o p i) (Values vs) q s h d = ack_spelled o p i vs q.0 q.1 q.2 s
ack_in (ReadMany asked) (Many rs) q s h d = whole TakesResults results_octets IsSoundResults results_taken rs s
ack_in (ReadMany asked) (Values vs) q s h d = absurd h
ack_in (Write o p i ws n) (Values vs) q s h d = absurd h
ack_in (WriteMany asked) (Values vs) q s h d = absurd h
ack_in (Read o p i) (Many rs) q s h d = absurd h
ack_in (Write o p i ws n) (Many rs) q s h d = absurd h
ack_in (WriteMany asked) (Many rs) q s h d = absurd h
ack_in request x q s h d = absurd d

spelled_in : {A : Type 0} (request : Request A) (x : Reply A) (a : Answer) → IsSoundRequest request → IsSoundReply x → IsAnswerTo request x →
    GoesIn x (canonical_reply request x) a → SpellsAnswer request a x
spelled_in request (Values vs) (answer.Complex octets) q s h g =
    subst (λ (z : List ℕ). SpellsAck request z (Values vs)) (sym g) (ack_in request (Values vs) q s h tt)
spelled_in request (Many rs) (answer.Complex octets) q s h g = subst (λ (z : List ℕ). SpellsAck request z (Many rs)) (sym g) (ack_in request (Many rs) q s h tt)
spelled_in request Done answer.Simple q s h g = refl
spelled_in request (Error c d) (answer.Error e) q s h g = g
spelled_in request (ErrorAt c d o p i) (answer.Error e) q s h g = g
spelled_in request x a q s h g = absurd g

pub reply_spelled : {A : Type 0} (request : Request A) (x : Reply A) (a : Answer) → IsSoundRequest request → IsSoundReply x → IsAnswerTo request x →
    GoesIn x (canonical_reply request x) a → SpellsReply request a x
reply_spelled request x a q s h g = record { spelled = spelled_in request x a q s h g; answers = h }

pub reply_reads_back : {A : Type 0} (request : Request A) (x y : Reply A) (a : Answer) → IsSoundRequest request → IsSoundReply x → IsAnswerTo request x →
    GoesIn x (canonical_reply request x) a → SpellsReply request a y → y ≡ x
reply_reads_back request x y a q s h g t = one_answer request a y x t.spelled (spelled_in request x a q s h g)
