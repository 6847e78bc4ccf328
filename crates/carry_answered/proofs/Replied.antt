-- What a client makes of the answer that comes to it in one APDU.
use Rattle.std.proofs.Common.{◌≡◌, ◌∙◌, refl, sym, ap, subst, ⊎_elim, arith, ℕ, ◌+◌, ◌<◌, ◌^◌, Bool, true, false, List, [], ◌∷◌, ◌++◌, length, Option, Some, None}
use Rattle.std.specs.Prelude.{◌==◌, ◌&&◌, IfSome}
use Rattle.std.specs.List.{list_any, position_from}
use Rattle.std.proofs.lemmas.Bool.{eq-eqb, or_parts}
use Rattle.apdu.proofs.CanonicalLaws.{canonical_spells}
use Rattle.apdu.specs.Apdu.{HasNamedNumbers, Spells, apdu_of, complex_ack, error_pdu, simple_ack}
use Rattle.apdu.specs.ApduWriting.{NamesWriteOf}
use Rattle.apdu.specs.declared.apdu.Apdu.{Apdu}
use Rattle.apdu.specs.declared.apdu.Apdu.TheVariants as variant
use Rattle.apdu.specs.declared.service_error.ObjectPropertyReference.{ObjectPropertyReference}
use Rattle.client_tsm.specs.Client.{ClientTsmState}
use Rattle.client_tsm.specs.Hearing.{Heard, Message, Reached, Taking, Whole, answers, closing, completes, finished, heard_of, of_service, place_of, reached, told_at, told_where}
use Rattle.client_tsm.specs.Open.{Open, goes_on, takes}
use Rattle.client_tsm.specs.Steps.{IsFinished, IsFound, IsStep, told_of_plan}
use Rattle.client_tsm.specs.declared.plan.ClientTsmChange.TheVariants.{Stays}
use Rattle.client_tsm.specs.declared.plan.ClientTsmPlan.{ClientTsmPlan}
use Rattle.client_tsm.specs.declared.plan.ClientTsmTold.{ClientTsmTold}
use Rattle.client_tsm.specs.declared.plan.Outcome.TheVariants.{Answered}
use Rattle.history.proofs.Lists.{get_last, has, has_cons, has_next, none_has}
use Rattle.history.specs.Lists.{Has}
use Rattle.npdu.specs.Mac.{same_station}
use Rattle.npdu.specs.declared.mac.Station.{Station}
use Rattle.primitives.proofs.ErrorNames.{one_class, one_code}
use Rattle.primitives.specs.Answers.{IsAnswerTo}
use Rattle.primitives.specs.Errors.{IsNamedClass, IsNamedCode, class_number, code_number}
use Rattle.primitives.specs.Sound.{IsSoundIndex, IsSoundReply, IsSoundRequest}
use Rattle.primitives.specs.declared.error.ErrorClass.{ErrorClass}
use Rattle.primitives.specs.declared.error.ErrorCode.{ErrorCode}
use Rattle.primitives.specs.declared.plain_data.Reply.{Reply}
use Rattle.primitives.specs.declared.plain_data.Reply.TheVariants.{Done, Error, ErrorAt, Many, Values}
use Rattle.primitives.specs.declared.plain_data.Request.{Request}
use Rattle.primitives.specs.declared.plain_data.Request.TheVariants.{Read, ReadMany, Write, WriteMany}
use Rattle.server_answers.specs.Answering.{answer_apdu, answer_of, number_of}
use Rattle.server_answers.specs.Said.{answer_octets}
use Rattle.services.proofs.AskedNames.{service_asked_is}
use Rattle.services.proofs.Contents.{meaning_reads_back, reply_is_meant}
use Rattle.services.specs.Asked.{service_asked}
use Rattle.services.specs.Contents.{PlainAnswer, complex, failed, reply_contents, simple}

-- an Error names the write that failed just where the request is a WritePropertyMultiple
names_none : {A : Type 0} (q : Request A) (class : ErrorClass) (code : ErrorCode) → IsAnswerTo q (Error class code) → NamesWriteOf (number_of q) None
names_none (Read object property index) class code h = λ e. absurd (omega (arith, e))
names_none (ReadMany asked) class code h = λ e. absurd (omega (arith, e))
names_none (Write object property index values priority) class code h = λ e. absurd (omega (arith, e))
names_none (WriteMany asked) class code h = absurd h

names_one : {A : Type 0} (q : Request A) (class : ErrorClass) (code : ErrorCode) (first : ObjectPropertyReference) →
    IsAnswerTo q (ErrorAt class code first.object first.property first.index) → NamesWriteOf (number_of q) (Some first)
names_one (WriteMany asked) class code first h = refl
names_one q class code first h = absurd h

index_fits : (index : Option ℕ) → IsSoundIndex index → IfSome index (λ n. n < 2 ^ 32)
index_fits None h = tt
index_fits (Some n) h = h

-- the octets of the answer spell its APDU
pub answer_spelled : {A : Type 0} (id : ℕ) (q : Request A) (r : Reply A) → IsSoundReply r → IsAnswerTo q r →
    Spells (answer_octets id (number_of q) (answer_of q r)) (answer_apdu id q r)
unfolding answer_of
answer_spelled id q Done s h = canonical_spells (simple_ack id (number_of q)) tt tt
answer_spelled id q (Error class code) s h =
    canonical_spells (error_pdu id (number_of q) (class_number class) (code_number code) None) (names_none q class code h, tt) (s.0, s.2, tt)
answer_spelled id q (ErrorAt class code object property index) s h =
    let first : ObjectPropertyReference = record { object = object; property = property; index = index } in
    let e = s.0 in
    canonical_spells (error_pdu id (number_of q) (class_number class) (code_number code) (Some first)) (names_one q class code first h, s.1)
    (e.0, e.2, (s.2, index_fits index s.3))
answer_spelled id q (Values vs) s h = canonical_spells (answer_apdu id q (Values vs)) tt tt
answer_spelled id q (Many rs) s h = canonical_spells (answer_apdu id q (Many rs)) tt tt

-- what a client hears of an answer in one APDU
abbrev pub answer_heard : {A : Type 0} → ℕ → ℕ → PlainAnswer → Heard A
answer_heard id service contents = record { invoke_id = id; message = answers service contents }

hears_simple : {A : Type 0} (a : Apdu) (id service : ℕ) → apdu_of a ≡ simple_ack id service → heard_of {A = A} a ≡ answer_heard id service simple
hears_simple (variant.ConfirmedRequest segment accepted max_segments max_apdu invoke v data_octets) id service e = absurd (cc e)
hears_simple (variant.UnconfirmedRequest v data_octets) id service e = absurd (cc e)
hears_simple (variant.SimpleAck invoke v) id service e = cc e
hears_simple (variant.ComplexAck segment invoke v data_octets) id service e = absurd (cc e)
hears_simple (variant.SegmentAck negative server invoke number window) id service e = absurd (cc e)
hears_simple (variant.Error invoke v error) id service e = absurd (cc e)
hears_simple (variant.Reject invoke reason) id service e = absurd (cc e)
hears_simple (variant.Abort server invoke reason) id service e = absurd (cc e)

hears_complex : {A : Type 0} (a : Apdu) (id service : ℕ) (octets : List ℕ) → apdu_of a ≡ complex_ack None id service octets →
    heard_of {A = A} a ≡ answer_heard id service (complex octets)
hears_complex (variant.ConfirmedRequest segment accepted max_segments max_apdu invoke v data_octets) id service octets e = absurd (cc e)
hears_complex (variant.UnconfirmedRequest v data_octets) id service octets e = absurd (cc e)
hears_complex (variant.SimpleAck invoke v) id service octets e = absurd (cc e)
hears_complex (variant.ComplexAck None invoke v data_octets) id service octets e = cc e
hears_complex (variant.ComplexAck (Some segment) invoke v data_octets) id service octets e = absurd (cc e)
hears_complex (variant.SegmentAck negative server invoke number window) id service octets e = absurd (cc e)
hears_complex (variant.Error invoke v error) id service octets e = absurd (cc e)
hears_complex (variant.Reject invoke reason) id service octets e = absurd (cc e)
hears_complex (variant.Abort server invoke reason) id service octets e = absurd (cc e)

hears_error : {A : Type 0} (a : Apdu) (id service : ℕ) (class : ErrorClass) (code : ErrorCode) (first : Option ObjectPropertyReference) → HasNamedNumbers a →
    IsNamedClass class → IsNamedCode code → apdu_of a ≡ error_pdu id service (class_number class) (code_number code) first →
    heard_of {A = A} a ≡ answer_heard id service (failed class code first)
hears_error (variant.ConfirmedRequest segment accepted max_segments max_apdu invoke v data_octets) id service class code first named n m e = absurd (cc e)
hears_error (variant.UnconfirmedRequest v data_octets) id service class code first named n m e = absurd (cc e)
hears_error (variant.SimpleAck invoke v) id service class code first named n m e = absurd (cc e)
hears_error (variant.ComplexAck segment invoke v data_octets) id service class code first named n m e = absurd (cc e)
hears_error (variant.SegmentAck negative server invoke number window) id service class code first named n m e = absurd (cc e)
hears_error (variant.Error invoke v error) id service class code first named n m e =
    let c : error.class ≡ class = one_class error.class class (cc e) named.0 n in
    let k : error.code ≡ code = one_code error.code code (cc e) named.1 m in
    cc (e, c, k)
hears_error (variant.Reject invoke reason) id service class code first named n m e = absurd (cc e)
hears_error (variant.Abort server invoke reason) id service class code first named n m e = absurd (cc e)

pub hears_answer : {A : Type 0} (a : Apdu) (id : ℕ) (q : Request A) (r : Reply A) → IsSoundReply r → HasNamedNumbers a → apdu_of a ≡ answer_apdu id q r →
    heard_of {A = A} a ≡ answer_heard id (number_of q) (reply_contents q r)
hears_answer a id q Done s named e = hears_simple a id (number_of q) e
hears_answer a id q (Error class code) s named e = hears_error a id (number_of q) class code None named s.1 s.3 e
hears_answer a id q (ErrorAt class code object property index) s named e =
    let first : ObjectPropertyReference = record { object = object; property = property; index = index } in
    let n = s.0 in
    hears_error a id (number_of q) class code (Some first) named n.1 n.3 e
hears_answer a id q (Values vs) s named e = hears_complex a id (number_of q) _ e
hears_answer a id q (Many rs) s named e = hears_complex a id (number_of q) _ e

-- the last of a list passes a test that none before it does
behind_all : {X : Type 0} (t : X → Bool) (i : ℕ) (xs : List X) (x : X) → ((y : X) → Has xs y → t y ≡ false) → t x ≡ true →
    position_from t i (xs ++ x ∷ []) ≡ Some (i + length xs)
behind_all t i [] x none passes = rw passes (ap (λ n. Some n) (omega arith))
behind_all t i (y ∷ ys) x none passes =
    rw (none y (has 0 refl)) (behind_all t (i + 1) ys x (λ z there. none z (has_next y ys there)) passes ∙ ap (λ n. Some n) (omega arith))

none_open : {A : Type 0} (id : ℕ) (os : List (Open A)) → list_any (λ o. o.invoke_id == id) os ≡ false → (y : Open A) → Has os y → (y.invoke_id == id) ≡ false
none_open {A} id [] e y there = absurd (none_has there)
none_open {A} id (o ∷ os) e y there =
    let p = or_parts (o.invoke_id == id) (list_any (λ z. z.invoke_id == id) os) e in
    ⊎_elim
    (λ (here : o ≡ y). subst (λ (z : Open A). (z.invoke_id == id) ≡ false) here p.0)
    (λ (later : Has os y). none_open id os p.1 y later)
    (has_cons o os there)

module _ {A : Type 0} (now : ℕ) (from : Station) (os : List (Open A)) (o : Open A) (r : Reply A) where
  abbrev all : List (Open A)
  all = os ++ o ∷ []

  abbrev taking : Taking A
  taking = record { moment = now; place = length os; transaction = o }

  abbrev contents : PlainAnswer
  contents = reply_contents o.request r

  -- the transaction takes it
  taken_at : list_any (λ z. z.invoke_id == o.invoke_id) os ≡ false → takes now from o.invoke_id o ≡ true → place_of now from o.invoke_id all ≡ Some (length os)
  taken_at fresh passes =
      behind_all (takes now from o.invoke_id) 0 os o (λ y there. ap (λ b. b && (same_station y.station from && goes_on now y))
      (none_open o.invoke_id os fresh y there)) passes
      ∙ ap (λ n. Some n) (omega arith)

  abbrev outcome_told : ClientTsmPlan A
  outcome_told = closing [] taking (Answered r)

  abbrev whole : Whole A
  whole = record { taking = taking; contents = contents; says = []; otherwise = Stays }

  reached_is : (st : ClientTsmState A) → st.open_ones ≡ all → list_any (λ z. z.invoke_id == o.invoke_id) os ≡ false → takes now from o.invoke_id o ≡ true →
      reached now from (answer_heard o.invoke_id (number_of o.request) contents) st ≡ completes whole
  reached_is st are fresh passes =
      let message : Message A = answers (number_of o.request) contents in
      ap (λ (l : List (Open A)). told_where (place_of now from o.invoke_id l) now message l) are
      ∙ ap (λ (place : Option ℕ). told_where place now message all) (taken_at fresh passes)
      ∙ ap (λ (x : Option (Open A)). told_at x now (length os) message) (get_last os o)
      ∙ ap (λ b. of_service b (completes whole)) (eq-eqb (number_of o.request) (service_asked o.request) (sym (service_asked_is o.request)))

  -- it means the reply
  found_is : IsSoundRequest o.request → IsSoundReply r → IsAnswerTo o.request r → (found : Option (Reply A)) → IsFound (completes whole) found → found ≡ Some r
  found_is asked sound answer None means = absurd (means.none r (reply_is_meant o.request r asked sound answer))
  found_is asked sound answer (Some y) means = ap (λ (z : Reply A). Some z) (meaning_reads_back o.request r y asked sound answer means)

  planned_is : (st : ClientTsmState A) → st.open_ones ≡ all → list_any (λ z. z.invoke_id == o.invoke_id) os ≡ false → takes now from o.invoke_id o ≡ true →
      IsSoundRequest o.request → IsSoundReply r → IsAnswerTo o.request r → (plan : ClientTsmPlan A) →
      IsFinished (reached now from (answer_heard o.invoke_id (number_of o.request) contents) st) plan → plan ≡ outcome_told
  planned_is st are fresh passes asked sound answer plan k =
      let whole_is = reached_is st are fresh passes in
      let found = found_is asked sound answer k.found (subst (λ (x : Reached A). IsFound x k.found) whole_is k.means) in
      k.is ∙ ap (λ (x : Reached A). finished x k.found) whole_is ∙ ap (λ (f : Option (Reply A)). finished (completes whole) f) found

  pub step_closes : (st : ClientTsmState A) → st.open_ones ≡ all → list_any (λ z. z.invoke_id == o.invoke_id) os ≡ false →
      takes now from o.invoke_id o ≡ true → IsSoundRequest o.request → IsSoundReply r → IsAnswerTo o.request r → (h : Heard A) →
      h ≡ answer_heard o.invoke_id (number_of o.request) contents → (told : ClientTsmTold A) (left : ClientTsmState A) → IsStep now from h st told left →
      told ≡ told_of_plan outcome_told
  step_closes st are fresh passes asked sound answer h is told left k =
      k.told_is ∙ ap (λ (p : ClientTsmPlan A). told_of_plan p) (planned_is st are fresh passes asked sound answer k.plan
      (subst (λ (z : Heard A). IsFinished (reached now from z st) k.plan) is k.planned))
