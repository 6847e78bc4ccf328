-- What a device makes of a request that comes to it in one APDU.
use Rattle.std.proofs.Common.{◌≡◌, ◌∙◌, ap, subst, ℕ, Bool, false, List, [], length, Option, Some, None}
use Rattle.std.specs.Prelude.{◌||◌, nat_lt, Result, Ok, Err}
use Rattle.apdu.specs.Apdu.{HasNamedNumbers, apdu_of, confirmed}
use Rattle.apdu.specs.Sizes.{apdu_code}
use Rattle.apdu.specs.declared.apdu.Apdu.{Apdu}
use Rattle.apdu.specs.declared.apdu.Apdu.TheVariants as variant
use Rattle.apdu.specs.declared.numbers.RejectReason.{RejectReason}
use Rattle.apdu.specs.declared.sizes.MaxSegments.{MaxSegments}
use Rattle.headline_bacnet.proofs.Sizes.{size_named}
use Rattle.headline_bacnet.specs.Bodies.{size_of}
use Rattle.headline_bacnet.specs.Laws.{object_laws}
use Rattle.primitives.specs.Sound.{IsSoundRequest}
use Rattle.primitives.specs.declared.plain_data.Request.{Request}
use Rattle.profile.specs.Limits.{MAX_SERVICE_DATA_OCTETS}
use Rattle.remembered.specs.Records.{is_full, remembered}
use Rattle.remembered.specs.declared.record.Asker.{Asker}
use Rattle.remembered.specs.declared.record.Record.{Record}
use Rattle.server_answers.specs.Plan.{ServerPlan}
use Rattle.server_answers.specs.ServerTold.{ServerTold}
use Rattle.server_answers.specs.declared.asked.AnswerLimits.{AnswerLimits}
use Rattle.server_answers.specs.declared.asked.Asked.{Asked}
use Rattle.server_answers.specs.declared.asked.Origin.{Origin}
use Rattle.server_tsm.specs.Hearing.{Heard, Reached, Whole, asked_by, asks, completed_if, completes, executing, executing_if, finished, heard_of}
use Rattle.server_tsm.specs.Hearing.{reached, request_heard, unless, whole_heard}
use Rattle.server_tsm.specs.Server.{ServerTsmState}
use Rattle.server_tsm.specs.Steps.{IsFinished, IsFound, IsStep, told_of_plan}
use Rattle.services.proofs.NoRequest.{request_not_spelled}
use Rattle.services.specs.Asked.{replied, request_octets, service_asked}

-- what a server hears of a request in one APDU
abbrev pub asked_whole : ℕ → AnswerLimits → ℕ → List ℕ → Heard
asked_whole id limits service octets = record { invoke_id = id; message = asks None limits service octets }

abbrev pub limits_with : Bool → MaxSegments → ℕ → AnswerLimits
limits_with accepted max_segments code = record { segmented = accepted; max_segments = max_segments; max_apdu = size_of code }

pub heard_asks : (a : Apdu) (accepted : Bool) (max_segments : MaxSegments) (code id service : ℕ) (octets : List ℕ) → HasNamedNumbers a →
    apdu_of a ≡ confirmed None accepted max_segments code id service octets →
    heard_of a ≡ asked_whole id (limits_with accepted max_segments code) service octets
heard_asks (variant.ConfirmedRequest segment accepted max_segments max_apdu invoke v data_octets) x y code id service octets named e =
    let size : size_of (apdu_code max_apdu) ≡ max_apdu = size_named max_apdu named in
    cc (e, size)
heard_asks (variant.UnconfirmedRequest v data_octets) x y code id service octets named e = absurd (cc e)
heard_asks (variant.SimpleAck invoke v) x y code id service octets named e = absurd (cc e)
heard_asks (variant.ComplexAck segment invoke v data_octets) x y code id service octets named e = absurd (cc e)
heard_asks (variant.SegmentAck negative server invoke number window) x y code id service octets named e = absurd (cc e)
heard_asks (variant.Error invoke v error) x y code id service octets named e = absurd (cc e)
heard_asks (variant.Reject invoke reason) x y code id service octets named e = absurd (cc e)
heard_asks (variant.Abort server invoke reason) x y code id service octets named e = absurd (cc e)

some_none : {X : Type 0} (x : X) → None ≡ Some x → ⊥
some_none x e = cc e

some_same : {X : Type 0} (x y : X) → Some x ≡ Some y → x ≡ y
some_same x y e = cc e

module _ {A : Type 0} (now : ℕ) (from : Origin) (id : ℕ) (limits : AnswerLimits) (request : Request A) (st : ServerTsmState A) where
  abbrev pub asker : Asker
  asker = record { station = from.station; invoke_id = id }

  abbrev pub asked : Asked
  asked = asked_by from asker limits (service_asked request)

  abbrev whole : Whole A
  whole = record { asked = asked; octets = request_octets request; says = [] }

  abbrev pub plan_of : ServerPlan A
  plan_of = executing now [] asked request (replied st.table request) st

  -- it comes whole
  reached_is : from.by_broadcast ≡ false → nat_lt now st.quiet_until ≡ false → remembered now asker st.records ≡ None →
      nat_lt MAX_SERVICE_DATA_OCTETS (length (request_octets request)) ≡ false →
      reached now from (asked_whole id limits (service_asked request) (request_octets request)) st ≡ completes whole
  reached_is alone listens none short =
      ap (λ b. unless b (request_heard None now asked (request_octets request) st)) (ap (λ b. b || nat_lt now st.quiet_until) alone ∙ listens)
      ∙ ap (λ (r : Option (Record A)). whole_heard r now asked (request_octets request)) none
      ∙ ap (λ b. completed_if b whole) short

  -- it means the request, and is executed
  found_is : (found : Option (Result (Request A) RejectReason)) → IsSoundRequest request → IsFound (completes whole) found → found ≡ Some (Ok request)
  found_is None sound means = absurd means
  found_is (Some (Ok x)) sound means =
      ap (λ (z : Request A). Some (Ok z)) (some_same x request ((object_laws A).request_back request (Some x) sound means))
  found_is (Some (Err reason)) sound means =
      absurd (some_none request ((object_laws A).request_back request None sound
      (record { none = λ x s. request_not_spelled reason (service_asked request) (request_octets request) x means s })))

  finished_is : is_full now st.records ≡ false → finished now (completes whole) (Some (Ok request)) st ≡ plan_of
  finished_is place = ap (λ b. executing_if b now [] asked request st) place

  planned_is : IsSoundRequest request → from.by_broadcast ≡ false → nat_lt now st.quiet_until ≡ false → remembered now asker st.records ≡ None →
      nat_lt MAX_SERVICE_DATA_OCTETS (length (request_octets request)) ≡ false → is_full now st.records ≡ false → (plan : ServerPlan A) →
      IsFinished now (reached now from (asked_whole id limits (service_asked request) (request_octets request)) st) st plan → plan ≡ plan_of
  planned_is sound alone listens none short place plan k =
      let whole_is = reached_is alone listens none short in
      let found = found_is k.found sound (subst (λ (r : Reached A). IsFound r k.found) whole_is k.means) in
      k.is ∙ ap (λ (r : Reached A). finished now r k.found st) whole_is
      ∙ ap (λ (f : Option (Result (Request A) RejectReason)). finished now (completes whole) f st) found ∙ finished_is place

  pub step_is : IsSoundRequest request → from.by_broadcast ≡ false → nat_lt now st.quiet_until ≡ false → remembered now asker st.records ≡ None →
      nat_lt MAX_SERVICE_DATA_OCTETS (length (request_octets request)) ≡ false → is_full now st.records ≡ false → (h : Heard) →
      h ≡ asked_whole id limits (service_asked request) (request_octets request) → (told : ServerTold A) (left : ServerTsmState A) →
      IsStep now from h st told left → told ≡ told_of_plan plan_of
  step_is sound alone listens none short place h is told left k =
      k.told_is ∙ ap (λ (p : ServerPlan A). told_of_plan p) (planned_is sound alone listens none short place k.plan
      (subst (λ (z : Heard). IsFinished now (reached now from z st) st k.plan) is k.planned))
