-- A whole request that is rejected, aborted or executed is a list of honest happenings, and so is each step of a server.
use Rattle.std.proofs.Common.{◌≡◌, ◌∙◌, ◌⊎◌, inl, inr, ⊎_elim, refl, sym, ap, subst, ℕ, ◌+◌, ◌≤◌, Bool, true, false, List, [], ◌∷◌, ◌++◌, map, Some, None}
use Rattle.std.proofs.Common.{arith}
use Rattle.std.specs.Prelude.{Option, Result, Ok, Err, unwrap_or}
use Rattle.std.specs.List.{AllByRecursion}
use Rattle.apdu.specs.Apdu.{apdu_of, invoke_id_of, HasNamedNumbers}
use Rattle.apdu.specs.declared.apdu.Apdu.{Apdu}
use Rattle.apdu.specs.declared.apdu.Apdu.TheVariants as apdu
use Rattle.apdu.specs.declared.apdu.Segment.{Segment}
use Rattle.apdu.specs.declared.numbers.AbortReason.TheVariants.{OutOfResources}
use Rattle.apdu.specs.declared.numbers.RejectReason.{RejectReason}
use Rattle.apdu.specs.declared.sizes.MaxApdu.{MaxApdu}
use Rattle.headline.specs.Honest.{IsExecuted, MayExecute}
use Rattle.headline.specs.Protocol.{Site}
use Rattle.headline.specs.Stations as seen
use Rattle.history.specs.Book.{Message}
use Rattle.history.specs.Lists.{Has}
use Rattle.profile.specs.Times.{KEEP_MS}
use Rattle.history.proofs.Lists.{has_front, has_last, has_split}
use Rattle.npdu.specs.declared.mac.Station.{Station}
use Rattle.headline_bacnet.proofs.Sizes.{size_named}
use Rattle.headline_bacnet.specs.Bodies.{Says, head_of, request_body}
use Rattle.headline_bacnet.specs.Protocol.{bacnet}
use Rattle.headline_bacnet.specs.Refined.{IsRefined, ObjectCore}
use Rattle.object_model.specs.Objects.{PlainTable}
use Rattle.primitives.specs.declared.plain_data.Request.{Request}
use Rattle.server_tsm.specs.remembered.Records.{forgotten, is_full}
use Rattle.server_tsm.specs.remembered.declared.record.Asker.{Asker}
use Rattle.server_tsm.specs.remembered.declared.record.Record.{Record}
use Rattle.headline_bacnet.specs.services.Asked.{replied}
use Rattle.headline_bacnet.specs.services.Request.{SpellsRequest}
use Rattle.headline_server.proofs.Going.{execution_refines, gathered_had, gives_up_on, quiet_refines}
use Rattle.headline_server.proofs.Keeping.{Fits}
use Rattle.history.proofs.HasLaws.{has_map, map_has}
use Rattle.headline_server.proofs.Listed.{all_both, all_so}
use Rattle.headline_server.proofs.Records.{forgotten_has, kept_has, none_living, so_lives}
use Rattle.headline_server.proofs.Saying.{IsHonestlySaid, IsNoAnswer, CanTell, answer_told, free_said}
use Rattle.headline_server.proofs.Sending.{answer_is, begun_sent, chunk_holds, fitted_cut}
use Rattle.headline_server.proofs.Staying.{no_site, still_served}
use Rattle.headline_server.proofs.Served.{IsComplete, IsInput, IsReachedWell, reached_well}
use Rattle.headline_server.specs.Keeping.{IsSayable}
use Rattle.headline_server.specs.Laws.{IsHeardFrom, IsServed, MayBeExecuted, StepKeeps, StepRefines, ToldMayBeExecuted, WholeWasAsked}
use Rattle.headline_server.specs.Refines.{served}
use Rattle.headline_server.specs.Safe.{safe_device, safe_record}
use Rattle.headline_bacnet.specs.server_answers.Answering.{answer_of, answered_by, record_of}
use Rattle.server_tsm.specs.Hearing.{Message as Input, Reached, Whole, acknowledges, asker_of, asks, completes, executing, executing_if, finished, finished_by}
use Rattle.server_tsm.specs.Hearing.{gives_up, heard_of, message_of, of_client, plans, reached}
use Rattle.headline_bacnet.specs.server_answers.Limits.{answer_chunk}
use Rattle.headline_bacnet.specs.server_answers.Plan.{ServerPlan, GivesUp, Executes}
use Rattle.server_tsm.specs.Server.{ServerTsmState, committed, stamped}
use Rattle.server_tsm.specs.Steps.{IsFound, IsPlan, IsStep, Means, on_heard, told_of_plan}
use Rattle.headline_bacnet.specs.server_answers.declared.asked.AnswerLimits.{AnswerLimits}
use Rattle.headline_bacnet.specs.server_answers.declared.asked.Origin.{Origin}
use Rattle.headline_bacnet.specs.server_answers.ServerTold.{ServerTold}
use Rattle.headline_bacnet.specs.server_answers.Executed.{Executed}
use Rattle.headline_bacnet.specs.server_answers.declared.said.ServerSaid.{ServerSaid}
use Rattle.headline_bacnet.specs.server_answers.declared.said.ServerSaid.TheVariants as said

asker_is : (a b : Asker) → a.station ≡ b.station → a.invoke_id ≡ b.invoke_id → a ≡ b
asker_is a b e f = ap (λ (z : Station). record { station = z; invoke_id = a.invoke_id }) e ∙ ap (λ (n : ℕ). record { station = b.station; invoke_id = n }) f

same_executed : {A : Type 0} (e f : Executed A) → Some e ≡ Some f → e ≡ f
same_executed e f is = cc is

none_executed : {A : Type 0} (e : Executed A) → None ≡ Some e → ⊥
none_executed e is = cc is

module _ {A : Type 0} (s : Site Station (PlainTable A)) (w : ObjectCore A) (d : Station) (st : ServerTsmState A) (v : IsServed w d st) where
  -- what is remembered of an execution
  abbrev run_record : Whole A → Request A → Record A
  run_record x q = record_of w.book.moment st.max_apdu x.asked q (replied st.table q)

  abbrev run_left : Whole A → Request A → ServerTsmState A
  run_left x q = committed w.book.moment (Executes q (run_record x q)) st

  abbrev run_records : Whole A → Request A → List (Record A)
  run_records x q = st.records ++ stamped w.book.moment (run_record x q) ∷ []

  run_lives : (x : Whole A) (q : Request A) → w.book.moment ≤ (run_record x q).at + KEEP_MS
  run_lives x q = omega arith

  run_fresh : (x : Whole A) (q : Request A) → Has (safe_device (run_left x q)).records (safe_record (run_record x q))
  run_fresh x q =
      let r = stamped w.book.moment (run_record x q) in
      has_map safe_record (forgotten w.book.moment (run_records x q)) r
      (kept_has w.book.moment (run_records x q) r (has_last st.records r) (so_lives w.book.moment r (run_lives x q)))

  run_split : (x : Whole A) (q : Request A) (k : seen.Record Station) (r : Record A) → Has (run_records x q) r → safe_record r ≡ k →
      Has (map safe_record st.records) k ⊎ (safe_record (run_record x q) ≡ k)
  run_split x q k r there e = ⊎_elim
      (λ (old : Has st.records r). inl (subst (λ (z : seen.Record Station). Has (map safe_record st.records) z) e (has_map safe_record st.records r old)))
      (λ (new : stamped w.book.moment (run_record x q) ≡ r). inr (ap safe_record new ∙ e))
      (has_split st.records (stamped w.book.moment (run_record x q)) there)

  -- the execution is one of the promise
  run_is : (x : Whole A) (q : Request A) → IsExecuted (bacnet A) w.book.moment (safe_device st) q (safe_record (run_record x q)) (safe_device (run_left x q))
  run_is x q = record {
    moment = refl;
    answer = λ a e. answer_is x.asked.limits (answer_chunk st.max_apdu x.asked.limits) q (replied st.table q) a e;
    table = refl;
    deaf = refl;
    fresh = run_fresh x q;
    records = λ k h.
        let there = map_has safe_record (forgotten w.book.moment (run_records x q)) k h in
        run_split x q k there.0 (forgotten_has w.book.moment (run_records x q) there.0 there.1) there.2;
    living = λ k h young.
        let there = map_has safe_record st.records k h in
        subst (λ (z : seen.Record Station). Has (map safe_record (forgotten w.book.moment (run_records x q))) z) there.2
        (has_map safe_record (forgotten w.book.moment (run_records x q)) there.0
        (kept_has w.book.moment (run_records x q) there.0 (has_front st.records (stamped w.book.moment (run_record x q) ∷ []) there.1)
        (so_lives w.book.moment there.0 (subst (λ (z : seen.Record Station). w.book.moment ≤ z.moment + KEEP_MS) (sym there.2) young))));
    gatherings = λ a h. gathered_had st.max_apdu w.book.moment (Some x.asked.asker) st.gatherings a h;
  }

  -- the execution may be
  run_may : (x : Whole A) (q : Request A) → IsComplete s w d st v x → SpellsRequest x.asked.service x.octets q →
      MayExecute (bacnet A) w.book d (safe_device st) q (safe_record (run_record x q))
  run_may x q h means = record {
    head = head_of st.max_apdu x.asked.limits x.asked.service;
    octets = x.octets;
    asked = h.came;
    means = means;
    listens = h.listens;
    anew = λ k there client key young.
        let r = map_has safe_record st.records k there in
        none_living w.book.moment x.asked.asker st.records r.0 v.well.kept.timely.ascending h.none r.1
        (asker_is r.0.asker x.asked.asker (ap (λ (z : seen.Record Station). z.client) r.2 ∙ client) (ap (λ (z : seen.Record Station). z.invoke_id) r.2 ∙ key))
        (subst (λ (z : seen.Record Station). w.book.moment ≤ z.moment + KEEP_MS) (sym r.2) young);
    room = refl;
  }

  run_tells : (x : Whole A) (q : Request A) → IsComplete s w d st v x → CanTell d w.book.moment (safe_device (run_left x q)) (run_record x q)
  run_tells x q h = record {
    there = run_fresh x q;
    living = run_lives x q;
    chunk = chunk_holds st.max_apdu x.asked.limits;
    way = h.way;
  }

  free_all : (device : seen.Device Station (PlainTable A)) (xs : List (ServerSaid A)) → AllByRecursion IsNoAnswer xs →
      AllByRecursion (IsHonestlySaid s d w.book.moment device) xs
  free_all device xs h = all_so IsNoAnswer (IsHonestlySaid s d w.book.moment device) xs (free_said s d w.book.moment device) h

  run_says : (x : Whole A) (q : Request A) → IsComplete s w d st v x →
      AllByRecursion (IsHonestlySaid s d w.book.moment (safe_device (run_left x q))) (x.says ++ answered_by (run_record x q).sending (run_record x q))
  run_says x q h =
      let r = run_record x q in
      let device = safe_device (run_left x q) in
      all_both (IsHonestlySaid s d w.book.moment device) x.says (answered_by r.sending r)
      (free_all device x.says h.free)
      (answer_told s d w.book.moment device r.sending r (run_tells x q h)
      (begun_sent w.book.moment r.chunk r.answer (chunk_holds st.max_apdu x.asked.limits)
      (fitted_cut x.asked.limits (answer_chunk st.max_apdu x.asked.limits) (answer_of q (replied st.table q)))))

  -- what comes of a plan
  abbrev pub Refines : ServerPlan A → Type 0
  Refines plan = IsRefined (bacnet A) s w (served d (told_of_plan plan) (committed w.book.moment plan.change st) w)

  run_refines : (x : Whole A) (q : Request A) → IsComplete s w d st v x → SpellsRequest x.asked.service x.octets q →
      Refines (executing w.book.moment x.says x.asked q (replied st.table q) st)
  run_refines x q h means =
      let r = run_record x q in
      execution_refines s w d st q r (x.says ++ answered_by r.sending r) v.device (run_may x q h means) (run_is x q) (run_says x q h)

  -- a request that is refused
  refused_refines : (x : Whole A) (y : ServerSaid A) → IsComplete s w d st v x → IsNoAnswer y →
      Refines (record { said = x.says ++ y ∷ []; executed = None; change = GivesUp x.asked.asker })
  refused_refines x y h e =
      let plan : ServerPlan A = record { said = x.says ++ y ∷ []; executed = None; change = GivesUp x.asked.asker } in
      quiet_refines s w d st plan v.device (record {
        executed = refl;
        on = gives_up_on w.book d st x.asked.asker;
        fits = tt;
        says = free_all (safe_device (committed w.book.moment plan.change st)) plan.said (all_both IsNoAnswer x.says (y ∷ []) h.free (e, tt));
      })

  executing_refines : (full : Bool) (x : Whole A) (q : Request A) → IsComplete s w d st v x → SpellsRequest x.asked.service x.octets q →
      Refines (executing_if full w.book.moment x.says x.asked q st)
  executing_refines true x q h means = refused_refines x (said.Abort x.asked.way x.asked.asker.invoke_id OutOfResources) h tt
  executing_refines false x q h means = run_refines x q h means

  found_refines : (found : Result (Request A) RejectReason) (x : Whole A) → IsComplete s w d st v x → Means A x.asked.service x.octets found →
      Refines (finished_by found w.book.moment x.says x.asked st)
  found_refines (Err reason) x h means = refused_refines x (said.Reject x.asked.way x.asked.asker.invoke_id reason) h tt
  found_refines (Ok q) x h means = executing_refines (is_full w.book.moment st.records) x q h means

  pub finished_refines : (r : Reached A) (found : Option (Result (Request A) RejectReason)) → IsReachedWell s w d st v r → IsFound r found →
      Refines (finished w.book.moment r found st)
  finished_refines (plans plan) found h f = quiet_refines s w d st plan v.device h
  finished_refines (completes x) None h f = absurd f
  finished_refines (completes x) (Some found) h f = found_refines found x h f

  -- what is executed is kept well
  run_fits : (x : Whole A) (q : Request A) → IsComplete s w d st v x → IsSayable d.net (run_record x q)
  run_fits x q h =
      let chunk = answer_chunk st.max_apdu x.asked.limits in
      let few = fitted_cut x.asked.limits chunk (answer_of q (replied st.table q)) in
      let one = chunk_holds st.max_apdu x.asked.limits in
      record { chunk = one; way = h.way; cut = few; sent = begun_sent w.book.moment chunk (run_record x q).answer one few }

  executing_fits : (full : Bool) (x : Whole A) (q : Request A) → IsComplete s w d st v x →
      Fits d.net w.book.moment st (executing_if full w.book.moment x.says x.asked q st).change
  executing_fits true x q h = tt
  executing_fits false x q h = run_fits x q h

  found_fits : (found : Result (Request A) RejectReason) (x : Whole A) → IsComplete s w d st v x →
      Fits d.net w.book.moment st (finished_by found w.book.moment x.says x.asked st).change
  found_fits (Err reason) x h = tt
  found_fits (Ok q) x h = executing_fits (is_full w.book.moment st.records) x q h

  finished_fits : (r : Reached A) (found : Option (Result (Request A) RejectReason)) → IsReachedWell s w d st v r → IsFound r found →
      Fits d.net w.book.moment st (finished w.book.moment r found st).change
  finished_fits (plans plan) found h f = h.fits
  finished_fits (completes x) None h f = absurd f
  finished_fits (completes x) (Some found) h f = found_fits found x h

  -- what an APDU says is what the server hears
  request_input : (m : Message Station) (id : ℕ) (segment : Option Segment) (limits : AnswerLimits) (service : ℕ) (octets : List ℕ) →
      m.body ≡ request_body segment id (head_of st.max_apdu limits service) octets → IsInput s w d st v m id (asks segment limits service octets)
  request_input m id None limits service octets e = e
  request_input m id (Some sg) limits service octets e = e

  client_input : (server : Bool) (m : Message Station) (id : ℕ) (input : Input) → IsInput s w d st v m id input →
      IsInput s w d st v m id (of_client server input)
  client_input true m id input h = tt
  client_input false m id input h = h

  heard_input : (a : Apdu) (m : Message Station) → HasNamedNumbers a → Says st.max_apdu (apdu_of a) m.body →
      IsInput s w d st v m (unwrap_or (invoke_id_of (apdu_of a)) 0) (message_of a)
  heard_input (apdu.ConfirmedRequest segment accepted segments size id service octets) m named e =
      request_input m id segment (record { segmented = accepted; max_segments = segments; max_apdu = size }) service octets.now
      (e ∙ ap (λ (z : MaxApdu). request_body segment id (head_of st.max_apdu (record { segmented = accepted; max_segments = segments; max_apdu = z }) service)
      octets.now) (size_named size named))
  heard_input (apdu.UnconfirmedRequest service octets) m named e = tt
  heard_input (apdu.SimpleAck id service) m named e = tt
  heard_input (apdu.ComplexAck segment id service octets) m named e = tt
  heard_input (apdu.SegmentAck negative server id number window) m named e = client_input server m id (acknowledges negative number window) tt
  heard_input (apdu.Error id service error) m named e = tt
  heard_input (apdu.Reject id reason) m named e = tt
  heard_input (apdu.Abort server id reason) m named e = client_input server m id gives_up tt

  -- what is executed may be
  run_executes : (full : Bool) (x : Whole A) (q : Request A) (e : Executed A) → IsComplete s w d st v x → SpellsRequest x.asked.service x.octets q →
      (executing_if full w.book.moment x.says x.asked q st).executed ≡ Some e → MayBeExecuted w d st e
  run_executes true x q e h means is = absurd (cc is)
  run_executes false x q e h means is = subst (λ (z : Executed A). MayBeExecuted w d st z)
      (same_executed (record { asker = x.asked.asker; request = q; reply = replied st.table q }) e is) (record {
        remembered = safe_record (run_record x q);
        may = run_may x q h means;
        client = refl;
        key = refl;
      })

  found_executes : (found : Result (Request A) RejectReason) (x : Whole A) (e : Executed A) → IsComplete s w d st v x →
      Means A x.asked.service x.octets found → (finished_by found w.book.moment x.says x.asked st).executed ≡ Some e → MayBeExecuted w d st e
  found_executes (Err reason) x e h means is = absurd (cc is)
  found_executes (Ok q) x e h means is = run_executes (is_full w.book.moment st.records) x q e h means is

  finished_executes : (r : Reached A) (found : Option (Result (Request A) RejectReason)) (e : Executed A) → IsReachedWell s w d st v r → IsFound r found →
      (finished w.book.moment r found st).executed ≡ Some e → MayBeExecuted w d st e
  finished_executes (plans plan) found e h f is = absurd (none_executed e (sym h.executed ∙ is))
  finished_executes (completes x) None e h f is = absurd f
  finished_executes (completes x) (Some found) e h f is = found_executes found x e h f is

  -- a step
  heard_well : (from : Origin) (a : Apdu) → IsHeardFrom w d st.max_apdu from a → IsReachedWell s w d st v (reached w.book.moment from (heard_of a) st)
  heard_well from a h = reached_well s w d st v h.message (message_of a) from (asker_of from (heard_of a)) h.heard (sym h.sayer) h.way
      (heard_input a h.message h.named h.says)

  pub plan_executes : (from : Origin) (a : Apdu) (plan : ServerPlan A) (e : Executed A) → IsHeardFrom w d st.max_apdu from a →
      IsPlan w.book.moment from (heard_of a) st plan → plan.executed ≡ Some e → MayBeExecuted w d st e
  plan_executes from a plan e h planned is =
      finished_executes (reached w.book.moment from (heard_of a) st) planned.found e (heard_well from a h) planned.means
      (sym (ap (λ (z : ServerPlan A). z.executed) planned.is) ∙ is)

  pub step_is_refined : (left : ServerTsmState A) (from : Origin) (a : Apdu) (server_told : ServerTold A) → IsHeardFrom w d st.max_apdu from a →
      IsStep w.book.moment from (heard_of a) st server_told left → IsRefined (bacnet A) s w (served d server_told left w)
  step_is_refined left from a server_told h step =
      let p = step.planned in
      let plan = subst (λ (z : ServerPlan A). Refines z) (sym p.is)
      (finished_refines (reached w.book.moment from (heard_of a) st) p.found (heard_well from a h) p.means) in
      subst (λ (z : ServerTold A). IsRefined (bacnet A) s w (served d z left w)) (sym step.told_is)
      (subst (λ (z : ServerTsmState A). IsRefined (bacnet A) s w (served d (told_of_plan step.plan) z w)) (sym step.left_is) plan)

  pub step_is_kept : (left : ServerTsmState A) (from : Origin) (a : Apdu) (server_told : ServerTold A) → IsHeardFrom w d st.max_apdu from a →
      IsStep w.book.moment from (heard_of a) st server_told left → IsServed (served d server_told left w) d left
  step_is_kept left from a server_told h step =
      let p = step.planned in
      let fits = subst (λ (z : ServerPlan A). Fits d.net w.book.moment st z.change) (sym p.is)
      (finished_fits (reached w.book.moment from (heard_of a) st) p.found (heard_well from a h) p.means) in
      still_served w d st left server_told step.plan v (on_heard from (heard_of a) p) step.left_is fits

-- what any server executes may be executed
pub told_may_be_executed : {A : Type 0} → ToldMayBeExecuted A
told_may_be_executed w d st from a plan e v h planned is = plan_executes (no_site st) w d st v from a plan e h planned is

pub step_refines : {A : Type 0} → StepRefines A
step_refines s w d st left from a server_told v h step = step_is_refined s w d st v left from a server_told h step

pub step_keeps : {A : Type 0} → StepKeeps A
step_keeps w d st left from a server_told v h step = step_is_kept (no_site st) w d st v left from a server_told h step

-- what comes whole was asked so
pub whole_was_asked : {A : Type 0} → WholeWasAsked A
whole_was_asked {A} w d st from a x v h is =
    let well : IsReachedWell (no_site st) w d st v (completes x) =
    subst (λ (r : Reached A). IsReachedWell (no_site st) w d st v r) is (heard_well (no_site st) w d st v from a h) in
    well.came
