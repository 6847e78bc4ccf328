-- What is executed and told on an NPDU by a contract is of an issue.
use Rattle.std.proofs.Common.{◌≡◌, inl, inr, refl, sym, ap, subst, ◌∙◌, ℕ, List, Some, None}
use Rattle.apdu.specs.Apdu.{PlainApdu, abort_pdu, complex_ack, confirmed, error_pdu, reject_pdu, segment_ack, simple_ack, unconfirmed}
use Rattle.apdu.specs.declared.sizes.MaxApdu.{MaxApdu}
use Rattle.headline_client.specs.client_tsm.declared.plan.TransactionOutcome.{TransactionOutcome}
use Rattle.headline_device.specs.device.Device.{DeviceState}
use Rattle.headline_device.specs.device.Hearing.{AnswersWho, DeviceHears, Does, Serves, origin_of}
use Rattle.headline_device.specs.device.DeviceTold.{DeviceTold}
use Rattle.headline.proofs.Laws.{whole_requests}
use Rattle.headline.proofs.Whole.{Inv}
use Rattle.headline.specs.Honest.{IsAsked, MayExecute}
use Rattle.headline.specs.Promised.{IsOfIssue}
use Rattle.headline.specs.Stations.{Device}
use Rattle.headline_client.proofs.headline_bacnet.Places.{led_back}
use Rattle.headline_client.specs.headline_bacnet.Bodies.{Says, head_of, led_to}
use Rattle.headline_client.specs.headline_bacnet.Laws.{object_laws}
use Rattle.headline_client.specs.headline_bacnet.Network.{BringsWhatWasSaid, WasSaid}
use Rattle.headline_client.specs.headline_bacnet.Protocol.{bacnet}
use Rattle.headline_client.specs.headline_bacnet.Refined.{ObjectCore, ObjectSite}
use Rattle.headline_client.proofs.Laws.{hearing}
use Rattle.headline_client.proofs.Places.{all_at, all_weaken}
use Rattle.headline_client.specs.Laws.{ClosesHonestly, IsClient}
use Rattle.headline_client.specs.Safe as client
use Rattle.headline_device.specs.Devices.{IsDevice, station_of}
use Rattle.headline_device.proofs.headline_server.Executing.{told_may_be_executed, whole_was_asked}
use Rattle.headline_device.specs.headline_server.Laws.{IsHeardFrom, MayBeExecuted}
use Rattle.headline_site.proofs.Executions as executions
use Rattle.headline_site.proofs.Outcomes as outcomes
use Rattle.headline_site.proofs.Reached.{kept_at}
use Rattle.headline_site.specs.Laws.{HearingExecutesIssued, HearingIsWholeIssue, HearingTellsOfIssues, IsOfItsIssue, Wherever}
use Rattle.npdu.specs.declared.mac.Mac.{Mac}
use Rattle.npdu.specs.declared.mac.Station.{Station}
use Rattle.npdu.specs.declared.mac.Target.{Target}
use Rattle.object_model.specs.Objects.{PlainTable}
use Rattle.headline_client.specs.server_answers.Executed.{Executed}
use Rattle.headline_client.specs.server_answers.ServerTold.{ServerTold}
use Rattle.unitdata.specs.Hearing.{Heard, HeardContent, refuses, says}

module _ {A : Type 0} (s : ObjectSite A) (k : ObjectCore A) (inv : Inv (bacnet A) s k) (d : DeviceState A) (v : IsDevice s k d) where
  abbrev IsIssued : Executed A → Type 0
  IsIssued e = IsOfIssue (bacnet A) s k.book e.asker.station e.asker.invoke_id (station_of d) e.request

  none_is : (e : Executed A) → None ≡ Some e → ⊥
  none_is e x = cc x

  serves_issued : (h : Heard) (plain : PlainApdu) (told : DeviceTold A) (left : DeviceState A) (e : Executed A) → led_to d.net h.way ≡ h.station →
      WasSaid d.server.max_apdu k.book (station_of d) h.station plain → Serves k.book.moment (origin_of h) plain d told left → told.executed ≡ Some e →
      IsIssued e
  serves_issued h plain told left e way said serve is =
      let heard : IsHeardFrom k (station_of d) d.server.max_apdu (origin_of h) serve.apdu = record {
        message = said.message;
        heard = said.heard;
        sayer = said.from_is;
        says = subst (λ (z : PlainApdu). Says d.server.max_apdu z said.message.body) (sym serve.is) said.body;
        named = serve.named;
        way = way;
      } in
      let plan_told = sym (ap (λ (x : ServerTold A). x.executed) serve.step.told_is) ∙ sym (ap (λ (t : DeviceTold A). t.executed) serve.told_is) ∙ is in
      let may : MayBeExecuted k (station_of d) d.server e =
      told_may_be_executed k (station_of d) d.server (origin_of h) serve.apdu serve.step.plan e v.served heard serve.step.planned plan_told in
      let seen : MayExecute (bacnet A) k.book (station_of d) (k.devices (station_of d)) e.request may.remembered =
      subst (λ (z : Device Station (PlainTable A)). MayExecute (bacnet A) k.book (station_of d) z e.request may.remembered) (sym v.served.device) may.may in
      subst (λ (c : Station). IsOfIssue (bacnet A) s k.book c e.asker.invoke_id (station_of d) e.request) may.client
      (subst (λ n. IsOfIssue (bacnet A) s k.book may.remembered.client n (station_of d) e.request) may.key
      (executions.of_issue s k inv (station_of d) e.request may.remembered seen))

  asks_none : (service : ℕ) (octets : List ℕ) (told : DeviceTold A) → AnswersWho k.book.moment d service octets told → told.executed ≡ None
  asks_none service octets told (inl asks) = ap (λ (t : DeviceTold A). t.executed) asks.1
  asks_none service octets told (inr other) = ap (λ (t : DeviceTold A). t.executed) other.1

  content_issued : (h : Heard) (told : DeviceTold A) (left : DeviceState A) (e : Executed A) (c : HeardContent) →
      ((a : PlainApdu) → c ≡ says a → WasSaid d.server.max_apdu k.book (station_of d) h.station a) → led_to d.net h.way ≡ h.station →
      Does k.book.moment (origin_of h) c d told left → told.executed ≡ Some e → IsIssued e
  content_issued h told left e (says (unconfirmed service octets)) said way does is = absurd (none_is e (sym (asks_none service octets told does.0) ∙ is))
  content_issued h told left e (says (confirmed segment accepted segments size invoke service octets)) said way does is =
      serves_issued h _ told left e way (said _ refl) does is
  content_issued h told left e (says (simple_ack invoke service)) said way does is = serves_issued h _ told left e way (said _ refl) does is
  content_issued h told left e (says (complex_ack segment invoke service octets)) said way does is =
      serves_issued h _ told left e way (said _ refl) does is
  content_issued h told left e (says (segment_ack negative server invoke number window)) said way does is =
      serves_issued h _ told left e way (said _ refl) does is
  content_issued h told left e (says (error_pdu invoke service class code first)) said way does is =
      serves_issued h _ told left e way (said _ refl) does is
  content_issued h told left e (says (reject_pdu invoke reason)) said way does is = serves_issued h _ told left e way (said _ refl) does is
  content_issued h told left e (says (abort_pdu server invoke reason)) said way does is = serves_issued h _ told left e way (said _ refl) does is
  content_issued h told left e (refuses rejected) said way does is =
      absurd (none_is e (sym (ap (λ (t : DeviceTold A). t.executed) does.0) ∙ is))

  pub hears_issued : (from : Mac) (to : Target) (npdu : List ℕ) (told : DeviceTold A) (left : DeviceState A) (e : Executed A) →
      BringsWhatWasSaid d.server.max_apdu k.book (station_of d) from to npdu → DeviceHears k.book.moment from to npdu d told left →
      told.executed ≡ Some e → IsIssued e
  hears_issued from to npdu told left e said (inl h) is =
      content_issued h.heard told left e h.heard.content (λ a x. said h.heard a h.brings x)
      (ap (led_to d.net) h.brings.way ∙ led_back d.net from h.heard.station) h.does is
  hears_issued from to npdu told left e said (inr drops) is =
      absurd (none_is e (sym (ap (λ (t : DeviceTold A). t.executed) drops.silent) ∙ is))

pub hearing_is_whole_issue : {A : Type 0} → Wherever A (λ own s w. HearingIsWholeIssue s w)
hearing_is_whole_issue {A} own s w site there stands place d from to npdu x at said whole =
    let v : IsDevice s w.core d = all_at (λ z. IsDevice s w.core z) w.devices place d stands.devices at in
    let h = whole.heard in
    let was = said h _ whole.brings whole.content in
    let heard : IsHeardFrom w.core (station_of d) d.server.max_apdu (origin_of h) whole.apdu = record {
      message = was.message;
      heard = was.heard;
      sayer = was.from_is;
      says = was.body;
      named = whole.named;
      way = ap (led_to d.net) whole.brings.way ∙ led_back d.net from h.station;
    } in
    let asked = whole_was_asked w.core (station_of d) d.server (origin_of h) whole.apdu x v.served heard whole.whole in
    let head = head_of d.server.max_apdu x.asked.limits x.asked.service in
    whole_requests (bacnet A) s (object_laws A) w.core (kept_at s w.core site there) (station_of d) x.asked.asker.station x.asked.asker.invoke_id head x.octets
    (subst (λ (z : Device Station (PlainTable A)). IsAsked w.core.book (station_of d) z x.asked.asker.station x.asked.asker.invoke_id head x.octets)
    (sym v.served.device) asked)

pub hearing_executes_issued : {A : Type 0} → Wherever A (λ own s w. HearingExecutesIssued s w)
hearing_executes_issued own s w site reached stands place d left from to npdu told e there said hears is =
    hears_issued s w.core (kept_at s w.core site reached) d (all_at (λ z. IsDevice s w.core z) w.devices place d stands.devices there)
    from to npdu told left e said hears is

pub hearing_tells_of_issues : {A : Type 0} → Wherever A (λ own s w. HearingTellsOfIssues own s w)
hearing_tells_of_issues own s w site reached stands place c next from to npdu told there said hears =
    let is : IsClient own w.core c = all_at (λ z. IsClient own w.core z) w.clients place c stands.clients there in
    let done = hearing own s w.core from to npdu c told next is said hears in
    all_weaken (λ t. ClosesHonestly own w.core.book (client.station_of c) c.machine.open_ones t) (λ t. IsOfItsIssue s w c t) told.outcomes
    (outcomes.of_issue own s w stands (kept_at s w.core site reached) c is) done.closed
