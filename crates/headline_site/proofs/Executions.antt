-- What a device executes was issued to it.
use Rattle.std.proofs.Common.{◌≡◌, refl, sym, subst, [], ◌∷◌, ◌++◌, Some, None}
use Rattle.apdu.specs.declared.sizes.MaxApdu.{MaxApdu}
use Rattle.headline_device.specs.Devices.{IsDevice, station_of}
use Rattle.headline.proofs.Laws.{executed_issues}
use Rattle.headline.proofs.Whole.{Inv}
use Rattle.headline.specs.Honest.{IsExecuted, MayExecute}
use Rattle.headline.specs.Promised.{IsOfIssue}
use Rattle.headline.specs.Stations.{Device, Record}
use Rattle.history.proofs.Lists.{has_front, has_last, has_split}
use Rattle.history.specs.Book.{Answer}
use Rattle.npdu.specs.declared.mac.Station.{Station}
use Rattle.headline_client.specs.headline_bacnet.Laws.{object_laws}
use Rattle.headline_client.specs.headline_bacnet.Protocol.{bacnet}
use Rattle.headline_client.specs.headline_bacnet.Refined.{ObjectSite, ObjectCore}
use Rattle.object_model.specs.Objects.{PlainTable}
use Rattle.primitives.specs.declared.plain_data.Request.{Request}
use Rattle.headline_device.proofs.headline_server.Executing.{told_may_be_executed}
use Rattle.headline_device.specs.headline_server.Laws.{IsHeardFrom, MayBeExecuted}
use Rattle.headline_client.specs.server_answers.declared.asked.Origin.{Origin}
use Rattle.headline_client.specs.services.Asked.{left_by}
use Rattle.headline_client.proofs.Places.{all_at}
use Rattle.headline_site.specs.Fair.{Stands}
use Rattle.headline_site.specs.Laws.{Always, ExecutedIsIssued}
use Rattle.headline_site.specs.AllStations.{AllStations, asked_plan, steps}
use Rattle.headline_site.proofs.Promised.{kept}
use Rattle.headline_site.proofs.Steps.{begins_well, steps_go}

none_answer : (a : Answer) → None ≡ Some a → ⊥
none_answer a e = cc e

-- what may be executed is of an issue, whatever is remembered of it
module _ {A : Type 0} (s : ObjectSite A) (k : ObjectCore A) (inv : Inv (bacnet A) s k) (d : Station) where
  -- the least that may be remembered of it
  abbrev least : Record Station → Record Station
  least r = record { client = r.client; invoke_id = r.invoke_id; answer = None; room = r.room; moment = k.book.moment }

  abbrev after_it : Request A → Record Station → Device Station (PlainTable A)
  after_it q r = record (k.devices d) { records = (k.devices d).records ++ least r ∷ []; table = left_by (k.devices d).table q }

  least_may : (q : Request A) (r : Record Station) → MayExecute (bacnet A) k.book d (k.devices d) q r → MayExecute (bacnet A) k.book d (k.devices d) q (least r)
  least_may q r may = record {
    head = may.head;
    octets = may.octets;
    asked = may.asked;
    means = may.means;
    listens = may.listens;
    anew = may.anew;
    room =
        may.room;
  }

  least_is : (q : Request A) (r : Record Station) → IsExecuted (bacnet A) k.book.moment (k.devices d) q (least r) (after_it q r)
  least_is q r = record {
    moment = refl;
    answer = λ a e. absurd (none_answer a e);
    table = refl;
    deaf = refl;
    fresh = has_last (k.devices d).records (least r);
    records = λ x h. has_split (k.devices d).records (least r) h;
    living = λ x h young. has_front (k.devices d).records (least r ∷ []) h;
    gatherings = λ a h. h;
  }

  pub of_issue : (q : Request A) (r : Record Station) → MayExecute (bacnet A) k.book d (k.devices d) q r → IsOfIssue (bacnet A) s k.book r.client r.invoke_id d q
  of_issue q r may = executed_issues (bacnet A) s (object_laws A) k inv d q (least r) (after_it q r) (least_may q r may, least_is q r)

executed_is_issued_at : {A : Type 0} (own : Station → MaxApdu) (s : ObjectSite A) (w : AllStations A) → Stands own s w → Inv (bacnet A) s w.core →
    ExecutedIsIssued s w
executed_is_issued_at {A} own s w at inv place m way by_broadcast apdu found d e there fair is =
    let v : IsDevice s w.core d = all_at (λ z. IsDevice s w.core z) w.devices place d at.devices there in
    let from : Origin = record { station = m.from; way = way; by_broadcast = by_broadcast } in
    let heard : IsHeardFrom w.core (station_of d) d.server.max_apdu from apdu =
    record { message = m; heard = fair.heard; sayer = refl; says = fair.body; named = fair.named; way = fair.back } in
    let may : MayBeExecuted w.core (station_of d) d.server e =
    told_may_be_executed w.core (station_of d) d.server from apdu (asked_plan w.core.book.moment from apdu found d) e v.served heard
    (record { found = found; means = fair.means; is = refl }) is in
    let seen : MayExecute (bacnet A) w.core.book (station_of d) (w.core.devices (station_of d)) e.request may.remembered =
    subst (λ (z : Device Station (PlainTable A)). MayExecute (bacnet A) w.core.book (station_of d) z e.request may.remembered) (sym v.served.device) may.may in
    subst (λ (c : Station). IsOfIssue (bacnet A) s w.core.book c e.asker.invoke_id (station_of d) e.request) may.client
    (subst (λ n. IsOfIssue (bacnet A) s w.core.book may.remembered.client n (station_of d) e.request) may.key
    (of_issue s w.core inv (station_of d) e.request may.remembered seen))

pub executed_is_issued : {A : Type 0} → Always A (λ s w. ExecutedIsIssued s w)
executed_is_issued own s w es site begun fair =
    executed_is_issued_at own s (steps own s es w) (steps_go own s es w (begins_well own s w begun) fair).stands (kept own s w es site begun fair)
