-- What a client tells is of its issues.
use Rattle.std.proofs.Common.{◌≡◌, refl, ap, ◌∙◌, ℕ, suc, List, take, drop, map, Some}
use Rattle.std.specs.Prelude.{slice_get}
use Rattle.apdu.specs.declared.sizes.MaxApdu.{MaxApdu}
use Rattle.headline_client.specs.client.Client.{ClientState}
use Rattle.headline_client.specs.client_tsm.Hearing.{heard_of}
use Rattle.headline_client.specs.client_tsm.Open.{Open}
use Rattle.headline_client.specs.client_tsm.Waking.{woken}
use Rattle.headline_client.specs.client_tsm.declared.plan.TransactionOutcome.{TransactionOutcome}
use Rattle.headline.proofs.Laws.{outcome_issues}
use Rattle.headline.proofs.Whole.{Inv}
use Rattle.headline.specs.Stations.{Client}
use Rattle.npdu.specs.declared.mac.Station.{Station}
use Rattle.headline_client.specs.headline_bacnet.Laws.{object_laws}
use Rattle.headline_client.specs.headline_bacnet.Protocol.{bacnet}
use Rattle.headline_client.specs.headline_bacnet.Refined.{ObjectSite}
use Rattle.primitives.specs.declared.plain_data.Request.{Request}
use Rattle.headline_client.proofs.Acting.{IsAt}
use Rattle.headline_client.proofs.Hearing.{plan_arm}
use Rattle.headline_client.proofs.Hears.{body_is}
use Rattle.headline_client.proofs.Places.{all_at, all_weaken, split_at, split_map}
use Rattle.headline_client.proofs.Waking.{wake}
use Rattle.headline_client.specs.Laws.{ClosesHonestly, IsClient}
use Rattle.headline_client.specs.Safe.{safe_transaction, station_of}
use Rattle.headline_client.specs.Told.{outcome_of}
use Rattle.headline_site.specs.Fair.{Stands}
use Rattle.headline_site.specs.Laws.{HeardIsOfIssues, IsOfItsIssue, OutcomesAreOfIssues, Wherever, WokenIsOfIssues}
use Rattle.headline_site.specs.AllStations.{AllStations, heard_plan, steps}
use Rattle.headline_site.proofs.Promised.{kept}
use Rattle.headline_site.proofs.Reached.{kept_at}
use Rattle.headline_site.proofs.Steps.{begins_well, steps_go}

module _ {A : Type 0} (own : Station → MaxApdu) (s : ObjectSite A) (w : AllStations A) (at : Stands own s w) (inv : Inv (bacnet A) s w.core) where
  its : (place : ℕ) (c : ClientState A) → slice_get w.clients place ≡ Some c → IsClient own w.core c
  its place c there = all_at (λ z. IsClient own w.core z) w.clients place c at.clients there

  pub of_issue : (c : ClientState A) → IsClient own w.core c → (t : TransactionOutcome A) → ClosesHonestly own w.core.book (station_of c) c.machine.open_ones t →
      IsOfItsIssue s w c t
  of_issue c is t h =
      let o : Open A = h.transaction in
      let os : List (Open A) = c.machine.open_ones in
      let before : List (Open A) = take h.there.place os in
      let behind : List (Open A) = drop (suc h.there.place) os in
      let found = outcome_issues (bacnet A) s (object_laws A) w.core inv (station_of c) (map (safe_transaction own) before) (safe_transaction own o)
      (map (safe_transaction own) behind) (outcome_of t.outcome) (record {
        place = ap (λ (z : Client Station (Request A)). z.transactions) is.seen
            ∙ split_map (safe_transaction own) os before behind o (split_at os h.there.place o h.there.at_place);
        may = h.may;
      }) in
      record { transaction = o; there = h.there; id = h.id; of = found.0; executed = found.1 }

  heard_of_issues : HeardIsOfIssues own s w
  heard_of_issues place m apdu found c there fair =
      let is = its place c there in
      let at_c : IsAt own s w.core (station_of c) c.bindings c.machine = record { seen = is.seen; kept = is.kept.transactions } in
      let plan = heard_plan w.core.book.moment m.from apdu found c in
      let acted = plan_arm own s w.core (station_of c) c.bindings c.machine at_c m fair.heard m.from (heard_of apdu)
      (body_is A (own (station_of c)) apdu m.body fair.named fair.body) plan (record { found = found; means = fair.means; is = refl }) in
      all_weaken (λ t. ClosesHonestly own w.core.book (station_of c) c.machine.open_ones t) (λ t. IsOfItsIssue s w c t) plan.told (of_issue c is) acted.closed

  woken_of_issues : WokenIsOfIssues own s w
  woken_of_issues place c there =
      let is = its place c there in
      let acted = wake own s w.core (station_of c) c.bindings c.machine (record { seen = is.seen; kept = is.kept.transactions }) in
      all_weaken (λ t. ClosesHonestly own w.core.book (station_of c) c.machine.open_ones t) (λ t. IsOfItsIssue s w c t)
      (woken w.core.book.moment c.machine.open_ones).told (of_issue c is) acted.closed

pub outcomes_of_issues : {A : Type 0} → OutcomesAreOfIssues A
outcomes_of_issues own s w es site begun fair =
    let gone = steps_go own s es w (begins_well own s w begun) fair in
    let inv = kept own s w es site begun fair in
    (heard_of_issues own s (steps own s es w) gone.stands inv, woken_of_issues own s (steps own s es w) gone.stands inv)

-- wherever honest happenings led, where a client wakes
pub woken_at : {A : Type 0} → Wherever A (λ own s w. WokenIsOfIssues own s w)
woken_at own s w site there stands = woken_of_issues own s w stands (kept_at s w.core site there)
