-- What is promised wherever honest happenings led.
use Rattle.std.proofs.Common.{◌≡◌, refl, sym, ap, subst, ◌∙◌, List, [], ◌∷◌}
use Rattle.std.specs.List.{AllByRecursion}
use Rattle.headline_device.specs.Devices.{IsDevice, station_of}
use Rattle.headline_device.specs.device.Device.{DeviceState}
use Rattle.headline.proofs.Laws.{executed_issues, outcome_issues, tables_of, transaction_issues, whole_answers, whole_requests}
use Rattle.headline.proofs.Whole.{Inv, from_start}
use Rattle.headline.specs.Happenings.{run, start}
use Rattle.headline.specs.Honest.{IsHonestRun}
use Rattle.headline.specs.Promised.{AnswersAreWhole, AreWhatExecutionsLeave, ExecutesWhatIsIssued, OutcomesAreOfIssues, RequestsAreWhole}
use Rattle.headline.specs.Promised.{TransactionsAreOfIssues}
use Rattle.headline.specs.Protocol.{IsSite}
use Rattle.headline.specs.Stations.{Device}
use Rattle.history.specs.Legal.{AnswersWereExecuted, AreClosedOnce, AreExecutedOnce, AreNumbered, IsWhatExecutionsLeave, StandAfterIssue}
use Rattle.npdu.specs.declared.mac.Station.{Station}
use Rattle.headline_client.proofs.headline_bacnet.Refining.{refined_then}
use Rattle.headline_client.specs.headline_bacnet.Laws.{object_laws}
use Rattle.headline_client.specs.headline_bacnet.Protocol.{bacnet}
use Rattle.headline_client.specs.headline_bacnet.Refined.{ObjectCore, ObjectSite, Refined}
use Rattle.object_model.specs.Objects.{PlainTable}
use Rattle.headline_client.specs.services.Asked.{left_by, replied}
use Rattle.headline_site.specs.AllStations.{AllStations}
use Rattle.headline_site.specs.Laws.{BeginsReached, GoesThen, IsReached, ReachedThen, TablesAreLeft, Wherever}

module _ {A : Type 0} where
  pub reached_by : (s : ObjectSite A) (k : ObjectCore A) → Refined s (start (bacnet A) s) k → IsReached s k
  reached_by s k r = record { happenings = r.happenings; honest = r.honest; same = r.same }

  by_reached : (s : ObjectSite A) (k : ObjectCore A) → IsReached s k → Refined s (start (bacnet A) s) k
  by_reached s k r = record { happenings = r.happenings; honest = r.honest; same = r.same }

  pub begins_reached : BeginsReached A
  begins_reached s w begun = subst (λ (k : ObjectCore A). IsReached s k) (sym begun.core) (record { happenings = []; honest = tt; same = refl })

  pub reached_then : ReachedThen A
  reached_then own s w v there goes =
      reached_by s v.core (refined_then (bacnet A) s (start (bacnet A) s) w.core v.core (by_reached s w.core there) goes.refined)

  pub goes_then : GoesThen A
  goes_then own s w u v a b = record { refined = refined_then (bacnet A) s w.core u.core v.core a.refined b.refined; stands = b.stands }

  -- the invariants of the promise hold there
  pub kept_at : (s : ObjectSite A) (k : ObjectCore A) → IsSite (bacnet A) s → IsReached s k → Inv (bacnet A) s k
  kept_at s k site there =
      subst (λ (z : ObjectCore A). Inv (bacnet A) s z) (sym there.same) (from_start (bacnet A) s (object_laws A) site there.happenings there.honest)

  pub numbered_at : Wherever A (λ own s w. AreNumbered w.core.book.history)
  numbered_at own s w site there stands = (kept_at s w.core site there).good.numbered

  pub after_issue_at : Wherever A (λ own s w. StandAfterIssue w.core.book.history)
  after_issue_at own s w site there stands = (kept_at s w.core site there).good.after_issue

  pub executed_at : Wherever A (λ own s w. AreExecutedOnce w.core.book.history)
  executed_at own s w site there stands = (kept_at s w.core site there).good.once

  pub answered_at : Wherever A (λ own s w. AnswersWereExecuted w.core.book.history)
  answered_at own s w site there stands = (kept_at s w.core site there).good.answers

  pub closed_at : Wherever A (λ own s w. AreClosedOnce w.core.book.history)
  closed_at own s w site there stands = (kept_at s w.core site there).good.closed_once

  pub executed_issue_at : Wherever A (λ own s w. ExecutesWhatIsIssued (bacnet A) s w.core)
  executed_issue_at own s w site there stands = executed_issues (bacnet A) s (object_laws A) w.core (kept_at s w.core site there)

  pub opened_issue_at : Wherever A (λ own s w. TransactionsAreOfIssues (bacnet A) s w.core)
  opened_issue_at own s w site there stands = transaction_issues (bacnet A) s w.core (kept_at s w.core site there)

  pub closed_issue_at : Wherever A (λ own s w. OutcomesAreOfIssues (bacnet A) s w.core)
  closed_issue_at own s w site there stands = outcome_issues (bacnet A) s (object_laws A) w.core (kept_at s w.core site there)

  pub requests_whole_at : Wherever A (λ own s w. RequestsAreWhole (bacnet A) s w.core)
  requests_whole_at own s w site there stands = whole_requests (bacnet A) s (object_laws A) w.core (kept_at s w.core site there)

  pub answers_whole_at : Wherever A (λ own s w. AnswersAreWhole (bacnet A) s w.core)
  answers_whole_at own s w site there stands = whole_answers (bacnet A) s (object_laws A) w.core (kept_at s w.core site there)

  -- the objects of each device are those of the core
  left_each : (s : ObjectSite A) (w : AllStations A) (ds : List (DeviceState A)) → AreWhatExecutionsLeave (bacnet A) s w.core →
      AllByRecursion (λ d. IsDevice s w.core d) ds →
      AllByRecursion (λ d. IsWhatExecutionsLeave replied left_by d.instance (s.opening (station_of d)) d.server.table w.core.book.history) ds
  left_each s w [] all is = tt
  left_each s w (d ∷ ds) all is = (
    subst (λ (z : Device Station (PlainTable A)). IsWhatExecutionsLeave replied left_by d.instance (s.opening (station_of d)) z.table w.core.book.history)
        is.0.served.device (all (station_of d) d.instance is.0.instance),
    left_each s w ds all is.1,
  )

  pub tables_left_at : Wherever A (λ own s w. TablesAreLeft s w)
  tables_left_at own s w site there stands =
      left_each s w w.devices (tables_of (bacnet A) s w.core (kept_at s w.core site there)) stands.devices
