-- What is promised over every fair list of events.
use Rattle.std.proofs.Common.{sym, ap, subst, ◌∙◌, List}
use Rattle.headline.proofs.Whole.{Inv}
use Rattle.headline.specs.Happenings.{run}
use Rattle.headline.specs.Honest.{IsHonestRun}
use Rattle.headline.specs.Promised.{AnswersAreWhole, ExecutesWhatIsIssued, OutcomesAreOfIssues, RequestsAreWhole, TransactionsAreOfIssues}
use Rattle.history.specs.Legal.{AnswersWereExecuted, AreClosedOnce, AreExecutedOnce, AreNumbered, StandAfterIssue}
use Rattle.headline_client.proofs.headline_bacnet.Refining.{refined_stays}
use Rattle.headline_client.specs.headline_bacnet.Protocol.{bacnet}
use Rattle.headline_client.specs.headline_bacnet.Refined.{ObjectCore, ObjectSite}
use Rattle.headline_site.specs.AllStations.{AllStations, steps}
use Rattle.headline_site.specs.Laws.{Always, IsReached, SaidStays, TablesAreLeft, Wherever}
use Rattle.headline_site.proofs.Reached as wherever
use Rattle.headline_site.proofs.Reached.{kept_at}
use Rattle.headline_site.proofs.Steps.{begins_well, step_goes, steps_go}

module _ {A : Type 0} where
  pub reached : Always A (λ s w. IsReached s w.core)
  reached own s w es site begun fair =
      let gone = steps_go own s es w (begins_well own s w begun) fair in
      record {
        happenings = gone.refined.happenings;
        honest = subst (λ (k : ObjectCore A). IsHonestRun (bacnet A) s gone.refined.happenings k) begun.core gone.refined.honest;
        same = gone.refined.same ∙ ap (λ (k : ObjectCore A). run (bacnet A) s gone.refined.happenings k) begun.core;
      }

  -- the invariants of the promise hold there
  pub kept : Always A (λ s w. Inv (bacnet A) s w.core)
  kept own s w es site begun fair = kept_at s (steps own s es w).core site (reached own s w es site begun fair)

  -- what holds wherever honest happenings led holds there
  over : (Holds : ObjectSite A → AllStations A → Type 0) → Wherever A (λ own s w. Holds s w) → Always A Holds
  over Holds holds own s w es site begun fair =
      holds own s (steps own s es w) site (reached own s w es site begun fair) (steps_go own s es w (begins_well own s w begun) fair).stands

  pub numbered : Always A (λ s w. AreNumbered w.core.book.history)
  numbered = over (λ s w. AreNumbered w.core.book.history) wherever.numbered_at

  pub after_issue : Always A (λ s w. StandAfterIssue w.core.book.history)
  after_issue = over (λ s w. StandAfterIssue w.core.book.history) wherever.after_issue_at

  pub executed : Always A (λ s w. AreExecutedOnce w.core.book.history)
  executed = over (λ s w. AreExecutedOnce w.core.book.history) wherever.executed_at

  pub answered : Always A (λ s w. AnswersWereExecuted w.core.book.history)
  answered = over (λ s w. AnswersWereExecuted w.core.book.history) wherever.answered_at

  pub closed : Always A (λ s w. AreClosedOnce w.core.book.history)
  closed = over (λ s w. AreClosedOnce w.core.book.history) wherever.closed_at

  pub executed_issue : Always A (λ s w. ExecutesWhatIsIssued (bacnet A) s w.core)
  executed_issue = over (λ s w. ExecutesWhatIsIssued (bacnet A) s w.core) wherever.executed_issue_at

  pub opened_issue : Always A (λ s w. TransactionsAreOfIssues (bacnet A) s w.core)
  opened_issue = over (λ s w. TransactionsAreOfIssues (bacnet A) s w.core) wherever.opened_issue_at

  pub closed_issue : Always A (λ s w. OutcomesAreOfIssues (bacnet A) s w.core)
  closed_issue = over (λ s w. OutcomesAreOfIssues (bacnet A) s w.core) wherever.closed_issue_at

  pub requests_whole : Always A (λ s w. RequestsAreWhole (bacnet A) s w.core)
  requests_whole = over (λ s w. RequestsAreWhole (bacnet A) s w.core) wherever.requests_whole_at

  pub answers_whole : Always A (λ s w. AnswersAreWhole (bacnet A) s w.core)
  answers_whole = over (λ s w. AnswersAreWhole (bacnet A) s w.core) wherever.answers_whole_at

  pub tables_left : Always A (λ s w. TablesAreLeft s w)
  tables_left = over (λ s w. TablesAreLeft s w) wherever.tables_left_at

  pub stays_said : SaidStays A
  stays_said own s w e at fair = refined_stays (bacnet A) s w.core _ (step_goes own s w e at fair).refined
