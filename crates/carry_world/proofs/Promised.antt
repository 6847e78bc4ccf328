-- What is promised of a world.
use Rattle.std.proofs.Common.{◌≡◌, ◌∙◌, refl, sym, ap, subst, ℕ, List, [], ◌∷◌, ◌++◌, Option, Some}
use Rattle.carry.specs.Things.{AreCarried, Thing}
use Rattle.carry_said.specs.client.Client.{ClientState}
use Rattle.carry_said.specs.client_tsm.Waking.{woken}
use Rattle.carry_said.specs.client_tsm.declared.plan.TransactionOutcome.{TransactionOutcome}
use Rattle.carry_said.specs.headline_site.headline.Happenings.{Fails, Gives, Outcome}
use Rattle.carry_said.specs.headline_site.headline.Promised.{IsExecutedReply}
use Rattle.carry_said.specs.headline_site.headline.Protocol.{IsSite}
use Rattle.carry_said.specs.headline_site.headline_bacnet.Protocol.{bacnet}
use Rattle.carry_said.specs.headline_site.headline_bacnet.Refined.{ObjectSite}
use Rattle.carry_said.specs.headline_site.headline_bacnet.Stations.{longest_of}
use Rattle.carry_said.proofs.headline_site.headline_client.Places.{all_at, all_weaken}
use Rattle.carry_said.specs.headline_site.headline_client.Safe as client_side
use Rattle.carry_said.specs.headline_site.headline_client.Told.{outcome_of}
use Rattle.carry_said.specs.headline_site.headline_device.Devices.{IsDevice, station_of}
use Rattle.carry_said.proofs.headline_site.Hearings.{hearing_executes_issued, hearing_is_whole_issue, hearing_tells_of_issues}
use Rattle.carry_said.proofs.headline_site.Outcomes.{woken_at}
use Rattle.carry_said.proofs.headline_site.Reached as headline_at
use Rattle.carry_said.proofs.headline_site.Reached.{after_issue_at, answered_at, closed_at, numbered_at, reached_by, tables_left_at}
use Rattle.carry_said.specs.headline_site.AllStations.{AllStations}
use Rattle.carry_said.specs.headline_site.Laws as headline_site
use Rattle.carry_said.specs.headline_site.Laws.{IsReached}
use Rattle.history.specs.Legal.{AnswersWereExecuted, AreClosedOnce, AreExecutedOnce, AreNumbered, IsWhatExecutionsLeave, StandAfterIssue}
use Rattle.history.specs.Lists.{Has}
use Rattle.services.specs.Asked.{left_by, replied}
use Rattle.std.specs.List.{AllByRecursion}
use Rattle.history.specs.declared.Entry.TheVariants.{Issue}
use Rattle.inside.specs.Inside.{Said}
use Rattle.npdu.specs.declared.mac.Mac.{Mac}
use Rattle.npdu.specs.declared.parcel.Parcel.{Parcel}
use Rattle.primitives.specs.declared.plain_data.Reply.{Reply}
use Rattle.carry_world.specs.Internetwork.{Internetwork, IsDelivered}
use Rattle.carry_world.specs.Laws.{AllHearSaid, Always, ExecutedIsIssued, IsExecuted, IsFresh, IsOfItsIssue, OutcomesAreOfIssues, StaysSo, StepLeads}
use Rattle.carry_world.specs.Laws.{StepsLeadOn, WholeIsIssued, WokenAreOfIssues}
use Rattle.carry_world.specs.PlainSteps.{ArePlainSteps, StepsTo, last_world}
use Rattle.carry_world.specs.PlainWorld.{Delivers, PlainWorld}
use Rattle.carry_world.proofs.Kept.{Inv, client_brings, device_brings, heard_as_said}
use Rattle.carry_world.proofs.Keys.{last_same}
use Rattle.carry_world.proofs.Seeing.{Seen, all_seen, fresh_seen, kept_of}

-- what the core says of the history, with the tables as the code's object machine leaves them
pub record IsOrdered {A : Type 0} (s : ObjectSite A) (w : PlainWorld A) : Type 0 where
  pub numbered : AreNumbered w.history
  pub after_issue : StandAfterIssue w.history
  pub executed : AreExecutedOnce w.history
  pub answered : AnswersWereExecuted w.history
  pub closed : AreClosedOnce w.history
  pub tables : AllByRecursion
      (λ d. IsWhatExecutionsLeave replied left_by d.instance (s.opening (station_of d)) d.server.table w.history) w.devices

same_instance : (m n : ℕ) (o : Option ℕ) → o ≡ Some m → o ≡ Some n → m ≡ n
same_instance m n o a b = cc (a, b)

module _ {A : Type 0} where
  seen_of : (s : ObjectSite A) (w v : PlainWorld A) → IsFresh s w → StepsTo s w v → Seen s v
  seen_of s w v fresh to =
      subst (λ (z : PlainWorld A). Seen s z) (sym to.last) (all_seen s to.between w (fresh_seen s w fresh) to.steps)

  -- what is told, of a world that is seen as stations
  module _ (s : ObjectSite A) (w : AllStations A) (ts : List (Thing A)) (l : List Said) (inv : Inv s w ts l) (site : IsSite (bacnet A) s) where
    abbrev net_of_it : Internetwork A
    net_of_it = record { world = w; things = ts; said = l }

    handed : (net : ℕ) (mac : Mac) (p : Parcel A) → Delivers (kept_of w ts l) net mac p → IsDelivered net_of_it net mac p
    handed net mac p k = record { thing = k.thing; there = k.there; on = k.on; bears = k.bears; reaches = k.reaches; young = k.young }

    reached : IsReached s w.core
    reached = reached_by s w.core inv.refined

    executed_at : ExecutedIsIssued (kept_of w ts l)
    executed_at place d left p told e there delivered hears is =
        let stands : IsDevice s w.core d = all_at (λ z. IsDevice s w.core z) w.devices place d inv.stands.devices there in
        let of = hearing_executes_issued longest_of s w site reached inv.stands place d left p.from p.to p.npdu told e there
        (device_brings s net_of_it inv place d p there (handed d.net d.mac p delivered)) hears is in
        record {
          i = of.i;
          moment = of.moment;
          last = last_same e.asker.station e.asker.invoke_id w.core.book.issues ∙ of.last;
          issue = subst (λ n. Has w.core.book.history (Issue of.i e.asker.station n e.request of.moment))
              (same_instance of.instance d.instance (s.instance_of (station_of d)) of.is_instance stands.instance) of.issue;
        }

    whole_at : WholeIsIssued (kept_of w ts l)
    whole_at place d p x there delivered whole =
        let stands : IsDevice s w.core d = all_at (λ z. IsDevice s w.core z) w.devices place d inv.stands.devices there in
        let q = hearing_is_whole_issue longest_of s w site reached inv.stands place d p.from p.to p.npdu x there
        (device_brings s net_of_it inv place d p there (handed d.net d.mac p delivered)) whole in
        record {
          i = q.of.i;
          request = q.request;
          moment = q.of.moment;
          last = last_same x.asked.asker.station x.asked.asker.invoke_id w.core.book.issues ∙ q.of.last;
          issue = subst (λ n. Has w.core.book.history (Issue q.of.i x.asked.asker.station n q.request q.of.moment))
              (same_instance q.of.instance d.instance (s.instance_of (station_of d)) q.of.is_instance stands.instance) q.of.issue;
          service = q.service;
          octets = q.whole;
        }

    reply_at : (i : ℕ) (o : Outcome (Reply A)) → IsExecutedReply w.core.book i o → IsExecuted (kept_of w ts l) i o
    reply_at i (Gives r) h = h
    reply_at i (Fails why) h = tt

    of_issue_at : (c : ClientState A) (t : TransactionOutcome A) → headline_site.IsOfItsIssue s w c t → IsOfItsIssue (kept_of w ts l) c t
    of_issue_at c t k = record {
      transaction = k.transaction;
      there = k.there;
      id = k.id;
      i = k.of.i;
      instance = k.of.instance;
      moment = k.of.moment;
      last = last_same (client_side.station_of c) k.transaction.invoke_id w.core.book.issues ∙ k.of.last;
      issue = k.of.issue;
      executed = reply_at k.of.i (outcome_of t.outcome) k.executed;
    }

    outcomes_at : OutcomesAreOfIssues (kept_of w ts l)
    outcomes_at place c next p told there delivered hears =
        all_weaken (λ t. headline_site.IsOfItsIssue s w c t) (λ t. IsOfItsIssue (kept_of w ts l) c t) told.outcomes (of_issue_at c)
        (hearing_tells_of_issues longest_of s w site reached inv.stands place c next p.from p.to p.npdu told there
        (client_brings s net_of_it inv place c p there (handed c.net c.mac p delivered)) hears)

    wakes_at : WokenAreOfIssues (kept_of w ts l)
    wakes_at place c there =
        all_weaken (λ t. headline_site.IsOfItsIssue s w c t) (λ t. IsOfItsIssue (kept_of w ts l) c t)
        (woken w.core.book.moment c.machine.open_ones).told (of_issue_at c) (woken_at longest_of s w site reached inv.stands place c there)

    heard_at : AllHearSaid (kept_of w ts l)
    heard_at x p h a delivered brings content = heard_as_said s net_of_it inv x p h a (handed x.net x.mac p delivered) brings content

    ordered_at : IsOrdered s (kept_of w ts l)
    ordered_at = record {
      numbered = numbered_at longest_of s w site reached inv.stands;
      after_issue = after_issue_at longest_of s w site reached inv.stands;
      executed = headline_at.executed_at longest_of s w site reached inv.stands;
      answered = answered_at longest_of s w site reached inv.stands;
      closed = closed_at longest_of s w site reached inv.stands;
      tables = tables_left_at longest_of s w site reached inv.stands;
    }

  -- what holds of what is seen of stations holds
  over : (Holds : ObjectSite A → PlainWorld A → Type 0) →
      ((s : ObjectSite A) (q : PlainWorld A) → IsSite (bacnet A) s → (seen : Seen s q) → Holds s (kept_of seen.world q.things q.said)) → Always A Holds
  over Holds holds s w v site fresh to =
      let seen = seen_of s w v fresh to in
      subst (λ (z : PlainWorld A). Holds s z) (sym seen.is) (holds s v site seen)

  pub is_ordered : Always A (λ s w. IsOrdered s w)
  is_ordered = over (λ s w. IsOrdered s w) (λ s q site seen. ordered_at s seen.world q.things q.said seen.inv site)

  pub all_said : Always A (λ s w. AreCarried w.said w.things)
  all_said = over (λ s w. AreCarried w.said w.things) (λ s q site seen. seen.inv.carried)

  pub executed_is_issued : Always A (λ s w. ExecutedIsIssued w)
  executed_is_issued = over (λ s w. ExecutedIsIssued w) (λ s q site seen. executed_at s seen.world q.things q.said seen.inv site)

  pub whole_is_issued : Always A (λ s w. WholeIsIssued w)
  whole_is_issued = over (λ s w. WholeIsIssued w) (λ s q site seen. whole_at s seen.world q.things q.said seen.inv site)

  pub outcomes_are_of_issues : Always A (λ s w. OutcomesAreOfIssues w)
  outcomes_are_of_issues = over (λ s w. OutcomesAreOfIssues w) (λ s q site seen. outcomes_at s seen.world q.things q.said seen.inv site)

  pub woken_are_of_issues : Always A (λ s w. WokenAreOfIssues w)
  woken_are_of_issues = over (λ s w. WokenAreOfIssues w) (λ s q site seen. wakes_at s seen.world q.things q.said seen.inv site)

  pub all_hear : Always A (λ s w. AllHearSaid w)
  all_hear = over (λ s w. AllHearSaid w) (λ s q site seen. heard_at s seen.world q.things q.said seen.inv site)

  -- steps one after another
  pub stays_so : StaysSo A
  stays_so s w = record { between = []; steps = tt; last = refl }

  pub step_leads : StepLeads A
  step_leads s w v step = record { between = v ∷ []; steps = (step, tt); last = refl }

  more_steps : (s : ObjectSite A) (us vs : List (PlainWorld A)) (w : PlainWorld A) → ArePlainSteps s us w → ArePlainSteps s vs (last_world us w) →
      ArePlainSteps s (us ++ vs) w
  more_steps s [] vs w a b = b
  more_steps s (u ∷ us) vs w a b = (a.0, more_steps s us vs u a.1 b)

  last_more : (us vs : List (PlainWorld A)) (w : PlainWorld A) → last_world (us ++ vs) w ≡ last_world vs (last_world us w)
  last_more [] vs w = refl
  last_more (u ∷ us) vs w = last_more us vs u

  pub steps_lead_on : StepsLeadOn A
  steps_lead_on s w u v a b = record {
    between = a.between ++ b.between;
    steps = more_steps s a.between b.between w a.steps (subst (λ (z : PlainWorld A). ArePlainSteps s b.between z) a.last b.steps);
    last = b.last ∙ ap (λ (z : PlainWorld A). last_world b.between z) a.last ∙ sym (last_more a.between b.between w);
  }
