use Rattle.std.proofs.Common.{inr, refl, ap, subst, Option}
use Rattle.bus_traffic.specs.declared.telling.Telling.{Telling}
use Rattle.runner.proofs.HearingLaws.{hears_next, meets_nobody}
use Rattle.runner.proofs.hearing.next_hear.Goals as goal
use Rattle.runner.specs.Hearing.{HearsThemIfAny}
use Rattle.simulator.specs.world.site_events.declared.event.Event.{Event}

pub returns-in-Some-event-clause-next : goal.returns-in-Some-event-clause-next
returns-in-Some-event-clause-next g c =
    hears_next c.buses.result.now c.args.world.now c.moment-now.result c.args.heard.now
    (record { turn = c.turn_behind-heard.result; before = c.args.heard.now.before }) c.in-Some.next.bus.now
    c.in-Some.next.recent.now c.in-Some.next.ear_place c.in-Some.next.ear.now c.in-Some-event.event c.buses.ensures
    c.moment-now.ensures c.in-Some.ensures.next c.turn_behind-heard.ensures.fits
    (ap (λ (t : Telling). record { turn = t; before = c.args.heard.now.before }) c.turn_behind-heard.ensures.turn)
    (subst (λ (e : Option (Event _)). HearsThemIfAny c.args.world.now c.in-Some.next.bus.now.net
    c.in-Some.next.ear.now.address c.in-Some.next.recent.now.sending.octets e) c.in-Some-event.is
    c.in_ok-event.ensures.hears)

pub returns-in-None-clause-next : goal.returns-in-None-clause-next
returns-in-None-clause-next g c = inr (
  refl,
  meets_nobody c.buses.result.now c.args.world.now c.moment-now.result c.args.heard.now
      (record { turn = c.turn_behind-heard.result; before = c.args.heard.now.before }) c.in-Some.next.bus.now
      c.in-Some.next.recent.now c.in-Some.next.ear_place c.in-Some.next.ear.now c.buses.ensures c.moment-now.ensures
      c.in-Some.ensures.next c.turn_behind-heard.ensures.fits
      (ap (λ (t : Telling). record { turn = t; before = c.args.heard.now.before }) c.turn_behind-heard.ensures.turn)
      (subst (λ (e : Option (Event _)). HearsThemIfAny c.args.world.now c.in-Some.next.bus.now.net
      c.in-Some.next.ear.now.address c.in-Some.next.recent.now.sending.octets e) c.in-None.is
      c.in_ok-event.ensures.hears),
)
