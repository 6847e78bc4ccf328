use Rattle.std.proofs.Common.{rules, ◌+◌, ◌∷◌, [], drop, subst, sym}
use Rattle.std.proofs.Math.ListN.{drop_of_length-le}
use Rattle.bus_traffic.specs.Telling.{IsDue, IsDueNowhere, IsFirstEar, IsNext}
use Rattle.bus_traffic.proofs.Places.{rest_at}
use Rattle.bus_traffic.proofs.TellingLaws.{AreLeft, left_from, next_from, none_left, one_less}
use Rattle.bus_traffic.proofs.telling.next_on.Goals as goal

pub loop-held-init : goal.loop-held-init
loop-held-init g c = left_from c.args.now c.args.from c.args.before c.args.bus.now.ears.items
    c.args.bus.now.recent.items c.from_turn-held-items.result.now c.from_turn-held-items.ensures

pub returns-in-Some-clause-next : goal.returns-in-Some-clause-next
returns-in-Some-clause-next g c = subst (λ r. IsNext c.args.now c.args.from c.args.before (c.args.bus.now ∷ [])
    c.args.bus.now r c.in-Some.ear_place c.in-Some.ear.now) (sym c.recent-recent.ensures)
    (next_from c.args.now c.args.from c.args.before c.args.bus.now c.held-item.result
    c.from_turn-held-items.result.now c.loop-held.held-index c.in-Some.ear_place c.in-Some.ear.now
    c.from_turn-held-items.ensures c.loop-held.invariant
    (rest_at c.from_turn-held-items.result.now c.loop-held.held-index c.held-item.result (search rules)
    (sym c.held-item.is))
    (subst (λ xs. IsDue c.args.now c.args.from c.args.before xs c.held-item.result c.in-Some.ear_place c.in-Some.ear.now)
    c.deref.ensures.value (subst (λ r. IsDue c.args.now c.args.from c.args.before c.deref.result.now r
    c.in-Some.ear_place c.in-Some.ear.now) c.recent-recent.ensures c.in-Some.ensures.due))
    (subst (λ xs. IsFirstEar c.args.now c.args.from c.args.before xs c.held-item.result c.in-Some.ear_place)
    c.deref.ensures.value (subst (λ r. IsFirstEar c.args.now c.args.from c.args.before c.deref.result.now r
    c.in-Some.ear_place) c.recent-recent.ensures c.in-Some.ensures.first)))

pub loop-held-preserved : goal.loop-held-preserved
loop-held-preserved g c = one_less c.args.bus.now.ears.items c.args.bus.now.recent.items c.held-item.result
    (drop (c.loop-held.held-index + 1) c.from_turn-held-items.result.now)
    (subst (λ xs. AreLeft c.args.now c.args.from c.args.before c.args.bus.now.ears.items c.args.bus.now.recent.items xs)
    (rest_at c.from_turn-held-items.result.now c.loop-held.held-index c.held-item.result (search rules)
    (sym c.held-item.is))
    c.loop-held.invariant)
    (subst (λ xs. IsDueNowhere c.args.now c.args.from c.args.before xs c.held-item.result) c.deref.ensures.value
    (subst (λ r. IsDueNowhere c.args.now c.args.from c.args.before c.deref.result.now r) c.recent-recent.ensures
    c.in_default.ensures.none))

pub returns-clause-none : goal.returns-clause-none
returns-clause-none g c = none_left c.args.bus.now
    (subst (λ xs. AreLeft c.args.now c.args.from c.args.before c.args.bus.now.ears.items c.args.bus.now.recent.items xs)
    (drop_of_length-le c.from_turn-held-items.result.now (search rules))
    c.loop-held.invariant)
