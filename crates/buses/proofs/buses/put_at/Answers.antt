use Rattle.std.proofs.Common.{◌≡◌, ◌<◌, ◌≤◌, ◌+◌, ◌∙◌, true, ap, length, map, rules, subst, sym}
use Rattle.std.specs.Prelude.{◌==◌}
use Rattle.std.specs.List.{AllByRecursion}
use Rattle.bus_traffic.specs.Bus.{HasRoom, bus_of, put_out}
use Rattle.buses.specs.Puts as spec
use Rattle.buses.proofs.Places.{less_room_each, put_here, put_nowhere, room_left, same_there}
use Rattle.buses.proofs.buses.put_at.Goals as goal

pub returns-then-buses-place-clause-put : goal.returns-then-buses-place-clause-put
returns-then-buses-place-clause-put g c =
    let within : c.loop-place.place < length c.loop-place.buses = search rules in
    let tested : (c.index-buses-place.result.net == c.args.net) ≡ true = search rules in
    put_here c.args.now c.args.net c.args.put c.loop-place.buses c.loop-place.place
    c.index-buses-place-then-buses-place.result c.put_out.new.self within (sym c.index-buses-place-then-buses-place.is)
    (ap (λ o. o.net == c.args.net) (same_there c.loop-place.buses c.loop-place.place
    c.index-buses-place-then-buses-place.result c.index-buses-place.result within c.index-buses-place-then-buses-place.is
    c.index-buses-place.is) ∙ tested)
    c.loop-place.invariant.1 (c.put_out.ensures.put
    ∙ ap (λ o. put_out c.args.now c.args.put (bus_of o)) (sym c.index-buses-place-then-buses-place.is))
    ∙ ap (λ bs. spec.put_at c.args.now c.args.net c.args.put (map (λ o. bus_of o) bs)) c.loop-place.invariant.0

pub returns-then-buses-place-clause-room : goal.returns-then-buses-place-clause-room
returns-then-buses-place-clause-room g c = λ n h. room_left n c.loop-place.place c.loop-place.buses
    c.index-buses-place-then-buses-place.result c.put_out.new.self (search rules)
    (sym c.index-buses-place-then-buses-place.is)
    (λ r. c.put_out.ensures.room n (subst (λ o. HasRoom (n + 1) o) c.index-buses-place-then-buses-place.is r))
    (subst (λ bs. AllByRecursion (λ o. HasRoom (n + 1) o) bs) (sym c.loop-place.invariant.0) h)

pub returns-clause-put : goal.returns-clause-put
returns-clause-put g c =
    let over : length c.loop-place.buses ≤ c.loop-place.place = search rules in
    put_nowhere c.args.now c.args.net c.loop-place.place c.args.put c.loop-place.buses over c.loop-place.invariant.1
    ∙ ap (λ bs. spec.put_at c.args.now c.args.net c.args.put (map (λ o. bus_of o) bs)) c.loop-place.invariant.0

pub returns-clause-room : goal.returns-clause-room
returns-clause-room g c = λ n h. less_room_each n c.loop-place.buses
    (subst (λ bs. AllByRecursion (λ o. HasRoom (n + 1) o) bs) (sym c.loop-place.invariant.0) h)
