use Rattle.std.proofs.Common.{◌≡◌, ◌<◌, ◌∙◌, Bool, true, ap, arith, length, map, rules, subst, sym}
use Rattle.std.specs.Prelude.{◌==◌, get_or}
use Rattle.std.proofs.lemmas.List.{length-map}
use Rattle.bus_traffic.specs.declared.bus.Bus.{Bus}
use Rattle.std.specs.List.{AllByRecursion}
use Rattle.bus_traffic.specs.Bus.{HasRoom, bus_of}
use Rattle.buses.specs.Hearing.{anew_on}
use Rattle.buses.proofs.Places.{length_set, room_kept, same_there}
use Rattle.buses.proofs.RestartLaws.{bus_restarts, bus_stays}
use Rattle.buses.proofs.buses.restart_each.Goals as goal
use Rattle.buses.proofs.buses.restart_each.Goals.{then-buses-place, else-buses-place}

pub loop-place-preserved : goal.loop-place-preserved
loop-place-preserved g c =
    let within : c.loop-place.place < length c.loop-place.buses = search rules in
    let as_many : length (map (λ o. bus_of o) c.args.buses.now) ≡ length c.loop-place.buses =
    length-map c.args.buses.now (λ o. bus_of o) ∙ sym c.loop-place.invariant.1 in
    let lt : c.loop-place.place < length (map (λ o. bus_of o) c.args.buses.now) = omega (arith, within, as_many) in
    let tested : (b : Bool) → (c.index-buses-place.result.net == c.args.net) ≡ b → (x : Bus _)
    → x ≡ get_or c.loop-place.buses c.loop-place.place x → (x.net == c.args.net) ≡ b =
    λ b t x at. ap (λ o. o.net == c.args.net) (same_there c.loop-place.buses c.loop-place.place x
    c.index-buses-place.result within at c.index-buses-place.is) ∙ t in
    elim c.if-buses-place.branch [
      | then-buses-place w ↦ (
        ap (λ os. map (λ o. bus_of o) os) w.buses-is ∙ bus_restarts c.args.now c.args.net c.args.address c.loop-place.place
            (map (λ o. bus_of o) c.args.buses.now) c.loop-place.buses w.index-buses-place-then-buses-place.result
            w.restart_on.new.bus c.loop-place.invariant.0 lt within w.index-buses-place-then-buses-place.is
            (tested true (search rules) w.index-buses-place-then-buses-place.result
            w.index-buses-place-then-buses-place.is) (w.restart_on.ensures.anew
            ∙ ap (λ o. anew_on c.args.now c.args.address (bus_of o)) (sym w.index-buses-place-then-buses-place.is)),
        ap (λ os. length os) w.buses-is ∙ length_set c.loop-place.buses c.loop-place.place w.restart_on.new.bus
            ∙ c.loop-place.invariant.1,
        λ n h. subst (λ os. AllByRecursion (λ o. HasRoom n o) os) (sym w.buses-is) (room_kept n c.loop-place.place
            c.loop-place.buses w.index-buses-place-then-buses-place.result w.restart_on.new.bus within
            (sym w.index-buses-place-then-buses-place.is)
            (λ r. w.restart_on.ensures.room n
            (subst (λ o. HasRoom n o) w.index-buses-place-then-buses-place.is r)) (c.loop-place.invariant.2 n h)),
      )
      | else-buses-place w ↦ (
        ap (λ os. map (λ o. bus_of o) os) w.buses-is ∙ bus_stays c.args.now c.args.net c.args.address c.loop-place.place
            (map (λ o. bus_of o) c.args.buses.now) c.loop-place.buses c.index-buses-place.result
            c.loop-place.invariant.0 lt within c.index-buses-place.is (search rules),
        ap (λ os. length os) w.buses-is ∙ c.loop-place.invariant.1,
        λ n h. subst (λ os. AllByRecursion (λ o. HasRoom n o) os) (sym w.buses-is) (c.loop-place.invariant.2 n h),
      )
    ]
