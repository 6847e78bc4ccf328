use Rattle.std.proofs.Common.{◌≡◌, ◌<◌, ◌∙◌, ap, arith, length, refl, rules, subst, sym}
use Rattle.std.proofs.lemmas.Option.{slice_get_read}
use Rattle.std.specs.Prelude.{get_or}
use Rattle.bus_traffic.specs.Bus.{HasRoom, bus_of}
use Rattle.buses.proofs.RestartLaws.{ears_stay, one_listens_on, one_restarts}
use Rattle.buses.proofs.buses.restart_on.Goals as goal
use Rattle.buses.proofs.buses.restart_on.Goals.{then-index-address, else-index-address}

pub loop-place-preserved : goal.loop-place-preserved
loop-place-preserved g c =
    let at : c.index.result.now ≡ get_or c.loop-place.bus.ears.items c.loop-place.place c.index.result.now = search rules in
    let lt : c.loop-place.place < length c.args.bus.now.ears.items = search rules in
    let as_many : length c.loop-place.bus.ears.items ≡ length c.args.bus.now.ears.items = ears_stay c.args.now c.args.address
    c.loop-place.place (bus_of c.args.bus.now) (bus_of c.loop-place.bus) c.loop-place.invariant.0 in
    let within : c.loop-place.place < length c.loop-place.bus.ears.items = omega (arith, lt, as_many) in
    elim c.if-index-address.branch [
      | then-index-address w ↦ (
        ap (λ o. bus_of o) w.bus-is ∙ one_restarts c.args.now c.args.address c.loop-place.place (bus_of c.args.bus.now)
            (bus_of c.loop-place.bus) (bus_of w.restart.new.self) c.index.result.now c.loop-place.invariant.0 lt at
            (search rules) (w.restart.ensures.restarted c.index.result.now (slice_get_read c.loop-place.bus.ears.items
            (length c.loop-place.bus.ears.items) c.loop-place.place c.index.result.now refl within at)),
        λ n h. subst (λ o. HasRoom n o) (sym w.bus-is) (w.restart.ensures.room n (c.loop-place.invariant.1 n h)),
      )
      | else-index-address w ↦ (
        ap (λ o. bus_of o) w.bus-is ∙ one_listens_on c.args.now c.args.address c.loop-place.place (bus_of c.args.bus.now)
            (bus_of c.loop-place.bus) c.index.result.now c.loop-place.invariant.0 lt at (search rules),
        λ n h. subst (λ o. HasRoom n o) (sym w.bus-is) (c.loop-place.invariant.1 n h),
      )
    ]
