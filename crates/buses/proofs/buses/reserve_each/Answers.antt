use Rattle.std.proofs.Common.{◌<◌, ◌∙◌, ap, length, rules, sym}
use Rattle.bus_traffic.specs.Bus.{bus_of}
use Rattle.buses.proofs.Places.{length_set, one_has_room, same_set}
use Rattle.buses.proofs.buses.reserve_each.Goals as goal

pub returns-in_err-reserve-clause-same : goal.returns-in_err-reserve-clause-same
returns-in_err-reserve-clause-same g c = same_set c.loop-place.buses c.loop-place.place c.index-buses-place.result
    c.reserve.new.self (sym c.index-buses-place.is)
    (c.in_err-reserve.ensures.same ∙ ap (λ o. bus_of o) (sym c.index-buses-place.is)) ∙ c.loop-place.invariant.1

pub loop-place-preserved : goal.loop-place-preserved
loop-place-preserved g c =
    let within : c.loop-place.place < length c.loop-place.buses = search rules in (
      length_set c.loop-place.buses c.loop-place.place c.reserve.new.self ∙ c.loop-place.invariant.0,
      same_set c.loop-place.buses c.loop-place.place c.index-buses-place.result c.reserve.new.self
          (sym c.index-buses-place.is) (c.in_ok-reserve.ensures.same ∙ ap (λ o. bus_of o) (sym c.index-buses-place.is))
          ∙ c.loop-place.invariant.1,
      one_has_room c.args.count c.loop-place.place c.loop-place.buses c.reserve.new.self within c.loop-place.invariant.2
          c.in_ok-reserve.ensures.room,
    )
