use Rattle.std.proofs.Common.{◌<◌, ◌≤◌, ◌∙◌, length, map, rules}
use Rattle.bus_traffic.specs.Bus.{bus_of}
use Rattle.buses.proofs.ForgetLaws.{left_all, left_further}
use Rattle.buses.proofs.Places.{length_set}
use Rattle.buses.proofs.buses.forget_each.Goals as goal

-- one more has forgotten
pub loop-place-preserved : goal.loop-place-preserved
loop-place-preserved g c =
    let within : c.loop-place.place < length c.loop-place.buses = search rules in (
      length_set c.loop-place.buses c.loop-place.place c.forget.new.self ∙ c.loop-place.invariant.0,
      left_further c.args.now c.loop-place.place (map (λ o. bus_of o) c.args.buses.now) c.loop-place.buses
          c.index-buses-place.result c.forget.new.self within c.forget.ensures c.loop-place.invariant.1,
    )

-- all have
pub returns-clause-left : goal.returns-clause-left
returns-clause-left g c =
    let all : length c.args.buses.now ≤ c.loop-place.place = search rules in
    left_all c.args.now c.loop-place.place c.args.buses.now c.loop-place.buses all c.loop-place.invariant.1
