use Rattle.bus_traffic.proofs.TellingLaws.{told_by, told_on}
use Rattle.bus_traffic.proofs.telling.next_hear.Goals as goal

pub loop-bus-preserved : goal.loop-bus-preserved
loop-bus-preserved g c = told_on c.args.now c.args.from c.args.before c.args.buses.now c.loop-bus.bus-index c.bus-item.result
    c.loop-bus.next c.next_on.result c.earlier-next.result c.loop-bus-test.true c.bus-item.is c.loop-bus.invariant
    (told_by c.args.now c.args.from c.args.before _ c.next_on.result c.next_on.ensures.next c.next_on.ensures.none)
    c.earlier-next.ensures
