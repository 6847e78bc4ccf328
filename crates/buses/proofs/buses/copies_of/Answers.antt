use Rattle.std.proofs.Common.{arith, ◌≡◌, ◌+◌, ◌++◌, ◌∷◌, [], take}
use Rattle.std.proofs.lemmas.Grind.{common_steps}
use Rattle.buses.proofs.Places.{copy_further}
use Rattle.buses.proofs.buses.copies_of.Goals as goal

-- one more
pub loop-bus-preserved : goal.loop-bus-preserved
loop-bus-preserved g c =
    let t : take c.loop-bus.bus-index c.args.buses.now ++ c.bus-item.result ∷ []
    ≡ take (c.loop-bus.bus-index + 1) c.args.buses.now = grind (arith, common_steps) in
    copy_further (take c.loop-bus.bus-index c.args.buses.now) (take (c.loop-bus.bus-index + 1) c.args.buses.now)
    c.loop-bus.copies.items c.push.new.self.items c.bus-item.result c.in_ok-copy.field-0 t c.in_ok-push.ensures.items
    c.in_ok-copy.ensures c.loop-bus.invariant
