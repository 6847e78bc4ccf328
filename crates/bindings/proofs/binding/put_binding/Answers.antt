use Rattle.std.proofs.Common.{arith, ◌≡◌, length}
use Rattle.std.proofs.lemmas.Grind.{common_steps}
use Rattle.bindings.proofs.Places.{put_there}
use Rattle.bindings.proofs.binding.put_binding.Goals as goal

-- the binding at the place is the one of its instance
pub returns-then-is_of-clause-put : goal.returns-then-is_of-clause-put
returns-then-is_of-clause-put g c =
    let xs = c.loop-place.bindings.items in
    let count : c.len.result ≡ length xs = grind (arith, common_steps) in
    put_there c.args.binding xs c.args.bindings.now.items c.len.result c.loop-place.place c.index.result.now c.is_of.result count c.loop-place-test.true
    c.index.ensures c.is_of.ensures c.if-is_of.true c.loop-place.invariant.2 c.loop-place.invariant.1
