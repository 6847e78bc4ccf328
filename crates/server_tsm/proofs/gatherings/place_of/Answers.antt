use Rattle.std.proofs.Common.{◌∙◌, ◌<◌, sym, length, arith}
use Rattle.std.proofs.lemmas.Grind.{common_steps}
use Rattle.server_tsm.proofs.Places.{place_is}
use Rattle.server_tsm.proofs.gatherings.place_of.Goals as goal

pub returns-then-is_for-clause-some : goal.returns-then-is_for-clause-some
returns-then-is_for-clause-some g c =
    let within : c.loop-place.place < length c.args.gatherings.now = grind (arith, common_steps) in
    place_is c.args.now c.args.asker c.args.gatherings.now c.loop-place.place c.index-gatherings-place.result c.index-gatherings-place-then-is_for.result
    c.if_still.result within c.index-gatherings-place.is c.index-gatherings-place-then-is_for.is (sym c.is_for.ensures ∙ c.if-is_for.true)
    c.loop-place.invariant c.if_still.ensures.some
