use Rattle.std.proofs.Common.{rules, option_map, Some}
use Rattle.words.proofs.Lists.{batch_goes_on}
use Rattle.words.proofs.request.batch.Goals as goal

pub loop-rest-preserved : goal.loop-rest-preserved
loop-rest-preserved g c = (
  batch_goes_on (Some c.args.words.now) c.loop-rest.groups.items c.add_write.new.groups.items
      (option_map (λ w. w.now) c.loop-rest.rest) (option_map (λ w. w.now) c.cut_first.result.1) c.in-Some.here.now
      c.cut_first.result.0.now (c.in_ok-object.object, c.in_ok-object.write) c.loop-rest.invariant.0 (search rules)
      c.cut_first.ensures.front c.cut_first.ensures.rest c.in_ok-object.ensures.read c.in_ok-add_write.ensures.added,
  c.in_ok-add_write.ensures.grouped c.loop-rest.invariant.1,
)
