use Rattle.std.proofs.lemmas.Result.{err_from_is_err_and}
use Rattle.world.proofs.HearingLaws.{each_next, each_refuses, first_refused}
use Rattle.world.proofs.internetwork.Internetwork.take_each.Goals as goal

-- one is refused
pub returns-in_err-take_frame-clause-cause : goal.returns-in_err-take_frame-clause-cause
returns-in_err-take_frame-clause-cause g c =
    let p = err_from_is_err_and c.from_residual.result c.from_residual.ensures.1 in
    rw (p.1) (rw (p.2) (first_refused c.args.listener c.args.self.now c.loop-left.self c.take_frame.new.self
    c.first-item.result c.args.frames.now c.loop-left.left.now c.in-len1-up.len_at_least c.first-item.is
    c.loop-left.invariant.2 _ c.in_err-take_frame.ensures.cause))

-- one more
pub loop-left-preserved : goal.loop-left-preserved
loop-left-preserved g c = (
  c.in_ok-take_frame.ensures.there,
  each_next c.args.listener c.args.self.now c.loop-left.self c.take_frame.new.self c.first-item.result c.args.frames.now
      c.loop-left.left.now c.in-len1-up.len_at_least c.first-item.is c.in_ok-take_frame.ensures.takes
      c.loop-left.invariant.1,
  each_refuses c.args.listener c.args.self.now c.loop-left.self c.take_frame.new.self c.first-item.result
      c.args.frames.now c.loop-left.left.now c.in-len1-up.len_at_least c.first-item.is
      c.in_ok-take_frame.ensures.takes c.loop-left.invariant.2,
)
