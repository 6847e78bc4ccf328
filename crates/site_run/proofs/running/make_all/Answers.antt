use Rattle.std.proofs.Common.{◌∙◌, refl, rules}
use Rattle.site_run.proofs.RunLaws.{flow_begins, flow_failed, flow_goes_on, flow_over, next_of_flow, same_to_go, to_go}
use Rattle.site_run.proofs.running.make_all.Goals as goal

pub loop-next-init : goal.loop-next-init
loop-next-init g c = (
  c.next_of-next.ensures.sound,
  next_of_flow c.next_of-next.result c.args.flow c.next_of-next.new.self c.next_of-next.ensures.gives,
  c.next_of-next.ensures.cause,
  flow_begins c.args.telling c.args.n (to_go c.next_of-next.result c.next_of-next.new.self) c.args.world.now
      (g.W.Write.contents c.args.out.now)
      (same_to_go c.next_of-next.result c.args.flow c.next_of-next.new.self c.next_of-next.ensures.gives
      c.next_of-next.ensures.unchanged ∙ c.requires.whole),
)

-- the event that was made, and then those of the rest
pub loop-next-preserved : goal.loop-next-preserved
loop-next-preserved g c =
    let next = c.next_of-next-in-Ok-Some in (
      next.ensures.sound,
      next_of_flow next.result c.loop-next.flow next.new.self next.ensures.gives,
      next.ensures.cause,
      flow_goes_on c.args.telling c.args.n c.loop-next.next next.result c.loop-next.flow next.new.self
          c.in-Ok-Some.event c.args.world.now c.loop-next.world c.make_counted.new.world (g.W.Write.contents c.args.out.now)
          (g.W.Write.contents c.loop-next.out) (g.W.Write.contents c.make_counted.new.out) (search rules)
          c.loop-next.invariant.1
          (same_to_go next.result c.loop-next.flow next.new.self next.ensures.gives next.ensures.unchanged)
          c.in_ok-make_counted.ensures c.loop-next.invariant.3,
    )

pub returns-in-Ok : goal.returns-in-Ok
returns-in-Ok g c =
    flow_over c.args.telling c.args.n c.loop-next.next c.loop-next.flow c.args.world.now c.loop-next.world
    (g.W.Write.contents c.args.out.now) (g.W.Write.contents c.loop-next.out) (search rules) c.loop-next.invariant.1
    c.loop-next.invariant.3

pub returns : goal.returns
returns g c =
    flow_failed c.refuse_time.result c.args.telling c.args.n (to_go c.loop-next.next c.loop-next.flow)
    c.args.world.now c.loop-next.world (g.W.Write.contents c.args.out.now) (g.W.Write.contents c.loop-next.out)
    (g.W.Write.contents c.refuse_time.new.out) c.in-Err.fault c.loop-next.world.moment c.loop-next.invariant.3
    (search rules) refl c.refuse_time.ensures
