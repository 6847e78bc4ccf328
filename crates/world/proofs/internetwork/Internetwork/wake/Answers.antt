use Rattle.world.proofs.EventLaws.{may_wake}
use Rattle.world.proofs.internetwork.Internetwork.wake.Goals as goal

-- what it planned may be done
pub carry_out-requires : goal.carry_out-requires
carry_out-requires g c = record {
  planned = may_wake c.args.self.now c.args.place c.now-now.result c.now-now.ensures.moment c.in_ok-node.node.now
      c.in_ok-node.ensures.there c.in_ok-plan.plan c.plan_wakes.new.draft c.in_ok-node.ensures.steady.stands
      c.in_ok-plan.ensures.planned c.in_ok-plan.ensures.wakes;
}
