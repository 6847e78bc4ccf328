use Rattle.world.proofs.EventLaws.{may_count}
use Rattle.world.proofs.internetwork.Internetwork.tell.Goals as goal

-- what it planned may be done
pub carry_out-requires : goal.carry_out-requires
carry_out-requires g c = record {
  planned = may_count c.args.self.now c.args.listener.place c.now-now.result c.now-now.ensures.moment c.in_ok-node.node.now
      c.in_ok-node.ensures.there c.in_ok-plan.plan c.plan_octets.new.draft c.in_ok-node.ensures.steady.stands
      c.in_ok-plan.ensures.planned c.args.listener.port c.args.count c.in_ok-plan.ensures.counts;
}
