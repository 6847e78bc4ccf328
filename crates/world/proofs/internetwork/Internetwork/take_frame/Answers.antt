use Rattle.std.proofs.Common.{subst, ℕ, List}
use Rattle.world_log.specs.site_node.Plan.{left_by}
use Rattle.world_log.specs.site_node.Steps.{NodeHearsFrame}
use Rattle.world.proofs.EventLaws.{may_take}
use Rattle.world.proofs.internetwork.Internetwork.take_frame.Goals as goal
use Rattle.world.specs.Doing.{told_of}
use Rattle.npdu.specs.declared.mac.Mac.TheVariants.{One}

-- what it planned may be done
pub carry_out-requires : goal.carry_out-requires
carry_out-requires g c =
    let heard = subst (λ (os : List ℕ). NodeHearsFrame c.now-now.result c.args.listener.port c.args.frame.now.used
    (One c.args.listener.mac) os c.args.frame.now.stamp c.in_ok-node.node.now
    (told_of c.in_ok-plan.plan c.plan_frame.new.draft)
    (left_by c.now-now.result c.in_ok-plan.plan c.plan_frame.new.draft.changes.items c.in_ok-node.node.now))
    c.as_slice-octets.ensures c.in_ok-plan.ensures.hears in record {
      planned = may_take c.args.self.now c.args.listener.place c.now-now.result c.now-now.ensures.moment c.in_ok-node.node.now
          c.in_ok-node.ensures.there c.in_ok-plan.plan c.plan_frame.new.draft c.in_ok-node.ensures.steady.stands
          c.in_ok-plan.ensures.planned c.args.listener.port c.args.frame.now.used (One c.args.listener.mac)
          c.args.frame.now.octets c.args.frame.now.stamp heard;
    }
