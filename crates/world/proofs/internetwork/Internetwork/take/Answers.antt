use Rattle.std.proofs.Common.{subst, ℕ, List}
use Rattle.world_log.specs.site_node.Plan.{left_by}
use Rattle.world_log.specs.site_node.Steps.{NodeHears}
use Rattle.world.proofs.EventLaws.{may_hear}
use Rattle.world.proofs.internetwork.Internetwork.take.Goals as goal
use Rattle.world.specs.Doing.{told_of}

-- what it planned may be done
pub carry_out-requires : goal.carry_out-requires
carry_out-requires g c =
    let heard = subst (λ (os : List ℕ). NodeHears c.now-now.result c.in-Some.field-0.port c.args.item.now.from os c.args.item.now.stamp
    c.in-Some.field-0.node.now (told_of c.in_ok-plan.plan c.plan_hears.new.draft)
    (left_by c.now-now.result c.in_ok-plan.plan c.plan_hears.new.draft.changes.items c.in-Some.field-0.node.now))
    c.as_slice-octets.ensures c.in_ok-plan.ensures.hears in record {
      planned = may_hear c.args.self.now c.in-Some.field-0.place c.now-now.result c.now-now.ensures.moment c.in-Some.field-0.node.now
          c.in-Some.ensures.there.there c.in_ok-plan.plan c.plan_hears.new.draft c.in-Some.ensures.steady.stands
          c.in_ok-plan.ensures.planned c.in-Some.field-0.port c.args.item.now.from c.args.item.now.octets c.args.item.now.stamp heard;
    }
