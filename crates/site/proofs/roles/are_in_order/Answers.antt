use Rattle.std.proofs.Common.{rules, arith, subst, sym, ◌≡◌, ◌≤◌, ◌-◌, ℕ, get_or, length, take, drop}
use Rattle.std.specs.Prelude.{◌↔◌}
use Rattle.site.specs.Roles.{AreInOrder, rank}
use Rattle.site.proofs.RestLaws.{order_told}
use Rattle.site.proofs.roles.are_in_order.Goals as goal

pub loop-left-preserved : goal.loop-left-preserved
loop-left-preserved g c = rw (c.rank-here.ensures) (order_told (AreInOrder 0 c.args.stations.now) c.loop-left.least _ c.loop-left.left.now c.first-item.result c.first-item.is c.in-len1-up.len_at_least (rw (← c.rank-here.ensures) (search rules)) c.loop-left.invariant)
