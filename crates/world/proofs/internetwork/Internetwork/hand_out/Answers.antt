use Rattle.std.proofs.Common.{sym, ap, subst, List}
use Rattle.buses.specs.Buses.{buses_of}
use Rattle.traffic.specs.Recent.{RecentState}
use Rattle.traffic.specs.declared.item.Item.{Item}
use Rattle.world.proofs.PastLaws.{handed_so, nothing_handed}
use Rattle.world.proofs.internetwork.Internetwork.hand_out.Goals as goal
use Rattle.world.specs.Laws.{AreSteady}
use Rattle.world_log.specs.Log.{log_of}

-- all nodes stand
pub invariant_of-self : goal.invariant_of-self
invariant_of-self g c = (
  subst (λ (s : RecentState _). AreSteady c.self.inside.site c.self.inside.moment c.self.inside.nodes.items s.items)
      (sym c.hand_out.ensures.items) c.self.invariant.0,
  c.self.invariant.1,
  c.self.invariant.2,
)

pub returns-clause-handed : goal.returns-clause-handed
returns-clause-handed g c = handed_so c.self.inside.site c.self.inside.moment c.self.inside.nodes.items
    (log_of c.self.inside.log) (log_of c.hand_out.new.self) (buses_of c.self.inside.buses) c.args.self.now c.self.view_is
    c.hand_out.result c.hand_out.ensures.handed

pub returns-clause-unchanged : goal.returns-clause-unchanged
returns-clause-unchanged g c = nothing_handed c.self.inside.site c.self.inside.moment c.self.inside.nodes.items
    (log_of c.self.inside.log) (log_of c.hand_out.new.self) (buses_of c.self.inside.buses) c.args.self.now c.self.view_is
    c.hand_out.result c.hand_out.ensures.unchanged
