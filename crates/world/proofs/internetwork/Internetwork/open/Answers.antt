use Rattle.std.proofs.Common.{ap, sym, subst, List}
use Rattle.traffic.specs.declared.item.Item.{Item}
use Rattle.world.proofs.internetwork.Internetwork.open.Goals as goal
use Rattle.world.specs.Laws.{AreSteady}
use Rattle.world_log.specs.Log.{LogState}

-- nothing was put out
pub invariant_of-result : goal.invariant_of-result
invariant_of-result g c = (
  subst (λ (is : List (Item _)). AreSteady c.args.site 0 c.args.nodes.items is)
      (sym (ap (λ (l : LogState _). l.items) c.new.ensures)) c.requires.steady,
  c.requires.leads,
  c.requires.dues,
)
