use Rattle.std.proofs.Common.{[], ◌∷◌, sym, subst, List, take}
use Rattle.std.proofs.lemmas.List.{take_all, take_more}
use Rattle.std.specs.List.{AllByRecursion}
use Rattle.world_log.specs.site_node.Node.{NodeState}
use Rattle.world.proofs.Standing.{all_both}
use Rattle.world.proofs.macs.are_at_macs.Goals as goal
use Rattle.world.specs.Laws.{HasMacs}

-- one more
pub loop-node-preserved : goal.loop-node-preserved
loop-node-preserved g c = subst (λ (ns : List (NodeState _)). AllByRecursion HasMacs ns)
    (sym (take_more c.args.nodes.now c.loop-node.node-index c.node-item.result c.loop-node-test.true))
    (all_both HasMacs (take c.loop-node.node-index c.args.nodes.now) (_ ∷ []) c.loop-node.invariant
    (subst (λ (n : NodeState _). HasMacs n) c.node-item.is c.is_at_macs.ensures, tt))

-- all
pub returns : goal.returns
returns g c = subst (λ (ns : List (NodeState _)). AllByRecursion HasMacs ns)
    (take_all c.loop-node.node-index c.args.nodes.now c.loop-node-test.false) c.loop-node.invariant
