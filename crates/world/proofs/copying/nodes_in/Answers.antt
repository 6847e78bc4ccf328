use Rattle.std.proofs.Common.{◌∙◌, ◌++◌, ◌∷◌, [], ap, sym, List, take}
use Rattle.std.proofs.lemmas.List.{take_all, take_more}
use Rattle.world_log.specs.site_node.Node.{NodeState}
use Rattle.world.proofs.copying.nodes_in.Goals as goal

-- one more
pub loop-node-preserved : goal.loop-node-preserved
loop-node-preserved g c =
    c.in_ok-push.ensures.items
    ∙ ap (λ (xs : List (NodeState _)). xs ++ c.in_ok-copy.field-0 ∷ []) c.loop-node.invariant
    ∙ ap (λ (x : NodeState _). take c.loop-node.node-index c.args.nodes.now ++ x ∷ []) c.in_ok-copy.ensures
    ∙ ap (λ (x : NodeState _). take c.loop-node.node-index c.args.nodes.now ++ x ∷ []) c.node-item.is
    ∙ sym (take_more c.args.nodes.now c.loop-node.node-index c.node-item.result c.loop-node-test.true)

-- all
pub returns : goal.returns
returns g c = c.loop-node.invariant ∙ take_all c.loop-node.node-index c.args.nodes.now c.loop-node-test.false
