use Rattle.std.proofs.Common.{refl}
use Rattle.site_node.proofs.Nodes.{node_restarted, none_restarted}
use Rattle.site_node.proofs.node.SiteNode.plan_restarts.Goals as goal

pub returns-then-restarts-clause-restarts : goal.returns-then-restarts-clause-restarts
returns-then-restarts-clause-restarts g c = node_restarted _ _ _ _ c.self.view_is c.args.now c.args.opening c.clear.new.self
    (c.restarts.ensures.device c.if-restarts.true) c.clear.ensures.out

pub returns-else-restarts-clause-cause : goal.returns-else-restarts-clause-cause
returns-else-restarts-clause-cause g c =
    (refl, none_restarted _ _ _ _ c.self.view_is (c.restarts.ensures.other c.if-restarts.false))
