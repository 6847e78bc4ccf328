use Rattle.std.proofs.lemmas.Result.{err_from_is_err_and}
use Rattle.site_node.proofs.Nodes.{asking_refused, node_asked, ports_before, with_ports}
use Rattle.site_node.proofs.node.SiteNode.plan_asks.Goals as goal

pub down_first-requires-clause-order : goal.down_first-requires-clause-order
down_first-requires-clause-order g c = ports_before _ _ _ _ (with_ports _ _ _ _ c.self.view_is _ c.as_slice.ensures.value) c.args.now c.requires.before

pub returns-in_err-down_first-clause-cause : goal.returns-in_err-down_first-clause-cause
returns-in_err-down_first-clause-cause g c =
    let p = err_from_is_err_and c.from_residual-in_err-down_first.result c.from_residual-in_err-down_first.ensures.1 in
    rw (p.1) (rw (p.2) (asking_refused _ _ _ _ (with_ports _ _ _ _ c.self.view_is _ c.as_slice.ensures.value) c.args.now c.args.limits c.in_ok-plan.plan c.in_ok-plan.ensures.asks c.in_ok-plan.ensures.downs c.in_err-down_first.field-0.0 c.in_err-down_first.ensures.cause))

pub returns-clause-asks : goal.returns-clause-asks
returns-clause-asks g c = node_asked _ _ _ _ (with_ports _ _ _ _ c.self.view_is _ c.as_slice.ensures.value) c.args.now c.args.limits c.in_ok-plan.plan c.in_ok-plan.ensures.asks c.in_ok-plan.ensures.downs c.down_first.new.draft c.in_ok-plan.ensures.none
    c.in_ok-down_first.ensures.downs
