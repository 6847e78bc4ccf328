use Rattle.std.proofs.Common.{rules}
use Rattle.std.proofs.lemmas.Result.{err_from_is_err_and}
use Rattle.site_node.proofs.Nodes.{node_rested, node_woken, ports_before, wake_refused, with_ports}
use Rattle.site_node.proofs.Planning.{drafted_none}
use Rattle.site_node.proofs.node.SiteNode.plan_wakes.Goals as goal

pub returns-then-rests-clause-wakes : goal.returns-then-rests-clause-wakes
returns-then-rests-clause-wakes g c = node_rested _ _ _ _ (with_ports _ _ _ _ c.self.view_is _ c.as_slice-ports.ensures.value) c.args.now c.clear.new.self c.in_ok-plan.plan c.in_ok-plan.ensures.told c.in_ok-plan.ensures.downs c.in_ok-plan.ensures.left
    c.in_ok-plan.ensures.none
    (c.rests.ensures.silent c.if-rests.true) (c.rests.ensures.none c.if-rests.true) (drafted_none c.args.now _ c.clear.new.self c.clear.ensures.changes c.clear.ensures.out)

pub wake_first-requires-clause-order : goal.wake_first-requires-clause-order
wake_first-requires-clause-order g c = ports_before _ _ _ _ (with_ports _ _ _ _ c.self.view_is _ c.as_slice-ports.ensures.value) c.args.now c.requires.before

pub returns-in_err-wake_first-clause-cause : goal.returns-in_err-wake_first-clause-cause
returns-in_err-wake_first-clause-cause g c =
    let p = err_from_is_err_and c.from_residual-in_err-wake_first.result c.from_residual-in_err-wake_first.ensures.1 in
    rw (p.1) (rw (p.2) (wake_refused _ _ _ _ (with_ports _ _ _ _ c.self.view_is _ c.as_slice-ports.ensures.value) c.args.now c.wake_first.new.draft c.in_ok-plan.plan c.in_ok-plan.ensures.told c.in_ok-plan.ensures.downs c.in_ok-plan.ensures.left
    c.in_ok-plan.ensures.none c.in_err-wake_first.field-0.0
    c.in_err-wake_first.ensures.cause))

pub returns-clause-wakes : goal.returns-clause-wakes
returns-clause-wakes g c = node_woken _ _ _ _ (with_ports _ _ _ _ c.self.view_is _ c.as_slice-ports.ensures.value) c.args.now c.wake_first.new.draft c.in_ok-plan.plan c.in_ok-plan.ensures.told c.in_ok-plan.ensures.downs c.in_ok-plan.ensures.left
    c.in_ok-plan.ensures.none c.in_ok-wake_first.ensures.wakes
