use Rattle.std.proofs.lemmas.Result.{err_from_is_err_and}
use Rattle.site_node.proofs.Nodes.{frame_heard, frame_refused, ports_before, with_ports}
use Rattle.site_node.proofs.node.SiteNode.plan_frame.Goals as goal

pub count_first-requires-clause-order : goal.count_first-requires-clause-order
count_first-requires-clause-order g c = ports_before _ _ _ _ (with_ports _ _ _ _ c.self.view_is _ c.as_slice-ports.ensures.value) c.args.now c.requires.before

pub returns-in_err-plan-clause-cause : goal.returns-in_err-plan-clause-cause
returns-in_err-plan-clause-cause g c =
    let p = err_from_is_err_and c.from_residual-in_err-plan.result c.from_residual-in_err-plan.ensures.1 in
    rw (p.1) (rw (p.2) (frame_refused _ _ _ _ (with_ports _ _ _ _ c.self.view_is _ c.as_slice-ports.ensures.value) c.args.now c.args.port c.args.count c.args.from c.args.octets.now c.args.stamp c.count_first.new.draft c.in_err-plan.field-0.0 c.in_ok-count_first.ensures.counts
    c.in_err-plan.ensures.cause))

pub returns-clause-hears : goal.returns-clause-hears
returns-clause-hears g c = frame_heard _ _ _ _ (with_ports _ _ _ _ c.self.view_is _ c.as_slice-ports.ensures.value) c.args.now c.args.port c.args.count c.args.from c.args.octets.now c.args.stamp c.count_first.new.draft c.hear_on.new.draft c.in_ok-plan.plan c.in_ok-plan.ensures.none
    c.in_ok-count_first.ensures.counts c.in_ok-plan.ensures.hears
