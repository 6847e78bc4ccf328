use Rattle.std.proofs.lemmas.Result.{err_from_is_err_and}
use Rattle.site_node.proofs.Nodes.{issue_refused, node_issued, ports_before, with_ports}
use Rattle.site_node.proofs.node.SiteNode.plan_issues.Goals as goal

pub down_first-requires-clause-order : goal.down_first-requires-clause-order
down_first-requires-clause-order g c = ports_before _ _ _ _ (with_ports _ _ _ _ c.self.view_is _ c.as_slice.ensures.value) c.args.now c.requires.before

pub returns-in_err-down_first-clause-cause : goal.returns-in_err-down_first-clause-cause
returns-in_err-down_first-clause-cause g c =
    let p = err_from_is_err_and c.from_residual-in_err-down_first.result c.from_residual-in_err-down_first.ensures.1 in
    rw (p.1) (rw (p.2) (issue_refused _ _ _ _ (with_ports _ _ _ _ c.self.view_is _ c.as_slice.ensures.value) c.args.now c.args.instance c.args.request.now (c.in_ok-issue.issue.0) (c.in_ok-issue.issue.1) c.in_ok-issue.ensures.issued c.in_ok-issue.ensures.downs c.in_err-down_first.field-0.0 c.in_err-down_first.ensures.cause))

pub returns-clause-issues : goal.returns-clause-issues
returns-clause-issues g c = node_issued _ _ _ _ (with_ports _ _ _ _ c.self.view_is _ c.as_slice.ensures.value) c.args.now c.args.instance c.args.request.now (c.in_ok-issue.issue.0) (c.in_ok-issue.issue.1) c.in_ok-issue.ensures.issued c.in_ok-issue.ensures.downs c.down_first.new.draft c.in_ok-issue.ensures.none
    c.in_ok-down_first.ensures.downs
