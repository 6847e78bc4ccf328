use Rattle.std.proofs.lemmas.Result.{err_from_is_err_and}
use Rattle.world.proofs.EventLaws.{issue_wants_memory, may_issue}
use Rattle.world.proofs.internetwork.Internetwork.issue.Goals as goal

-- what it planned may be done
pub carry_out-requires : goal.carry_out-requires
carry_out-requires g c = record {
  planned = may_issue c.args.self.now c.args.place c.now-now.result c.now-now.ensures.moment c.in_ok-node.node.now
      c.in_ok-node.ensures.there c.in_ok-invoke_id.plan c.plan_issues.new.draft c.in_ok-node.ensures.steady.stands
      c.in_ok-invoke_id.ensures.planned c.args.instance c.args.request.now
      c.in_ok-invoke_id.invoke_id c.in_ok-invoke_id.ensures.issues;
}

-- the request can't be copied
pub returns-in_err-entry-clause-cause : goal.returns-in_err-entry-clause-cause
returns-in_err-entry-clause-cause g c =
    let p = err_from_is_err_and c.from_residual-in_err-entry.result c.from_residual-in_err-entry.ensures.1 in
    rw (p.1) (issue_wants_memory c.args.self.now c.args.place c.args.instance c.args.request.now c.in_ok-node.node.now _
    c.in_ok-invoke_id.plan c.plan_issues.new.draft c.now-now.result c.in_ok-invoke_id.invoke_id (p.0)
    c.in_ok-node.ensures.there c.in_ok-invoke_id.ensures.issues (p.2))
