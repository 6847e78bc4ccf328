use Rattle.std.proofs.Common.{subst}
use Rattle.std.proofs.lemmas.Result.{err_from_is_err_and}
use Rattle.site_node.proofs.Nodes.{manager_heard, octets_heard, octets_refused, with_ports}
use Rattle.site_node.specs.Node.{NodeState}
use Rattle.site_node.specs.Part.{IsPlanned}
use Rattle.site_node.proofs.node.SiteNode.plan_hears.Goals as goal

pub returns-in-Manager-clause-hears : goal.returns-in-Manager-clause-hears
returns-in-Manager-clause-hears g c = manager_heard _ _ _ _ c.self.view_is c.in-Manager.net c.in-Manager.manager
    c.in-Manager.is c.args.now c.args.port c.args.from c.args.octets.now c.args.stamp c.manager_hears.new.draft c.in_ok-managed.managed c.manager_hears.ensures.changes
    c.in_ok-managed.ensures.hears

pub returns-in_err-plan : goal.returns-in_err-plan
returns-in_err-plan g c =
    let p = err_from_is_err_and c.from_residual-in_err-plan.result c.from_residual-in_err-plan.ensures.1 in
    rw (p.1) (rw (p.2) (record {
      hears = tt;
      planned = tt;
      cause = octets_refused _ _ _ _ (with_ports _ _ _ _ c.self.view_is _ c.as_slice-ports.ensures.value) c.in_default.not-Manager c.args.now c.args.port c.args.from c.args.octets.now c.args.stamp c.in_err-plan.field-0.0 c.in_err-plan.ensures.cause;
    }))

pub returns : goal.returns
returns g c = record {
  hears = octets_heard _ _ _ _ (with_ports _ _ _ _ c.self.view_is _ c.as_slice-ports.ensures.value) c.in_default.not-Manager c.args.now c.args.port c.args.from c.args.octets.now c.args.stamp c.hear_first.new.draft c.in_ok-plan.plan
      c.in_ok-plan.ensures.none c.in_ok-plan.ensures.hears;
  planned = subst (λ (s : NodeState _). IsPlanned c.args.now s.part c.in_ok-plan.plan) c.self.view_is
      c.in_ok-plan.ensures.planned;
  cause = tt;
}
