use Rattle.std.proofs.Common.{◌∙◌, sym, subst, List, arith}
use Rattle.buses.specs.Buses.{buses_of}
use Rattle.world_log.specs.site_node.Node.{NodeState}
use Rattle.world.proofs.Dues.{dues_none}
use Rattle.world.proofs.CopyLaws.{copy_seen, copy_stands}
use Rattle.world.proofs.internetwork.Internetwork.copy.Goals as goal
use Rattle.world_log.specs.Log.{log_of}
use Rattle.world_sites.specs.Directory.{Leads}

-- it stands as this one does
pub invariant_of-result : goal.invariant_of-result
invariant_of-result g c = (
  copy_stands c.self.inside.site c.in_ok-site.site c.self.inside.moment c.self.inside.nodes.items c.in_ok-nodes.nodes.items
      (log_of c.self.inside.log) (log_of c.in_ok-log.log) c.in_ok-site.ensures.copy
      (c.in_ok-nodes.ensures ∙ c.as_slice.ensures.value) c.in_ok-log.ensures c.self.invariant.0,
  subst (λ (ns : List (NodeState _)). Leads c.in_ok-directory.directory ns) c.as_slice-2.ensures.value
      c.in_ok-directory.ensures,
  dues_none c.in_ok-dues.dues c.in_ok-nodes.nodes.items c.len.result c.in_ok-dues.ensures
      (omega (arith, c.len.ensures, c.in_ok-nodes.nodes.ok.0)),
)

-- it is seen the same
pub returns-clause-copy : goal.returns-clause-copy
returns-clause-copy g c =
    copy_seen c.self.inside.site c.in_ok-site.site c.self.inside.moment c.self.inside.nodes.items
    c.in_ok-nodes.nodes.items (log_of c.self.inside.log) (log_of c.in_ok-log.log) c.in_ok-site.ensures.copy
    (c.in_ok-nodes.ensures ∙ c.as_slice.ensures.value) c.in_ok-log.ensures (buses_of c.self.inside.buses)
    (buses_of c.in_ok-buses.buses) c.args.self.now c.in_ok-buses.ensures c.self.view_is
