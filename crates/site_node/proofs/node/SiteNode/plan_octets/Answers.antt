use Rattle.site_node.proofs.Nodes.{octets_counted, ports_before, with_ports}
use Rattle.site_node.proofs.node.SiteNode.plan_octets.Goals as goal

pub count_first-requires-clause-order : goal.count_first-requires-clause-order
count_first-requires-clause-order g c = ports_before _ _ _ _ (with_ports _ _ _ _ c.self.view_is _ c.as_slice.ensures.value) c.args.now c.requires.before

pub returns-clause-counts : goal.returns-clause-counts
returns-clause-counts g c = octets_counted _ _ _ _ (with_ports _ _ _ _ c.self.view_is _ c.as_slice.ensures.value) c.args.now c.args.port c.args.count c.count_first.new.draft
    c.in_ok-count_first.ensures.counts
