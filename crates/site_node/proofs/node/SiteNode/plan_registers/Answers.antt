use Rattle.std.proofs.Common.{inr, refl, rules}
use Rattle.site_node.proofs.Nodes.{node_registered, none_registered, ports_before, with_ports}
use Rattle.site_node.proofs.node.SiteNode.plan_registers.Goals as goal

pub register_first-requires-clause-order : goal.register_first-requires-clause-order
register_first-requires-clause-order g c = ports_before _ _ _ _ (with_ports _ _ _ _ c.self.view_is _ c.as_slice.ensures.value) c.args.now c.requires.before

pub returns-then-is_empty-clause-cause : goal.returns-then-is_empty-clause-cause
returns-then-is_empty-clause-cause g c = inr (
  refl,
  none_registered _ _ _ _ (with_ports _ _ _ _ c.self.view_is _ c.as_slice.ensures.value) c.args.now c.register_first.new.draft
      c.in_ok-register_first.ensures.registers (search rules),
)

pub returns-clause-registers : goal.returns-clause-registers
returns-clause-registers g c = node_registered _ _ _ _ (with_ports _ _ _ _ c.self.view_is _ c.as_slice.ensures.value) c.args.now c.register_first.new.draft
    c.in_ok-register_first.ensures.registers (search rules)
