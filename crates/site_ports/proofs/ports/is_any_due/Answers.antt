use Rattle.std.proofs.Common.{rules, arith, sym, ◌∙◌}
use Rattle.std.proofs.lemmas.Grind.{common_steps}
use Rattle.site_ports.proofs.PortSteps.{due_next}
use Rattle.site_ports.proofs.ports.is_any_due.Goals as goal

pub loop-left-preserved : goal.loop-left-preserved
loop-left-preserved g c = due_next c.args.now c.loop-left.left.now _ c.first-item.result _ (grind (arith, common_steps))
    (sym c.is_due.ensures ∙ c.if-is_due.false) c.loop-left.invariant
