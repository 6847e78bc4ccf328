use Rattle.mstp_table.specs.Node.{named}
use Rattle.link_bus.proofs.Doing.{hears_it}
use Rattle.link_bus.proofs.port.BusPort.hear_frame.Goals as goal

pub returns-clause-does : goal.returns-clause-does
returns-clause-does g c = hears_it c.args.now c.args.stamp c.args.port _ (named c.args.frame.now) _ _ _ _ c.args.self.now _ _ _
    c.self.view_is c.in_ok-step.ensures.up c.in_ok-step.ensures.out c.in_ok-step.ensures.left c.in_ok-put_over.ensures.put
    c.handed_up.ensures
