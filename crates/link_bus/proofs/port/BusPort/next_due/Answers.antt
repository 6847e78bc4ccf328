use Rattle.link_bus.proofs.port.BusPort.next_due.Goals as goal

-- that of its node
pub returns : goal.returns
returns g c = rw (← c.self.view_is) c.next_due.ensures
