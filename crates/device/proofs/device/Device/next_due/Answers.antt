use Rattle.device.proofs.device.Device.next_due.Goals as goal

-- that of its server
pub returns : goal.returns
returns g c = rw (← c.self.view_is) c.next_due.ensures
