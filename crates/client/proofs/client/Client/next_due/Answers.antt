use Rattle.client.proofs.client.Client.next_due.Goals as goal

-- that of its state machine
pub returns : goal.returns
returns g c = rw (← c.self.view_is) c.next_due.ensures
