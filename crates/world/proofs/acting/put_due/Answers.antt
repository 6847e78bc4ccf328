use Rattle.world.proofs.acting.put_due.Goals as goal

pub returns : goal.returns
returns g c = record { due = c.next_due.result; until = c.next_due.ensures; is = c.set.ensures }
