use Rattle.objects.proofs.table.Table.read.Goals as goal

pub returns : goal.returns
returns g c = rw (← c.in-Some.ensures, ← c.self.view_is, ← c.deref.ensures.value) c.read_found.ensures
