use Rattle.object_model.proofs.ReadLaws.{listed_at}
use Rattle.object_model.proofs.reading.read_identifier.Goals as goal

pub returns-in-Some : goal.returns-in-Some
returns-in-Some g c = rw (listed_at c.args.objects.now c.args.place, ← c.in-Some.ensures, ← c.identifier.ensures) c.one.ensures

pub returns-in-None : goal.returns-in-None
returns-in-None g c = rw (listed_at c.args.objects.now c.args.place, ← c.in-None.ensures) c.new.ensures
