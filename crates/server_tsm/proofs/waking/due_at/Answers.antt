use Rattle.std.proofs.Common.{sym}
use Rattle.server_tsm.proofs.Dues.{due_here, due_nowhere}
use Rattle.server_tsm.proofs.waking.due_at.Goals as goal

-- no record stands there
pub returns-in-None : goal.returns-in-None
returns-in-None g c = due_nowhere _ c.args.records.now c.args.place (sym c.in-None.ensures.there)

-- .. or nothing is due of it
pub returns-in-Some : goal.returns-in-Some
returns-in-Some g c = due_here c.due_of.result c.args.records.now c.args.place c.in-Some.entry.now
    (sym c.in-Some.ensures.there) c.due_of.ensures
