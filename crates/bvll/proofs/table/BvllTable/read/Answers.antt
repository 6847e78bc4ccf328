use Rattle.std.proofs.Common.{arith}
use Rattle.bvll.proofs.Tables.{entries_spelled}
use Rattle.bvll.proofs.table.BvllTable.read.Goals as goal

pub returns-clause-read : goal.returns-clause-read
returns-clause-read g c =
    entries_spelled g.E.TableEntry.entry_at g.E.TableEntry.octets_of g.E.TableEntry.IsEntry g.met.E.TableEntry.spelled c.args.octets.now
    (λ i. omega (arith, c.type_inv.octets i)) (omega arith)
