use Rattle.object_machine.proofs.ByRows.{is_by_rows}
use Rattle.object_machine.proofs.machine_is_by_rows.Goals as goal

pub returns : goal.returns
returns g c = is_by_rows
