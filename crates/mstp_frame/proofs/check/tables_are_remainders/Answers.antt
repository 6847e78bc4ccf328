use Rattle.mstp_frame.proofs.Tables.{header_table, data_table}
use Rattle.mstp_frame.proofs.check.tables_are_remainders.Goals as goal

pub returns : goal.returns
returns c = record { header = header_table; «data» = data_table }
