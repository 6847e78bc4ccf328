use Rattle.mstp_table.proofs.Hearing.{answers_the_asker, hands_up_data, others_are_quiet}
use Rattle.mstp_table.proofs.laws.answers_who_asks.Goals as goal

pub returns-clause-quiet : goal.returns-clause-quiet
returns-clause-quiet g c = others_are_quiet

pub returns-clause-asker : goal.returns-clause-asker
returns-clause-asker g c = answers_the_asker

pub returns-clause-up : goal.returns-clause-up
returns-clause-up g c = hands_up_data
