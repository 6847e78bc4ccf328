use Rattle.std.proofs.Common.{◌∙◌, ap, sym}
use Rattle.server_answers.specs.Plan.{plan_with}
use Rattle.server_tsm.proofs.Kept.{planned_place}
use Rattle.server_tsm.proofs.server.ServerTsm.commit.Goals as goal

pub execute-requires-clause-place : goal.execute-requires-clause-place
execute-requires-clause-place g c =
    planned_place c.args.now c.args.self.now c.args.plan c.in-Some-Executes.field-0-0 c.in-Some-Executes.executed c.in-Some-Executes.entry
    (ap plan_with (sym c.in-Some-Executes.field-0-is) ∙ c.in-Some-Executes.ensures) c.requires.planned
