use Rattle.runner.proofs.TurnLaws.{turns_are_steps, turns_keep, turns_lead}
use Rattle.runner.proofs.laws.turns_are_steps.Goals as goal

pub returns : goal.returns
returns g c = record { steps = turns_are_steps; whole = turns_lead; kept = turns_keep }
