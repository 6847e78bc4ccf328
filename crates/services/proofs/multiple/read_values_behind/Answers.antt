use Rattle.services.proofs.Exits.{exit_reason, exit_stop}
use Rattle.services.specs.MultipleSteps.{in_opening, in_values}
use Rattle.services.proofs.Shortens.{opening_shortens}
use Rattle.std.proofs.Common.{arith}
use Rattle.services.proofs.multiple.read_values_behind.Goals as goal

pub returns-in_err-index-clause-rejected : goal.returns-in_err-index-clause-rejected
returns-in_err-index-clause-rejected g c =
    exit_reason _ c.from_residual.result _ c.from_residual.ensures.1 (in_opening c.in_err-index.ensures.rejected)

pub returns-in_err-values-clause-rejected : goal.returns-in_err-values-clause-rejected
returns-in_err-values-clause-rejected g c =
    exit_stop _ _ c.from_residual-in_err-values.result _ c.from_residual-in_err-values.ensures.1 c.in_err-values.ensures.rejected
    (λ reason h. in_values c.in_ok-index.index c.read_opening_behind.new.reader c.in_ok-index.ensures.read h)

pub returns-clause-sound : goal.returns-clause-sound
returns-clause-sound g c = let a = opening_shortens c.args.reader.now 1 c.in_ok-index.index 2 c.read_opening_behind.new.reader c.in_ok-index.ensures.read in
    λ lt. c.in_ok-values.ensures.sound (omega (arith, a, lt))
