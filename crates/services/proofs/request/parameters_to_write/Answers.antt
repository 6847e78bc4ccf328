use Rattle.services.proofs.Exits.{exit_reason, exit_stop}
use Rattle.services.specs.Requests.{at_property, at_index, at_values}
use Rattle.services.proofs.Shortens.{property_shortens, opening_shortens}
use Rattle.std.proofs.Common.{arith}
use Rattle.services.proofs.request.parameters_to_write.Goals as goal

pub returns-in_err-object-clause-rejected : goal.returns-in_err-object-clause-rejected
returns-in_err-object-clause-rejected g c =
    exit_reason _ c.from_residual.result _ c.from_residual.ensures.1 (at_property c.in_err-object.ensures.rejected)

pub returns-in_err-index-clause-rejected : goal.returns-in_err-index-clause-rejected
returns-in_err-index-clause-rejected g c =
    exit_reason _ c.from_residual-in_err-index.result _ c.from_residual-in_err-index.ensures.1
    (at_index c.in_ok-object.object c.in_ok-object.property c.read_property.new.reader c.in_ok-object.ensures.read c.in_err-index.ensures.rejected)

pub returns-in_err-values-clause-rejected : goal.returns-in_err-values-clause-rejected
returns-in_err-values-clause-rejected g c =
    exit_stop _ _ c.from_residual-in_err-values.result _ c.from_residual-in_err-values.ensures.1 c.in_err-values.ensures.rejected
    (λ reason h. at_values c.in_ok-object.object c.in_ok-object.property c.in_ok-index.index c.read_property.new.reader c.read_opening_behind.new.reader
    c.in_ok-object.ensures.read c.in_ok-index.ensures.read h)

pub returns-clause-sound : goal.returns-clause-sound
returns-clause-sound g c = let a = property_shortens c.args.reader.now c.in_ok-object.object c.in_ok-object.property c.read_property.new.reader
    c.in_ok-object.ensures.read in let b = opening_shortens c.read_property.new.reader 2 c.in_ok-index.index 3 c.read_opening_behind.new.reader
    c.in_ok-index.ensures.read in (c.in_ok-object.ensures.sound, c.in_ok-index.ensures.fits, λ lt. c.in_ok-values.ensures.sound (omega (arith, a, b, lt)))
