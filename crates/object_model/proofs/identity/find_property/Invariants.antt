use Rattle.std.proofs.Common.{◌≡◌}
use Rattle.std.specs.Prelude.{◌==◌, drop, find}
use Rattle.primitives.specs.Numbers.{property_number}
use Rattle.object_model.proofs.identity.find_property.Given as goal

-- the property is still to be found where the whole list has it
abbrev pub invariant-loop-property : goal.invariant-loop-property
invariant-loop-property l =
    find (λ p. l.number == property_number p) (drop l.property-index l.properties) ≡ find (λ p. l.number == property_number p) l.properties
