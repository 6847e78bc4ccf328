use Rattle.std.proofs.Common.{◌≡◌, ◌++◌}
use Rattle.std.specs.Prelude.{None, drop, map, filter}
use Rattle.primitives.specs.Numbers.{property_number}
use Rattle.object_model.specs.Reading.{is_selected, entry}
use Rattle.objects.proofs.table.Table.push_selected.Given as goal

-- the entries so far, and those of the properties that are left
abbrev pub invariant-loop-property : goal.invariant-loop-property
invariant-loop-property g l =
    l.entries ++ map (λ p. entry l.self l.id (property_number p) None) (filter (is_selected l.number) (drop l.property-index l.properties))
    ≡ l.fn.entries ++ map (λ p. entry l.self l.id (property_number p) None) (filter (is_selected l.number) l.properties)
