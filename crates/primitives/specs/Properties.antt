-- What every property of a number is, whichever object has it (12).
use Rattle.std.specs.Prelude.{Bool, true, false}
use Rattle.primitives.specs.declared.property.Property.{Property}
use Rattle.primitives.specs.declared.property.Property.TheVariants as property

-- whether a property is required, and not optional (12: conformance code R or O)
abbrev pub is_required : Property → Bool
is_required property.PriorityArray = false
is_required property.RelinquishDefault = false
is_required property.Description = false
is_required p = true

-- whether a property is an array, whose elements have an index (12.8.19, 12.11.16)
abbrev pub is_array : Property → Bool
is_array property.PriorityArray = true
is_array property.ObjectList = true
is_array p = false
