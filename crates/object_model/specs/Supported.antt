-- What the Device object says of the object types that there are (12.11.14, 20.2.10).
use Rattle.std.specs.Prelude.{◌≡◌, ◌↔◌, ℕ, ◌<◌, ◌-◌, ◌*◌, ◌/◌, ◌%◌, ◌^◌, ◌==◌, Bool, true, List, get_or}
use Rattle.object_model.specs.Objects.{types_supported}
use Rattle.primitives.specs.Numbers.{type_number}
use Rattle.primitives.specs.declared.object_type.ObjectType.{ObjectType}

-- a bit of a Bit String with these octets is set, counted from the most significant bit of the first octet (20.2.10)
abbrev pub has_bit : List ℕ → ℕ → Bool
has_bit octets n = get_or octets (n / 8) 0 / 2 ^ (7 - n % 8) % 2 == 1

-- an object type of this product has this number (21)
pub record IsTypeNumber (n : ℕ) : Type 0 where
  pub object_type : ObjectType
  pub numbered : type_number object_type ≡ n

-- Protocol_Object_Types_Supported has its bits set exactly for the object types that there are (12.11.14)
abbrev pub TypesAreSupported : Type 0
TypesAreSupported = (n : ℕ) → n < 46 → (has_bit types_supported n ≡ true) ↔ IsTypeNumber n
