-- The shortest octets of one parameter of a service (20.2.15).
use Rattle.std.specs.Prelude.{ℕ, List, [], Option, Some, None}
use Rattle.tags.specs.declared.object_id.ObjectId.{ObjectId}
use Rattle.tags.specs.declared.tag.Class.TheVariants.{Context}
use Rattle.tags.specs.Canonical.{tagged}
use Rattle.tags.specs.Number.{object_octets, unsigned_octets}
use Rattle.tags.specs.Tag.{initial_octets}

-- an object identifier under a context tag (20.2.14, 20.2.15)
abbrev pub object_field : ℕ → ObjectId → List ℕ
object_field number object = tagged Context number (object_octets object.object_type object.instance)

-- a number under a context tag (20.2.4, 20.2.15)
abbrev pub number_field : ℕ → ℕ → List ℕ
number_field number n = tagged Context number (unsigned_octets n)

-- an optional number under a context tag (20.2.15)
abbrev pub option_field : ℕ → Option ℕ → List ℕ
option_field number None = []
option_field number (Some n) = number_field number n

-- an opening tag (20.2.1.3.2)
abbrev pub opening_octets : ℕ → List ℕ
opening_octets number = initial_octets Context number 6

-- a closing tag (20.2.1.3.2)
abbrev pub closing_octets : ℕ → List ℕ
closing_octets number = initial_octets Context number 7
