-- Where a tag stands, what was said before it, and which parameter it is therefore.
use Rattle.std.specs.Prelude.{ℕ, ◌+◌, ◌/◌, ◌==◌, ◌&&◌, nat_lt, min, if◌then◌else◌, Bool, true, false, List, [], ◌∷◌}
use Rattle.std.specs.Prelude.{None, Some, length}
use Rattle.byteorder.specs.Endian.{big_number}
use Rattle.tags.specs.declared.tag.Class.{Class}
use Rattle.tags.specs.declared.tag.Class.TheVariants as class
use Rattle.tags.specs.Tag.{PlainTag, PlainContent, null, boolean, contents, opening, closing}
use Rattle.parameters.specs.Within.{opened, closed, is_same}
use Rattle.parameters.specs.declared.within.Within.TheVariants.{Nothing}
use Rattle.parameters.specs.declared.position.Position.{Position}
use Rattle.parameters.specs.declared.productions.Parameter.{Parameter}
use Rattle.parameters.specs.declared.productions.Parameter.TheVariants as parameter
use Rattle.parameters.specs.declared.productions.Row.{Row}
use Rattle.parameters.specs.declared.productions.Which.{Which}
use Rattle.parameters.specs.declared.productions.Which.TheVariants.{Context, Each, Nth}

-- one to four octets, which a number has (20.2.4)
abbrev pub has_number : List ℕ → Bool
has_number octets = nat_lt 0 (length octets) && nat_lt (length octets) 5

-- the number that they are
abbrev pub number_in : List ℕ → ℕ
number_in octets = big_number (length octets) octets

-- before the first tag
abbrev pub start : Position
start = record { within = Nothing; order = 0; object_type = None; property = None }

-- behind a tag that opens and closes nothing
abbrev pub next : Position → Position
next p = record p { order = min (p.order + 1) 255 }

-- where four octets name the object, the type in the first ten bits (20.2.14)
unfoldable pub at_object : List ℕ → Position → Position
at_object octets p =
    if length octets == 4 then record p { object_type = Some (big_number 4 octets / 4194304) } else p

-- where octets name the property
unfoldable pub at_property : List ℕ → Position → Position
at_property octets p = if has_number octets then record p { property = Some (number_in octets) } else p

-- behind these contents of a parameter
abbrev pub after : Parameter → List ℕ → Position → Position
after parameter.Object octets p = at_object octets (next p)
after parameter.Property octets p = at_property octets (next p)
after _ octets p = next p

-- behind a tag that carries this and is this parameter
abbrev pub behind_content : Parameter → (number : ℕ) → PlainContent → Position → Position
behind_content q number opening p = record p { within = opened p.within number; order = 0 }
behind_content q number closing p = record p { within = closed p.within; order = 0 }
behind_content q number (contents octets) p = after q octets p
behind_content q number null p = next p
behind_content q number (boolean b) p = next p

-- behind a tag, which is this parameter
abbrev pub behind : Parameter → PlainTag → Position → Position
behind q t p = behind_content q t.number t.content p

-- the tag of this class and number, with so many before it, is the one that is meant
abbrev pub which_of : Which → Class → (number order : ℕ) → Bool
which_of (Context n) class.Context number order = number == n
which_of Each class.Application number order = true
which_of (Nth n) class.Application number order = order == n
which_of _ _ number order = false

-- it is the tag that a row says
abbrev pub is_which : Which → Position → PlainTag → Bool
is_which w p t = which_of w t.class t.number p.order

-- a tag stands where a row says
abbrev pub is_at : Row → Position → PlainTag → Bool
is_at row p t = is_same row.within p.within && is_which row.which p t

-- the parameter that a tag is which stands here
abbrev pub parameter_of : List Row → Position → PlainTag → Parameter
parameter_of [] p t = parameter.Other
parameter_of (row ∷ rows) p t = if is_at row p t then row.parameter else parameter_of rows p t
