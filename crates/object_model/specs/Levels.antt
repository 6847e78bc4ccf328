-- Priority levels (19.2).
use Rattle.std.specs.Prelude.{ℕ, ◌&&◌, nat_lt, if◌then◌else◌, List, Option}
use Rattle.priority.specs.Slots.{put_slot}
use Rattle.primitives.specs.tags.declared.value.Value.{Value}

-- the slots of a value object, that of level 1 first (19.2)
abbrev pub SlotList : Type 0 → Type 0
SlotList A = List (Option (Value A))

-- the slots after a command; a level other than 1 to 16 has no slot (19.2)
abbrev pub put_level : {A : Type 0} → List (Option (Value A)) → ℕ → Option (Value A) → List (Option (Value A))
put_level slots level v = if nat_lt 0 level && nat_lt level 17 then put_slot slots level v else slots
