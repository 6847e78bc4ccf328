-- The slots of a commandable property (19.2), as a list with that of level 1 first.
use Rattle.std.specs.Prelude.{ℕ, ◌-◌, List, [], ◌∷◌, Option, Some, None, replicate, slice_index_or, slice_set}

-- sixteen empty slots
abbrev pub no_slots : {T : Type 0} → List (Option T)
no_slots = replicate 16 None

-- what stands in the slot of a level, counted from 1; nothing past the last
abbrev pub slot : {T : Type 0} → List (Option T) → ℕ → Option T
slot slots level = slice_index_or slots (level - 1) None

-- the slots after a value, or none, is put into that of a level
abbrev pub put_slot : {T : Type 0} → List (Option T) → ℕ → Option T → List (Option T)
put_slot slots level value = slice_set slots (level - 1) value

-- the value of the highest priority: that of the filled slot of the least number (19.2)
abbrev pub first_filled : {T : Type 0} → List (Option T) → Option T
first_filled [] = None
first_filled (Some value ∷ slots) = Some value
first_filled (None ∷ slots) = first_filled slots
