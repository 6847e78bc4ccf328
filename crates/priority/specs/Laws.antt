-- What holds of any slots of a commandable property (19.2).
use Rattle.std.specs.Prelude.{◌≡◌, ◌≢◌, ◌↔◌, ℕ, ◌<◌, ◌≤◌, List, Option, Some, None, length}
use Rattle.priority.specs.Slots.{no_slots, slot, put_slot, first_filled}

-- the slots of all higher priorities, which are the lower numbers, are empty
pub record NoneHigher {T : Type 0} (slots : List (Option T)) (level : ℕ) : Type 0 where
  pub empty : (higher : ℕ) → 1 ≤ higher → higher < level → slot slots higher ≡ None

-- a value is in force: a slot holds it, and those of all higher priorities are empty
pub record IsInForce {T : Type 0} (slots : List (Option T)) (value : T) : Type 0 where
  pub level : ℕ
  pub counted : 1 ≤ level
  pub held : slot slots level ≡ Some value
  pub higher : NoneHigher slots level

-- every slot is empty
pub record NoneFilled {T : Type 0} (slots : List (Option T)) : Type 0 where
  pub empty : (level : ℕ) → slot slots level ≡ None

-- what is put into a slot stands there
abbrev pub PutIsHeld : Type 0 → Type 0
PutIsHeld T = (slots : List (Option T)) (level : ℕ) (value : Option T) → 1 ≤ level → level ≤ length slots →
    slot (put_slot slots level value) level ≡ value

-- what stands in every other slot stays
abbrev pub PutLeavesOthers : Type 0 → Type 0
PutLeavesOthers T = (slots : List (Option T)) (level other : ℕ) (value : Option T) → 1 ≤ level → 1 ≤ other →
    other ≢ level → slot (put_slot slots level value) other ≡ slot slots other

-- there are as many slots as before
abbrev pub PutKeepsLength : Type 0 → Type 0
PutKeepsLength T = (slots : List (Option T)) (level : ℕ) (value : Option T) →
    length (put_slot slots level value) ≡ length slots

-- the first filled slot is the one that is in force
abbrev pub FirstIsInForce : Type 0 → Type 0
FirstIsInForce T = (slots : List (Option T)) (value : T) → (first_filled slots ≡ Some value) ↔ IsInForce slots value

-- there is no first filled slot exactly where every slot is empty
abbrev pub NoFirstIsNoneFilled : Type 0 → Type 0
NoFirstIsNoneFilled T = (slots : List (Option T)) → (first_filled slots ≡ None) ↔ NoneFilled slots

-- a value put into a slot is in force where the slots of all higher priorities are empty
abbrev pub PutIsInForce : Type 0 → Type 0
PutIsInForce T = (slots : List (Option T)) (level : ℕ) (value : T) → 1 ≤ level → level ≤ length slots →
    NoneHigher slots level → first_filled (put_slot slots level (Some value)) ≡ Some value

-- sixteen empty slots are sixteen, and each is empty
abbrev pub NewAreEmpty : Type 0 → Type 0
NewAreEmpty T = (length (no_slots {T = T}) ≡ 16) × NoneFilled (no_slots {T = T})

-- as many slots that hold the same at each level are the same
abbrev pub SameAtEachLevel : Type 0 → Type 0
SameAtEachLevel T = (slots others : List (Option T)) → length slots ≡ length others →
    ((level : ℕ) → 1 ≤ level → level ≤ length slots → slot slots level ≡ slot others level) → slots ≡ others
