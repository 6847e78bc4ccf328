-- Which items may be heard, and which wait to be delivered.
use Rattle.std.specs.Prelude.{◌≡◌, ◌≤◌, ◌<◌, ℕ, Bool, true, false, List, Some, slice_get}
use Rattle.profile.specs.Ages.{is_heard_in_time}
use Rattle.traffic.specs.declared.item.Item.{Item}

-- an item may be heard at a moment: it isn't too old (the profile's LIFE_MS)
abbrev pub is_young : {A : Type 0} → (now : ℕ) → Item A → Bool
is_young now i = is_heard_in_time i.stamp now

-- the item of this number, from one number on and before another, wasn't delivered and may still be heard
pub record Waits {A : Type 0} (now from before : ℕ) (items : List (Item A)) (number : ℕ) : Type 0 where
  pub item : Item A
  pub there : slice_get items number ≡ Some item
  pub behind : from ≤ number
  pub ahead : number < before
  pub waits : item.is_delivered ≡ false
  pub young : is_young now item ≡ true
