-- Items by their numbers, of which those that are too old to be heard may be forgotten.
use Rattle.std.specs.Prelude.{◌≡◌, ◌⊎◌, ℕ, false, true, List, [], ◌∷◌, ◌++◌, Some, min, replicate, slice_get}
use Rattle.std.specs.Prelude.{slice_set, take}
use Rattle.npdu.specs.declared.mac.Mac.TheVariants.{One}
use Rattle.traffic.specs.Seeking.{is_young}
use Rattle.traffic.specs.declared.item.Item.{Item}

-- items: all that were put out, numbered from 0 on. first: the number of the first that is kept, behind those that may
-- be forgotten
pub record RecentState (A : Type 0) : Type 0 where
  pub first : ℕ
  pub items : List (Item A)

-- what stands in the place of an item that is forgotten: it goes to nobody, and is as old as can be
abbrev pub blank : {A : Type 0} → Item A
blank = record { net = 0; from = One 0; to = One 0; octets = []; stamp = 0; put_out = 0; is_delivered = true }

-- so many that are forgotten, and those that are kept
abbrev pub behind_blanks : {A : Type 0} → (first : ℕ) → List (Item A) → List (Item A)
behind_blanks first kept = replicate first blank ++ kept

-- one more was put out
abbrev pub with_item : {A : Type 0} → Item A → RecentState A → RecentState A
with_item i s = record { first = s.first; items = s.items ++ i ∷ [] }

-- those before so many are left
abbrev pub cut_items : {A : Type 0} → (count : ℕ) → RecentState A → RecentState A
cut_items count s = record { first = min s.first count; items = take count s.items }

-- the item of this number was delivered, and nothing else has changed
pub record IsMarkedIn {A : Type 0} (number : ℕ) (old new : RecentState A) : Type 0 where
  pub item : Item A
  pub there : slice_get old.items number ≡ Some item
  pub is : new ≡ record {
    first = old.first;
    items = slice_set old.items number (record item { is_delivered = true });
  }

-- an item is forgotten: a blank stands in its place, and both are too old to be heard
pub record IsForgotten {A : Type 0} (now : ℕ) (all kept : Item A) : Type 0 where
  pub old : is_young now all ≡ false
  pub is : kept ≡ blank
  pub blank_old : is_young {A = A} now blank ≡ false

-- each of these items is kept in its place, or forgotten
abbrev pub KeepsRecent : {A : Type 0} → (now : ℕ) → (all kept : List (Item A)) → Type 0
KeepsRecent now [] [] = Unit {0}
KeepsRecent now (i ∷ is) (j ∷ js) = ((j ≡ i) ⊎ IsForgotten now i j) × KeepsRecent now is js
KeepsRecent now is js = ⊥
