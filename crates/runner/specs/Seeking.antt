-- Which item a datagram is that came.
use Rattle.std.specs.Prelude.{◌≡◌, ◌⊎◌, ℕ, Bool, true, false, List, [], ◌∷◌, ◌++◌, length}
use Rattle.std.specs.List.{AllByRecursion}
use Rattle.profile.specs.Ages.{is_heard_in_time}
use Rattle.traffic.specs.Seeking.{is_young}
use Rattle.traffic.specs.declared.item.Item.{Item}
use Rattle.wire.specs.Datagrams.{Datagram}

-- an item has these ends and octets, and may still be heard
pub record IsMatch {A : Type 0} (now : ℕ) (d : Datagram) (i : Item A) : Type 0 where
  pub from : i.from ≡ d.from
  pub to : i.to ≡ d.to
  pub octets : i.octets ≡ d.octets
  pub young : is_young now i ≡ true

-- an item was put out at most LIFE_MS ago: what was put out earlier was said earlier, and is heard no more
abbrev pub is_recent : {A : Type 0} → (now : ℕ) → Item A → Bool
is_recent now i = is_heard_in_time i.put_out now

-- a recent item is another than the datagram
pub record IsOther {A : Type 0} (now : ℕ) (d : Datagram) (i : Item A) : Type 0 where
  pub recent : is_recent now i ≡ true
  pub other : IsMatch now d i → ⊥

abbrev pub AreOthers : {A : Type 0} → (now : ℕ) → Datagram → List (Item A) → Type 0
AreOthers now d items = AllByRecursion (IsOther now d) items

-- a datagram is the item of this number: the last of the recent ones that it can be
pub record IsLastMatch {A : Type 0} (now : ℕ) (d : Datagram) (items : List (Item A)) (number : ℕ) : Type 0 where
  pub before : List (Item A)
  pub item : Item A
  pub later : List (Item A)
  pub parts : items ≡ before ++ item ∷ later
  pub count : length before ≡ number
  pub recent : is_recent now item ≡ true
  pub same : IsMatch now d item
  pub others : AreOthers now d later

-- none of these items is the datagram
abbrev pub HasNoMatch : {A : Type 0} → (now : ℕ) → Datagram → List (Item A) → Type 0
HasNoMatch now d items = AllByRecursion (λ i. IsMatch now d i → ⊥) items

-- items end with one that isn't recent
pub record EndsLate {A : Type 0} (now : ℕ) (items : List (Item A)) : Type 0 where
  pub before : List (Item A)
  pub item : Item A
  pub parts : items ≡ before ++ item ∷ []
  pub late : is_recent now item ≡ false

-- there is none of these, or they end with one that isn't recent
abbrev pub AreLate : {A : Type 0} → (now : ℕ) → List (Item A) → Type 0
AreLate now items = (items ≡ []) ⊎ EndsLate now items

-- nobody of the site sent a datagram: no item is it, of those behind one that isn't recent (they stand in the order in
-- which they were put out)
pub record IsStray {A : Type 0} (now : ℕ) (d : Datagram) (items : List (Item A)) : Type 0 where
  pub older : List (Item A)
  pub recent : List (Item A)
  pub parts : items ≡ older ++ recent
  pub none : HasNoMatch now d recent
  pub rest : AreLate now older
